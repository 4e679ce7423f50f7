-- The reader and the grammar agree. What the reader gives, the grammar derives from the bytes used (sound); what the grammar derives from the
-- front of the bytes, the reader gives (complete); so one string of bytes has one spelling at its front.
use mathlib.Core.Path.{◌≡◌, refl, sym, ◌∙◌, ap, subst}
use mathlib.Core.Logic.{◌↔◌}
use mathlib.Core.Bool.{Bool, true, false, cond}
use mathlib.Core.List.{List, [], ◌∷◌, ◌++◌, append_assoc}
use Prim.Native.Nat.{ℕ, zero, suc, ◌+◌, ◌-◌, ◌*◌, ◌≤◌, ◌<◌}
use native.Mathlib.Omega.{arith}
use lib.Dec.{eqb, leb}
use lib.ListN.{length, get_or, take, drop, length-append, length-drop, take-append-drop}
use lib.Seq.{drop-cons, drop_at, take_at, drop-drop, get_or-drop, length-take-le}
use borrow.Author.Tests.{eqb-true, eqb-false, ne_eqb, leb-true}
use Rattle.pkg_length.specs.Refusal.{Answer, gives, refuses, and_then}
use Rattle.pkg_length.proofs.Answers.{never, unlike, refuses-not, gives_same, then-gives}
use Rattle.name_object.specs.Component.{Component, root, up, seg, lead_ok, char_ok, is_seg_ok, fine}
use Rattle.name_object.specs.Memory.{Named, name_of, path_in_answer, path_ok, told, handed}
use Rattle.name_object.specs.Name.{byte_at, segment, segments, run_at, name_path_answer, carets, prefix_of, spelled, judged, name_string_answer}
use Rattle.name_object.specs.Grammar.{Segment, four, Segments, none, more, NamePath, null, dual, multi, one, Prefixed, plain, above, NameString, rooted, prefixed}
use Rattle.name_object.specs.declared.Run.{Run}
use Rattle.name_object.proofs.Reading.{byte-here, byte-was, seg-was, seg-there}
use Rattle.name_object.proofs.Paths.{path-back, fine-later, told-is-path}
use Rattle.name_object.proofs.Answers.{run, judged-whole}

-- ## Bytes that stand at an offset

-- from p to q stand bytes of the kind G
pub record Stands (G : List ℕ → Type 0) (xs : List ℕ) (p q : ℕ) : Type 0 where
  pub bytes : List ℕ
  pub rest : List ℕ
  pub here : drop p xs ≡ bytes ++ rest
  pub ends : p + length bytes ≡ q
  pub is : G bytes

drop-on : (xs : List ℕ) (p q : ℕ) (s r : List ℕ) → drop p xs ≡ s ++ r → p + length s ≡ q → drop q xs ≡ r
drop-on xs p q s r h e = rw (← e) (sym (drop-drop (length s) p xs) ∙ rw h (drop_at s r (length s) refl))

joined : {G H K : List ℕ → Type 0} (xs : List ℕ) (p q u : ℕ) → ((s t : List ℕ) → G s → H t → K (s ++ t)) →
    Stands G xs p q → Stands H xs q u → Stands K xs p u
joined xs p q u k a b =
    let e : a.rest ≡ b.bytes ++ b.rest = sym (drop-on xs p q a.bytes a.rest a.here a.ends) ∙ b.here in
    record {
      bytes = a.bytes ++ b.bytes;
      rest = b.rest;
      here = a.here ∙ rw e (sym (append_assoc a.bytes b.bytes b.rest));
      ends = omega (arith, length-append a.bytes b.bytes, a.ends, b.ends);
      is = k a.bytes b.bytes a.is b.is;
    }

step : (xs : List ℕ) (p q : ℕ) → q ≡ p + 1 → p < length xs → drop p xs ≡ get_or xs p 0 ∷ drop q xs
step xs p q e h = let s : q ≡ suc p = omega arith in rw s (drop-cons xs p 0 h)

byte-stands : (xs : List ℕ) (p b : ℕ) → byte_at xs p ≡ gives b → Stands (λ s. s ≡ b ∷ []) xs p (p + 1)
byte-stands xs p b h =
    let w = byte-was xs p b h in
    record { bytes = b ∷ []; rest = drop (p + 1) xs; here = rw (← w.1) (step xs p (p + 1) refl w.0); ends = omega arith; is = refl }

-- ## What the reader gives, the grammar derives

seg-sound : (xs : List ℕ) (p : ℕ) (c : Component) → segment xs p ≡ gives c → Stands (Segment c) xs p (p + 4)
seg-sound xs p c h =
    let w = seg-was xs p c h in
    record {
      bytes = get_or xs p 0 ∷ get_or xs (p + 1) 0 ∷ get_or xs (p + 2) 0 ∷ get_or xs (p + 3) 0 ∷ [];
      rest = drop (p + 4) xs;
      here = rw (
        step xs p (p + 1) refl (omega (arith, w.inside)),
        step xs (p + 1) (p + 2) (omega arith) (omega (arith, w.inside)),
        step xs (p + 2) (p + 3) (omega arith) (omega (arith, w.inside)),
        step xs (p + 3) (p + 4) (omega arith) (omega (arith, w.inside)),
      );
      ends = omega arith;
      is = rw w.is (four w.first w.second w.third w.fourth);
    }

segs-sound : (n p : ℕ) (xs : List ℕ) (cs : List Component) → segments xs p n ≡ gives cs → Stands (Segments n cs) xs p (p + 4 * n)
unfolding segments
segs-sound zero p xs cs h = record { bytes = []; rest = drop p xs; here = refl; ends = omega arith; is = rw (← gives_same h) none }
segs-sound (suc n) p xs cs h =
    let t = then-gives (segment xs p) _ h in
    let u = then-gives (segments xs (p + 4) n) _ t.2 in
    let e : p + 4 + 4 * n ≡ p + 4 * suc n = omega arith in
    rw (← gives_same u.2, ← e)
    (joined xs p (p + 4) (p + 4 + 4 * n) (λ s t g k. more g k) (seg-sound xs p t.0 t.1) (segs-sound n (p + 4) xs u.0 u.1))

no-segs : {n : ℕ} {cs : List Component} {s : List ℕ} → Segments n cs s → n ≡ 0 → (cs ≡ []) × (s ≡ [])
no-segs none e = (refl, refl)
no-segs (more g k) e = absurd (omega arith)

-- n segments from f on, behind the byte at p
run_sound : (xs : List ℕ) (p f n : ℕ) (cs : List Component) → run_at xs p ≡ gives (run f n) → Stands (Segments n cs) xs f (f + 4 * n) →
    Stands (NamePath cs) xs p (f + 4 * n)
unfolding run_at
run_sound xs p f n cs h sg =
    let b = then-gives (byte_at xs p) _ h in
    go b.0 (byte-stands xs p b.0 b.1) (eqb b.0 0x00) (eqb b.0 0x2E) (eqb b.0 0x2F) refl refl refl b.2
  where
    from : {g m : ℕ} → ◌≡◌ {A = Answer Run} (gives (run g m)) (gives (run f n)) → g ≡ f
    from e = ap (λ (r : Run). r.from) (gives_same e)

    count : {g m : ℕ} → ◌≡◌ {A = Answer Run} (gives (run g m)) (gives (run f n)) → m ≡ n
    count e = ap (λ (r : Run). r.count) (gives_same e)

    go : (b : ℕ) → Stands (λ s. s ≡ b ∷ []) xs p (p + 1) → (s t u : Bool) → eqb b 0x00 ≡ s → eqb b 0x2E ≡ t → eqb b 0x2F ≡ u →
        cond s (gives (run (p + 1) 0)) (cond t (gives (run (p + 1) 2))
        (cond u (and_then (byte_at xs (p + 1)) (λ m. gives (run (p + 2) m))) (gives (run p 1)))) ≡ gives (run f n) →
        Stands (NamePath cs) xs p (f + 4 * n)
    go b st true t u e₁ e₂ e₃ h =
        joined {G = λ s. s ≡ b ∷ []} {H = Segments n cs} {K = NamePath cs} xs p f (f + 4 * n)
        (λ s t e g. let z = no-segs g (sym (count h)) in rw (e, eqb-true b 0x00 e₁, z.0, z.1) null)
        (rw (from h) at st) sg
    go b st false true u e₁ e₂ e₃ h =
        joined {G = λ s. s ≡ b ∷ []} {H = Segments n cs} {K = NamePath cs} xs p f (f + 4 * n) (λ s t e g. rw (e, eqb-true b 0x2E e₂) (dual (rw (← count h) at g))) (rw (from h) at st) sg
    go b st false false true e₁ e₂ e₃ h =
        let m = then-gives (byte_at xs (p + 1)) _ h in
        let two : p + 1 + 1 ≡ f = omega (arith, from m.2) in
        joined {G = λ s. s ≡ b ∷ []} {H = λ t. NamePath cs (0x2F ∷ t)} {K = NamePath cs} xs p (p + 1) (f + 4 * n) (λ s t e k. rw (e, eqb-true b 0x2F e₃) k) st
        (joined {G = λ s. s ≡ m.0 ∷ []} {H = Segments n cs} {K = λ t. NamePath cs (0x2F ∷ t)} xs (p + 1) f (f + 4 * n) (λ s t e g. rw (e, count m.2) (multi g))
        (rw two at (byte-stands xs (p + 1) m.0 m.1)) sg)
    go b st false false false e₁ e₂ e₃ h =
        let z : p ≡ f = from h in
        rw z (record { bytes = sg.bytes; rest = sg.rest; here = sg.here; ends = sg.ends; is = one (rw (← count h) at sg.is) })

path-sound : (xs : List ℕ) (p : ℕ) (v : Named ℕ) → name_path_answer xs p ≡ gives v → Stands (NamePath v.path) xs p v.value
unfolding name_path_answer
path-sound xs p v h =
    let t = then-gives (run_at xs p) _ h in
    let u = then-gives (segments xs t.0.from t.0.count) _ t.2 in
    subst (λ (w : Named ℕ). Stands (NamePath w.path) xs p w.value) (gives_same u.2)
    (run_sound xs p t.0.from t.0.count u.0 t.1 (segs-sound t.0.count t.0.from xs u.0 u.1))

-- the `^`s before a NamePath
carets-sound : (xs : List ℕ) (cs : List Component) (q : ℕ) → Stands (NamePath cs) xs (length (carets xs)) q → Stands (Prefixed (carets xs ++ cs)) xs 0 q
unfolding carets
carets-sound [] cs q st = record { bytes = st.bytes; rest = st.rest; here = st.here; ends = st.ends; is = plain st.is }
carets-sound (x ∷ xs) cs q st = go (carets-sound xs cs) (eqb x 0x5E) refl st
  where
    go : ((k : ℕ) → Stands (NamePath cs) xs (length (carets xs)) k → Stands (Prefixed (carets xs ++ cs)) xs 0 k) → (t : Bool) → eqb x 0x5E ≡ t →
        Stands (NamePath cs) (x ∷ xs) (length (cond t (up ∷ carets xs) [])) q → Stands (Prefixed (cond t (up ∷ carets xs) [] ++ cs)) (x ∷ xs) 0 q
    go ih true e st =
        let r = ih (q - 1) (record { bytes = st.bytes; rest = st.rest; here = st.here; ends = omega (arith, st.ends); is = st.is }) in
        record {
          bytes = 0x5E ∷ r.bytes;
          rest = r.rest;
          here = rw (eqb-true x 0x5E e) (ap (λ (l : List ℕ). 0x5E ∷ l) r.here);
          ends = omega (arith, r.ends, st.ends);
          is = above r.is;
        }
    go ih false e st = record { bytes = st.bytes; rest = st.rest; here = st.here; ends = st.ends; is = plain st.is }

behind : {G K : List ℕ → Type 0} (b y : ℕ) (ys : List ℕ) (q : ℕ) → y ≡ b → ((s : List ℕ) → G s → K (b ∷ s)) → Stands G (y ∷ ys) 1 q → Stands K (y ∷ ys) 0 q
behind b y ys q e k st =
    record { bytes = b ∷ st.bytes; rest = st.rest; here = λ i. e i ∷ st.here i; ends = omega (arith, st.ends); is = k st.bytes st.is }

-- a NameString that is given stands at the front
spelled-stands : (xs : List ℕ) (v : Named ℕ) → spelled xs ≡ gives v → Stands (NameString v.path) xs 0 v.value
unfolding spelled prefix_of
spelled-stands xs v h = go xs (eqb (get_or xs 0 0) 0x5C) refl h
  where
    named : {ys : List ℕ} {w : Named ℕ} → w ≡ v → Stands (NameString w.path) ys 0 w.value → Stands (NameString v.path) ys 0 v.value
    named {ys} e st = subst (λ (w : Named ℕ). Stands (NameString w.path) ys 0 w.value) e st

    go : (ys : List ℕ) (t : Bool) → eqb (get_or ys 0 0) 0x5C ≡ t →
        and_then (name_path_answer ys (length (cond t (root ∷ []) (carets ys)))) (λ n. gives (record { path = cond t (root ∷ []) (carets ys) ++ n.path; value = n.value })) ≡ gives v →
        Stands (NameString v.path) ys 0 v.value
    go [] true e h = never e
    go (y ∷ ys) true e h =
        let t = then-gives (name_path_answer (y ∷ ys) 1) _ h in
        let st = path-sound (y ∷ ys) 1 t.0 t.1 in
        named (gives_same t.2) (behind 0x5C y ys t.0.value (eqb-true y 0x5C e) (λ s g. rooted g) st)
    go ys false e h =
        let t = then-gives (name_path_answer ys (length (carets ys))) _ h in
        let st = carets-sound ys t.0.path t.0.value (path-sound ys (length (carets ys)) t.0 t.1) in
        named (gives_same t.2) (record { bytes = st.bytes; rest = st.rest; here = st.here; ends = st.ends; is = prefixed st.is })

-- ## What the grammar derives, the reader gives

byte-there : (xs : List ℕ) (p b : ℕ) (r : List ℕ) → drop p xs ≡ b ∷ r → (p < length xs) × (byte_at xs p ≡ gives b)
byte-there xs p b r h =
    let z : p + 0 ≡ p = omega arith in
    let l : p < length xs = omega (arith, length-drop p xs, ap length h) in
    let e : get_or xs p 0 ≡ b = sym (rw z at (get_or-drop p xs 0 0)) ∙ ap (λ (s : List ℕ). get_or s 0 0) h in
    (l, byte-here xs p l ∙ ap gives e)

at_there : (xs : List ℕ) (p k b : ℕ) (s : List ℕ) → drop p xs ≡ s → get_or s k 0 ≡ b → get_or xs (p + k) 0 ≡ b
at_there xs p k b s h e = sym (get_or-drop p xs k 0) ∙ ap (λ (l : List ℕ). get_or l k 0) h ∙ e

seg-there-at : (xs : List ℕ) (p a b c d : ℕ) (r : List ℕ) → drop p xs ≡ a ∷ b ∷ c ∷ d ∷ r →
    lead_ok a ≡ true → char_ok b ≡ true → char_ok c ≡ true → char_ok d ≡ true → segment xs p ≡ gives (seg a b c d)
seg-there-at xs p a b c d r h la cb cc' cd =
    let z : p + 0 ≡ p = omega arith in
    let e₀ : get_or xs p 0 ≡ a = rw z at (at_there xs p 0 a _ h refl) in
    let e₁ : get_or xs (p + 1) 0 ≡ b = at_there xs p 1 b _ h refl in
    let e₂ : get_or xs (p + 2) 0 ≡ c = at_there xs p 2 c _ h refl in
    let e₃ : get_or xs (p + 3) 0 ≡ d = at_there xs p 3 d _ h refl in
    seg-there xs p (seg a b c d)
    (record {
      inside = omega (arith, length-drop p xs, ap length h);
      first = rw e₀ la;
      second = rw e₁ cb;
      third = rw e₂ cc';
      fourth = rw e₃ cd;
      is = rw (e₀, e₁, e₂, e₃);
    })

segs-complete : {n : ℕ} {cs : List Component} {s : List ℕ} → Segments n cs s → (xs : List ℕ) (p : ℕ) (r : List ℕ) → drop p xs ≡ s ++ r →
    (segments xs p n ≡ gives cs) × (length s ≡ 4 * n)
unfolding segments
segs-complete none xs p r h = (refl, omega arith)
segs-complete (more {t = t} (four {a = a} {b = b} {c = c} {d = d} la cb cc' cd) k) xs p r h =
    let g = seg-there-at xs p a b c d (t ++ r) h la cb cc' cd in
    let i = segs-complete k xs (p + 4) r (drop-on xs p (p + 4) (a ∷ b ∷ c ∷ d ∷ []) (t ++ r) h (omega arith)) in
    (rw (g, i.0), omega (arith, i.1))

-- a lead is none of the bytes that begin the other NamePaths, nor a prefix
lead-not : (a k : ℕ) → lead_ok a ≡ true → lead_ok k ≡ false → eqb a k ≡ false
lead-not a k h n = ne_eqb a k (unlike lead_ok a k h n)

no_lead : (lead_ok 0x00 ≡ false) × (lead_ok 0x2E ≡ false) × (lead_ok 0x2F ≡ false) × (lead_ok 0x5C ≡ false) × (lead_ok 0x5E ≡ false)
unfolding lead_ok
no_lead = (refl, refl, refl, refl, refl)

-- the answer of a NamePath, from where its segments stand
path-at : (xs : List ℕ) (p f n q : ℕ) (cs : List Component) → run_at xs p ≡ gives (run f n) → segments xs f n ≡ gives cs → f + 4 * n ≡ q →
    name_path_answer xs p ≡ gives (record { path = cs; value = q })
unfolding name_path_answer
path-at xs p f n q cs e g h = rw (e, g, h)

run-one : (xs : List ℕ) (p a : ℕ) → byte_at xs p ≡ gives a → lead_ok a ≡ true → run_at xs p ≡ gives (run p 1)
unfolding run_at
run-one xs p a e l = rw (e, lead-not a 0x00 l no_lead.0, lead-not a 0x2E l no_lead.1, lead-not a 0x2F l no_lead.2)

run-null : (xs : List ℕ) (p : ℕ) → byte_at xs p ≡ gives 0x00 → run_at xs p ≡ gives (run (p + 1) 0)
unfolding run_at
run-null xs p e = rw e

run-dual : (xs : List ℕ) (p : ℕ) → byte_at xs p ≡ gives 0x2E → run_at xs p ≡ gives (run (p + 1) 2)
unfolding run_at
run-dual xs p e = rw e

run-multi : (xs : List ℕ) (p n : ℕ) → byte_at xs p ≡ gives 0x2F → byte_at xs (p + 1) ≡ gives n → run_at xs p ≡ gives (run (p + 2) n)
unfolding run_at
run-multi xs p n e f = rw (e, f)

one-lead : {n : ℕ} {cs : List Component} {s : List ℕ} → Segments n cs s → n ≡ 1 → (a : ℕ) × (t : List ℕ) × (s ≡ a ∷ t) × (lead_ok a ≡ true)
one-lead none e = absurd (omega arith)
one-lead (more {t = t} (four {a = a} {b = b} {c = c} {d = d} la cb cc' cd) k) e = (a, b ∷ c ∷ d ∷ t, refl, la)

path-complete : {cs : List Component} {s : List ℕ} → NamePath cs s → (xs : List ℕ) (p : ℕ) (r : List ℕ) → drop p xs ≡ s ++ r →
    name_path_answer xs p ≡ gives (record { path = cs; value = p + length s })
path-complete null xs p r h =
    let g = segs-complete none xs (p + 1) r (drop-on xs p (p + 1) (0x00 ∷ []) r h (omega arith)) in
    path-at xs p (p + 1) 0 (p + 1) [] (run-null xs p (byte-there xs p 0x00 r h).1) g.0 (omega arith)
path-complete (dual {cs = cs} {s = s} k) xs p r h =
    let g = segs-complete k xs (p + 1) r (drop-on xs p (p + 1) (0x2E ∷ []) (s ++ r) h (omega arith)) in
    path-at xs p (p + 1) 2 (p + length (0x2E ∷ s)) cs (run-dual xs p (byte-there xs p 0x2E (s ++ r) h).1) g.0 (omega (arith, g.1))
path-complete (multi {n = n} {cs = cs} {s = s} k) xs p r h =
    let next : drop (p + 1) xs ≡ n ∷ (s ++ r) = drop-on xs p (p + 1) (0x2F ∷ []) (n ∷ (s ++ r)) h (omega arith) in
    let g = segs-complete k xs (p + 2) r (drop-on xs p (p + 2) (0x2F ∷ n ∷ []) (s ++ r) h (omega arith)) in
    path-at xs p (p + 2) n (p + length (0x2F ∷ n ∷ s)) cs
    (run-multi xs p n (byte-there xs p 0x2F (n ∷ (s ++ r)) h).1 (byte-there xs (p + 1) n (s ++ r) next).1) g.0 (omega (arith, g.1))
path-complete (one {cs = cs} {s = s} k) xs p r h =
    let g = segs-complete k xs p r h in
    let b = one-lead k refl in
    path-at xs p p 1 (p + length s) cs
    (run-one xs p b.0 (byte-there xs p b.0 (b.1 ++ r) (h ∙ ap (λ (l : List ℕ). l ++ r) b.2)).1 b.3) g.0 (omega (arith, g.1))

-- a NamePath begins with no prefix
first_byte : {cs : List Component} {s : List ℕ} → NamePath cs s → (b : ℕ) × (t : List ℕ) × (s ≡ b ∷ t) × (eqb b 0x5C ≡ false) × (eqb b 0x5E ≡ false)
first_byte null = (0x00, [], refl, refl, refl)
first_byte (dual {s = s} k) = (0x2E, s, refl, refl, refl)
first_byte (multi {n = n} {s = s} k) = (0x2F, n ∷ s, refl, refl, refl)
first_byte (one k) = let l = one-lead k refl in (l.0, l.1, l.2, lead-not l.0 0x5C l.3 no_lead.3, lead-not l.0 0x5E l.3 no_lead.4)

-- the `^`s at the front, and the NamePath behind them
record Behind (cs : List Component) (s r : List ℕ) : Type 0 where
  path : List Component
  bytes : List ℕ
  is : NamePath path bytes
  whole : carets (s ++ r) ++ path ≡ cs
  here : drop (length (carets (s ++ r))) (s ++ r) ≡ bytes ++ r
  long : length (carets (s ++ r)) + length bytes ≡ length s
  rootless : eqb (get_or (s ++ r) 0 0) 0x5C ≡ false

carets-none : (b : ℕ) (t : List ℕ) → eqb b 0x5E ≡ false → carets (b ∷ t) ≡ []
unfolding carets
carets-none b t e = rw e

carets-cons : (t : List ℕ) → carets (0x5E ∷ t) ≡ up ∷ carets t
unfolding carets
carets-cons t = refl

prefixed-behind : {cs : List Component} {s : List ℕ} → Prefixed cs s → (r : List ℕ) → Behind cs s r
prefixed-behind (plain {cs = cs} {s = s} k) r =
    let f = first_byte k in
    let e : s ++ r ≡ f.0 ∷ (f.1 ++ r) = ap (λ (l : List ℕ). l ++ r) f.2 in
    let n : carets (s ++ r) ≡ [] = ap carets e ∙ carets-none f.0 (f.1 ++ r) f.4 in
    record {
      path = cs;
      bytes = s;
      is = k;
      whole = rw n;
      here = rw n;
      long = rw n (omega arith);
      rootless = rw e f.3;
    }
prefixed-behind (above {cs = cs} {s = s} k) r =
    let b = prefixed-behind k r in
    let n = carets-cons (s ++ r) in
    record {
      path = b.path;
      bytes = b.bytes;
      is = b.is;
      whole = rw n (ap (λ (l : List Component). up ∷ l) b.whole);
      here = rw n b.here;
      long = rw n (omega (arith, b.long));
      rootless = refl;
    }

named-as : (cs ds : List Component) (m n : ℕ) → cs ≡ ds → m ≡ n → ◌≡◌ {A = Answer (Named ℕ)} (gives (record { path = cs; value = m })) (gives (record { path = ds; value = n }))
named-as cs ds m n e f = λ i. gives (record { path = e i; value = f i })

spelled-complete : {cs : List Component} {s : List ℕ} → NameString cs s → (r : List ℕ) → spelled (s ++ r) ≡ gives (record { path = cs; value = length s })
unfolding spelled prefix_of
spelled-complete (rooted {cs = cs} {s = s} k) r =
    rw (path-complete k (0x5C ∷ (s ++ r)) 1 r refl) (named-as (root ∷ cs) (root ∷ cs) (1 + length s) (suc (length s)) refl (omega arith))
spelled-complete (prefixed {cs = cs} {s = s} k) r =
    let b = prefixed-behind k r in
    rw (b.rootless, path-complete b.is (s ++ r) (length (carets (s ++ r))) r b.here)
    (named-as (carets (s ++ r) ++ b.path) cs (length (carets (s ++ r)) + length b.bytes) (length s) b.whole b.long)

-- ## The theorems

-- what the reader gives, the grammar derives from the bytes used
pub name-sound : (xs : List ℕ) (v : Named ℕ) → spelled xs ≡ gives v → (v.value ≤ length xs) × NameString v.path (take v.value xs)
name-sound xs v h =
    let st = spelled-stands xs v h in
    let e : length st.bytes ≡ v.value = omega (arith, st.ends) in (
      omega (arith, ap length st.here, length-append st.bytes st.rest),
      rw (st.here, take_at st.bytes st.rest v.value e) st.is,
    )

-- what the grammar derives from the front of the bytes, the reader gives
pub name-complete : (xs : List ℕ) (u : ℕ) (cs : List Component) → u ≤ length xs → NameString cs (take u xs) → spelled xs ≡ gives (record { path = cs; value = u })
name-complete xs u cs l g =
    rw (take-append-drop u xs, length-take-le u xs l) at (spelled-complete g (drop u xs))

-- bytes have one spelling at their front
pub one-spelling : (xs : List ℕ) (u w : ℕ) (cs ds : List Component) → u ≤ length xs → w ≤ length xs → NameString cs (take u xs) → NameString ds (take w xs) →
    (cs ≡ ds) × (u ≡ w)
one-spelling xs u w cs ds l m g k =
    let e : ◌≡◌ {A = Named ℕ} (record { path = cs; value = u }) (record { path = ds; value = w }) =
    gives_same (sym (name-complete xs u cs l g) ∙ name-complete xs w ds m k) in
    (ap (λ (n : Named ℕ). n.path) e, ap (λ (n : Named ℕ). n.value) e)

-- a name is given exactly when the bytes used are a spelling of its path, which has a component and keeps the limit
pub record Spells (limit : ℕ) (xs : List ℕ) (v : Named ℕ) : Type 0 where
  pub inside : v.value ≤ length xs
  pub spelling : NameString v.path (take v.value xs)
  pub some : 0 < length v.path
  pub fits : length v.path ≤ limit

judged-was : (limit : ℕ) (n v : Named ℕ) → judged limit n ≡ gives v → (n ≡ v) × (0 < length n.path) × (length n.path ≤ limit)
unfolding judged
judged-was limit n v h = go (eqb (length n.path) 0) (leb (length n.path) limit) refl refl h
  where
    go : (s t : Bool) → eqb (length n.path) 0 ≡ s → leb (length n.path) limit ≡ t → cond s (refuses 7 0) (cond t (gives n) (refuses 9 0)) ≡ gives v →
        (n ≡ v) × (0 < length n.path) × (length n.path ≤ limit)
    go true t e f h = refuses-not h
    go false false e f h = refuses-not h
    go false true e f h = (gives_same h, some (length n.path) (eqb-false _ _ e), leb-true _ _ f)
      where
        some : (k : ℕ) → (k ≡ 0 → ⊥) → 0 < k
        some zero z = absurd (z refl)
        some (suc k) z = omega arith

pub name-exactly : (limit : ℕ) (xs : List ℕ) (v : Named ℕ) → (name_string_answer limit xs ≡ gives v) ↔ Spells limit xs v
unfolding name_string_answer
name-exactly limit xs v = (to, from)
  where
    to : and_then (spelled xs) (judged limit) ≡ gives v → Spells limit xs v
    to h =
        let t = then-gives (spelled xs) (judged limit) h in
        let j = judged-was limit t.0 v t.2 in
        let s = name-sound xs t.0 t.1 in
        subst (λ (n : Named ℕ). Spells limit xs n) j.0 (record { inside = s.0; spelling = s.1; some = j.1; fits = j.2 })

    from : Spells limit xs v → and_then (spelled xs) (judged limit) ≡ gives v
    from s = rw (name-complete xs v.value v.path s.inside s.spelling) (sym (judged-whole limit v (λ e. omega (arith, s.some)) s.fits))

-- what a NameString gives is a path: the layers above need no test of it
segs-fine : {n : ℕ} {cs : List Component} {s : List ℕ} → Segments n cs s → fine false cs ≡ true
unfolding fine is_seg_ok
segs-fine none = refl
segs-fine (more (four la cb cc' cd) k) = rw (la, cb, cc', cd) (segs-fine k)

path-fine : {cs : List Component} {s : List ℕ} → NamePath cs s → fine false cs ≡ true
unfolding fine
path-fine null = refl
path-fine (dual k) = segs-fine k
path-fine (multi k) = segs-fine k
path-fine (one k) = segs-fine k

prefixed-fine : {cs : List Component} {s : List ℕ} → Prefixed cs s → fine false cs ≡ true
unfolding fine
prefixed-fine (plain k) = path-fine k
prefixed-fine (above k) = prefixed-fine k

string-fine : {cs : List Component} {s : List ℕ} → NameString cs s → fine true cs ≡ true
unfolding fine
string-fine (rooted k) = path-fine k
string-fine (prefixed {cs = cs} k) = fine-later cs (prefixed-fine k)

name-fine : (limit : ℕ) (xs : List ℕ) (v : Named ℕ) → name_string_answer limit xs ≡ gives v → (fine true v.path ≡ true) × (length v.path ≤ limit)
name-fine limit xs v h = let s = (name-exactly limit xs v).0 h in (string-fine s.spelling, s.fits)

pub name-is-path : (limit : ℕ) (xs : List ℕ) (v : Named ℕ) → name_string_answer limit xs ≡ gives v → path_in_answer limit (name_of limit v.path) ≡ gives v.path
name-is-path limit xs v h = let f = name-fine limit xs v h in path-back limit v.path f.0 f.1

-- whatever the bytes, what name_string hands over passes the test of a path
pub string-is-path : (limit : ℕ) (xs : List ℕ) → path_ok limit (handed limit (λ t. t.memory) (told limit (name_string_answer limit xs))) ≡ true
string-is-path limit xs = told-is-path limit (name_string_answer limit xs) (name-fine limit xs)
