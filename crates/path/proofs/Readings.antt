-- A reader of text in memory: a law for each way that a byte is taken, and how parts and a whole text end.
use mathlib.Core.Path.{◌≡◌, refl, sym, ◌∙◌, ap, subst}
use mathlib.Core.Bool.{Bool, true, false, cond}
use mathlib.Core.List.{List, [], ◌∷◌, ◌++◌, append_assoc}
use Prim.Native.Nat.{ℕ, suc, ◌+◌, ◌-◌, ◌≤◌, ◌<◌}
use native.Mathlib.Omega.{arith}
use lib.Dec.{eqb}
use lib.ListN.{length, get_or, set, drop, length-append, drop_of_length-le}
use lib.Seq.{drop-cons}
use borrow.Author.Tests.{eq-eqb, ne_eqb, lt-ltb, le-ltb}
use Rattle.pkg_length.specs.Refusal.{Answer, gives, refuses, and_then}
use Rattle.name_object.specs.Component.{Component, root, up, lead_ok, char_ok, spell_one}
use Rattle.path.specs.Normal.{limited}
use Rattle.path.specs.Text.{before, inside, padded, consed, reading, after_root, text_path, from_text}
use Rattle.path.specs.Inside.{shown, placed, placed_char, root_of, after, Between, Within, OnWay, Ended}
use Rattle.name_object.specs.declared.AmlName.{AmlName}
use Rattle.path.specs.declared.text.Reading.{Reading}
use Rattle.pkg_length.specs.declared.AmlError.{AmlError}
use Rattle.std.specs.Prelude.{Ok, Err}
use Rattle.path.proofs.Shown.{shown-push, shown-char, length-one}

-- ## How the definition reads a byte

module _ (i b : ℕ) (s : List ℕ) where
  pub read_up : b ≡ 0x5E → reading before i (b ∷ s) ≡ consed up (reading before (suc i) s)
  unfolding reading
  read_up e = rw (eq-eqb b 0x5E e)

  pub read-lead : (b ≡ 0x5E → ⊥) → lead_ok b ≡ true → reading before i (b ∷ s) ≡ reading (inside i (b ∷ [])) (suc i) s
  unfolding reading
  read-lead n h = rw (ne_eqb b 0x5E n, h)

  read-wrong : (b ≡ 0x5E → ⊥) → lead_ok b ≡ false → reading before i (b ∷ s) ≡ refuses 8 i
  unfolding reading
  read-wrong n h = rw (ne_eqb b 0x5E n, h)

  module _ (q : ℕ) (bs : List ℕ) where
    pub read-dot : b ≡ 0x2E → reading (inside q bs) i (b ∷ s) ≡ consed (padded bs) (reading before (suc i) s)
    unfolding reading
    read-dot e = rw (eq-eqb b 0x2E e)

    pub read-char : (b ≡ 0x2E → ⊥) → length bs < 4 → char_ok b ≡ true → reading (inside q bs) i (b ∷ s) ≡ reading (inside q (bs ++ (b ∷ []))) (suc i) s
    unfolding reading
    read-char n l h = rw (ne_eqb b 0x2E n, h, lt-ltb (length bs) 4 l)

    read_none : (b ≡ 0x2E → ⊥) → char_ok b ≡ false → reading (inside q bs) i (b ∷ s) ≡ refuses 8 q
    unfolding reading
    read_none n h = rw (ne_eqb b 0x2E n, h)

    read-fifth : (b ≡ 0x2E → ⊥) → 4 ≤ length bs → reading (inside q bs) i (b ∷ s) ≡ refuses 8 q
    unfolding reading
    read-fifth n l = rw (ne_eqb b 0x2E n, le-ltb (length bs) 4 l) (go (char_ok b))
      where
        go : (t : Bool) → ◌≡◌ {A = Answer (List Component)} (cond t (refuses 8 q) (refuses 8 q)) (refuses 8 q)
        go true = refl
        go false = refl

-- ## How the reader in memory goes on

after_one : (done : List Component) (c : Component) (r : Answer (List Component)) → after (done ++ (c ∷ [])) r ≡ after done (consed c r)
after_one done c (gives cs) = ap (λ (l : List Component). gives l) (append_assoc done (c ∷ []) cs)
after_one done c (refuses n p) = refl

-- a character more
padded-more : (bs : List ℕ) (b : ℕ) → 0 < length bs → length bs < 4 → spell_one (padded (bs ++ (b ∷ []))) ≡ set (spell_one (padded bs)) (length bs) b
unfolding padded
padded-more [] b h l = absurd (omega arith)
padded-more (w ∷ []) b h l = refl
padded-more (w ∷ x ∷ []) b h l = refl
padded-more (w ∷ x ∷ y ∷ []) b h l = refl
padded-more (w ∷ x ∷ y ∷ z ∷ bs) b h l = absurd (omega arith)

padded-length : (bs : List ℕ) → length (spell_one (padded bs)) ≡ 4
unfolding padded
padded-length bs = refl

padded-one : (b : ℕ) → spell_one (padded (b ∷ [])) ≡ b ∷ 0x5F ∷ 0x5F ∷ 0x5F ∷ []
unfolding padded
padded-one b = refl

module _ {limit : ℕ} {out : List ℕ} {n i : ℕ} {rest : List ℕ} {whole : Answer (List Component)} where
  now-between : Between limit out (record { count = n; chars = 0 }) i rest whole → OnWay limit out (record { count = n; chars = 0 }) i rest whole
  now-between b = record { between = λ z. b; within = λ n. absurd (n refl) }

  now-within : {k : ℕ} → 0 < k → Within limit out (record { count = n; chars = k }) i rest whole → OnWay limit out (record { count = n; chars = k }) i rest whole
  now-within h w = record { between = λ z. absurd (omega arith); within = λ n. w }

module _ (limit : ℕ) (out : List ℕ) (s : Reading) (i b : ℕ) (rest : List ℕ) (whole : Answer (List Component)) (o : OnWay limit out s i (b ∷ rest) whole) where
  -- a byte where a `^` or a segment may start
  module _ (z : s.chars ≡ 0) where
    pub start_up : b ≡ 0x5E → OnWay limit (placed limit out s.count (b ∷ 0 ∷ 0 ∷ 0 ∷ [])) (record { count = s.count + 1; chars = 0 }) (suc i) rest whole
    start_up e =
        let w = o.between z in
        now-between (record {
          done = w.done ++ (up ∷ []);
          count = omega (arith, w.count, length-one w.done up);
          memory = rw (w.count, w.memory) (shown-push limit w.done up (b ∷ 0 ∷ 0 ∷ 0 ∷ []) (ap (λ (n : ℕ). n ∷ 0 ∷ 0 ∷ 0 ∷ []) (sym e)));
          left = after_one w.done up (reading before (suc i) rest) ∙ ap (after w.done) (sym (read_up i b rest e)) ∙ w.left;
        })

    pub start-lead : (b ≡ 0x5E → ⊥) → lead_ok b ≡ true → OnWay limit (placed limit out s.count (b ∷ 0x5F ∷ 0x5F ∷ 0x5F ∷ [])) (record { count = s.count; chars = 1 }) (suc i) rest whole
    start-lead n k =
        let w = o.between z in
        now-within (omega arith) (record {
          done = w.done;
          start = i;
          word = b ∷ [];
          count = w.count;
          chars = refl;
          most = omega arith;
          here = omega arith;
          memory = rw (w.count, w.memory) (shown-push limit w.done (padded (b ∷ [])) (b ∷ 0x5F ∷ 0x5F ∷ 0x5F ∷ []) (padded-one b));
          left = ap (after w.done) (sym (read-lead i b rest n k)) ∙ w.left;
        })

    pub start-wrong : (b ≡ 0x5E → ⊥) → lead_ok b ≡ false → whole ≡ refuses 8 (i - s.chars)
    start-wrong n k =
        let w = o.between z in
        let e : i ≡ i - s.chars = omega arith in
        sym w.left ∙ ap (after w.done) (read-wrong i b rest n k) ∙ ap (λ (p : ℕ). refuses 8 p) e

  -- a byte within a segment
  module _ (z : s.chars ≡ 0 → ⊥) (n : b ≡ 0x2E → ⊥) where
    pub in-char : s.chars < 4 → char_ok b ≡ true →
        OnWay limit (placed_char limit out s.count s.chars b) (record { count = s.count; chars = s.chars + 1 }) (suc i) rest whole
    in-char m k =
        let w = o.within z in
        let f : length w.word < 4 = omega (arith, w.chars) in
        let g : 0 < length w.word = some s.chars (length w.word) w.chars z in
        let l = length-append w.word (b ∷ []) in
        now-within (omega arith) (record {
          done = w.done;
          start = w.start;
          word = w.word ++ (b ∷ []);
          count = w.count;
          chars = omega (arith, w.chars);
          most = omega arith;
          here = omega (arith, w.here);
          memory = rw (w.count, w.chars, w.memory)
              (shown-char limit w.done (padded w.word) (padded (w.word ++ (b ∷ []))) (length w.word) b (omega (arith, padded-length w.word)) (padded-more w.word b g f));
          left = ap (after w.done) (sym (read-char i b rest w.start w.word n f k)) ∙ w.left;
        })
      where
        some : (m k : ℕ) → m ≡ k → (m ≡ 0 → ⊥) → 0 < k
        some m k e z = omega arith

    wrong-at : (q : ℕ) (bs : List ℕ) → s.chars ≡ length bs → q + length bs ≡ i → ◌≡◌ {A = Answer (List Component)} (refuses 8 q) (refuses 8 (i - s.chars))
    wrong-at q bs e f = let p : q ≡ i - s.chars = omega arith in ap (λ (p : ℕ). refuses 8 p) p

    pub in-none : char_ok b ≡ false → whole ≡ refuses 8 (i - s.chars)
    in-none k = let w = o.within z in sym w.left ∙ ap (after w.done) (read_none i b rest w.start w.word n k) ∙ wrong-at w.start w.word w.chars w.here

    pub in-fifth : 4 ≤ s.chars → whole ≡ refuses 8 (i - s.chars)
    in-fifth m =
        let w = o.within z in
        sym w.left ∙ ap (after w.done) (read-fifth i b rest w.start w.word n (omega (arith, w.chars))) ∙ wrong-at w.start w.word w.chars w.here

  pub in-dot : (s.chars ≡ 0 → ⊥) → b ≡ 0x2E → OnWay limit out (record { count = s.count + 1; chars = 0 }) (suc i) rest whole
  in-dot z e =
      let w = o.within z in
      now-between (record {
        done = w.done ++ (padded w.word ∷ []);
        count = omega (arith, w.count, length-one w.done (padded w.word));
        memory = w.memory;
        left = after_one w.done (padded w.word) (reading before (suc i) rest) ∙ ap (after w.done) (sym (read-dot i b rest w.start w.word e)) ∙ w.left;
      })

-- the same, by other names
pub way-memory : {limit : ℕ} {o p : List ℕ} {s : Reading} {i : ℕ} {rest : List ℕ} {whole : Answer (List Component)} → o ≡ p → OnWay limit p s i rest whole → OnWay limit o s i rest whole
way-memory {limit} {o} {p} {s} {i} {rest} {whole} e h = subst (λ (x : List ℕ). OnWay limit x s i rest whole) (sym e) h

-- where a reader stands before a text, in it, and at its end
pub way-start : (limit : ℕ) (out : List ℕ) (from : ℕ) (text : List ℕ) (done : List Component) → out ≡ shown limit done → from ≡ length done →
    OnWay limit out (record { count = from; chars = 0 }) from (drop from text) (after done (reading before from (drop from text)))
way-start limit out from text done e h = now-between (record { done = done; count = h; memory = e; left = refl })

module _ (limit : ℕ) (out : List ℕ) (s : Reading) (i : ℕ) (text : List ℕ) (whole : Answer (List Component)) where
  pub way_next : i < length text → OnWay limit out s i (drop i text) whole → OnWay limit out s i (get_or text i 0 ∷ drop (suc i) text) whole
  way_next h o = rw (drop-cons text i 0 h) at o

  pub way_on : OnWay limit out s (suc i) (drop (suc i) text) whole → OnWay limit out s (i + 1) (drop (i + 1) text) whole
  way_on o = let e : i + 1 ≡ suc i = omega arith in rw e o

  module _ (h : length text ≤ i) (o : OnWay limit out s i (drop i text) whole) where
    pub end_before : s.chars ≡ 0 → Ended limit out (Err (AmlError.InvalidNameSeg i)) whole
    unfolding reading
    end_before z = let w = o.between z in sym w.left ∙ rw (drop_of_length-le text h)

    pub end-inside : (s.chars ≡ 0 → ⊥) → Ended limit out (Ok (s.count + 1)) whole
    unfolding reading
    end-inside z =
        let w = o.within z in
        (w.done ++ (padded w.word ∷ []), sym w.left ∙ rw (drop_of_length-le text h), omega (arith, w.count, length-one w.done (padded w.word)), w.memory)

-- ## A whole text

pub text-none : (limit : ℕ) (text : List ℕ) → length text ≡ 0 → refuses 7 0 ≡ from_text limit text
unfolding from_text text_path
text-none limit [] e = refl
text-none limit (b ∷ s) e = absurd (omega arith)

pub text-rooted : (s : List ℕ) → 0 < length s → text_path (0x5C ∷ s) ≡ consed root (reading before 1 s)
unfolding text_path after_root
text-rooted [] n = absurd (omega arith)
text-rooted (b ∷ s) n = refl

pub text-plain : (text : List ℕ) → 0 < length text → (get_or text 0 0 ≡ 0x5C → ⊥) → text_path text ≡ reading before 0 text
unfolding text_path
text-plain [] n e = absurd (omega arith)
text-plain (b ∷ s) n e = rw (ne_eqb b 0x5C e)

after_none : (r : Answer (List Component)) → after [] r ≡ r
after_none (gives cs) = refl
after_none (refuses n p) = refl

pub root-short : (b : ℕ) → length (root_of b) ≤ 1
root-short b = go (eqb b 0x5C)
  where
    go : (t : Bool) → length (cond t (root ∷ []) []) ≤ 1
    go true = omega arith
    go false = omega arith

-- a root alone, or parts, behind a root where there is one
text-root : (text : List ℕ) → 0 < length text → length text ≡ length (root_of (get_or text 0 0)) → text_path text ≡ gives (root_of (get_or text 0 0))
unfolding text_path after_root
text-root [] n e = absurd (omega arith)
text-root (b ∷ s) n e = go (eqb b 0x5C) s e
  where
    go : (t : Bool) (s : List ℕ) → suc (length s) ≡ length (cond t (root ∷ []) []) → cond t (after_root s) (reading before 0 (b ∷ s)) ≡ gives (cond t (root ∷ []) [])
    go true [] e = refl
    go true (c ∷ s) e = absurd (omega arith)
    go false s e = absurd (omega arith)

text-parts : (text : List ℕ) → 0 < length text → (length text ≡ length (root_of (get_or text 0 0)) → ⊥) →
    after (root_of (get_or text 0 0)) (reading before (length (root_of (get_or text 0 0))) (drop (length (root_of (get_or text 0 0))) text)) ≡ text_path text
unfolding text_path after_root
text-parts [] n e = absurd (omega arith)
text-parts (b ∷ s) n e = go (eqb b 0x5C) s e
  where
    go : (t : Bool) (s : List ℕ) → (suc (length s) ≡ length (cond t (root ∷ []) []) → ⊥) →
        after (cond t (root ∷ []) []) (reading before (length (cond t (root ∷ []) [])) (drop (length (cond t (root ∷ []) [])) (b ∷ s)))
        ≡ cond t (after_root s) (reading before 0 (b ∷ s))
    go true [] e = absurd (e refl)
    go true (c ∷ s) e = refl
    go false s e = after_none (reading before 0 (b ∷ s))

-- the same, from where the reader stands
module _ (text : List ℕ) (from : ℕ) (some : 0 < length text) (e : from ≡ length (root_of (get_or text 0 0))) where
  pub root_by : length text ≡ from → text_path text ≡ gives (root_of (get_or text 0 0))
  root_by h = text-root text some (h ∙ e)

  pub parts-by : (length text ≡ from → ⊥) → text_path text ≡ after (root_of (get_or text 0 0)) (reading before from (drop from text))
  parts-by n = rw e (sym (text-parts text some (λ h. n (h ∙ sym e))))

-- how the parts end decides the text
pub text-by : (limit : ℕ) (text : List ℕ) {w : Answer (List Component)} → text_path text ≡ w → and_then w (limited limit) ≡ from_text limit text
unfolding from_text
text-by limit text e = rw e

-- what a text is read into
pub record TextMade (limit : ℕ) (text : List ℕ) (m : AmlName) : Type 0 where
  pub cs : List Component
  pub is : text_path text ≡ gives cs
  pub memory : m.bytes ≡ shown limit cs
  pub count : m.count ≡ length cs

module _ (limit : ℕ) (text : List ℕ) (m : AmlName) (from : ℕ) (some : 0 < length text) (e : from ≡ length (root_of (get_or text 0 0))) where
  pub root-made : (bytes : List ℕ) → m ≡ record { count = from; bytes = bytes } → bytes ≡ shown limit (root_of (get_or text 0 0)) → length text ≤ from → TextMade limit text m
  root-made bytes k b l =
      let h : length text ≡ from = omega (arith, root-short (get_or text 0 0)) in
      record {
        cs = root_of (get_or text 0 0);
        is = root_by text from some e h;
        memory = ap (λ (n : AmlName). n.bytes) k ∙ b;
        count = ap (λ (n : AmlName). n.count) k ∙ e;
      }

  pub parts-made : (count : ℕ) (bytes : List ℕ) → m ≡ record { count = count; bytes = bytes } → from < length text →
      Ended limit bytes (Ok count) (after (root_of (get_or text 0 0)) (reading before from (drop from text))) → TextMade limit text m
  parts-made count bytes k l w =
      record {
        cs = w.0;
        is = parts-by text from some e (λ h. omega arith) ∙ w.1;
        memory = ap (λ (n : AmlName). n.bytes) k ∙ w.3;
        count = ap (λ (n : AmlName). n.count) k ∙ w.2;
      }
