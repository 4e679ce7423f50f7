-- Text reading and the grammar agree: reading accepts exactly the texts of the grammar, one text has one path, and what is written is read back.
-- A reader inside a segment has read a word `bs` of it, so that `bs` and the rest are parts; each turn of the reader is a step of a derivation.
use mathlib.Core.Path.{◌≡◌, refl, sym, ◌∙◌, ap}
use mathlib.Core.Bool.{Bool, true, false, cond}
use mathlib.Core.List.{List, [], ◌∷◌, ◌++◌, append_assoc, append-nil}
use Prim.Native.Nat.{ℕ, zero, suc, ◌+◌, ◌-◌, ◌*◌, ◌≤◌, ◌<◌}
use native.Mathlib.Omega.{arith}
use lib.Dec.{eqb, ltb}
use lib.ListN.{length, get_or, take, drop, length-append, get_or-append}
use lib.Seq.{take_at}
use borrow.Author.Tests.{eqb-true, ltb-true, le-leb}
use Rattle.pkg_length.specs.Refusal.{Answer, gives, refuses, and_then}
use Rattle.pkg_length.proofs.Answers.{unlike, refuses-not, gives_same, then-gives}
use Rattle.name_object.specs.Component.{Component, root, up, lead_ok, digit_ok, char_ok, is_seg_ok, fine}
use Rattle.name_object.specs.Memory.{name_of, path_in_answer, named}
use Rattle.name_object.specs.declared.AmlName.{AmlName}
use Rattle.name_object.proofs.Paths.{path-back, fine-later, lead-marks}
use Rattle.path.specs.Normal.{limited}
use Rattle.pkg_length.specs.Wrote.{Wrote, wrote}
use Rattle.path.specs.Text.{Place, before, inside, padded, consed, reading, after_root, text_path, from_text, text_of, text_within}
use Rattle.path.specs.TextGrammar.{Word, lead, next, Part, word, above, Parts, last, more, Text, bare, rooted, plain}
use Rattle.path.proofs.Walks.{limited-given, limited-in, limited-over}
use Rattle.path.proofs.Readings.{read_up, read-lead, read-dot, read-char, text-plain, text-rooted}
use Rattle.path.proofs.Writings.{text-bound}

-- ## What reading accepts, the grammar derives

-- a `^` before parts
parts-above : {cs : List Component} {s : List ℕ} → Parts cs s → Parts (up ∷ cs) (0x5E ∷ s)
parts-above (last p) = last (above p)
parts-above (more p q) = more (above p) q

-- what the reader has in hand, and what it makes of it
Reads : Place → List Component → List ℕ → Type 0
Reads before cs s = Parts cs s
Reads (inside q bs) cs s = Word bs → Parts cs (bs ++ s)

parts-sound : (s : List ℕ) (w : Place) (p : ℕ) (cs : List Component) → reading w p s ≡ gives cs → Reads w cs s
unfolding reading Reads
parts-sound [] before p cs h = refuses-not h
parts-sound [] (inside q bs) p cs h = λ w. rw (sym (gives_same h), append-nil bs) (last (word w))
parts-sound (b ∷ s) before p cs h = go (parts-sound s before (suc p)) (parts-sound s (inside p (b ∷ [])) (suc p) cs) (eqb b 0x5E) (lead_ok b) refl refl h
  where
    go : ((ds : List Component) → reading before (suc p) s ≡ gives ds → Parts ds s) →
        (reading (inside p (b ∷ [])) (suc p) s ≡ gives cs → Word (b ∷ []) → Parts cs (b ∷ s)) →
        (t u : Bool) → eqb b 0x5E ≡ t → lead_ok b ≡ u →
        cond t (consed up (reading before (suc p) s)) (cond u (reading (inside p (b ∷ [])) (suc p) s) (refuses 8 p)) ≡ gives cs → Parts cs (b ∷ s)
    go k l true u e f h =
        let v = then-gives (reading before (suc p) s) _ h in
        rw (sym (gives_same v.2), eqb-true b 0x5E e) (parts-above (k v.0 v.1))
    go k l false true e f h = l h (lead f)
    go k l false false e f h = refuses-not h
parts-sound (b ∷ s) (inside q bs) p cs h = λ w.
    go w (parts-sound s before (suc p)) (parts-sound s (inside q (bs ++ (b ∷ []))) (suc p) cs) (eqb b 0x2E) (char_ok b) (ltb (length bs) 4) refl refl refl h
  where
    go : Word bs → ((ds : List Component) → reading before (suc p) s ≡ gives ds → Parts ds s) →
        (reading (inside q (bs ++ (b ∷ []))) (suc p) s ≡ gives cs → Word (bs ++ (b ∷ [])) → Parts cs ((bs ++ (b ∷ [])) ++ s)) →
        (t u v : Bool) → eqb b 0x2E ≡ t → char_ok b ≡ u → ltb (length bs) 4 ≡ v →
        cond t (consed (padded bs) (reading before (suc p) s)) (cond u (cond v (reading (inside q (bs ++ (b ∷ []))) (suc p) s) (refuses 8 q)) (refuses 8 q)) ≡ gives cs →
        Parts cs (bs ++ b ∷ s)
    go w k l true u v e f i h =
        let g = then-gives (reading before (suc p) s) _ h in
        rw (sym (gives_same g.2), eqb-true b 0x2E e) (more (word w) (k g.0 g.1))
    go w k l false true true e f i h = rw append_assoc at (l h (next b w f (ltb-true _ _ i)))
    go w k l false true false e f i h = refuses-not h
    go w k l false false v e f i h = refuses-not h

pub path-sound : (s : List ℕ) (cs : List Component) → text_path s ≡ gives cs → Text cs s
unfolding text_path after_root Reads
path-sound [] cs h = refuses-not h
path-sound (b ∷ s) cs h = go (eqb b 0x5C) refl h
  where
    below : (s : List ℕ) → after_root s ≡ gives cs → Text cs (0x5C ∷ s)
    below [] h = rw (sym (gives_same h)) bare
    below (b ∷ s) h = let v = then-gives (reading before 1 (b ∷ s)) _ h in rw (sym (gives_same v.2)) (rooted (parts-sound (b ∷ s) before 1 v.0 v.1))

    go : (t : Bool) → eqb b 0x5C ≡ t → cond t (after_root s) (reading before 0 (b ∷ s)) ≡ gives cs → Text cs (b ∷ s)
    go false e h = plain (parts-sound (b ∷ s) before 0 cs h)
    go true e h = rw (eqb-true b 0x5C e) (below s h)

-- ## What the grammar derives, reading accepts, wherever it starts

char-2E : char_ok 0x2E ≡ false
unfolding char_ok lead_ok digit_ok
char-2E = refl

char-5F : char_ok 0x5F ≡ true
unfolding char_ok lead_ok digit_ok
char-5F = refl

lead-char : (a : ℕ) → lead_ok a ≡ true → char_ok a ≡ true
unfolding char_ok
lead-char a h = rw h

-- a word starts with a lead, and every character of it, padded, is a name character
word-lead : {s : List ℕ} → Word s → (d : ℕ) → (0 < length s) × (lead_ok (get_or s 0 d) ≡ true)
word-lead (lead h) d = (omega arith, h)
word-lead (next b {s} w k l) d =
    let f = word-lead w d in (omega (arith, f.0, length-append s (b ∷ [])), rw (get_or-append s (b ∷ []) d 0 f.0) f.1)

word-char : {s : List ℕ} → Word s → (i : ℕ) → char_ok (get_or s i 0x5F) ≡ true
word-char (lead {a} h) zero = lead-char a h
word-char (lead {a} h) (suc i) = char-5F
word-char (next b {s} w k l) i = go s (λ j. word-char w j) i
  where
    go : (s : List ℕ) → ((i : ℕ) → char_ok (get_or s i 0x5F) ≡ true) → (i : ℕ) → char_ok (get_or (s ++ (b ∷ [])) i 0x5F) ≡ true
    go [] h zero = k
    go [] h (suc i) = char-5F
    go (x ∷ s) h zero = h 0
    go (x ∷ s) h (suc i) = go s (λ j. h (suc j)) i

word-then : {w : List ℕ} → Word w → (r : List ℕ) (p : ℕ) → reading before p (w ++ r) ≡ reading (inside p w) (p + length w) r
word-then (lead {a} h) r p =
    let e : suc p ≡ p + 1 = omega arith in
    read-lead p a r (lead-marks a h).1 h ∙ ap (λ (n : ℕ). reading (inside p (a ∷ [])) n r) e
word-then (next b {s} w k l) r p =
    let e : suc (p + length s) ≡ p + length (s ++ (b ∷ [])) = omega (arith, length-append s (b ∷ [])) in
    ap (reading before p) (append_assoc s (b ∷ []) r)
    ∙ word-then w (b ∷ r) p
    ∙ read-char (p + length s) b r p s (unlike char_ok b 0x2E k char-2E) l k
    ∙ ap (λ (n : ℕ). reading (inside p (s ++ (b ∷ []))) n r) e

part_end : {cs : List Component} {s : List ℕ} → Part cs s → (p : ℕ) → reading before p s ≡ gives cs
unfolding reading
part_end (word {s} w) p = ap (reading before p) (sym (append-nil s)) ∙ word-then w [] p
part_end (above {cs} {s} t) p = read_up p 0x5E s refl ∙ ap (consed up) (part_end t (suc p))

part-dot : {cs : List Component} {s : List ℕ} (ds : List Component) (t : List ℕ) → Part cs s → ((p : ℕ) → reading before p t ≡ gives ds) →
    (p : ℕ) → reading before p (s ++ 0x2E ∷ t) ≡ gives (cs ++ ds)
part-dot ds t (word {s} w) k p =
    word-then w (0x2E ∷ t) p ∙ read-dot (p + length s) 0x2E t p s refl ∙ ap (consed (padded s)) (k (suc (p + length s)))
part-dot ds t (above {cs} {s} u) k p = read_up p 0x5E (s ++ 0x2E ∷ t) refl ∙ ap (consed up) (part-dot ds t u k (suc p))

parts-complete : {cs : List Component} {s : List ℕ} → Parts cs s → (p : ℕ) → reading before p s ≡ gives cs
parts-complete (last t) p = part_end t p
parts-complete (more {ds = ds} {t = t} u v) p = part-dot ds t u (λ q. parts-complete v q) p

-- parts start with a `^` or a lead
part-first : {cs : List Component} {s : List ℕ} → Part cs s → (0 < length s) × (get_or s 0 0 ≡ 0x5C → ⊥)
part-first (word w) = let f = word-lead w 0 in (f.0, (lead-marks _ f.1).0)
part-first (above t) = (omega arith, λ e. omega arith)

parts_first : {cs : List Component} {s : List ℕ} → Parts cs s → (0 < length s) × (get_or s 0 0 ≡ 0x5C → ⊥)
parts_first (last t) = part-first t
parts_first (more {s = s} {t = t} u v) =
    let f = part-first u in
    (omega (arith, f.0, length-append s (0x2E ∷ t)), λ e. f.1 (sym (get_or-append s (0x2E ∷ t) 0 0 f.0) ∙ e))

-- by the grammar alone, whatever the limit
pub path-complete : {cs : List Component} {s : List ℕ} → Text cs s → text_path s ≡ gives cs
unfolding text_path after_root
path-complete bare = refl
path-complete (rooted {s = s} t) = text-rooted s (parts_first t).0 ∙ ap (consed root) (parts-complete t 1)
path-complete (plain {s = s} t) = let f = parts_first t in text-plain s f.0 f.1 ∙ parts-complete t 0

-- ## Within the limit

-- what reading accepts, the grammar derives, within the limit
pub text-sound : (limit : ℕ) (s : List ℕ) (cs : List Component) → from_text limit s ≡ gives cs → Text cs s × (length cs ≤ limit)
unfolding from_text
text-sound limit s cs h =
    let a = then-gives (text_path s) _ h in
    let l = limited-given limit a.0 cs a.2 in
    (rw (sym l.0) (path-sound s a.0 a.1), rw (sym l.0) l.1)

read_as : (limit : ℕ) (s : List ℕ) (cs : List Component) → text_path s ≡ gives cs → from_text limit s ≡ limited limit cs
unfolding from_text
read_as limit s cs e = rw e

-- what the grammar derives within the limit, reading accepts
pub text-complete : (limit : ℕ) {cs : List Component} {s : List ℕ} → Text cs s → length cs ≤ limit → from_text limit s ≡ gives cs
text-complete limit {cs} {s} t l = read_as limit s cs (path-complete t) ∙ limited-in limit cs l

-- and refuses with 9 above it
pub text-over : (limit : ℕ) {cs : List Component} {s : List ℕ} → Text cs s → limit < length cs → from_text limit s ≡ refuses 9 0
text-over limit {cs} {s} t l = read_as limit s cs (path-complete t) ∙ limited-over limit cs l

-- one text has one path
pub text-unique : {cs ds : List Component} {s : List ℕ} → Text cs s → Text ds s → cs ≡ ds
text-unique t u = gives_same (sym (path-complete t) ∙ path-complete u)

-- ## What is written of a path is a text of that path

part-written : {cs : List Component} {s : List ℕ} → Part cs s → Part cs (text_of cs)
unfolding text_of padded
part-written (word w) =
    word (next _ (next _ (next _ (lead (word-lead w 0x5F).1) (word-char w 1) (omega arith)) (word-char w 2) (omega arith)) (word-char w 3) (omega arith))
part-written (above t) = above (part-written t)

part-text : {cs : List Component} {s : List ℕ} (ds : List Component) → Part cs s → 0 < length ds → text_of (cs ++ ds) ≡ text_of cs ++ 0x2E ∷ text_of ds
unfolding text_of padded
part-text [] (word w) l = absurd (omega arith)
part-text (x ∷ ds) (word w) l = refl
part-text ds (above t) l = ap (λ (x : List ℕ). 0x5E ∷ x) (part-text ds t l)

part-some : {cs : List Component} {s : List ℕ} → Part cs s → 0 < length cs
part-some (word w) = omega arith
part-some (above t) = omega arith

parts-some : {cs : List Component} {s : List ℕ} → Parts cs s → 0 < length cs
parts-some (last t) = part-some t
parts-some (more {cs = cs} {ds = ds} u v) = omega (arith, part-some u, length-append cs ds)

parts-written : {cs : List Component} {s : List ℕ} → Parts cs s → Parts cs (text_of cs)
parts-written (last t) = last (part-written t)
parts-written (more {ds = ds} u v) = rw (part-text ds u (parts-some v)) (more (part-written u) (parts-written v))

pub text-written : {cs : List Component} {s : List ℕ} → Text cs s → Text cs (text_of cs)
unfolding text_of
text-written bare = bare
text-written (rooted t) = rooted (parts-written t)
text-written (plain t) = plain (parts-written t)

-- ## What is read is a path

part-fine : {cs : List Component} {s : List ℕ} (ds : List Component) → Part cs s → fine false ds ≡ true → fine false (cs ++ ds) ≡ true
unfolding fine is_seg_ok padded
part-fine ds (word w) h = rw ((word-lead w 0x5F).1, word-char w 1, word-char w 2, word-char w 3) h
part-fine ds (above t) h = part-fine ds t h

parts-fine : {cs : List Component} {s : List ℕ} → Parts cs s → fine false cs ≡ true
unfolding fine
parts-fine (last {cs} t) = rw append-nil at (part-fine [] t refl)
parts-fine (more {ds = ds} u v) = part-fine ds u (parts-fine v)

pub text-fine : {cs : List Component} {s : List ℕ} → Text cs s → fine true cs ≡ true
unfolding fine
text-fine bare = refl
text-fine (rooted t) = parts-fine t
text-fine (plain {cs = cs} t) = fine-later cs (parts-fine t)

-- ## Writing and reading again

-- what `as_string` leaves of what it is lent, and says
abbrev pub written : ℕ → AmlName → List ℕ → Wrote
written limit name out = wrote out (and_then (path_in_answer limit name) (text_within (length out)))

written-given : (limit : ℕ) (cs : List Component) (out : List ℕ) → fine true cs ≡ true → length cs ≤ limit → 5 * limit - 1 ≤ length out →
    written limit (name_of limit cs) out ≡ record { out = text_of cs ++ drop (length (text_of cs)) out; said = gives (length (text_of cs)) }
unfolding text_within
written-given limit cs out f l r = rw (path-back limit cs f l, le-leb (length (text_of cs)) (length out) (omega (arith, text-bound limit cs l)))

-- for every path that text reading accepts, writing it and reading again gives it back, where there is room for the longest text
pub text-again : (limit : ℕ) (text out : List ℕ) (name : AmlName) → named limit (from_text limit text) ≡ gives name →
    5 * limit - 1 ≤ length out →
    (n : ℕ) × ((written limit name out).said ≡ gives n)
    × (named limit (from_text limit (take n (written limit name out).out)) ≡ gives name)
text-again limit text out name h r = go (from_text limit text) refl h
  where
    go : (a : Answer (List Component)) → from_text limit text ≡ a → named limit a ≡ gives name →
        (n : ℕ) × ((written limit name out).said ≡ gives n)
        × (named limit (from_text limit (take n (written limit name out).out)) ≡ gives name)
    go (refuses n p) e h = refuses-not h
    go (gives cs) e h =
        let t = text-sound limit text cs e in
        let w = written-given limit cs out (text-fine t.0) t.1 r in
        let m : name_of limit cs ≡ name = gives_same h in
        rw (sym m) (
          length (text_of cs),
          ap (λ (x : Wrote). x.said) w,
          ap (λ (x : Wrote). named limit (from_text limit (take (length (text_of cs)) x.out))) w
              ∙ ap (λ (s : List ℕ). named limit (from_text limit s)) (take_at (text_of cs) (drop (length (text_of cs)) out) (length (text_of cs)) refl)
              ∙ ap (named limit) (text-complete limit (text-written t.0) t.1),
        )
