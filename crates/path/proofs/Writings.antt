-- Text in lent bytes: component by component, each behind what was written before it.
use mathlib.Core.Path.{◌≡◌, refl, sym, ◌∙◌, ap}
use mathlib.Core.Bool.{Bool, true, false, cond}
use mathlib.Core.List.{List, [], ◌∷◌, ◌++◌, append_assoc, append-nil}
use Prim.Native.Nat.{ℕ, suc, ◌+◌, ◌-◌, ◌*◌, ◌≤◌, ◌<◌}
use native.Mathlib.Omega.{arith}
use lib.Dec.{ltb}
use lib.ListN.{length, get_or, set, take, drop, length-append, length-drop, drop_of_length-le}
use lib.Seq.{sets, sets-eq, take_at, drop-append-add, drop-drop}
use borrow.Rule.Slice.PartMut.{put_mid}
use borrow.Author.Tests.{lt-ltb, le-ltb, le-leb, lt-leb, ltb-true, ltb-false, eqb-true}
use Rattle.pkg_length.specs.Refusal.{Answer, gives, refuses, and_then}
use Rattle.name_object.specs.Component.{Component, root, up, seg}
use Rattle.name_object.specs.Memory.{component_of, path_of_name}
use Rattle.name_object.specs.declared.AmlName.{AmlName}
use Rattle.name_object.proofs.Paths.{by_kind}
use Rattle.pkg_length.specs.Wrote.{Wrote, wrote}
use Rattle.path.specs.Text.{text_of, text_within}
use Rattle.path.specs.Inside.{is_mark, piece, length_of_piece}
use Rattle.path.proofs.Walks.{path-next, length-path}

-- ## The text of a component, with a dot if more follows a segment

piece_of : Bool → Component → List ℕ
piece_of more root = 0x5C ∷ []
piece_of more up = 0x5E ∷ []
piece_of more (seg a b c d) = a ∷ b ∷ c ∷ d ∷ cond more (0x2E ∷ []) []

piece_is : (more : Bool) (a b c d : ℕ) → piece_of more (component_of a b c d) ≡ piece more (a ∷ b ∷ c ∷ d ∷ [])
unfolding piece piece_of
piece_is more a b c d =
    by_kind a b c d (λ x. piece_of more x ≡ cond (is_mark a) (a ∷ []) (a ∷ b ∷ c ∷ d ∷ cond more (0x2E ∷ []) []))
    (λ e. rw (e, eqb-true a 0x5C e)) (λ n e. rw (n, e, eqb-true a 0x5E e)) (λ n m. rw (n, m))

pub piece-length : (more : Bool) (a b c d : ℕ) → length (piece more (a ∷ b ∷ c ∷ d ∷ [])) ≡ length_of_piece more a
unfolding piece length_of_piece
piece-length more a b c d = go (is_mark a) more
  where
    go : (s m : Bool) → length (cond s (a ∷ []) (a ∷ b ∷ c ∷ d ∷ cond m (0x2E ∷ []) [])) ≡ cond s 1 (cond m 5 4)
    go true m = refl
    go false true = refl
    go false false = refl

-- by its first byte and whether more follows
module _ (more : Bool) (four : List ℕ) where
  pub piece-mark : is_mark (get_or four 0 0) ≡ true → (piece more four ≡ get_or four 0 0 ∷ []) × (length_of_piece more (get_or four 0 0) ≡ 1)
  unfolding piece length_of_piece
  piece-mark e = (rw e, rw e)

  pub piece-seg : is_mark (get_or four 0 0) ≡ false → (t : Bool) → more ≡ t →
      (piece more four ≡ four ++ cond t (0x2E ∷ []) []) × (length_of_piece more (get_or four 0 0) ≡ cond t 5 4)
  unfolding piece length_of_piece
  piece-seg n t e = (rw (n, e), rw (n, e))

pub piece-some : (more : Bool) (a : ℕ) → 1 ≤ length_of_piece more a
unfolding length_of_piece
piece-some more a = go (is_mark a) more
  where
    go : (s m : Bool) → 1 ≤ cond s 1 (cond m 5 4)
    go true m = omega arith
    go false true = omega arith
    go false false = omega arith

pub piece-four : (more : Bool) (a : ℕ) → is_mark a ≡ false → 4 ≤ length_of_piece more a
piece-four true a n = omega (arith, (piece-seg true (a ∷ []) n true refl).1)
piece-four false a n = omega (arith, (piece-seg false (a ∷ []) n false refl).1)

-- the stores of a piece: four bytes copied, and one behind them
pub copied : (l four : List ℕ) (at k : ℕ) → k ≡ length four → at + length four ≤ length l → put_mid at k l four ≡ sets l at four
copied l four at k e h = rw (e, drop-drop (length four) at l) (sym (sets-eq four l at h ∙ append_assoc (take at l) four (drop (at + length four) l)))

pub copied-one : (l four : List ℕ) (at x : ℕ) → set (sets l at four) (at + length four) x ≡ sets l at (four ++ (x ∷ []))
copied-one l [] at x = let z : at + 0 ≡ at = omega arith in rw z
copied-one l (a ∷ four) at x =
    let e : at + length (a ∷ four) ≡ suc at + length four = omega arith in
    rw e (copied-one (set l at a) four (suc at) x)

-- ## The text of a path, component by component

text-cons : (x : Component) (cs : List Component) → text_of (x ∷ cs) ≡ piece_of (ltb 0 (length cs)) x ++ text_of cs
unfolding text_of piece_of
text-cons root cs = refl
text-cons up cs = refl
text-cons (seg a b c d) [] = refl
text-cons (seg a b c d) (y ∷ cs) = rw (lt-ltb 0 (suc (length cs)) (omega arith))

pub text-end : (cs : List Component) (i : ℕ) → length cs ≤ i → text_of (drop i cs) ≡ []
unfolding text_of
text-end cs i h = rw (drop_of_length-le cs h)

-- four bytes a component, and a dot between two at most
piece-most : (more : Bool) (x : Component) → length (piece_of more x) ≤ cond more 5 4
unfolding piece_of
piece-most true root = omega arith
piece-most false root = omega arith
piece-most true up = omega arith
piece-most false up = omega arith
piece-most true (seg a b c d) = omega arith
piece-most false (seg a b c d) = omega arith

text-short : (x : Component) (cs : List Component) → length (text_of (x ∷ cs)) < 5 * length (x ∷ cs)
text-short x [] =
    omega (arith, ap length (text-cons x []), length-append (piece_of false x) (text_of []), ap length (text-end [] 0 (omega arith)), piece-most false x)
text-short x (y ∷ cs) =
    let m : ltb 0 (length (y ∷ cs)) ≡ true = lt-ltb 0 (length (y ∷ cs)) (omega arith) in
    omega (arith, ap length (rw m at (text-cons x (y ∷ cs))), length-append (piece_of true x) (text_of (y ∷ cs)), piece-most true x, text-short y cs)

-- the longest text: a byte less than five for each component
pub text-bound : (limit : ℕ) (cs : List Component) → length cs ≤ limit → length (text_of cs) ≤ 5 * limit - 1
text-bound limit [] l = omega (arith, ap length (text-end [] 0 (omega arith)))
text-bound limit (x ∷ cs) l = omega (arith, text-short x cs)

more-is : (i n m : ℕ) → m ≡ n - suc i → i < n → ltb 0 m ≡ ltb (i + 1) n
more-is i n m e h = go (ltb (i + 1) n) refl
  where
    go : (t : Bool) → ltb (i + 1) n ≡ t → ltb 0 m ≡ t
    go true t = lt-ltb 0 m (omega (arith, ltb-true (i + 1) n t))
    go false t = le-ltb 0 m (omega (arith, ltb-false (i + 1) n t))

-- the next component's text
module _ (name : AmlName) (i : ℕ) (h : i < name.count) where
  abbrev piece_at : List ℕ
  piece_at = piece (ltb (i + 1) name.count) (get_or name.bytes (4 * i) 0 ∷ get_or name.bytes (4 * i + 1) 0 ∷ get_or name.bytes (4 * i + 2) 0 ∷ get_or name.bytes (4 * i + 3) 0 ∷ [])

  pub text-next :
      text_of (drop i (path_of_name name))
      ≡ piece (ltb (i + 1) name.count) (get_or name.bytes (4 * i) 0 ∷ get_or name.bytes (4 * i + 1) 0 ∷ get_or name.bytes (4 * i + 2) 0 ∷ get_or name.bytes (4 * i + 3) 0 ∷ [])
      ++ text_of (drop (i + 1) (path_of_name name))
  text-next =
      let e : i + 1 ≡ suc i = omega arith in
      let m = more-is i name.count (length (drop (suc i) (path_of_name name))) (length-drop (suc i) (path_of_name name) ∙ ap (λ (n : ℕ). n - suc i) (length-path name)) h in
      ap text_of (path-next name i h)
      ∙ text-cons _ (drop (suc i) (path_of_name name))
      ∙ rw (m, e) (ap (λ (l : List ℕ). l ++ text_of (drop (suc i) (path_of_name name))) (piece_is (ltb (suc i) name.count) _ _ _ _))

  pub length-next :
      length (text_of (drop i (path_of_name name))) ≡ length_of_piece (ltb (i + 1) name.count) (get_or name.bytes (4 * i) 0) + length (text_of (drop (i + 1) (path_of_name name)))
  length-next =
      ap length text-next ∙ length-append piece_at (text_of (drop (i + 1) (path_of_name name)))
      ∙ ap (λ (n : ℕ). n + length (text_of (drop (i + 1) (path_of_name name)))) (piece-length (ltb (i + 1) name.count) (get_or name.bytes (4 * i) 0) _ _ _)

-- ## Text in lent bytes

-- what is lent, with a text at its start
pub record Written (out old : List ℕ) (at : ℕ) (left whole : List ℕ) : Type 0 where
  pub text : List ℕ
  pub size : at ≡ length text
  pub memory : out ≡ text ++ drop at old
  pub rest : text ++ left ≡ whole

pub written_none : (old whole : List ℕ) → Written old old 0 whole whole
written_none old whole = record { text = []; size = refl; memory = refl; rest = refl }

pub written-room : (out old : List ℕ) (at : ℕ) (left whole : List ℕ) → Written out old at left whole → at + length left ≡ length whole
written-room out old at left whole w = omega (arith, w.size, length-append w.text left, ap length w.rest)

-- a piece behind what stands
pub written_next : (out old : List ℕ) (at : ℕ) (u left whole : List ℕ) (n : ℕ) → length out ≡ length old → length whole ≤ length old → length u ≡ n →
    Written out old at (u ++ left) whole → Written (sets out at u) old (at + n) left whole
written_next out old at u left whole n l r e w =
    let k : at + length u ≤ length out = omega (arith, written-room out old at (u ++ left) whole w, length-append u left) in
    let m : at + n ≡ length w.text + length u = omega (arith, w.size) in
    record {
      text = w.text ++ u;
      size = omega (arith, w.size, length-append w.text u);
      memory =
          sets-eq u out at k
          ∙ ap (λ (p : List ℕ). p ++ u ++ drop (at + length u) out) (ap (take at) w.memory ∙ take_at w.text (drop at old) at (sym w.size))
          ∙ ap (λ (p : List ℕ). w.text ++ u ++ p) (tail w.text at (length u) n w.size e w.memory);
      rest = append_assoc w.text u left ∙ w.rest;
    }
  where
    tail : (t : List ℕ) (at m n : ℕ) → at ≡ length t → m ≡ n → out ≡ t ++ drop at old → drop (at + m) out ≡ drop (at + n) old
    tail t at m n s e o =
        ap (λ (k : ℕ). drop (at + k) out) e ∙ ap (drop (at + n)) o ∙ ap (λ (k : ℕ). drop (k + n) (t ++ drop at old)) s ∙ drop-append-add t (drop at old) n ∙ drop-drop n at old

pub written-turn : (out out' old : List ℕ) (at at' : ℕ) (u left left' whole : List ℕ) (n : ℕ) → length out ≡ length old → length whole ≤ length old → length u ≡ n →
    left' ≡ u ++ left → out' ≡ sets out at u → at' ≡ at + n → Written out old at left' whole → Written out' old at' left whole
written-turn out out' old at at' u left left' whole n l r e f g h w =
    rw (g, h) (written_next out old at u left whole n l r e (rw (sym f) w))

written-end : (out old : List ℕ) (at : ℕ) (whole : List ℕ) → Written out old at [] whole → out ≡ whole ++ drop (length whole) old
written-end out old at whole w =
    let e : w.text ≡ whole = sym (append-nil w.text) ∙ w.rest in
    w.memory ∙ ap (λ (k : ℕ). w.text ++ drop k old) w.size ∙ ap (λ (t : List ℕ). t ++ drop (length t) old) e

pub written_all : (out old : List ℕ) (at : ℕ) (left whole : List ℕ) → left ≡ [] → Written out old at left whole → out ≡ whole ++ drop (length whole) old
written_all out old at left whole e w = written-end out old at whole (rw (sym e) w)

-- what is said of it
pub same-wrote : {o p : List ℕ} {a b : Answer ℕ} → o ≡ p → a ≡ b → ◌≡◌ {A = Wrote} (record { out = o; said = a }) (record { out = p; said = b })
same-wrote e f = λ i. record { out = e i; said = f i }

module _ (room : ℕ) (cs : List Component) (a : Answer (List Component)) (h : gives cs ≡ a) where
  pub text-fits : length (text_of cs) ≤ room → gives (text_of cs) ≡ and_then a (text_within room)
  unfolding text_within
  text-fits l = rw (← h, le-leb _ _ l)

  pub text-over : room < length (text_of cs) → refuses 25 0 ≡ and_then a (text_within room)
  unfolding text_within
  text-over l = rw (← h, lt-leb _ _ l)

pub wrote_as : (out : List ℕ) {a b : Answer (List ℕ)} {w : Wrote} → a ≡ b → w ≡ wrote out a → w ≡ wrote out b
wrote_as out e h = h ∙ ap (wrote out) e
