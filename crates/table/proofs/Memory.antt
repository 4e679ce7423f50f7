-- Well-formed memory means exactly one tree: the one that it is written from.
use mathlib.Core.Path.{◌≡◌, refl, ap, ap₂, sym, ◌∙◌}
use mathlib.Core.Bool.{Bool, true, false, cond, ◌&&◌}
use mathlib.Core.List.{List, [], ◌∷◌, ◌++◌, map, map-append}
use Prim.Native.Nat.{ℕ, suc, ◌+◌, ◌-◌, ◌≤◌, ◌^◌}
use native.Mathlib.Omega.{arith}
use lib.Dec.{eqb}
use lib.ListN.{length, take, drop, get_or, replicate, length-append, length-drop, take-append-drop}
use lib.Seq.{take_at, drop_at, get_or-drop, length-take-le, drop-drop}
use borrow.Author.Tests.{eq-eqb, eqb-true}
use Rattle.pkg_length.proofs.Answers.{halves, never, wrong}
use Rattle.pkg_length.specs.Refusal.{gives, refuses}
use Rattle.table.proofs.Facts.{plus-zero}
use Rattle.table.specs.Limits.{Limits}
use Rattle.table.specs.Tree.{Forest, none, level, Tree, bound, is_live}
use Rattle.table.specs.Layout.{bind_word, binding_of, flat, pad, encode}
use Rattle.table.specs.Valid.{valid}
use Rattle.table.specs.Memory.{siblings, decode, same, is_well_formed, means, size}
use Rattle.table.specs.Inside.{parts_ok}
use Rattle.table.proofs.Words.{bindings-back}
use Rattle.table.proofs.Shape.{Small, Valid}
use Rattle.table.proofs.Decode.{siblings-flat, below-spare}
use Rattle.table.proofs.Whole.{Whole, valid-whole, whole-valid, Held, length-pad, length-words, parts_held, held-parts, small-handles}

pub same_refl : (xs : List ℕ) → same xs xs ≡ true
unfolding same
same_refl [] = refl
same_refl (x ∷ xs) = rw (eq-eqb x x refl) (same_refl xs)

pub same_true : (xs ys : List ℕ) → same xs ys ≡ true → xs ≡ ys
unfolding same
same_true [] [] h = refl
same_true [] (y ∷ ys) h = never h
same_true (x ∷ xs) [] h = never h
same_true (x ∷ xs) (y ∷ ys) h = let g = halves (eqb x y) (same xs ys) h in ap₂ {C = List ℕ} ◌∷◌ (eqb-true x y g.0) (same_true xs ys g.1)

-- the words of a tree, part by part
unfoldable pub level_part : Limits → Tree → List ℕ
level_part m t = pad m.levels (flat 1 t.levels)

unfoldable pub bind_part : Limits → Tree → List ℕ
bind_part m t = pad m.bindings (map bind_word (bound t.levels))

unfoldable pub object_part : Limits → Tree → List ℕ
object_part m t = length t.objects ∷ pad m.objects t.objects

-- three parts in a row, taken apart
module _ (A B C ws : List ℕ) (a b : ℕ) (e : ws ≡ A ++ (B ++ C)) (ha : length A ≡ a) (hb : length B ≡ b) where
  pub part-first : take a ws ≡ A
  part-first = rw e (take_at A (B ++ C) a ha)

  rest-first : drop a ws ≡ B ++ C
  rest-first = rw e (drop_at A (B ++ C) a ha)

  pub part-second : take b (drop a ws) ≡ B
  part-second = rw rest-first (take_at B C b hb)

  pub part-third : drop (a + b) ws ≡ C
  part-third = sym (drop-drop b a ws) ∙ rw rest-first (drop_at B C b hb)

pub bound-back : (limit : ℕ) (live : ℕ → Bool) (r lo : ℕ) (f : Forest) → Small live → Valid limit live r lo f → map binding_of (map bind_word (bound f)) ≡ bound f
unfolding bound
bound-back limit live r lo none h v = refl
bound-back limit live r lo (level s t b kids next) h v =
    rw (
      map-append bind_word b (bound kids ++ bound next),
      map-append bind_word (bound kids) (bound next),
      map-append binding_of (map bind_word b) (map bind_word (bound kids) ++ map bind_word (bound next)),
      map-append binding_of (map bind_word (bound kids)) (map bind_word (bound next)),
      bindings-back live 0 b h v.0.ordered,
      bound-back limit live (suc r) 0 kids h v.1,
      bound-back limit live r (suc s) next h v.2,
    )

same-tree : {f g : Forest} {vs us : List ℕ} → f ≡ g → vs ≡ us → ◌≡◌ {A = Tree} (record { levels = f; objects = vs }) (record { levels = g; objects = us })
same-tree e d = λ i. record { levels = e i; objects = d i }

module _ (m : Limits) (hm : m.objects ≤ 2 ^ 32) (t : Tree) (w : Whole m t) where
  pub length-levels : length (level_part m t) ≡ m.levels
  unfolding level_part
  length-levels = length-pad m.levels (flat 1 t.levels) w.levels

  pub length-binds : length (bind_part m t) ≡ m.bindings
  unfolding bind_part
  length-binds = length-pad m.bindings (map bind_word (bound t.levels)) (rw (length-words t.levels) w.bindings)

  pub length-objects : length (object_part m t) ≡ suc m.objects
  unfolding object_part
  length-objects = ap suc (length-pad m.objects t.objects w.objects)

  pub encode-parts : encode m t ≡ level_part m t ++ (bind_part m t ++ object_part m t)
  unfolding encode level_part bind_part object_part
  encode-parts = refl

  pub encode-length : length (encode m t) ≡ size m
  encode-length =
      ap length encode-parts ∙ length-append (level_part m t) (bind_part m t ++ object_part m t)
      ∙ ap₂ ◌+◌ length-levels (length-append (bind_part m t) (object_part m t) ∙ ap₂ ◌+◌ length-binds length-objects)

  levels-back : siblings 1 (level_part m t) (map binding_of (bind_part m t)) ≡ t.levels
  unfolding level_part bind_part pad
  levels-back =
      rw (
        map-append binding_of (map bind_word (bound t.levels)) (replicate (m.bindings - length (map bind_word (bound t.levels))) 0),
        bound-back m.components (is_live t) 1 0 t.levels (small-handles m t w hm) w.forest,
      )
      (siblings-flat m.components (is_live t) 1 0 t.levels _ _ w.forest (below-spare 1 (m.levels - length (flat 1 t.levels)) (omega arith)))

  objects-back : take (get_or (object_part m t) 0 0) (drop 1 (object_part m t)) ≡ t.objects
  unfolding object_part pad
  objects-back = take_at t.objects (replicate (m.objects - length t.objects) 0) (length t.objects) refl

  -- the words of the tree, taken apart
  module _ (ws : List ℕ) (e : ws ≡ encode m t) where
    pub first-is : take m.levels ws ≡ level_part m t
    first-is = part-first (level_part m t) (bind_part m t) (object_part m t) ws m.levels m.bindings (e ∙ encode-parts) length-levels length-binds

    pub second_is : take m.bindings (drop m.levels ws) ≡ bind_part m t
    second_is = part-second (level_part m t) (bind_part m t) (object_part m t) ws m.levels m.bindings (e ∙ encode-parts) length-levels length-binds

    pub third-is : drop (m.levels + m.bindings) ws ≡ object_part m t
    third-is = part-third (level_part m t) (bind_part m t) (object_part m t) ws m.levels m.bindings (e ∙ encode-parts) length-levels length-binds

    pub held-words : Held m t (take m.levels ws) (take m.bindings (drop m.levels ws)) (drop (m.levels + m.bindings) ws)
    unfolding level_part bind_part object_part
    held-words = record { whole = w; levels = first-is; bindings = second_is; objects = third-is }

    decode-levels : siblings 1 (take m.levels ws) (map binding_of (take m.bindings (drop m.levels ws))) ≡ t.levels
    decode-levels = rw (first-is, second_is) levels-back

    pub third-head : get_or ws (m.levels + m.bindings) 0 ≡ get_or (object_part m t) 0 0
    third-head = ap (λ (n : ℕ). get_or ws n 0) (plus-zero (m.levels + m.bindings)) ∙ sym (get_or-drop (m.levels + m.bindings) ws 0 0) ∙ ap (λ (l : List ℕ). get_or l 0 0) third-is

    third-rest : drop (m.levels + m.bindings + 1) ws ≡ drop 1 (object_part m t)
    third-rest = sym (drop-drop 1 (m.levels + m.bindings) ws) ∙ ap (drop 1) third-is

    decode-objects : take (get_or ws (m.levels + m.bindings) 0) (drop (m.levels + m.bindings + 1) ws) ≡ t.objects
    decode-objects = rw (third-head, third-rest) objects-back

    pub decode-words : decode m ws ≡ t
    unfolding decode
    decode-words = same-tree decode-levels decode-objects

  -- what is written is read back
  pub decode-encode : decode m (encode m t) ≡ t
  decode-encode = decode-words (encode m t) refl

  pub encode-formed : is_well_formed m (encode m t) ≡ true
  unfolding is_well_formed
  encode-formed = rw (decode-encode, whole-valid m t w) (same_refl (encode m t))

-- a valid tree's words mean that tree
pub means-encode : (m : Limits) (t : Tree) → m.objects ≤ 2 ^ 32 → valid m t ≡ true → means m (encode m t) ≡ gives t
unfolding means
means-encode m t hm v = let w = valid-whole m t v in rw (encode-formed m hm t w, decode-encode m hm t w)

pub formed-whole : (m : Limits) (ws : List ℕ) → is_well_formed m ws ≡ true → (valid m (decode m ws) ≡ true) × (ws ≡ encode m (decode m ws))
unfolding is_well_formed
formed-whole m ws h = let g = halves (valid m (decode m ws)) _ h in (g.0, sym (same_true _ _ g.1))

-- words that mean a tree are the words of that tree, and it is valid
pub means-whole : (m : Limits) (ws : List ℕ) (t : Tree) → means m ws ≡ gives t → (valid m t ≡ true) × (ws ≡ encode m t)
unfolding means
means-whole m ws t h = go (is_well_formed m ws) refl h
  where
    go : (x : Bool) → is_well_formed m ws ≡ x → cond x (gives (decode m ws)) (refuses 24 0) ≡ gives t → (valid m t ≡ true) × (ws ≡ encode m t)
    go true e k =
        let d : decode m ws ≡ t = cc in
        rw (← d) (formed-whole m ws e)
    go false e k = absurd (let z : ◌≡◌ {A = ℕ} 0 1 = cc in omega arith)

-- well-formed memory means exactly one tree
pub one-tree : (m : Limits) (ws : List ℕ) (t u : Tree) → m.objects ≤ 2 ^ 32 → valid m t ≡ true → valid m u ≡ true → ws ≡ encode m t → ws ≡ encode m u → t ≡ u
one-tree m ws t u hm v w e d =
    let a = means-encode m t hm v in
    let b = means-encode m u hm w in
    let g : gives t ≡ gives u = sym a ∙ ap (means m) (sym e ∙ d) ∙ b in
    cc

-- the test in one pass, part by part
module _ (m : Limits) (hm : m.objects ≤ 2 ^ 32) (ws : List ℕ) where
  test : Bool
  test = parts_ok m (take m.levels ws) (take m.bindings (drop m.levels ws)) (drop (m.levels + m.bindings) ws)

  split : ws ≡ take m.levels ws ++ (take m.bindings (drop m.levels ws) ++ drop (m.levels + m.bindings) ws)
  split =
      sym (take-append-drop m.levels ws)
      ∙ ap (λ (l : List ℕ). take m.levels ws ++ l) (sym (take-append-drop m.bindings (drop m.levels ws)) ∙ ap (λ (l : List ℕ). take m.bindings (drop m.levels ws) ++ l) (drop-drop m.bindings m.levels ws))

  held-formed : (t : Tree) → Held m t (take m.levels ws) (take m.bindings (drop m.levels ws)) (drop (m.levels + m.bindings) ws) → is_well_formed m ws ≡ true
  unfolding encode
  held-formed t h = rw (words) (encode-formed m hm t h.whole)
    where
      words : ws ≡ encode m t
      words = split ∙ ap₂ {C = List ℕ} ◌++◌ h.levels (ap₂ {C = List ℕ} ◌++◌ h.bindings h.objects)

  passes-formed : length ws ≡ size m → test ≡ true → is_well_formed m ws ≡ true
  unfolding test
  passes-formed l h =
      let x = parts_held m (take m.levels ws) (take m.bindings (drop m.levels ws)) (length-take-le m.levels ws (omega arith))
      (length-take-le m.bindings (drop m.levels ws) (omega (arith, length-drop m.levels ws)))
      (drop (m.levels + m.bindings) ws) (omega (arith, length-drop (m.levels + m.bindings) ws)) h in
      held-formed x.0 x.1

  formed-passes : is_well_formed m ws ≡ true → (length ws ≡ size m) × (test ≡ true)
  unfolding test
  formed-passes h =
      let x = formed-whole m ws h in
      let w = valid-whole m (decode m ws) x.0 in
      (ap length x.1 ∙ encode-length m hm (decode m ws) w, held-parts m (decode m ws) _ _ _ hm (held-words m hm (decode m ws) w ws x.1))

  pub formed-test : is_well_formed m ws ≡ (eqb (length ws) (size m) && parts_ok m (take m.levels ws) (take m.bindings (drop m.levels ws)) (drop (m.levels + m.bindings) ws))
  unfolding test
  formed-test = go (eqb (length ws) (size m)) test (is_well_formed m ws) refl refl refl
    where
      go : (x y z : Bool) → eqb (length ws) (size m) ≡ x → test ≡ y → is_well_formed m ws ≡ z → z ≡ (x && y)
      go true true true a b c = refl
      go true true false a b c = sym c ∙ passes-formed (eqb-true _ _ a) b
      go true false true a b c = sym (formed-passes c).1 ∙ b
      go true false false a b c = refl
      go false y true a b c = wrong (eq-eqb _ _ (formed-passes c).0) a
      go false y false a b c = refl
