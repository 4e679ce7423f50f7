-- Words and their fields: what is packed is read back, for levels and for bindings.
use mathlib.Core.Path.{◌≡◌, refl, ap, ap₂}
use mathlib.Core.Bool.{Bool, true}
use mathlib.Core.List.{List, [], ◌∷◌, map}
use Prim.Native.Nat.{ℕ, zero, suc, ◌/◌, ◌%◌, ◌^◌, ◌<◌}
use native.Mathlib.Omega.{arith}
use lib.ListN.{take, drop}
use Rattle.table.specs.Tree.{Binding}
use Rattle.table.specs.Layout.{pack, rank_of, type_of, count_of, seg_of, bind_word, binding_of}
use Rattle.table.specs.Valid.{rising}
use Rattle.table.proofs.Shape.{Small, binding-tests}

module _ (r t n s : ℕ) (ht : t < 8) (hn : n < 1024) (hs : s < 2 ^ 32) where
  pub rank-pack : rank_of (pack r t n s) ≡ r
  unfolding pack
  rank-pack = omega arith

  pub type-pack : type_of (pack r t n s) ≡ t
  unfolding pack
  type-pack = omega arith

  pub count-pack : count_of (pack r t n s) ≡ n
  unfolding pack
  count-pack = omega arith

  pub seg-pack : seg_of (pack r t n s) ≡ s
  unfolding pack
  seg-pack = omega arith

pub pack-unpack : (w : ℕ) → pack (rank_of w) (type_of w) (count_of w) (seg_of w) ≡ w
unfolding pack
pack-unpack w = omega arith

-- a binding's word
pub same-binding : {s t h g : ℕ} → s ≡ t → h ≡ g → ◌≡◌ {A = Binding} (record { segment = s; handle = h }) (record { segment = t; handle = g })
same-binding e f = λ i. record { segment = e i; handle = f i }

pub word_back : (w : ℕ) → bind_word (binding_of w) ≡ w
word_back w = omega arith

pub binding-back : (b : Binding) → b.handle < 2 ^ 32 → binding_of (bind_word b) ≡ b
binding-back b h = same-binding {s = bind_word b / 2 ^ 32} {h = bind_word b % 2 ^ 32} (omega arith) (omega arith)

pub words_back : (ws : List ℕ) → map bind_word (map binding_of ws) ≡ ws
words_back [] = refl
words_back (w ∷ ws) = ap₂ {C = List ℕ} ◌∷◌ (word_back w) (words_back ws)

pub bindings-back : (live : ℕ → Bool) (lo : ℕ) (bs : List Binding) → Small live → rising live lo bs ≡ true → map binding_of (map bind_word bs) ≡ bs
bindings-back live lo [] h e = refl
bindings-back live lo (b ∷ bs) h e =
    let t = binding-tests live lo b bs e in
    ap₂ {C = List Binding} ◌∷◌ (binding-back b (h b.handle t.alive)) (bindings-back live (suc b.segment) bs h t.later)

-- a part of a list that is mapped
pub map-take : {A B : Type 0} (f : A → B) (n : ℕ) (l : List A) → map f (take n l) ≡ take n (map f l)
map-take f zero l = refl
map-take f (suc n) [] = refl
map-take {B = B} f (suc n) (x ∷ l) = ap (λ (y : List B). f x ∷ y) (map-take f n l)

pub map-drop : {A B : Type 0} (f : A → B) (n : ℕ) (l : List A) → map f (drop n l) ≡ drop n (map f l)
map-drop f zero l = refl
map-drop f (suc n) [] = refl
map-drop f (suc n) (x ∷ l) = map-drop f n l
