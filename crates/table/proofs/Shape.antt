-- What the tests of a tree say, as facts that proofs take apart.
use mathlib.Core.Path.{◌≡◌, refl}
use mathlib.Core.Bool.{Bool, true, false, cond, ◌&&◌}
use mathlib.Core.List.{List, ◌∷◌}
use Prim.Native.Nat.{ℕ, suc, ◌<◌, ◌≤◌, ◌^◌}
use native.Mathlib.Omega.{arith}
use lib.Dec.{leb, ltb, eqb}
use lib.ListN.{length}
use borrow.Author.Tests.{ltb-true, leb-true, eqb-true, lt-ltb, le-leb}
use Rattle.pkg_length.proofs.Answers.{halves}
use Rattle.table.specs.Tree.{Binding, Forest, none, level}
use Rattle.table.specs.Valid.{segment_ok, rising, name_ok, count_ok, level_ok, forest_ok}
use Rattle.table.proofs.Numbers.{segment-range}

-- live handles fit their field of a word
abbrev pub Small : (ℕ → Bool) → Type 0
Small live = (h : ℕ) → live h ≡ true → h < 2 ^ 32

-- the tests of one binding, taken apart
pub record BindingTests (live : ℕ → Bool) (lo : ℕ) (b : Binding) (bs : List Binding) : Type 0 where
  pub rises : lo ≤ b.segment
  pub named : segment_ok b.segment ≡ true
  pub alive : live b.handle ≡ true
  pub later : rising live (suc b.segment) bs ≡ true

pub binding-tests : (live : ℕ → Bool) (lo : ℕ) (b : Binding) (bs : List Binding) → rising live lo (b ∷ bs) ≡ true → BindingTests live lo b bs
unfolding rising
binding-tests live lo b bs h =
    let x = halves _ (rising live (suc b.segment) bs) h in
    let y = halves _ (live b.handle) x.0 in
    let z = halves (leb lo b.segment) (segment_ok b.segment) y.0 in
    record { rises = leb-true _ _ z.0; named = z.1; alive = y.1; later = x.1 }

pub tests-binding : (live : ℕ → Bool) (lo : ℕ) (b : Binding) (bs : List Binding) → BindingTests live lo b bs → rising live lo (b ∷ bs) ≡ true
unfolding rising
tests-binding live lo b bs t = rw (le-leb lo b.segment t.rises, t.named, t.alive) t.later

pub record LevelFit (limit : ℕ) (live : ℕ → Bool) (r lo s t : ℕ) (b : List Binding) : Type 0 where
  pub ok : level_ok limit r lo s t (length b) ≡ true
  pub ordered : rising live 0 b ≡ true
  pub ranked : 0 < r
  pub shallow : r ≤ limit
  pub rises : lo ≤ s
  pub fits : s < 2 ^ 32
  pub small : t < 8
  pub few : length b < 1024

name-range : (r s t : ℕ) → name_ok r s t ≡ true → (s < 2 ^ 32) × (t < 8)
name-range r s t h = go (eqb r 1) h
  where
    go : (x : Bool) → cond x (eqb s 0 && eqb t 0) (segment_ok s && ltb t 6) ≡ true → (s < 2 ^ 32) × (t < 8)
    go true h = let g = halves (eqb s 0) (eqb t 0) h in omega (arith, eqb-true s 0 g.0, eqb-true t 0 g.1)
    go false h = let g = halves (segment_ok s) (ltb t 6) h in omega (arith, segment-range s g.0, ltb-true t 6 g.1)

count-range : (limit r n : ℕ) → count_ok limit r n ≡ true → n < 1024
count-range limit r n h = go (ltb r limit) h
  where
    go : (x : Bool) → cond x (ltb n 1024) (eqb n 0) ≡ true → n < 1024
    go true h = ltb-true n 1024 h
    go false h = omega (arith, eqb-true n 0 h)

-- the tests of one level, taken apart
pub record LevelTests (limit r lo s t n : ℕ) : Type 0 where
  pub ranked : 0 < r
  pub shallow : r ≤ limit
  pub rises : lo ≤ s
  pub named : name_ok r s t ≡ true
  pub counted : count_ok limit r n ≡ true

pub level-tests : (limit r lo s t n : ℕ) → level_ok limit r lo s t n ≡ true → LevelTests limit r lo s t n
unfolding level_ok
level-tests limit r lo s t n h =
    let a = halves _ (count_ok limit r n) h in
    let b = halves _ (name_ok r s t) a.0 in
    let c = halves _ (leb lo s) b.0 in
    let d = halves (ltb 0 r) (leb r limit) c.0 in
    record { ranked = ltb-true 0 r d.0; shallow = leb-true r limit d.1; rises = leb-true lo s c.1; named = b.1; counted = a.1 }

pub tests-level : (limit r lo s t n : ℕ) → LevelTests limit r lo s t n → level_ok limit r lo s t n ≡ true
unfolding level_ok
tests-level limit r lo s t n h = rw (lt-ltb 0 r h.ranked, le-leb r limit h.shallow, le-leb lo s h.rises, h.named) h.counted

pub fit : (limit : ℕ) (live : ℕ → Bool) (r lo s t : ℕ) (b : List Binding) → level_ok limit r lo s t (length b) ≡ true → rising live 0 b ≡ true → LevelFit limit live r lo s t b
fit limit live r lo s t b h o =
    let k = level-tests limit r lo s t (length b) h in
    let n = name-range r s t k.named in
    record { ok = h; ordered = o; ranked = k.ranked; shallow = k.shallow; rises = k.rises; fits = n.0; small = n.1; few = count-range limit r (length b) k.counted }

-- siblings of rank r, their segments from lo on and rising
abbrev pub Valid : ℕ → (ℕ → Bool) → ℕ → ℕ → Forest → Type 0
Valid limit live r lo none = Unit {0}
Valid limit live r lo (level s t b kids next) = LevelFit limit live r lo s t b × Valid limit live (suc r) 0 kids × Valid limit live r (suc s) next

pub forest-valid : (limit : ℕ) (live : ℕ → Bool) (r lo : ℕ) (f : Forest) → forest_ok limit live r lo f ≡ true → Valid limit live r lo f
unfolding forest_ok
forest-valid limit live r lo none h = tt
forest-valid limit live r lo (level s t b kids next) h =
    let x = halves _ (forest_ok limit live r (suc s) next) h in
    let y = halves _ (forest_ok limit live (suc r) 0 kids) x.0 in
    let z = halves (level_ok limit r lo s t (length b)) (rising live 0 b) y.0 in
    (fit limit live r lo s t b z.0 z.1, forest-valid limit live (suc r) 0 kids y.1, forest-valid limit live r (suc s) next x.1)

pub valid-forest : (limit : ℕ) (live : ℕ → Bool) (r lo : ℕ) (f : Forest) → Valid limit live r lo f → forest_ok limit live r lo f ≡ true
unfolding forest_ok
valid-forest limit live r lo none v = refl
valid-forest limit live r lo (level s t b kids next) v =
    rw (v.0.ok, v.0.ordered, valid-forest limit live (suc r) 0 kids v.1, valid-forest limit live r (suc s) next v.2)
