-- Bytes compared from the front on, and bytes put one part behind another.
use mathlib.Core.Path.{◌≡◌, refl}
use mathlib.Core.Bool.{Bool, true, false, cond, ◌&&◌}
use mathlib.Core.List.{List, [], ◌∷◌, ◌++◌, append_assoc}
use Prim.Native.Nat.{ℕ}
use native.Mathlib.Omega.{arith}
use lib.Dec.{eqb}
use lib.ListN.{length, take, drop, length-append}
use lib.Seq.{take_at, drop_at, drop-drop}
use borrow.Author.Tests.{eqb-true}
use borrow.Rule.Slice.PartMut.{put_mid}
use Rattle.std.specs.Cmp.Lexicographic.{pointwise}
use Rattle.header.specs.Header.{bytes_same}

-- what `==` says of two parts of bytes
pub same-pointwise : (xs ys : List ℕ) → pointwise eqb xs ys ≡ bytes_same xs ys
unfolding bytes_same
same-pointwise [] [] = refl
same-pointwise [] (y ∷ ys) = refl
same-pointwise (x ∷ xs) [] = refl
same-pointwise (x ∷ xs) (y ∷ ys) = go (eqb x y) (same-pointwise xs ys)
  where
    go : (t : Bool) → pointwise eqb xs ys ≡ bytes_same xs ys → (t && pointwise eqb xs ys) ≡ cond t (bytes_same xs ys) false
    go true e = e
    go false e = refl

-- what is the same is equal, and what is equal is the same
pub same-is : (xs ys : List ℕ) → bytes_same xs ys ≡ true → xs ≡ ys
unfolding bytes_same
same-is [] [] h = refl
same-is [] (y ∷ ys) h = absurd (let z : ◌≡◌ {A = ℕ} 0 1 = cc in omega arith)
same-is (x ∷ xs) [] h = absurd (let z : ◌≡◌ {A = ℕ} 0 1 = cc in omega arith)
same-is (x ∷ xs) (y ∷ ys) h = go (eqb x y) refl (same-is xs ys) h
  where
    go : (t : Bool) → eqb x y ≡ t → (bytes_same xs ys ≡ true → xs ≡ ys) → cond t (bytes_same xs ys) false ≡ true → x ∷ xs ≡ y ∷ ys
    go true e f k = let a : x ≡ y = eqb-true x y e in let b : xs ≡ ys = f k in cc
    go false e f k = absurd (let z : ◌≡◌ {A = ℕ} 0 1 = cc in omega arith)

-- lent bytes, a front of which is written and the rest as it was
pub record Stands (front out out₀ : List ℕ) : Type 0 where
  pub is : out ≡ front ++ drop (length front) out₀

-- one part more, behind what stands
pub stands-more : {p out out₀ ys : List ℕ} (x : List ℕ) (at k : ℕ) → Stands p out out₀ → length p ≡ at → length x ≡ k → ys ≡ x → Stands (p ++ x) (put_mid at k out ys) out₀
stands-more {p} {out} {out₀} {ys} x at k s e l w =
    let front : take at out ≡ p = rw s.is (take_at p (drop (length p) out₀) at e) in
    let back : drop at out ≡ drop (length p) out₀ = rw s.is (drop_at p (drop (length p) out₀) at e) in
    record { is = rw (w, front, back, ← l, drop-drop, length-append, append_assoc) }
