-- The turns of the test of 26.
use mathlib.Core.Path.{◌≡◌, refl}
use mathlib.Core.Bool.{Bool, true, false, ◌&&◌}
use mathlib.Core.List.{List}
use Prim.Native.Nat.{ℕ, suc, ◌+◌, ◌-◌, ◌*◌, ◌≤◌, ◌<◌}
use native.Mathlib.Omega.{arith}
use lib.Dec.{eqb}
use lib.ListN.{get_or, drop}
use lib.Seq.{drop-drop, get_or-drop}
use borrow.Author.Tests.{ne_eqb, le-leb, lt-leb}
use Rattle.name_object.specs.Memory.{all_zero, kind_ok, bytes_ok, path_ok}
use Rattle.name_object.specs.declared.AmlName.{AmlName}

-- the component at i
kind_at : Bool → List ℕ → ℕ → Bool
kind_at first bs at = kind_ok first (get_or bs at 0) (get_or bs (at + 1) 0) (get_or bs (at + 2) 0) (get_or bs (at + 3) 0)

bytes-cons : (first : Bool) (n at : ℕ) (bs : List ℕ) →
    bytes_ok first (suc n) (drop at bs) ≡ (kind_at first bs at && bytes_ok false n (drop (at + 4) bs))
unfolding bytes_ok kind_at
bytes-cons first n at bs =
    let z : at + 0 ≡ at = omega arith in
    rw (get_or-drop at bs 0 0, get_or-drop at bs 1 0, get_or-drop at bs 2 0, get_or-drop at bs 3 0, drop-drop 4 at bs, z)

bytes-none : (first : Bool) (bs : List ℕ) → all_zero bs ≡ bytes_ok first 0 bs
unfolding bytes_ok
bytes-none first bs = refl

module _ (bs : List ℕ) (n i : ℕ) where
  pub bytes-bad : i < n → kind_ok (eqb i 0) (get_or bs (4 * i) 0) (get_or bs (4 * i + 1) 0) (get_or bs (4 * i + 2) 0) (get_or bs (4 * i + 3) 0) ≡ false →
      false ≡ bytes_ok (eqb i 0) (n - i) (drop (4 * i) bs)
  unfolding kind_at
  bytes-bad h k =
      let e : n - i ≡ suc (n - (i + 1)) = omega arith in
      rw (e, bytes-cons (eqb i 0) (n - (i + 1)) (4 * i) bs, k)

  pub bytes-turn : i < n → kind_ok (eqb i 0) (get_or bs (4 * i) 0) (get_or bs (4 * i + 1) 0) (get_or bs (4 * i + 2) 0) (get_or bs (4 * i + 3) 0) ≡ true →
      bytes_ok (eqb (i + 1) 0) (n - (i + 1)) (drop (4 * (i + 1)) bs) ≡ bytes_ok (eqb i 0) (n - i) (drop (4 * i) bs)
  unfolding kind_at
  bytes-turn h k =
      let e : n - i ≡ suc (n - (i + 1)) = omega arith in
      let f : 4 * (i + 1) ≡ 4 * i + 4 = omega arith in
      rw (e, bytes-cons (eqb i 0) (n - (i + 1)) (4 * i) bs, k, f, ne_eqb (i + 1) 0 (λ z. omega arith))

  pub bytes-done : i ≤ n → n ≤ i → all_zero (drop (4 * n) bs) ≡ bytes_ok (eqb i 0) (n - i) (drop (4 * i) bs)
  bytes-done l h =
      let e : n - i ≡ 0 = omega arith in
      let f : 4 * i ≡ 4 * n = omega arith in
      rw (e, f) (bytes-none (eqb i 0) (drop (4 * n) bs))

pub path-over : (limit : ℕ) (name : AmlName) → limit < name.count → false ≡ path_ok limit name
unfolding path_ok
path-over limit name h = rw (lt-leb _ _ h)

pub path-within : (limit : ℕ) (name : AmlName) → name.count ≤ limit → bytes_ok (eqb 0 0) (name.count - 0) (drop (4 * 0) name.bytes) ≡ path_ok limit name
unfolding path_ok
path-within limit name h =
    let e : name.count - 0 ≡ name.count = omega arith in
    rw (le-leb _ _ h, e)
