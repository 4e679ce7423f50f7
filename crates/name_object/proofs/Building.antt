-- A name is built component by component: what the path holds after each push.
use mathlib.Core.Path.{◌≡◌, refl, ap}
use mathlib.Core.List.{List, [], ◌∷◌, ◌++◌}
use Prim.Native.Nat.{ℕ, zero, suc, ◌+◌, ◌*◌, ◌≤◌, ◌<◌}
use native.Mathlib.Omega.{arith}
use lib.ListN.{length, get_or, take, drop, length-append, get_or-append}
use lib.Seq.{length-take-le, get_or-drop, drop-drop, get_or-append-add, take_all}
use Rattle.name_object.specs.Component.{Component, up, seg}
use Rattle.name_object.specs.Memory.{name_of, pushed}
use Rattle.name_object.specs.Name.{prefix_of}
use Rattle.name_object.specs.Inside.{cut}
use Rattle.name_object.specs.declared.AmlName.{AmlName}
use Rattle.name_object.proofs.Memory.{push-next}
use Rattle.name_object.proofs.Prefix.{prefix-byte}

-- ## The segments that stand from an offset on

pub cut-none : (s : List ℕ) → cut zero s ≡ []
unfolding cut
cut-none s = refl

pub cut-cons : (n p : ℕ) (xs : List ℕ) →
    cut (suc n) (drop p xs) ≡ seg (get_or xs p 0) (get_or xs (p + 1) 0) (get_or xs (p + 2) 0) (get_or xs (p + 3) 0) ∷ cut n (drop (p + 4) xs)
unfolding cut
cut-cons n p xs =
    let z : p + 0 ≡ p = omega arith in
    rw (get_or-drop p xs 0 0, get_or-drop p xs 1 0, get_or-drop p xs 2 0, get_or-drop p xs 3 0, drop-drop 4 p xs, z)

length_cut : (n : ℕ) (s : List ℕ) → length (cut n s) ≡ n
unfolding cut
length_cut zero s = refl
length_cut (suc n) s = ap suc (length_cut n (drop 4 s))

cut_at : (n j p : ℕ) (xs : List ℕ) → j < n → get_or (cut n (drop p xs)) j up ≡
    seg (get_or xs (p + 4 * j) 0) (get_or xs (p + 4 * j + 1) 0) (get_or xs (p + 4 * j + 2) 0) (get_or xs (p + 4 * j + 3) 0)
cut_at zero j p xs h = absurd (omega arith)
cut_at (suc n) zero p xs h = let z : p + 4 * 0 ≡ p = omega arith in rw (cut-cons n p xs, z)
cut_at (suc n) (suc j) p xs h = let e : p + 4 * suc j ≡ p + 4 + 4 * j = omega arith in rw (cut-cons n p xs, e) (cut_at n j (p + 4) xs (omega arith))

-- ## The components of the name whose n segments start at `from`

abbrev pub whole : List ℕ → ℕ → ℕ → List Component
whole xs from n = prefix_of xs ++ cut n (drop from xs)

pub length_whole : (xs : List ℕ) (from n : ℕ) → length (whole xs from n) ≡ length (prefix_of xs) + n
length_whole xs from n = rw (length-append (prefix_of xs) (cut n (drop from xs)), length_cut n (drop from xs))

module _ (limit : ℕ) (xs : List ℕ) (pre from n : ℕ) (name : AmlName) (is : pre ≡ length (prefix_of xs)) (room : pre + n ≤ limit) where
  pub build-count : (i : ℕ) → i ≤ pre + n → name ≡ name_of limit (take i (whole xs from n)) → name.count ≡ i
  unfolding name_of
  build-count i h e = rw e (length-take-le i (whole xs from n) (omega (arith, length_whole xs from n)))

  pub build-prefix : (i : ℕ) → i < pre → name ≡ name_of limit (take i (whole xs from n)) →
      pushed name (get_or xs i 0) 0 0 0 ≡ name_of limit (take (i + 1) (whole xs from n))
  build-prefix i h e =
      rw e
      (push-next limit (whole xs from n) i (get_or xs i 0) 0 0 0 (omega (arith, length_whole xs from n)) (omega (arith, length_whole xs from n))
      (rw (get_or-append (prefix_of xs) (cut n (drop from xs)) up i (omega arith)) (prefix-byte xs i (omega arith))))

  pub build-seg : (j : ℕ) → j < n → name ≡ name_of limit (take (pre + j) (whole xs from n)) →
      pushed name (get_or xs (from + 4 * j) 0) (get_or xs (from + 4 * j + 1) 0) (get_or xs (from + 4 * j + 2) 0) (get_or xs (from + 4 * j + 3) 0)
      ≡ name_of limit (take (pre + (j + 1)) (whole xs from n))
  build-seg j h e =
      let s : pre + (j + 1) ≡ pre + j + 1 = omega arith in
      rw (e, s)
      (push-next limit (whole xs from n) (pre + j) _ _ _ _ (omega (arith, length_whole xs from n)) (omega (arith, length_whole xs from n))
      (rw (is, get_or-append-add (prefix_of xs) (cut n (drop from xs)) j up, cut_at n j from xs h)))

  pub build-done : (j : ℕ) → n ≤ j → name ≡ name_of limit (take (pre + j) (whole xs from n)) → name ≡ name_of limit (whole xs from n)
  build-done j h e = rw (take_all (pre + j) (whole xs from n) (omega (arith, length_whole xs from n))) at e
