-- What the definitions of package lengths answer at each of their tests, over a list of bytes: one law for each return of the code.
use mathlib.Core.Path.{◌≡◌, refl}
use mathlib.Core.List.{List, [], ◌∷◌}
use Prim.Native.Nat.{ℕ, ◌+◌, ◌-◌, ◌*◌, ◌/◌, ◌%◌, ◌≤◌, ◌<◌}
use native.Mathlib.Omega.{arith}
use lib.ListN.{length, get_or, take, drop}
use borrow.Author.Tests.{eq-eqb, ne_eqb, le-leb, lt-leb}
use Rattle.pkg_length.specs.Refusal.{gives, refuses, block_limit}
use Rattle.pkg_length.specs.Little.{little}
use Rattle.pkg_length.specs.Pkg.{spelt, raw_length_answer, from_raw, pkg_length_answer}
use Rattle.pkg_length.specs.declared.PkgLength.{PkgLength}

pub raw-over : (xs : List ℕ) → block_limit < length xs → refuses 5 0 ≡ raw_length_answer xs
unfolding raw_length_answer
raw-over xs h = simp (lt-leb _ _ h)

pub raw-spelt : (xs : List ℕ) → length xs ≤ block_limit → spelt xs ≡ raw_length_answer xs
unfolding raw_length_answer
raw-spelt xs h = simp (le-leb _ _ h)

pub spelt-empty : (xs : List ℕ) → length xs ≡ 0 → refuses 1 0 ≡ spelt xs
unfolding spelt
spelt-empty [] e = refl
spelt-empty (x ∷ xs) e = absurd (omega arith)

pub spelt_plain : (xs : List ℕ) → 0 < length xs → get_or xs 0 0 / 64 ≡ 0 → gives (record { raw = get_or xs 0 0 % 64; used = 1 }) ≡ spelt xs
unfolding spelt
spelt_plain [] h e = absurd (omega arith)
spelt_plain (x ∷ xs) h e = simp (eq-eqb _ _ e)

pub spelt-short : (xs : List ℕ) → 0 < length xs → (get_or xs 0 0 / 64 ≡ 0 → ⊥) → length xs - 1 < get_or xs 0 0 / 64 → refuses 1 (length xs) ≡ spelt xs
unfolding spelt
spelt-short [] h e s = absurd (omega arith)
spelt-short (x ∷ xs) h e s = simp (ne_eqb _ _ e, lt-leb (x / 64) (length xs) (omega arith))

pub spelt-long : (xs : List ℕ) → 0 < length xs → (get_or xs 0 0 / 64 ≡ 0 → ⊥) → get_or xs 0 0 / 64 ≤ length xs - 1 →
    gives (record { raw = get_or xs 0 0 % 16 + 16 * little (take (get_or xs 0 0 / 64) (drop 1 xs)); used = 1 + get_or xs 0 0 / 64 }) ≡ spelt xs
unfolding spelt
spelt-long [] h e s = absurd (omega arith)
spelt-long (x ∷ xs) h e s = simp (ne_eqb _ _ e, le-leb (x / 64) (length xs) (omega arith))

pub pkg-refused : (xs : List ℕ) (n p : ℕ) → refuses n p ≡ raw_length_answer xs → refuses n p ≡ pkg_length_answer xs
unfolding pkg_length_answer
pkg-refused xs n p e = rw (← e)

pub pkg-unfit : (xs : List ℕ) (raw used n p : ℕ) → gives (record { raw = raw; used = used }) ≡ raw_length_answer xs → refuses n p ≡ from_raw (length xs) raw → refuses n p ≡ pkg_length_answer xs
unfolding pkg_length_answer
pkg-unfit xs raw used n p e f = rw (← e, ← f)

pub pkg-fit : (xs : List ℕ) (raw used : ℕ) (l : PkgLength) → gives (record { raw = raw; used = used }) ≡ raw_length_answer xs → gives l ≡ from_raw (length xs) raw →
    gives (record { length_read = l; used = used }) ≡ pkg_length_answer xs
unfolding pkg_length_answer
pkg-fit xs raw used l e f = rw (← e, ← f)
