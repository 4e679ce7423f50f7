-- What an answer that goes on says of its parts.
use mathlib.Core.Path.{◌≡◌, refl, subst₂}
use mathlib.Core.Bool.{Bool, true, false, cond}
use mathlib.Core.List.{List}
use Prim.Native.Nat.{ℕ, ◌≤◌, ◌<◌}
use lib.ListN.{length, take}
use Rattle.pkg_length.specs.Refusal.{Answer, gives, refuses, and_then}
use Rattle.pkg_length.proofs.Answers.{refuses-not}
use Rattle.grammar.specs.Reader.{Read, took, reads, then_read}

-- a test by cases
pub pick-by : {A : Type 0} (P : A → Type 0) (t : Bool) {x y : A} → (t ≡ true → P x) → (t ≡ false → P y) → P (cond t x y)
pick-by P true f g = f refl
pick-by P false f g = g refl

-- the parts are handed on as variables, so that terms stay small
pub then_by : {A B X : Type 0} (r : Answer (Read A)) (f : A → ℕ → Answer B) {b : B} → then_read r f ≡ gives b →
    ((a : A) (k : ℕ) → r ≡ reads a k → f a k ≡ gives b → X) → X
then_by (gives (took a k)) f e g = g a k refl e
then_by (refuses n p) f e g = refuses-not e

pub and-by : {A B X : Type 0} (r : Answer A) (f : A → Answer B) {b : B} → and_then r f ≡ gives b → ((a : A) → r ≡ gives a → f a ≡ gives b → X) → X
and-by (gives a) f e g = g a refl e
and-by (refuses n p) f e g = refuses-not e

pub pick-ok : {A : Type 0} (t : Bool) (r : Answer A) (n p : ℕ) {a : A} → cond t r (refuses n p) ≡ gives a → (t ≡ true) × (r ≡ gives a)
pick-ok true r n p e = (refl, e)
pick-ok false r n p e = refuses-not e

-- what was read: bytes within the part, and they derive the tree
pub record Follows (D : List ℕ → Type 0) (s : List ℕ) (k : ℕ) : Type 0 where
  pub fits : k ≤ length s
  pub derives : D (take k s)

-- at least one
pub record Takes (D : List ℕ → Type 0) (s : List ℕ) (k : ℕ) : Type 0 where
  pub some : 0 < k
  pub fits : k ≤ length s
  pub derives : D (take k s)

pub as-follows : {A : Type 0} (D : A → List ℕ → Type 0) {s : List ℕ} {a t : A} {k j : ℕ} → reads a k ≡ reads t j → Follows (D a) s k → Follows (D t) s j
as-follows {A} D {s} {a} {t} {k} {j} e h =
    let p : a ≡ t = cc in
    let q : k ≡ j = cc in
    subst₂ (λ (x : A) (n : ℕ). Follows (D x) s n) p q h

pub as-takes : {A : Type 0} (D : A → List ℕ → Type 0) {s : List ℕ} {a t : A} {k j : ℕ} → reads a k ≡ reads t j → Takes (D a) s k → Takes (D t) s j
as-takes {A} D {s} {a} {t} {k} {j} e h =
    let p : a ≡ t = cc in
    let q : k ≡ j = cc in
    subst₂ (λ (x : A) (n : ℕ). Takes (D x) s n) p q h
