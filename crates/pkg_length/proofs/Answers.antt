-- The small facts that every layer cites, in plain variables: a test has one outcome, and what an answer that gives came from.
use mathlib.Core.Path.{◌≡◌, refl, sym, ◌∙◌, ap, subst}
use mathlib.Core.Bool.{Bool, true, false, ◌&&◌, false≢true, and-eq-true_iff}
use Prim.Native.Nat.{ℕ}
use native.Mathlib.Omega.{arith}
use Rattle.std.specs.Prelude.{Result, Ok, Err, IsErr, IsErrAnd}
use Rattle.pkg_length.specs.declared.AmlError.{AmlError}
use Rattle.pkg_length.specs.Refusal.{Answer, gives, refuses, refused, said, said_as, and_then}

-- a test that holds does not fail
pub never : {T : Type 0} → false ≡ true → T
never h = absurd (false≢true h)

pub wrong : {T : Type 0} {b : Bool} → b ≡ true → b ≡ false → T
wrong p q = never (sym q ∙ p)

-- both halves of a test
pub halves : (t u : Bool) → (t && u) ≡ true → (t ≡ true) × (u ≡ true)
halves t u h = (and-eq-true_iff t u).0 h

-- a byte of which a test holds is none of which it fails
pub unlike : (ok : ℕ → Bool) (a k : ℕ) → ok a ≡ true → ok k ≡ false → a ≡ k → ⊥
unlike ok a k h n e = wrong h (ap ok e ∙ n)

-- an answer that refuses gives nothing
pub refuses-not : {A : Type 0} {n p : ℕ} {v : A} {T : Type 0} → refuses n p ≡ gives v → T
refuses-not h = absurd (let z : ◌≡◌ {A = ℕ} 0 1 = cc in omega arith)

pub gives_same : {A : Type 0} {a b : A} → gives a ≡ gives b → a ≡ b
gives_same h = cc

-- what is given in two steps is given in each
pub then-gives : {A B : Type 0} (a : Answer A) (f : A → Answer B) {v : B} → and_then a f ≡ gives v → (x : A) × (a ≡ gives x) × (f x ≡ gives v)
then-gives (gives x) f h = (x, refl, h)
then-gives (refuses n p) f h = refuses-not h

-- steps of which only the last is refused or not may be taken one after the other
pub then-then : {A B C : Type 0} (a : Answer A) (f : A → B) (g : B → Answer C) → and_then (and_then a (λ x. gives (f x))) g ≡ and_then a (λ x. g (f x))
then-then (gives x) f g = refl
then-then (refuses n p) f g = refl

-- a step that gives something fixed says only whether the first refuses
pub then-refuses : {A B : Type 0} (a : Answer A) (f : A → B) {n p : ℕ} → and_then a (λ x. gives (f x)) ≡ refuses n p → a ≡ refuses n p
then-refuses (gives x) f h = absurd (let z : ◌≡◌ {A = ℕ} 0 1 = cc in omega arith)
then-refuses (refuses n p) f h = cc

-- one refusal is the same refusal of any answer
pub refuses-as : {A B : Type 0} {n p k q : ℕ} → ◌≡◌ {A = Answer A} (refuses n p) (refuses k q) → ◌≡◌ {A = Answer B} (refuses n p) (refuses k q)
refuses-as {n = n} {p = p} {k = k} {q = q} h = let x : n ≡ k = cc in let y : p ≡ q = cc in cc

-- what `?` hands on is the refusal that it met: whatever holds of that
pub residual_of : {A E : Type 0} (P : Result A E → Type 0) (r : Result A E) (e : E) → IsErr r × IsErrAnd r (λ x. x ≡ e) → P (Err e) → P r
residual_of P (Ok a) e (h, k) p = never h
residual_of {E = E} P (Err x) e (h, k) p = subst (λ (y : E). P (Err y)) (sym k) p

pub residual : {A : Type 0} (r : Result A AmlError) (e : AmlError) → IsErr r × IsErrAnd r (λ x. x ≡ e) → said r ≡ refused e
residual r e h = residual_of (λ s. said s ≡ refused e) r e h refl

pub residual_as : {A B : Type 0} (f : A → B) (r : Result A AmlError) (e : AmlError) → IsErr r × IsErrAnd r (λ x. x ≡ e) → said_as f r ≡ refused e
residual_as f r e h = residual_of (λ s. said_as f s ≡ refused e) r e h refl
