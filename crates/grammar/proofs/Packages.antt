-- A package of a part, at its place: what the layer below says of it, in this layer's words.
use mathlib.Core.Path.{◌≡◌, refl, sym, ap, subst, ◌∙◌}
use mathlib.Core.Bool.{Bool, true, false}
use mathlib.Core.List.{List, ◌++◌}
use Prim.Native.Nat.{ℕ, ◌+◌, ◌-◌, ◌≤◌, ◌<◌}
use native.Mathlib.Omega.{arith}
use lib.Dec.{leb}
use lib.ListN.{length, take, drop, length-drop}
use lib.Seq.{take_all}
use borrow.Author.Tests.{leb-true, leb-false}
use Rattle.pkg_length.specs.Refusal.{Answer, gives, refuses, refused, paper, block_limit}
use Rattle.pkg_length.specs.declared.AmlError.{AmlError}
use Rattle.pkg_length.specs.declared.AmlError.TheVariants.{UnexpectedEndOfStream, InvalidPkgLength}
use Rattle.pkg_length.specs.declared.Raw.{Raw}
use Rattle.pkg_length.specs.declared.Pkg.{Pkg}
use Rattle.pkg_length.specs.Pkg.{pkg_length_answer}
use Rattle.pkg_length.specs.Package.{Package, package_in}
use Rattle.pkg_length.proofs.Papers.{case_of, case-is}
use Rattle.pkg_length.proofs.Packages as below
use Rattle.pkg_length.proofs.Packages.{Packs}
use Rattle.grammar.specs.Reader.{moved, read_package}
use Rattle.grammar.specs.Said.{Accepts}
use Rattle.pkg_length.proofs.Answers.{refuses-not}

moved-gives : {A : Type 0} (p : ℕ) (r : Answer A) {a : A} → moved p r ≡ gives a → r ≡ gives a
moved-gives p (gives x) e = e
moved-gives p (refuses n q) e = refuses-not e

pub package-sound : (p : ℕ) (s : List ℕ) (w : Raw) → read_package p s ≡ gives w → Packs s w
unfolding read_package
package-sound p s w e = below.package-sound s w (moved-gives p (package_in s) e)

-- a predicate of k bytes that goes past its package needed the byte at the package's end: that byte is one of the k, and those before it lie within
pub end_needed : (p : ℕ) (s : List ℕ) (w : Raw) (k : ℕ) → read_package p s ≡ gives w → w.raw < w.used + k →
    (w.raw - w.used < k) × (w.used + (w.raw - w.used) ≡ w.raw)
end_needed p s w k e lt = let own = (package-sound p s w e).own_in in (omega arith, omega arith)

-- what is read of a package does not depend on its place
pub package-any : (p q : ℕ) (s : List ℕ) (w : Raw) → read_package p s ≡ gives w → read_package q s ≡ gives w
unfolding read_package
package-any p q s w e = rw (moved-gives p (package_in s) e)

pub package-complete : {X : Type 0} {c b : List ℕ} → Package c b → (p : ℕ) (r : List ℕ) →
    ((w : Raw) → read_package p (b ++ r) ≡ gives w → w.raw ≡ length b → w.raw ≡ w.used + length c → drop w.used (b ++ r) ≡ c ++ r → X) → X
unfolding read_package
package-complete pk p r g = below.package-complete pk r λ w e₁ e₂ e₃ e₄. g w (ap (moved p) e₁) e₂ e₃ e₄

-- ## What the code reads by `pkg_length`

-- the part from a place to its end
pub tail : (s : List ℕ) (at : ℕ) → take (length s - at) (drop at s) ≡ drop at s
tail s at = take_all (length s - at) (drop at s) (omega (arith, length-drop at s))

module _ (s : List ℕ) (short : length s ≤ block_limit) (p : ℕ) where
  -- a refusal of the layer below, with its place moved
  pub package-no : (x : AmlError) → refused x ≡ pkg_length_answer s →
      (refuses (paper x).0 (p + (paper x).1) ≡ read_package p s) × ((paper x).1 ≤ length s) × (((paper x).0 ≡ 1 → ⊥) → (paper x).0 ≡ 2)
  unfolding read_package
  package-no x e = let k = below.package-no s short (paper x).0 (paper x).1 e in (ap (moved p) k.is, k.inside, k.one-or-two)

  -- it is one of two
  pub package-other : {X : Type 0} (x : AmlError) → refused x ≡ pkg_length_answer s →
      ((q : ℕ) → x ≡ UnexpectedEndOfStream q → ⊥) → ((q : ℕ) → x ≡ InvalidPkgLength q → ⊥) → X
  unfolding case_of
  package-other x e one two =
      let k = package-no x e in
      let is = sym (case-is x) in
      let ne : (paper x).0 ≡ 1 → ⊥ = λ h. one (paper x).1 (is ∙ ap (λ (n : ℕ). case_of n (paper x).1) h) in
      absurd (two (paper x).1 (is ∙ ap (λ (n : ℕ). case_of n (paper x).1) (k.2 ne)))

  module _ (w : Pkg) (e : gives w ≡ pkg_length_answer s) where
    pub package-early : w.length_read.raw_length < w.used → refuses 31 p ≡ read_package p s
    unfolding read_package
    package-early lt = let q : p ≡ p + 0 = omega arith in ap (refuses 31) q ∙ ap (moved p) (below.package-early s short w.length_read w.used e lt)

    pub package-yes : w.used ≤ w.length_read.raw_length → gives (record { raw = w.length_read.raw_length; used = w.used }) ≡ read_package p s
    unfolding read_package
    package-yes le = ap (moved p) (below.package-yes s short w.length_read w.used e le)

    -- a package that is known to be good
    pub package-held : Accepts (read_package p s) → gives (record { raw = w.length_read.raw_length; used = w.used }) ≡ read_package p s
    package-held acc = go (leb w.used w.length_read.raw_length) refl
      where
        go : (b : Bool) → leb w.used w.length_read.raw_length ≡ b → gives (record { raw = w.length_read.raw_length; used = w.used }) ≡ read_package p s
        go true h = package-yes (leb-true _ _ h)
        go false h = absurd (subst (λ (R : Answer Raw). Accepts R) (sym (package-early (leb-false _ _ h))) acc)
