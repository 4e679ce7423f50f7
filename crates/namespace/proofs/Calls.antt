-- A call is its work on the tree that memory means and the keys of its path; before them, 24 and what the path is refused with.
use mathlib.Core.Path.{◌≡◌, ap, sym, ◌∙◌}
use mathlib.Core.Bool.{true, false}
use mathlib.Core.List.{List}
use Prim.Native.Nat.{ℕ, ◌<◌}
use lib.ListN.{length, set, replicate}
use borrow.Author.Tests.{eq-eqb, ne_eqb}
use Rattle.pkg_length.specs.Refusal.{Answer, gives, refuses, refused, and_then}
use Rattle.pkg_length.specs.declared.AmlError.{AmlError}
use Rattle.table.specs.Limits.{Limits}
use Rattle.table.specs.Tree.{Tree}
use Rattle.table.specs.Memory.{is_well_formed, decode, means, size, Edited, left}
use Rattle.table.proofs.Objects.{means-formed, means-unformed, fresh-words}
use Rattle.namespace.specs.Calls.{new_call}

-- a call with no path
module _ {B : Type 0} (m : Limits) (ws : List ℕ) (next : Tree → Answer B) where
  pub mean-bad : is_well_formed m ws ≡ false → refuses 24 0 ≡ and_then (means m ws) next
  mean-bad h = rw (means-unformed m ws h)

  pub mean-given : is_well_formed m ws ≡ true → next (decode m ws) ≡ and_then (means m ws) next
  mean-given h = rw (means-formed m ws h)

-- a table that was tested, or 24
pub formed-at : (m : Limits) (us ws : List ℕ) → us ≡ ws → is_well_formed m us ≡ true → is_well_formed m ws ≡ true
formed-at m us ws e h = sym (ap (is_well_formed m) e) ∙ h

pub unformed : {B : Type 0} (m : Limits) (ws : List ℕ) (next : Tree → Answer B) (e : AmlError) → (e ≡ AmlError.BadTable) × (is_well_formed m ws ≡ false) → refused e ≡ and_then (means m ws) next
unformed {B} m ws next e h = ap (refused {A = B}) h.0 ∙ mean-bad m ws next h.1

-- what follows an answer
module _ {A B : Type 0} (a : Answer A) (next : A → Answer B) where
  pub after-given : (x : A) → gives x ≡ a → next x ≡ and_then a next
  after-given x e = rw (← e)

  pub after-refused : (n k : ℕ) → refuses n k ≡ a → refuses n k ≡ and_then a next
  after-refused n k e = rw (← e)

-- a call with a path, on a table that was tested
module _ {A B : Type 0} (m : Limits) (ws : List ℕ) (ok : is_well_formed m ws ≡ true) (a : Answer A) (next : Tree → A → Answer B) where
  pub call-given : (x : A) → gives x ≡ a → next (decode m ws) x ≡ and_then (means m ws) (λ t. and_then a (next t))
  call-given x e = after-given a (next (decode m ws)) x e ∙ mean-given m ws (λ t. and_then a (next t)) ok

  pub call-refused : (n k : ℕ) → refuses n k ≡ a → refuses n k ≡ and_then (means m ws) (λ t. and_then a (next t))
  call-refused n k e = after-refused a (next (decode m ws)) n k e ∙ mean-given m ws (λ t. and_then a (next t)) ok

-- a refusal leaves the words
pub left-kept : {A : Type 0} (m : Limits) (ws : List ℕ) (n p : ℕ) (a : Answer (Edited A)) → refuses n p ≡ a → record { words = ws; said = refuses n p } ≡ left m ws a
left-kept m ws n p a e = rw (← e)

-- a fresh table
module _ (m : Limits) (ws : List ℕ) where
  pub new-made : 0 < m.levels → length ws ≡ size m
      → record { words = set (replicate (length ws) 0) 0 35184372088832; said = gives tt } ≡ left m ws (new_call m ws)
  unfolding new_call
  new-made h e = rw (eq-eqb (length ws) (size m) e) (λ i. record { words = (ap (λ (n : ℕ). set (replicate n 0) 0 35184372088832) e ∙ fresh-words m h) i; said = gives tt })

  pub new-refused : (length ws ≡ size m → ⊥) → record { words = ws; said = refuses 24 0 } ≡ left m ws (new_call m ws)
  unfolding new_call
  new-refused e = rw (ne_eqb (length ws) (size m) e)
