-- The first word that is 0 is the first spare one.
use borrow.Author.Tests.{tests, eq-eqb, ne_eqb}
use borrow.Author.Rules.{rules}
use native.Mathlib.Omega.{arith}
use mathlib.Core.Path.{◌≡◌, refl, ap, ◌∙◌}
use mathlib.Core.Logic.{◌≢◌}
use mathlib.Core.List.{List, [], ◌∷◌}
use Prim.Native.Nat.{ℕ, zero, suc, ◌<◌, ◌≤◌}
use lib.ListN.{length, take, get_or}
use Rattle.std.specs.Prelude.{Option, None, Some}
use Rattle.std.specs.Option.{MatchOption, unwrap_or}
use Rattle.std.specs.List.{AllWithin, HoldsAt}
use Rattle.std.proofs.lemmas.Iterator.{IsFirst-from_position, YieldsList-from_slice}
use Rattle.image.specs.Inside.{used_of}
use Rattle.image.proofs.save.used.Goals as goal

used-to : (ws : List ℕ) (n : ℕ) → ((k : ℕ) → k < n → get_or ws k 0 ≡ 0 → ⊥) → n ≤ length ws → (n < length ws → get_or ws n 0 ≡ 0) → n ≡ used_of ws
unfolding used_of
used-to [] zero h l z = refl
used-to [] (suc n) h l z = absurd (omega arith)
used-to (w ∷ ws) zero h l z = rw (eq-eqb w 0 (z (omega arith)))
used-to (w ∷ ws) (suc n) h l z = rw (ne_eqb w 0 (h 0 (omega arith))) (ap suc (used-to ws n (λ k j. h (suc k) (omega arith)) (omega arith) (λ j. z (omega arith))))

first-spare : (ws : List ℕ) (r : Option ℕ)
    → MatchOption r (AllWithin (λ (x : ℕ). x ≢ 0) ws 0 (length ws)) (λ i. (i < length ws) × HoldsAt (λ (x : ℕ). x ≡ 0) ws i × AllWithin (λ (x : ℕ). x ≢ 0) ws 0 i)
    → unwrap_or r (length ws) ≡ used_of ws
first-spare ws None h = used-to ws (length ws) (λ k j. h k 0 (omega arith) j) (omega arith) (λ j. absurd (omega arith))
first-spare ws (Some i) h = let l : i < length ws = h.0 in used-to ws i (λ k j. h.2 k 0 (omega arith) j) (omega arith) (λ j. h.1 0)

pub returns : goal.returns
returns c =
    let ws = c.args.words.now in
    ap (λ (n : ℕ). take n ws)
    (c.unwrap_or-n.ensures
    ∙ first-spare ws c.position.result
    (IsFirst-from_position _ _ _ (λ x. x ≡ 0) (λ x. x ≢ 0) c.position.ensures.ran (YieldsList-from_slice ws cc) (λ x q k. search (rules, tests)) (λ x q k. search (rules, tests))))
