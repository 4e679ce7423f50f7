-- The search: a scope is asked, then each scope around it up to `\`, and the first that holds the segment answers.
use Rattle.std.specs.Prelude.{cond, ℕ, zero, suc, List, [], ◌∷◌, ◌++◌, ltb, length, take}
use Rattle.pkg_length.specs.Refusal.{Answer, gives, refuses, and_then}
use Rattle.name_object.specs.Component.{Component}
use Rattle.name_object.specs.Memory.{Named}
use Rattle.table.specs.Limits.{Limits}
use Rattle.table.specs.Tree.{Tree, keys}
use Rattle.table.specs.Edits.{level_at, look_up_answer}

-- what was found, in which scope, and how many scopes were asked
pub record Found (A : Type 0) : Type 0 where
  pub scope : List Component
  pub value : A
  pub asked : ℕ

-- a scope that answers ends the search; one that refuses holds none, and the search goes on
abbrev pub or_on : {A : Type 0} → Answer A → List Component → ℕ → Answer (Found A) → Answer (Found A)
or_on (gives a) scope asked on = gives (record { scope = scope; value = a; asked = asked })
or_on (refuses n p) scope asked on = on

-- the scope of the first n components is asked, and then each around it; `asked` were asked before; `none` is the answer where no scope holds it
unfoldable pub outward : {A : Type 0} → (List Component → Answer A) → Answer (Found A) → List Component → ℕ → ℕ → Answer (Found A)
outward ask none scope zero asked = none
outward ask none scope (suc n) asked = or_on (ask (take (suc n) scope)) (take (suc n) scope) (suc asked) (outward ask none scope n (suc asked))

-- what a scope holds under a segment: a missing level holds none, and so does a scope of as many components as a name may have
unfoldable pub value_held_in : Limits → Tree → Component → List Component → Answer ℕ
value_held_in m t c scope = cond (ltb (length scope) m.components) (look_up_answer t (keys (scope ++ (c ∷ [])))) (refuses 16 0)

unfoldable pub level_in : Limits → Tree → Component → List Component → Answer (Unit {0})
level_in m t c scope = cond (ltb (length scope) m.components) (and_then (level_at 0 t.levels (keys (scope ++ (c ∷ [])))) (λ l. gives tt)) (refuses 15 1)

-- a handle, and the scopes asked
pub record Hit : Type 0 where
  pub handle : ℕ
  pub asked : ℕ

-- the full name of what was found
abbrev pub named : {A B : Type 0} → Component → (Found A → B) → Answer (Found A) → Answer (Named B)
named c value (gives f) = gives (record { path = f.scope ++ (c ∷ []); value = value f })
named c value (refuses n p) = refuses n p

-- a bare segment from a normal scope
unfoldable pub search_up_answer : Limits → Tree → Component → List Component → Answer (Named Hit)
search_up_answer m t c scope =
    named c (λ f. record { handle = f.value; asked = f.asked }) (outward (value_held_in m t c) (refuses 16 0) scope (length scope) 0)

-- the same over levels: scopes asked
unfoldable pub level_up_answer : Limits → Tree → Component → List Component → Answer (Named ℕ)
level_up_answer m t c scope = named c (λ f. f.asked) (outward (level_in m t c) (refuses 15 1) scope (length scope) 0)
