-- A `\` is the root, in the place of the first component; any other byte leaves nothing.
use mathlib.Core.Path.{◌≡◌, refl, ◌∙◌}
use mathlib.Core.List.{[], ◌∷◌}
use native.Mathlib.Omega.{arith}
use borrow.Author.Tests.{eq-eqb, ne_eqb}
use Rattle.name_object.specs.Component.{root, component_limit}
use Rattle.path.proofs.Shown.{shown-push}
use Rattle.path.proofs.text.read_root.Goals as goal

pub returns-then-b-ne-ROOT_CHAR : goal.returns-then-b-ne-ROOT_CHAR
returns-then-b-ne-ROOT_CHAR c = rw (ne_eqb _ _ c.if-b-ne-ROOT_CHAR.true) (refl, λ e. e)

pub returns : goal.returns
returns c =
    let root_here : c.args.b ≡ 0x5C = omega arith in
    rw (eq-eqb _ _ root_here)
    (refl, λ e. c.put.ensures ∙ rw e (shown-push component_limit [] root (0x5C ∷ 0 ∷ 0 ∷ 0 ∷ []) refl))
