-- The root's byte alone, or as many `^`s as there are.
use mathlib.Core.Path.{◌≡◌, sym, ◌∙◌}
use lib.ListN.{get_or}
use borrow.Author.Tests.{eqb-true}
use Rattle.std.proofs.Common.{eqb, rules, tests}
use Rattle.std.proofs.lemmas.Iterator.{YieldsList-from_slice}
use Rattle.std.proofs.lemmas.Iterator.Consumers.{count_from_yields_List}
use Rattle.std.proofs.lemmas.Iterator.Search.{YieldsList-from_take_while}
use Rattle.std.proofs.lemmas.List.Folds.{length-prefix_len}
use Rattle.name_object.proofs.Prefix.{no-root, prefix-root, prefix-carets}
use Rattle.name_object.proofs.prefixes.Goals as goal
use Rattle.name_object.proofs.prefixes.Goals.{else-not-is_empty-via-then-not-is_empty+else-input-eq-ROOT_CHAR, else-not-is_empty-via-else-not-is_empty}

pub returns-then-input-eq-ROOT_CHAR : goal.returns-then-input-eq-ROOT_CHAR
returns-then-input-eq-ROOT_CHAR c = prefix-root _ c.if-input-eq-ROOT_CHAR.true

pub returns : goal.returns
returns c =
    let s = c.args.input.now in
    let many = count_from_yields_List c.take_while.result _ c.count.ensures.ran (YieldsList-from_take_while _ (λ b. eqb b 0x5E) (YieldsList-from_slice s cc) c.take_while.ensures.closure c.take_while.ensures.done (λ x b q k. search (rules, tests))) in
    let other : get_or s 0 0 ≡ 0x5C → ⊥ =
    elim c.else-not-is_empty.branch [
      | else-not-is_empty-via-then-not-is_empty+else-input-eq-ROOT_CHAR w ↦ w.if-input-eq-ROOT_CHAR.false
      | else-not-is_empty-via-else-not-is_empty w ↦ no-root s (eqb-true _ _ (sym c.is_empty.ensures ∙ w.if-not-is_empty.false))
    ] in
    prefix-carets s _ other (many ∙ length-prefix_len (λ b. eqb b 0x5E) s)
