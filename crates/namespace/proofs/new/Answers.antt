-- Zeros and the root's word are the words of a fresh tree.
use mathlib.Core.Path.{ap, ◌∙◌}
use mathlib.Core.List.{List}
use Prim.Native.Nat.{ℕ}
use lib.ListN.{set}
use Rattle.pkg_length.specs.Refusal.{gives}
use Rattle.table.specs.Limits.{limits}
use Rattle.namespace.proofs.Calls.{new-made, new-refused}
use native.Mathlib.Omega.{arith}
use Rattle.namespace.proofs.new.Goals as goal

pub returns-then-table-ne-WORDS : goal.returns-then-table-ne-WORDS
returns-then-table-ne-WORDS c = new-refused limits c.args.table.now c.if-table-ne-WORDS.true

pub returns : goal.returns
returns c =
    ap (λ (l : List ℕ). record { words = set l 0 35184372088832; said = gives tt }) (c.fill.ensures.after (λ y h. h)) ∙ new-made limits c.args.table.now (omega arith) c.if-table-ne-WORDS.false
