-- 24, what the path is refused with, and then the levels from the one at the path down.
use mathlib.Core.Path.{sym}
use Rattle.name_object.specs.Component.{component_limit}
use Rattle.pkg_length.proofs.Answers.{residual_of}
use Rattle.table.specs.Limits.{limits}
use Rattle.namespace.specs.Calls.{settled_keys}
use Rattle.namespace.specs.Levels.{records_from, levels_call}
use Rattle.namespace.specs.Listing.{Listable}
use Rattle.namespace.proofs.Calls.{unformed, formed-at, call-given, call-refused}
use Rattle.namespace.proofs.ListCalls.{stands-same}
use Rattle.namespace.proofs.listing.start.Goals as goal

pub returns-in_err-table : goal.returns-in_err-table
returns-in_err-table c =
    residual_of (Listable c.args.table.now c.args.room (levels_call limits c.args.table.now c.args.path c.args.room)) c.from_residual.result c.in_err-table.field-0.0 c.from_residual.ensures
    (unfold levels_call in sym (unformed limits c.args.table.now _ c.in_err-table.field-0.0 c.in_err-table.ensures))

pub returns-in_err-settled : goal.returns-in_err-settled
unfolding levels_call
returns-in_err-settled c =
    residual_of (Listable c.args.table.now c.args.room (levels_call limits c.args.table.now c.args.path c.args.room)) c.from_residual-in_err-settled.result c.in_err-settled.field-0.0 c.from_residual-in_err-settled.ensures
    (sym (call-refused limits c.args.table.now (formed-at limits c.in_ok-table.table.words.now c.args.table.now c.in_ok-table.ensures c.in_ok-table.table.formed) (settled_keys component_limit c.args.path) (records_from c.args.room) _ _ c.in_err-settled.ensures))

pub returns : goal.returns
unfolding levels_call
returns c =
    stands-same c.args.table.now c.args.room _ _ c.below.result
    (call-given limits c.args.table.now (formed-at limits c.in_ok-table.table.words.now c.args.table.now c.in_ok-table.ensures c.in_ok-table.table.formed) (settled_keys component_limit c.args.path) (records_from c.args.room) c.in_ok-settled.field-0 c.in_ok-settled.ensures)
    (rw c.in_ok-table.ensures at c.below.ensures)
