-- The field's bits are within the bytes.
use borrow.Author.Rules.{rules}
use Rattle.image.proofs.Checks.{has, room}
use Rattle.image.proofs.test.need.Goals as goal

pub field-requires : goal.field-requires
field-requires c =
    let a = c.args in
    (room a.bytes.now a.at a.width (has _ _ c.in_ok-there.ensures).0, search rules, search rules)
