-- Levels, bindings, and the rest.
use borrow.Author.Rules.{rules}
use mathlib.Core.Path.{sym, ◌∙◌}
use Rattle.image.specs.Bits.{bits_in}
use Rattle.image.specs.Format.{first_edition, bindings_place}
use Rattle.pkg_length.proofs.Answers.{residual}
use Rattle.image.proofs.Fields.{length-bits_in}
use Rattle.image.specs.Reader.{root_seen}
use Rattle.image.proofs.Steps.{body-levels, body-bound, body-rest}
use Rattle.image.proofs.Rooms.{levels-room, bound-room}
use Rattle.image.proofs.test.body.Goals as goal

pub returns-in_err-levels : goal.returns-in_err-levels
returns-in_err-levels c =
    let a = c.args in
    residual _ _ c.from_residual.ensures
    ∙ body-levels first_edition (bits_in a.bytes.now) a.c.levels a.c.bindings a.c.objects (sym c.in_err-levels.ensures)

pub bound-requires : goal.bound-requires
bound-requires c =
    let a = c.args in
    let l = length-bits_in a.bytes.now in
    let r = levels-room first_edition (bits_in a.bytes.now) a.c.levels 32 0 (root_seen first_edition) (sym c.in_ok-levels.ensures)
    (rw l (search rules)) in
    (search rules, search rules, rw l at r)

pub returns-in_err-bound : goal.returns-in_err-bound
returns-in_err-bound c =
    let a = c.args in
    residual _ _ c.from_residual-in_err-bound.ensures
    ∙ body-bound first_edition (bits_in a.bytes.now) a.c.levels a.c.bindings a.c.objects (sym c.in_ok-levels.ensures) (sym c.in_err-bound.ensures)

pub rest-requires : goal.rest-requires
rest-requires c =
    let a = c.args in
    let l = length-bits_in a.bytes.now in
    let r = bound-room first_edition (bits_in a.bytes.now) a.c.objects a.c.levels 32 (bindings_place first_edition a.c.levels) 0 a.c.bindings
    (sym c.in_ok-bound.ensures) in
    (search rules, search rules, search rules, rw l at r)

pub returns : goal.returns
returns c =
    let a = c.args in
    c.rest.ensures
    ∙ sym (body-rest first_edition (bits_in a.bytes.now) a.c.levels a.c.bindings a.c.objects (sym c.in_ok-levels.ensures) (sym c.in_ok-bound.ensures))
