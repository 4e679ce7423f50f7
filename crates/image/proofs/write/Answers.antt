-- 24, 25, or the image of the tree.
use native.Mathlib.Omega.{arith}
use mathlib.Core.Path.{ap, sym, ◌∙◌}
use lib.ListN.{length}
use Rattle.table.specs.Limits.{limits}
use Rattle.table.specs.Memory.{decode}
use Rattle.pkg_length.specs.Wrote.{wrote}
use Rattle.image.specs.Format.{first_edition}
use Rattle.image.specs.Bits.{spelled}
use Rattle.image.specs.Image.{image_fields, image}
use Rattle.image.specs.Inside.{ink}
use Rattle.image.proofs.Saving.{saved, image-long, write-small, write-fine, write-wrong, wrote-all}
use Rattle.image.proofs.write.Goals as goal

pub returns-then-not-well_formed : goal.returns-then-not-well_formed
returns-then-not-well_formed c =
    let a = c.args in
    sym (ap (wrote a.out.now) (write-wrong a.table.now (length a.out.now) (sym c.well_formed-2.ensures ∙ c.if-not-well_formed.true)))

pub of-words-requires : goal.of-words-requires
of-words-requires c = sym c.well_formed-2.ensures ∙ c.if-not-well_formed.false

pub returns-then-out-bytes : goal.returns-then-out-bytes
returns-then-out-bytes c =
    let a = c.args in
    let ok = sym c.well_formed-2.ensures ∙ c.if-not-well_formed.false in
    let long = c.length-bytes.ensures ∙ image-long a.table.now ok c.of-words.ensures in
    sym (ap (wrote a.out.now) (write-small a.table.now ok (length a.out.now) (rw long at c.if-out-bytes.true)))

pub write-requires : goal.write-requires
write-requires c = omega (arith, c.length-bytes.ensures, c.if-out-bytes.false)

pub returns : goal.returns
unfolding image
returns c =
    let a = c.args in
    let ok = sym c.well_formed-2.ensures ∙ c.if-not-well_formed.false in
    let long = c.length-bytes.ensures ∙ image-long a.table.now ok c.of-words.ensures in
    wrote-all a.out.now c.write.new.out (spelled (image_fields first_edition (decode limits a.table.now))) c.length-bytes.result
    (c.write.ensures ∙ ap (ink a.out.now 0) (saved a.table.now ok c.of-words.ensures)) long
    ∙ sym (ap (wrote a.out.now) (write-fine a.table.now ok (length a.out.now) (rw long at c.if-out-bytes.false)))
