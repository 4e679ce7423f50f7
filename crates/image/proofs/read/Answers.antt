-- 24, the first fault, or the tree's memory.
use native.Mathlib.Omega.{arith}
use mathlib.Core.Path.{◌≡◌, refl, ap, sym, ◌∙◌}
use mathlib.Core.List.{List}
use Prim.Native.Nat.{ℕ}
use lib.ListN.{length}
use Rattle.pkg_length.specs.Refusal.{gives}
use Rattle.table.specs.Limits.{limits}
use Rattle.image.specs.Bits.{bits_in}
use Rattle.image.specs.Format.{first_edition}
use Rattle.pkg_length.proofs.Answers.{residual}
use Rattle.image.proofs.Checks.{refused-is, fine-arm}
use Rattle.image.specs.Reader.{first, image_checks, tree_in}
use Rattle.image.proofs.Filling.{read-wrong, read-refused, read-fine}
use Rattle.image.proofs.Contents.{loaded-is}
use Rattle.image.proofs.Laws.{read-contents}
use Rattle.image.specs.declared.Counts.{Counts}
use Rattle.image.specs.Calls.{counts_in}
use Rattle.table.specs.Memory.{Left}
use Rattle.table.proofs.Memory.{encode-length}
use Rattle.image.proofs.read.Goals as goal

same_read : {ws vs : List ℕ} {c d : Counts} → ws ≡ vs → c ≡ d → ◌≡◌ {A = Left Counts} (record { words = ws; said = gives c }) (record { words = vs; said = gives d })
same_read e f = λ i. record { words = e i; said = gives (f i) }

pub returns-in_err-c : goal.returns-in_err-c
returns-in_err-c c =
    let a = c.args in
    rw (residual _ _ c.from_residual.ensures)
    (sym (read-refused first_edition limits a.bytes.now a.table.now c.if-table-ne-WORDS.false
    (refused-is (first (image_checks first_edition limits (bits_in a.bytes.now))) (counts_in a.bytes.now) c.in_err-c.ensures)))

pub fill-requires : goal.fill-requires
fill-requires c =
    let a = c.args in
    let x = fine-arm (first (image_checks first_edition limits (bits_in a.bytes.now))) (counts_in a.bytes.now) c.in_ok-c.c c.in_ok-c.ensures in
    (record { counts = x.1; checked = x.0 }, c.if-table-ne-WORDS.false)

pub shape_of-table : goal.shape_of-table
shape_of-table c =
    let a = c.args in
    let x = fine-arm (first (image_checks first_edition limits (bits_in a.bytes.now))) (counts_in a.bytes.now) c.in_ok-c.c c.in_ok-c.ensures in
    ap length (c.fill.ensures ∙ loaded-is first_edition limits (bits_in a.bytes.now)
    (read-contents first_edition limits a.bytes.now x.0 refl (omega arith) (omega arith))) ∙ encode-length limits (omega arith)
    (tree_in first_edition (bits_in a.bytes.now)) (read-contents first_edition limits a.bytes.now x.0 refl (omega arith) (omega arith)).whole
    ∙ sym c.if-table-ne-WORDS.false

pub returns : goal.returns
returns c =
    let a = c.args in
    let x = fine-arm (first (image_checks first_edition limits (bits_in a.bytes.now))) (counts_in a.bytes.now) c.in_ok-c.c c.in_ok-c.ensures in
    same_read (c.fill.ensures ∙ loaded-is first_edition limits (bits_in a.bytes.now)
    (read-contents first_edition limits a.bytes.now x.0 refl (omega arith) (omega arith))) x.1 ∙ sym
    (read-fine first_edition limits a.bytes.now a.table.now c.if-table-ne-WORDS.false x.0)

pub returns-then-table-ne-WORDS : goal.returns-then-table-ne-WORDS
returns-then-table-ne-WORDS c =
    let a = c.args in sym (read-wrong first_edition limits a.bytes.now a.table.now c.if-table-ne-WORDS.true)
