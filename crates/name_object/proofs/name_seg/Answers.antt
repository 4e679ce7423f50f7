-- The characters passed are those of a segment; the one that ends the loop decides.
use mathlib.Core.Path.{sym, ◌∙◌}
use Rattle.pkg_length.proofs.Answers.{residual}
use Rattle.name_object.proofs.Reading.{begun-none, begun_more, seg-short, seg-bad, seg-whole}
use native.Mathlib.Omega.{arith}
use Rattle.name_object.proofs.name_seg.Goals as goal

pub loop-k-init : goal.loop-k-init
loop-k-init c = begun-none _ _ (omega arith)

pub returns-in_err-byte_at : goal.returns-in_err-byte_at
returns-in_err-byte_at c =
    residual _ _ c.from_residual.ensures ∙ seg-short _ _ c.loop-k.k (omega arith) c.loop-k.invariant _ _ c.in_err-byte_at.ensures

pub loop-k-preserved : goal.loop-k-preserved
loop-k-preserved c =
    begun_more _ _ c.loop-k.k c.loop-k.invariant _ c.in_ok-byte_at.ensures (sym c.is_seg_char.ensures ∙ c.if-not-is_seg_char.false)

pub returns-then-not-is_seg_char : goal.returns-then-not-is_seg_char
returns-then-not-is_seg_char c =
    seg-bad _ _ c.loop-k.k (omega arith) c.loop-k.invariant _ c.in_ok-byte_at.ensures (sym c.is_seg_char.ensures ∙ c.if-not-is_seg_char.true)

pub returns : goal.returns
returns c = seg-whole _ _ c.loop-k.k (omega arith) c.loop-k.invariant
