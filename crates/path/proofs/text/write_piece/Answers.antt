-- The stores of one piece.
use mathlib.Core.Path.{◌≡◌, sym, ◌∙◌, ap}
use mathlib.Core.Bool.{true, false}
use mathlib.Core.List.{append-nil}
use Prim.Native.Nat.{ℕ, ◌+◌, ◌-◌}
use lib.ListN.{length, get_or}
use lib.Seq.{sets, length-sets}
use borrow.Author.Rules.{rules}
use Rattle.path.proofs.Writings.{piece-some, piece-four, piece-mark, piece-seg, copied, copied-one}
use native.Mathlib.Omega.{arith}
use Rattle.path.proofs.text.write_piece.Goals as goal

pub bounds-out-at : goal.bounds-out-at
bounds-out-at c = omega (arith, piece-some c.args.more (get_or c.args.four 0 0))

pub returns-then-is_mark : goal.returns-then-is_mark
returns-then-is_mark c =
    let a = c.args in
    let p = piece-mark a.more a.four (sym c.is_mark.ensures ∙ c.if-is_mark.true) in
    (ap (sets a.out.now a.at) (sym p.0), ap (λ (n : ℕ). a.at + n) (sym p.1))

pub slice_bounds-copy_from_slice-end : goal.slice_bounds-copy_from_slice-end
slice_bounds-copy_from_slice-end c = omega (arith, piece-four c.args.more (get_or c.args.four 0 0) (sym c.is_mark.ensures ∙ c.if-is_mark.false))

pub bounds-out-at-then-more : goal.bounds-out-at-then-more
bounds-out-at-then-more c =
    let a = c.args in
    let four : length a.four ≡ 4 = search rules in
    let p = piece-seg a.more a.four (sym c.is_mark.ensures ∙ c.if-is_mark.false) true c.if-more.true in
    let e = copied a.out.now a.four a.at (a.at + 4 - a.at) (omega (arith, four)) (omega (arith, four, p.1)) in
    rw (c.copy_from_slice.ensures.after, e) (omega (arith, length-sets a.out.now a.at a.four, p.1))

pub returns-then-more : goal.returns-then-more
returns-then-more c =
    let a = c.args in
    let four : length a.four ≡ 4 = search rules in
    let p = piece-seg a.more a.four (sym c.is_mark.ensures ∙ c.if-is_mark.false) true c.if-more.true in
    let e = copied a.out.now a.four a.at (a.at + 4 - a.at) (omega (arith, four)) (omega (arith, four, p.1)) in
    let at : a.at + 4 ≡ a.at + length a.four = omega (arith, four) in
    (rw (c.copy_from_slice.ensures.after, e, p.0, at) (copied-one a.out.now a.four a.at 0x2E), ap (λ (n : ℕ). a.at + n) (sym p.1))

pub returns : goal.returns
returns c =
    let a = c.args in
    let four : length a.four ≡ 4 = search rules in
    let p = piece-seg a.more a.four (sym c.is_mark.ensures ∙ c.if-is_mark.false) false c.if-more.false in
    let e = copied a.out.now a.four a.at (a.at + 4 - a.at) (omega (arith, four)) (omega (arith, four, p.1)) in
    (rw (c.copy_from_slice.ensures.after, e, p.0) (ap (sets a.out.now a.at) (sym (append-nil a.four))), ap (λ (n : ℕ). a.at + n) (sym p.1))
