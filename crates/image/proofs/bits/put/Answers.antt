-- What is left to write, put behind what stands, is the whole field; the part that ends it leaves nothing.
use borrow.Author.Rules.{rules}
use native.Mathlib.Omega.{arith}
use mathlib.Core.Path.{◌≡◌, refl, ap, ◌∙◌}
use Prim.Native.Nat.{ℕ, ◌+◌, ◌-◌, ◌*◌, ◌/◌, ◌≤◌, ◌^◌}
use mathlib.Core.List.{List}
use native.Mathlib.Nat.{div-one}
use lib.ListN.{length}
use Rattle.image.specs.Bits.{bits}
use Rattle.image.specs.Inside.{ink}
use Rattle.image.proofs.Ink.{length-ink, ink-split}
use Rattle.image.proofs.Fields.{length-bits}
use Rattle.image.proofs.bits.put.Goals as goal

kept : (out out₀ new : List ℕ) (p n v : ℕ) → p + n ≤ 8 * length out → length out ≡ length out₀ → new ≡ ink out p (bits n v) → length new ≡ length out₀
kept out out₀ new p n v h l e = rw e (length-ink out p (bits n v) (rw (length-bits n v) h) ∙ l)

all-bits : (out : List ℕ) (p n w v : ℕ) → n ≡ w → ink out p (bits n (v / 2 ^ (w - n))) ≡ ink out p (bits w v)
all-bits out p n w v e = let z : w - n ≡ 0 = omega arith in rw (z, e, div-one v)

pub loop-left-init : goal.loop-left-init
loop-left-init c =
    let a = c.args in
    let none : a.at + (a.width - a.width) ≡ a.at = omega arith in
    (ap (λ (k : ℕ). ink a.out.now k (bits a.width a.v)) none, search rules, search rules, refl)

pub shape_of-out-then-n-left : goal.shape_of-out-then-n-left
shape_of-out-then-n-left c =
    let a = c.args in
    let l = c.loop-left in
    let n = c.part-n.result in
    kept l.out a.out.now c.put_part.new.out (a.at + (a.width - l.left)) n (a.v / 2 ^ (l.left - n))
    (search rules) l.invariant.3 c.put_part.ensures

pub returns-then-n-left : goal.returns-then-n-left
returns-then-n-left c =
    let a = c.args in
    let l = c.loop-left in
    let n = c.part-n.result in
    let whole : n ≡ l.left = search rules in
    c.put_part.ensures
    ∙ all-bits l.out (a.at + (a.width - l.left)) n l.left a.v whole ∙ l.invariant.0

pub loop-left-preserved : goal.loop-left-preserved
loop-left-preserved c =
    let a = c.args in
    let l = c.loop-left in
    let n = c.part-n.result in
    let place : a.at + (a.width - (l.left - n)) ≡ a.at + (a.width - l.left) + n = search rules in
    let out = l.out in
    let p = a.at + (a.width - l.left) in (
      ap (λ (k : ℕ). ink c.put_part.new.out k (bits (l.left - n) a.v)) place
          ∙ ap (λ (o : List ℕ). ink o (p + n) (bits (l.left - n) a.v)) c.put_part.ensures
          ∙ ink-split out p n l.left a.v (search rules) (search rules) ∙ l.invariant.0,
      search rules,
      search rules,
      kept out a.out.now c.put_part.new.out p n (a.v / 2 ^ (l.left - n)) (search rules) l.invariant.3
          c.put_part.ensures,
    )
