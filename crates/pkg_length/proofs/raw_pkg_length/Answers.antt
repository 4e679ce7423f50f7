-- Each return is one case of the definition, in its order. That the length fits a word: at most three extra bytes, each below 256.
use mathlib.Core.Path.{◌∙◌}
use Prim.Native.Nat.{◌-◌}
use native.Mathlib.Omega.{arith}
use lib.ListN.{length, drop, length-drop}
use Rattle.std.proofs.lemmas.List.{take_all}
use Rattle.pkg_length.proofs.Laws.{high-small}
use Rattle.pkg_length.proofs.Pkgs.{raw-over, raw-spelt, spelt-empty, spelt_plain, spelt-short, spelt-long}
use Rattle.pkg_length.proofs.raw_pkg_length.Goals as goal

pub returns-then-input-gt65536 : goal.returns-then-input-gt65536
returns-then-input-gt65536 c = raw-over _ c.if-input-gt65536.true

pub returns-in_default : goal.returns-in_default
returns-in_default c = spelt-empty _ (omega arith) ∙ raw-spelt _ c.if-input-gt65536.false

pub returns-then-byte_count-eq0 : goal.returns-then-byte_count-eq0
returns-then-byte_count-eq0 c = rw c.from-lead_byte.ensures (spelt_plain _ (omega arith) (omega arith) ∙ raw-spelt _ (omega arith))

pub returns-then-rest-byte_count : goal.returns-then-rest-byte_count
returns-then-rest-byte_count c = spelt-short _ (omega arith) (λ e. omega arith) (omega arith) ∙ raw-spelt _ (omega arith)

pub overflow_mul-result : goal.overflow_mul-result
overflow_mul-result c = omega (arith, high-small _ _ _ (λ i. (c.type_inv.input i).fits) (omega (arith, c.type_inv.input 0)) c.little_endian-high.ensures)

pub overflow_add-result : goal.overflow_add-result
overflow_add-result c = omega (arith, high-small _ _ _ (λ i. (c.type_inv.input i).fits) (omega (arith, c.type_inv.input 0)) c.little_endian-high.ensures)

pub returns : goal.returns
returns c =
    let xs = c.args.input.now in
    rw (c.little_endian-high.ensures, c.from-lead_byte.ensures, take_all (length xs - 1) (drop 1 xs) (omega (arith, length-drop 1 xs))) (spelt-long _ (omega arith) (λ e. omega arith) (omega arith)) ∙ raw-spelt _ (omega arith)
