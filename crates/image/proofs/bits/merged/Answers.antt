-- The first bits, the n bits behind them and zeros make a byte.
use borrow.Author.Rules.{rules}
use mathlib.Core.Path.{◌≡◌}
use native.Mathlib.Omega.{arith}
use Prim.Native.Nat.{ℕ, ◌+◌, ◌-◌, ◌*◌, ◌/◌, ◌%◌, ◌≤◌, ◌<◌, ◌^◌}
use native.Mathlib.Nat.{div-mul-le_self}
use lib.Pow.{pow_pos}
use Rattle.image.proofs.Fields.{merged-low}
use Rattle.image.proofs.bits.merged.Goals as goal

high_fits : (b k r : ℕ) → b < 256 → r ≡ 2 ^ k → b / 2 ^ k * r < 2 ^ 64
high_fits b k r h e = rw e (omega (arith, div-mul-le_self b (2 ^ k)))

all-fits : (b s n v p q r : ℕ) → b < 256 → s + n ≤ 8 → p ≡ 2 ^ (8 - s) → q ≡ 2 ^ n → r ≡ 2 ^ (8 - s - n) → b / 2 ^ (8 - s) * p + v % q * r < 256
all-fits b s n v p q r hb hs e f g = rw (e, f, g) (merged-low b s n v hb hs)

pub overflow_mul-high : goal.overflow_mul-high
overflow_mul-high c =
    let a = c.args in record { fits = rw c.from.ensures (high_fits a.b (8 - a.behind) c.power.result (search rules) c.power.ensures) }

pub nonzero_rem-result : goal.nonzero_rem-result
nonzero_rem-result c = omega (arith, c.power-2.ensures, pow_pos c.args.n)

pub overflow_mul-result : goal.overflow_mul-result
overflow_mul-result c =
    let a = c.args in record { fits = omega (arith, all-fits a.b a.behind a.n a.v c.power.result c.power-2.result c.power-3.result (search rules) c.requires c.power.ensures c.power-2.ensures c.power-3.ensures) }

pub overflow_add-result : goal.overflow_add-result
overflow_add-result c =
    let a = c.args in record { fits = rw c.from.ensures (omega (arith, all-fits a.b a.behind a.n a.v c.power.result c.power-2.result c.power-3.result (search rules) c.requires c.power.ensures c.power-2.ensures c.power-3.ensures)) }

pub overflow_cast-result : goal.overflow_cast-result
overflow_cast-result c =
    let a = c.args in record { fits = rw c.from.ensures (all-fits a.b a.behind a.n a.v c.power.result c.power-2.result c.power-3.result (search rules) c.requires c.power.ensures c.power-2.ensures c.power-3.ensures) }

pub returns : goal.returns
returns c = rw (c.from.ensures, c.power.ensures, c.power-2.ensures, c.power-3.ensures)
