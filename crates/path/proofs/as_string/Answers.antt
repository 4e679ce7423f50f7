-- The text is written only where its length fits.
use mathlib.Core.Path.{refl, ap}
use Prim.Native.Nat.{ℕ}
use lib.ListN.{length}
use Rattle.pkg_length.specs.Refusal.{gives}
use Rattle.path.proofs.Writings.{same-wrote, wrote_as, text-fits, text-over}
use native.Mathlib.Omega.{arith}
use Rattle.path.proofs.as_string.Goals as goal

pub returns-then-out-n : goal.returns-then-out-n
returns-then-out-n c =
    let out = c.args.out.now in
    wrote_as out (text-over (length out) _ _ c.in_ok-path.ensures (omega (arith, c.text_length-n.ensures))) refl

pub returns : goal.returns
returns c =
    let out = c.args.out.now in
    wrote_as out (text-fits (length out) _ _ c.in_ok-path.ensures (omega (arith, c.text_length-n.ensures)))
    (same-wrote c.write_text.ensures (ap (λ (n : ℕ). gives n) c.text_length-n.ensures))
