-- The parts stand one behind another, as `filled` says; that all of `rest` is put shows that it has 26 bytes.
use mathlib.Core.Path.{◌≡◌, ◌∙◌, ap}
use mathlib.Core.List.{List}
use lib.ListN.{length, take}
use Prim.Native.Nat.{ℕ, ◌+◌}
use borrow.Author.Rules.{rules}
use Rattle.header.proofs.Filled.{filled, low-four}
use Rattle.header.proofs.fill.fill.Goals as goal

pub returns : goal.returns
returns c =
    let a = c.args in
    let len : length a.rest.now ≡ 26 = search rules in
    filled (record { signature = a.s; revision = a.revision; rest = a.rest.now; body = a.body.now }) len a.out.now
    (c.copy_from_slice.ensures.after ∙ c.letters.ensures)
    (c.copy_from_slice-2.ensures.after ∙ ap (λ (xs : List ℕ). take 4 xs) c.to_le_bytes.ensures ∙ low-four (36 + length a.body.now))
    c.copy_from_slice-3.ensures.after
    c.copy_from_slice-4.ensures.after
    c.copy.ensures
    c.checksum.ensures
