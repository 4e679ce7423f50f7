-- The count, and the bindings behind it.
use borrow.Author.Rules.{rules}
use native.Mathlib.Omega.{arith}
use mathlib.Core.List.{List, map}
use Prim.Native.Nat.{ℕ, ◌+◌, ◌*◌, ◌≤◌}
use lib.ListN.{length}
use Rattle.image.specs.Format.{first_edition}
use Rattle.image.specs.Bits.{spelled, bits}
use Rattle.table.specs.Layout.{binding_of}
use Rattle.image.specs.Image.{binding_fields}
use Rattle.image.proofs.Written.{ink-next, ink-clean, ink-length}
use Rattle.image.proofs.Fields.{length-bits}
use Rattle.image.proofs.save.own.Goals as goal

room-first : (out : List ℕ) (p n : ℕ) → p + (10 + n * 42) ≤ 8 * length out → p + length (bits 10 n) ≤ 8 * length out
room-first out p n h = rw (length-bits 10 n) (omega arith)

pub put-requires : goal.put-requires
put-requires c =
    let a = c.args in
    (omega (arith, c.requires.1.room), search rules, search rules, omega (arith, c.requires.1.low))

pub overflow_add-at : goal.overflow_add-at
overflow_add-at c = record { fits = omega (arith, c.requires.1.low) }

pub bindings-requires : goal.bindings-requires
bindings-requires c =
    let a = c.args in
    let r = room-first a.out.now a.at (length a.words.now) c.requires.1.room in (
      search rules,
      record {
        clean = ink-clean a.out.now a.at (bits 10 (length a.words.now)) c.put.new.out
            c.put.ensures r (a.at + 10) (rw (length-bits 10 (length a.words.now)));
        room = rw (ink-length a.out.now a.at (bits 10 (length a.words.now)) c.put.new.out
            c.put.ensures r) (omega (arith, c.requires.1.room));
        low = omega (arith, c.requires.1.low);
      },
    )

pub returns : goal.returns
unfolding spelled
returns c =
    let a = c.args in
    let r = room-first a.out.now a.at (length a.words.now)
    c.requires.1.room in
    ink-next a.out.now a.at (bits 10 (length a.words.now)) c.put.new.out
    c.put.ensures r (a.at + 10)
    (spelled (binding_fields first_edition (map binding_of a.words.now))) c.bindings.new.out
    c.bindings.ensures (rw (length-bits 10 (length a.words.now)))
