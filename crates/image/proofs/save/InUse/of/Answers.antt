-- The used words are the tree's.
use native.Mathlib.Omega.{arith}
use mathlib.Core.Path.{◌≡◌, ap, sym, ◌∙◌}
use Prim.Native.Nat.{ℕ, ◌+◌, ◌-◌}
use lib.ListN.{take, drop}
use lib.Seq.{length-take-le}
use Rattle.image.proofs.Saving.{long-enough, levels-used, bindings-used, objects-used, few-objects, filled}
use Rattle.image.proofs.save.InUse.of.Goals as goal

behind : (n : ℕ) → 641 + n - 641 ≡ n
behind n = omega arith

pub bounds-table-640 : goal.bounds-table-640
bounds-table-640 c = omega (arith, long-enough c.args.table.now c.requires)

pub slice_bounds-used-end : goal.slice_bounds-used-end
slice_bounds-used-end c = sym (length-take-le 128 c.args.table.now (omega (arith, long-enough c.args.table.now c.requires)))

pub slice_bounds-used-end-2 : goal.slice_bounds-used-end-2
slice_bounds-used-end-2 c = omega (arith, long-enough c.args.table.now c.requires)

pub overflow_add-result : goal.overflow_add-result
overflow_add-result c = record { fits = omega (arith, few-objects c.args.table.now c.requires) }

pub slice_bounds-result-end : goal.slice_bounds-result-end
slice_bounds-result-end c = omega (arith, long-enough c.args.table.now c.requires, few-objects c.args.table.now c.requires)

pub invariant_of-result : goal.invariant_of-result
invariant_of-result c =
    let ws = c.args.table.now in
    record {
      filled = filled ws c.requires
          (record {
            levels = c.used.ensures ∙ levels-used ws c.requires;
            bindings = c.used-2.ensures ∙ bindings-used ws c.requires;
            objects = ap (λ (n : ℕ). take n (drop 641 ws)) (behind _) ∙ objects-used ws c.requires;
          });
    }

pub returns : goal.returns
returns c =
    let ws = c.args.table.now in
    record {
      levels = c.used.ensures ∙ levels-used ws c.requires;
      bindings = c.used-2.ensures ∙ bindings-used ws c.requires;
      objects = ap (λ (n : ℕ). take n (drop 641 ws)) (behind _) ∙ objects-used ws c.requires;
    }
