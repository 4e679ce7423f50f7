-- What the scopes hold, by the definition.
use mathlib.Core.Path.{ap, ap₂, sym, ◌∙◌}
use mathlib.Core.List.{List}
use Prim.Native.Nat.{ℕ}
use lib.ListN.{length, take}
use Rattle.name_object.specs.Component.{component_limit}
use Rattle.name_object.specs.Memory.{told}
use Rattle.table.specs.Limits.{limits}
use Rattle.namespace.specs.Settled.{segment_of}
use Rattle.table.specs.Inside.{depth_of, deepest, level_held}
use Rattle.namespace.proofs.PathKeys.{settled-count}
use Rattle.table.proofs.LevelCalls.{length-ls}
use Rattle.namespace.proofs.SearchCalls.{level-none, level-range, level-found}
use native.Mathlib.Omega.{arith}
use Rattle.namespace.proofs.lent.Table.level_up.Goals as goal

pub slice_bounds-nearest_level-end : goal.slice_bounds-nearest_level-end
slice_bounds-nearest_level-end c = sym (length-ls limits (omega arith) c.args.self.now.words.now c.args.self.now.formed)

pub nearest_level-held-requires : goal.nearest_level-held-requires
nearest_level-held-requires c =
    (omega (arith, length-ls limits (omega arith) c.args.self.now.words.now c.args.self.now.formed), omega (arith, c.as_slice.ensures.keyed.short, ap length c.as_slice.ensures.is))

pub returns-in-None : goal.returns-in-None
returns-in-None c =
    ap (told component_limit) (sym (level-none c.args.self.now.words.now c.args.self.now.formed c.args.scope.now.name (segment_of c.args.segment) c.nearest_level-held.result (c.nearest_level-held.ensures ∙ ap₂ (λ (k : ℕ) (p : List ℕ). depth_of (deepest (level_held (take limits.levels c.args.self.now.words.now) p k) (length p))) c.number.ensures (c.as_slice.ensures.is ∙ c.of-keys.ensures)) c.in-None.is))

pub around-requires : goal.around-requires
around-requires c = level-range c.args.self.now.words.now c.args.self.now.formed c.args.scope.now.name (segment_of c.args.segment) c.nearest_level-held.result (c.nearest_level-held.ensures ∙ ap₂ (λ (k : ℕ) (p : List ℕ). depth_of (deepest (level_held (take limits.levels c.args.self.now.words.now) p k) (length p))) c.number.ensures (c.as_slice.ensures.is ∙ c.of-keys.ensures)) c.in-Some.depth c.in-Some.is

pub overflow_sub-result : goal.overflow_sub-result
overflow_sub-result c = (level-range c.args.self.now.words.now c.args.self.now.formed c.args.scope.now.name (segment_of c.args.segment) c.nearest_level-held.result (c.nearest_level-held.ensures ∙ ap₂ (λ (k : ℕ) (p : List ℕ). depth_of (deepest (level_held (take limits.levels c.args.self.now.words.now) p k) (length p))) c.number.ensures (c.as_slice.ensures.is ∙ c.of-keys.ensures)) c.in-Some.depth c.in-Some.is).0

pub overflow_add-result : goal.overflow_add-result
overflow_add-result c = omega (arith, settled-count component_limit c.args.scope.now.name c.args.scope.now.settled)

pub returns-in-Some : goal.returns-in-Some
returns-in-Some c =
    level-found c.args.self.now.words.now c.args.self.now.formed c.args.scope.now.name (segment_of c.args.segment) c.nearest_level-held.result (c.nearest_level-held.ensures ∙ ap₂ (λ (k : ℕ) (p : List ℕ). depth_of (deepest (level_held (take limits.levels c.args.self.now.words.now) p k) (length p))) c.number.ensures (c.as_slice.ensures.is ∙ c.of-keys.ensures)) c.in-Some.depth c.in-Some.is c.around.result c.around.ensures
