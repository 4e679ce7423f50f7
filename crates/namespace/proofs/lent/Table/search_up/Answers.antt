-- What the scopes hold, by the definition.
use mathlib.Core.Path.{ap, ap₂, sym, ◌∙◌}
use mathlib.Core.List.{List}
use Prim.Native.Nat.{ℕ}
use lib.ListN.{length, take, drop}
use Rattle.name_object.specs.Component.{component_limit}
use Rattle.name_object.specs.Memory.{told}
use Rattle.table.specs.Limits.{limits}
use Rattle.namespace.specs.Settled.{segment_of}
use Rattle.table.specs.Inside.{nearest_of, deepest, value_held}
use Rattle.namespace.proofs.PathKeys.{settled-count}
use Rattle.table.proofs.LevelCalls.{length-ls}
use Rattle.table.proofs.Objects.{long}
use Rattle.table.proofs.BindCalls.{bindings-held}
use Rattle.namespace.proofs.SearchCalls.{up_none, up-range, up-found}
use native.Mathlib.Omega.{arith}
use Rattle.namespace.proofs.lent.Table.search_up.Goals as goal

pub slice_bounds-nearest_value-end : goal.slice_bounds-nearest_value-end
slice_bounds-nearest_value-end c = sym (length-ls limits (omega arith) c.args.self.now.words.now c.args.self.now.formed)

pub slice_bounds-nearest_value-end-2 : goal.slice_bounds-nearest_value-end-2
slice_bounds-nearest_value-end-2 c = omega (arith, long limits (omega arith) c.args.self.now.words.now c.args.self.now.formed)

pub nearest_value-found-requires : goal.nearest_value-found-requires
nearest_value-found-requires c =
    let ws = c.args.self.now.words.now in
    let ok = c.args.self.now.formed in
    (omega (arith, length-ls limits (omega arith) ws ok), omega (arith, c.as_slice.ensures.keyed.short, ap length c.as_slice.ensures.is), bindings-held limits (omega arith) ws ok)

pub returns-in-None : goal.returns-in-None
returns-in-None c =
    ap (told component_limit) (sym (up_none c.args.self.now.words.now c.args.self.now.formed c.args.scope.now.name (segment_of c.args.segment) c.nearest_value-found.result (c.nearest_value-found.ensures ∙ ap₂ (λ (k : ℕ) (p : List ℕ). nearest_of (deepest (value_held (take limits.levels c.args.self.now.words.now) (take limits.bindings (drop limits.levels c.args.self.now.words.now)) p k) (length p))) c.number-wanted.ensures (c.as_slice.ensures.is ∙ c.of-keys.ensures)) c.in-None.is))

pub around-requires : goal.around-requires
around-requires c = up-range c.args.self.now.words.now c.args.self.now.formed c.args.scope.now.name (segment_of c.args.segment) c.nearest_value-found.result (c.nearest_value-found.ensures ∙ ap₂ (λ (k : ℕ) (p : List ℕ). nearest_of (deepest (value_held (take limits.levels c.args.self.now.words.now) (take limits.bindings (drop limits.levels c.args.self.now.words.now)) p k) (length p))) c.number-wanted.ensures (c.as_slice.ensures.is ∙ c.of-keys.ensures)) c.in-Some.nearest c.in-Some.is

pub overflow_sub-result : goal.overflow_sub-result
overflow_sub-result c = (up-range c.args.self.now.words.now c.args.self.now.formed c.args.scope.now.name (segment_of c.args.segment) c.nearest_value-found.result (c.nearest_value-found.ensures ∙ ap₂ (λ (k : ℕ) (p : List ℕ). nearest_of (deepest (value_held (take limits.levels c.args.self.now.words.now) (take limits.bindings (drop limits.levels c.args.self.now.words.now)) p k) (length p))) c.number-wanted.ensures (c.as_slice.ensures.is ∙ c.of-keys.ensures)) c.in-Some.nearest c.in-Some.is).0

pub overflow_add-result : goal.overflow_add-result
overflow_add-result c = omega (arith, settled-count component_limit c.args.scope.now.name c.args.scope.now.settled)

pub returns-in-Some : goal.returns-in-Some
returns-in-Some c =
    up-found c.args.self.now.words.now c.args.self.now.formed c.args.scope.now.name (segment_of c.args.segment) c.nearest_value-found.result (c.nearest_value-found.ensures ∙ ap₂ (λ (k : ℕ) (p : List ℕ). nearest_of (deepest (value_held (take limits.levels c.args.self.now.words.now) (take limits.bindings (drop limits.levels c.args.self.now.words.now)) p k) (length p))) c.number-wanted.ensures (c.as_slice.ensures.is ∙ c.of-keys.ensures)) c.in-Some.nearest c.in-Some.is c.around.result c.around.ensures
