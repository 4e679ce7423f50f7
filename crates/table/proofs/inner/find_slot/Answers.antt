-- The library's search by the words' segments.
use mathlib.Core.Path.{◌≡◌, ap, sym, subst, ◌∙◌}
use mathlib.Core.List.{map}
use Prim.Native.Nat.{ℕ, ◌+◌, ◌-◌, ◌/◌, ◌^◌}
use lib.ListN.{take, drop}
use borrow.Author.Rules.{rules}
use Rattle.std.specs.Prelude.{Ok}
use Rattle.std.proofs.lemmas.List.Sorted.{answers_always}
use Rattle.table.specs.Layout.{binding_of}
use Rattle.table.specs.Inside.{slot_in, Rising}
use Rattle.table.proofs.Slots.{slot-searched, slot-missed, own-rise}
use native.Mathlib.Omega.{arith}
use Rattle.table.proofs.inner.find_slot.Goals as goal

long : (f n : ℕ) → f + n - f ≡ n
long f n = omega arith

pub returns-in-Ok : goal.returns-in-Ok
returns-in-Ok c =
    let a = c.args in
    let own = own-rise a.bindings.now a.from (a.from + a.n - a.from) (omega (arith, c.requires.0)) (subst (λ (n : ℕ). Rising a.bindings.now a.from n) (sym (long a.from a.n)) c.requires.1) in
    ap Ok c.handle.ensures
    ∙ slot-searched a.seg a.from _ own c.in-Ok.i c.in-Ok.ensures.bound (c.in-Ok.ensures.position (λ w. w / 2 ^ 32) (answers_always _ _ _ (λ f a r g called. search rules)))
    ∙ ap (λ (n : ℕ). slot_in a.seg (map binding_of (take n (drop a.from a.bindings.now))) a.from) (long a.from a.n)

pub returns-in-Err : goal.returns-in-Err
returns-in-Err c =
    let a = c.args in
    let own = own-rise a.bindings.now a.from (a.from + a.n - a.from) (omega (arith, c.requires.0)) (subst (λ (n : ℕ). Rising a.bindings.now a.from n) (sym (long a.from a.n)) c.requires.1) in
    slot-missed a.seg a.from _ own c.in-Err.i c.in-Err.ensures.bound (c.in-Err.ensures.position (λ w. w / 2 ^ 32) (answers_always _ _ _ (λ f a r g called. search rules)))
    ∙ ap (λ (n : ℕ). slot_in a.seg (map binding_of (take n (drop a.from a.bindings.now))) a.from) (long a.from a.n)
