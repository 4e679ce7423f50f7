-- The levels so far, with their bindings, stand behind what stood.
use borrow.Author.Rules.{rules}
use native.Mathlib.Omega.{arith}
use mathlib.Core.Path.{◌≡◌, refl, ap, ap₂, sym, ◌∙◌}
use mathlib.Core.List.{List, ◌∷◌, ◌++◌, map}
use Prim.Native.Nat.{ℕ, ◌+◌, ◌*◌, ◌≤◌}
use lib.ListN.{length, get_or, take, drop, length-map, length-drop, length-append}
use lib.Seq.{length-take-le, drop-drop}
use Rattle.table.specs.Layout.{count_of, binding_of}
use Rattle.table.specs.Inside.{counts}
use Rattle.table.specs.Tree.{Binding}
use Rattle.table.proofs.Words.{map-take, map-drop}
use Rattle.image.specs.Format.{first_edition}
use Rattle.image.specs.Bits.{field, spelled, bits}
use Rattle.image.specs.Image.{binding_fields}
use Rattle.image.specs.Inside.{ink, counted_fields}
use Rattle.image.proofs.Fields.{length-bits}
use Rattle.image.proofs.Written.{counted_next, turn, ink-clean, ink-length, length-counted, length-bindings}
use Rattle.image.proofs.save.bound.Goals as goal

own-kept : (o o' : List ℕ) (q : ℕ) (ws : List ℕ) → q + (10 + length ws * 42) ≤ 8 * length o → o' ≡ ink o q (spelled (field 10 (length ws) ∷ binding_fields first_edition (map binding_of ws))) → length o' ≡ length o
unfolding spelled
own-kept o o' q ws room e =
    ink-length o q (bits 10 (length ws) ++ spelled (binding_fields first_edition (map binding_of ws))) o' e
    (rw (length-append (bits 10 (length ws)) (spelled (binding_fields first_edition (map binding_of ws))), length-bits 10 (length ws), length-bindings first_edition (map binding_of ws), length-map ws binding_of) room)

-- how long the levels so far are
so-far : (ls bs : List ℕ) (k : ℕ) → k ≤ length ls → counts (take k ls) ≤ length bs → length (spelled (counted_fields first_edition (take k ls) (map binding_of bs))) ≡ k * 10 + counts (take k ls) * 42
so-far ls bs k h few =
    length-counted first_edition (take k ls) (map binding_of bs) (rw (length-map bs binding_of) few)
    ∙ ap (λ (j : ℕ). j * 10 + counts (take k ls) * 42) (length-take-le k ls h)

pub loop-word-init : goal.loop-word-init
loop-word-init c = record {
  is = unfold counted_fields spelled in sym c.requires.3.clean;
  long = refl;
  left = unfold counts in refl;
  place = unfold counts in omega arith;
}

pub split_at-requires : goal.split_at-requires
split_at-requires c =
    let a = c.args in
    let l = c.loop-word in
    let t = turn a.levels.now l.word-index (length a.bindings.now) (search rules) c.requires.1 in
    omega (arith, c.count.ensures, t.more, t.less, ap length l.invariant.left, length-drop (counts (take l.word-index a.levels.now)) a.bindings.now)

pub own-requires : goal.own-requires
own-requires c =
    let a = c.args in
    let l = c.loop-word in
    let k = l.word-index in
    let t = turn a.levels.now k (length a.bindings.now) (search rules) c.requires.1 in
    let n = c.split_at.ensures.front_len ∙ c.count.ensures in
    let long = so-far a.levels.now a.bindings.now k (search rules) (omega (arith, t.more, t.less)) in (
      omega (arith, n, t.more, t.less, c.requires.2),
      record {
        clean = ink-clean a.out.now a.at (spelled (counted_fields first_edition (take k a.levels.now) (map binding_of a.bindings.now))) l.out l.invariant.is
            (rw long (omega (arith, c.requires.3.room, t.more, t.less))) l.at (rw long l.invariant.place);
        room = omega (arith, n, c.requires.3.room, t.more, t.less, l.invariant.long, l.invariant.place);
        low = omega (arith, n, c.requires.3.low, t.more, t.less, l.invariant.place);
      },
    )

pub overflow_add-at-in-loop-word : goal.overflow_add-at-in-loop-word
overflow_add-at-in-loop-word c =
    let a = c.args in
    let l = c.loop-word in
    let t = turn a.levels.now l.word-index (length a.bindings.now) (search rules) c.requires.1 in
    record { fits = omega (arith, c.split_at.ensures.front_len, c.count.ensures, c.requires.3.low, t.more, t.less, l.invariant.place) }

pub loop-word-preserved : goal.loop-word-preserved
loop-word-preserved c =
    let a = c.args in
    let l = c.loop-word in
    let k = l.word-index in
    let m = counts (take k a.levels.now) in
    let t = turn a.levels.now k (length a.bindings.now) (search rules) c.requires.1 in
    let n = length c.split_at.result.0.now in
    let is : n ≡ count_of (get_or a.levels.now k 0) = c.split_at.ensures.front_len ∙ c.count.ensures in
    let own : map binding_of c.split_at.result.0.now ≡ take n (drop m (map binding_of a.bindings.now)) =
    ap (map binding_of) (c.split_at.ensures.front ∙ ap₂ (λ (j : ℕ) (x : List ℕ). take j x) (sym c.split_at.ensures.front_len) l.invariant.left)
    ∙ map-take binding_of n (drop m a.bindings.now) ∙ ap (take n) (map-drop binding_of m a.bindings.now) in
    record {
      is = counted_next a.out.now l.out c.own.new.out a.at l.invariant.long first_edition a.levels.now (map binding_of a.bindings.now) k l.at m n
          (search rules) is refl (rw (length-map a.bindings.now binding_of) (omega (arith, t.more, t.less))) l.invariant.is
          (omega (arith, c.requires.3.room, t.more, t.less)) l.invariant.place
          (c.own.ensures ∙ ap (λ (x : List Binding). ink l.out l.at (spelled (field 10 n ∷ binding_fields first_edition x))) own);
      long = own-kept l.out c.own.new.out l.at c.split_at.result.0.now (omega (arith, is, c.requires.3.room, t.more, t.less, l.invariant.long, l.invariant.place)) c.own.ensures ∙ l.invariant.long;
      left = c.split_at.ensures.back ∙ ap₂ (λ (j : ℕ) (x : List ℕ). drop j x) c.count.ensures l.invariant.left
          ∙ drop-drop (count_of (get_or a.levels.now k 0)) m a.bindings.now ∙ ap (λ (j : ℕ). drop j a.bindings.now) t.more;
      place = omega (arith, is, t.more, l.invariant.place);
    }
