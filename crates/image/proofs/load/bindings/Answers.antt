-- The words so far and the bindings left are all of them.
use borrow.Author.Rules.{rules}
use native.Mathlib.Omega.{arith}
use mathlib.Core.Path.{◌≡◌, refl, ap, sym, subst, ◌∙◌}
use mathlib.Core.Bool.{Bool}
use mathlib.Core.List.{List, ◌++◌, map, append_assoc}
use Prim.Native.Nat.{ℕ, suc, ◌+◌, ◌-◌, ◌*◌, ◌<◌, ◌≤◌}
use lib.ListN.{length, take, drop, length-map, length-append}
use borrow.Rule.Slice.PartMut.{put_mid}
use Rattle.image.specs.Bits.{bits_in, number_at}
use Rattle.image.specs.Format.{first_edition}
use Rattle.image.proofs.Fields.{number-at-low, length-bits_in}
use Rattle.image.specs.Reader.{count_at, after, segment_number, handle_at, bindings_at, bound_at}
use Rattle.table.specs.Layout.{bind_word}
use Rattle.image.specs.Inside.{Walk, all_bound}
use Rattle.image.proofs.Checks.{minus-none}
use Rattle.image.proofs.Steps.{steps-are, steps-bindings, part-long, part-put, drop-later, finished, walk_step, own-kept, own-long, own-next, after_is, bound-none, whole_length}
use lib.Seq.{length-take-le}
use Rattle.table.specs.Tree.{Binding}
use Rattle.image.proofs.load.bindings.Goals as goal

less : (total m c d : ℕ) → d ≡ c → total - m - c ≡ total - (m + d)
less total m c d e = omega arith

from_start : (bs : List Bool) (n total : ℕ) → Walk first_edition bs (suc n) (32 + n * 41) total → Walk first_edition bs (suc n - 0) (32 + n * 41) (128 + total - 128)
from_start bs n total w = rw (minus-none (suc n), none total) w
  where
    none : (n : ℕ) → 128 + n - 128 ≡ n
    none n = omega arith

all-long : (ws : List ℕ) (D : List Binding) (total : ℕ) → 128 ≤ length ws → length D ≡ total → length (take 128 ws ++ map bind_word D) ≡ 128 + total
all-long ws D total h e = rw (length-append (take 128 ws) (map bind_word D), length-take-le 128 ws h, length-map D bind_word, e)

pub loop-k-init : goal.loop-k-init
loop-k-init c =
    let a = c.args in
    record {
      all = ap (λ (j : ℕ). take 128 a.words.now ++ map bind_word (bound_at first_edition (bits_in a.bytes.now) j (32 + a.n * 41))) (minus-none (suc a.n));
      kept = refl;
      long = refl;
      few = search rules;
      walk = from_start (bits_in a.bytes.now) a.n (length (all_bound (bits_in a.bytes.now) a.n)) c.requires.4;
    }

pub field-count-requires : goal.field-count-requires
field-count-requires c =
    let a = c.args in
    let l = c.loop-k in
    let w = walk_step first_edition (bits_in a.bytes.now) (suc a.n) l.k l.at (128 + (length (all_bound (bits_in a.bytes.now) a.n)) - l.m) (search rules) l.invariant.walk in (
      omega (arith, w.0, length-bits_in a.bytes.now),
      search rules,
      omega
          (arith, w.0, length-bits_in a.bytes.now, c.requires.3),
    )

pub overflow_add-at-in-loop-k : goal.overflow_add-at-in-loop-k
overflow_add-at-in-loop-k c =
    let a = c.args in
    let l = c.loop-k in
    let w = walk_step first_edition (bits_in a.bytes.now) (suc a.n) l.k l.at (128 + (length (all_bound (bits_in a.bytes.now) a.n)) - l.m) (search rules) l.invariant.walk in
    record { fits = omega (arith, w.0, length-bits_in a.bytes.now, c.requires.3) }

pub each-requires : goal.each-requires
each-requires c =
    let a = c.args in
    let l = c.loop-k in
    let bs = bits_in a.bytes.now in
    let n = c.field-count.result in
    let w = walk_step first_edition bs (suc a.n) l.k l.at (128 + (length (all_bound (bits_in a.bytes.now) a.n)) - l.m) (search rules) l.invariant.walk in
    let r : l.m + n ≤ length l.words = omega (arith, w.1, c.field-count.ensures, l.invariant.long, l.invariant.few, c.requires.0) in (
      search rules,
      λ k h. let j : k < n = omega (arith, h, part-long l.words l.m n r) in (
        (omega (arith, j, w.0, length-bits_in a.bytes.now, c.field-count.ensures), omega (arith, j, w.0, length-bits_in a.bytes.now, c.field-count.ensures, c.requires.3)),
        omega (arith, j, w.0, length-bits_in a.bytes.now, c.field-count.ensures, c.requires.3),
      ),
    )

pub overflow_add-at-in-loop-k-2 : goal.overflow_add-at-in-loop-k-2
overflow_add-at-in-loop-k-2 c =
    let a = c.args in
    let l = c.loop-k in
    let w = walk_step first_edition (bits_in a.bytes.now) (suc a.n) l.k l.at (128 + (length (all_bound (bits_in a.bytes.now) a.n)) - l.m) (search rules) l.invariant.walk in
    record {
      fits = omega (
        arith,
        w.0,
        length-bits_in
            a.bytes.now,
        c.requires.3,
        c.field-count.ensures,
        number-at-low (bits_in a.bytes.now) 10 l.at,
      );
    }

pub overflow_mul-at-in-loop-k : goal.overflow_mul-at-in-loop-k
overflow_mul-at-in-loop-k c =
    let a = c.args in
    let l = c.loop-k in
    let w = walk_step first_edition (bits_in a.bytes.now) (suc a.n) l.k l.at (128 + (length (all_bound (bits_in a.bytes.now) a.n)) - l.m) (search rules) l.invariant.walk in
    record {
      fits = omega (
        arith,
        w.0,
        length-bits_in
            a.bytes.now,
        c.requires.3,
        c.field-count.ensures,
        number-at-low (bits_in a.bytes.now) 10 l.at,
      );
    }

pub overflow_add-at-in-loop-k-3 : goal.overflow_add-at-in-loop-k-3
overflow_add-at-in-loop-k-3 c =
    let a = c.args in
    let l = c.loop-k in
    let w = walk_step first_edition (bits_in a.bytes.now) (suc a.n) l.k l.at (128 + (length (all_bound (bits_in a.bytes.now) a.n)) - l.m) (search rules) l.invariant.walk in
    record {
      fits = omega (
        arith,
        w.0,
        length-bits_in
            a.bytes.now,
        c.requires.3,
        c.field-count.ensures,
        number-at-low (bits_in a.bytes.now) 10 l.at,
      );
    }

pub loop-k-preserved : goal.loop-k-preserved
loop-k-preserved c =
    let a = c.args in
    let l = c.loop-k in
    let bs = bits_in a.bytes.now in
    let n = c.field-count.result in
    let w = walk_step first_edition bs (suc a.n) l.k l.at (128 + (length (all_bound (bits_in a.bytes.now) a.n)) - l.m) (search rules) l.invariant.walk in
    let r : l.m + n ≤ length l.words = omega (arith, w.1, c.field-count.ensures, l.invariant.long, l.invariant.few, c.requires.0) in
    let part = c.each.new.words in
    let D = map bind_word (bindings_at first_edition bs n (l.at + 10)) in
    let is : part ≡ D =
    steps-are (λ p. bind_word (record { segment = segment_number (number_at bs 32 p); handle = handle_at first_edition bs p })) 42 part n (l.at + 10)
    (c.each.auto.words ∙ part-long l.words l.m n r) (λ k j. c.each.ensures k (omega (arith, j, part-long l.words l.m n r)))
    ∙ steps-bindings bs n (l.at + 10) in
    let new = put_mid l.m (l.m + n - l.m) l.words part in
    let e = part-put l.words part D l.m n is in
    let z = after_is bs l.at n c.field-count.ensures in
    record {
      all = own-next first_edition bs (suc a.n) l.k l.at l.m l.words new (search rules) n c.field-count.ensures r e (l.at + 10 + n * 42)
          (take 128 a.words.now ++ map bind_word (bound_at first_edition bs (suc a.n) (32 + a.n * 41))) z l.invariant.all;
      kept = own-kept first_edition bs (suc a.n) l.k l.at l.m l.words new (search rules) n c.field-count.ensures r e
          ∙ drop-later l.words a.words.now l.m (l.m + n) l.invariant.kept (search rules);
      long = own-long first_edition bs (suc a.n) l.k l.at l.m l.words new (search rules) n c.field-count.ensures r e ∙ l.invariant.long;
      few = omega (arith, w.1, c.field-count.ensures, l.invariant.few);
      walk = subst (λ (q : ℕ). Walk first_edition bs (suc a.n - (l.k + 1)) q (128 + (length (all_bound (bits_in a.bytes.now) a.n)) - (l.m + n))) (sym z)
          (subst (λ (x : ℕ). Walk first_edition bs (suc a.n - (l.k + 1)) (after first_edition bs l.at) x)
          (less (128 + (length (all_bound (bits_in a.bytes.now) a.n))) l.m (count_at bs l.at) n c.field-count.ensures) w.2);
    }

pub returns : goal.returns
returns c =
    let a = c.args in let l = c.loop-k in let z : suc a.n - l.k ≡ 0 = search rules in
    let e = sym (ap (λ (j : ℕ). take l.m l.words ++ map bind_word (bound_at first_edition (bits_in a.bytes.now) j l.at)) z ∙ bound-none
    (take l.m l.words) (bits_in a.bytes.now) l.at) ∙ l.invariant.all in
    finished l.words a.words.now (take 128 a.words.now ++ map bind_word
    (bound_at first_edition (bits_in a.bytes.now) (suc a.n) (32 + a.n * 41))) l.m (128 + (length (all_bound (bits_in a.bytes.now) a.n)))
    (whole_length l.words (take 128 a.words.now ++ map bind_word (bound_at first_edition (bits_in a.bytes.now) (suc a.n) (32 + a.n * 41)))
    l.m (128 + (length (all_bound (bits_in a.bytes.now) a.n))) e (all-long a.words.now (bound_at first_edition (bits_in a.bytes.now) (suc a.n) (32 + a.n * 41)) (length (all_bound (bits_in a.bytes.now) a.n))
    (omega (arith, c.requires.0)) refl)
    (omega (arith, l.invariant.long, l.invariant.few, c.requires.0))) e l.invariant.kept ∙ append_assoc (take 128 a.words.now)
    (map bind_word (bound_at first_edition (bits_in a.bytes.now) (suc a.n) (32 + a.n * 41))) (drop (128 + (length (all_bound (bits_in a.bytes.now) a.n))) a.words.now)
