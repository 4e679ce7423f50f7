-- The words so far and the levels left are all of them; the counts left stand from `at` on.
use borrow.Author.Rules.{rules}
use native.Mathlib.Omega.{arith}
use mathlib.Core.Path.{◌≡◌, refl, ap, sym, subst, ◌∙◌}
use mathlib.Core.Bool.{Bool}
use mathlib.Core.List.{List, ◌++◌}
use Prim.Native.Nat.{ℕ, suc, ◌+◌, ◌-◌, ◌*◌, ◌<◌}
use lib.ListN.{length, take, set, length-set}
use Rattle.image.specs.Bits.{bits_in}
use Rattle.image.specs.Format.{first_edition}
use Rattle.image.proofs.Fields.{number-at-low, length-bits_in}
use Rattle.image.specs.Reader.{segment_number, depth_at, type_at, chars_at, count_at, after, level_words, all_words}
use Rattle.table.specs.Layout.{pack}
use Rattle.image.specs.Inside.{Walk}
use Rattle.image.proofs.Checks.{minus-none}
use Rattle.image.proofs.Steps.{put_next, kept_next, finished, levels-more, walk_step, root-first, after_is, level-word-none}
use lib.Seq.{drop-set-lt}
use Rattle.image.proofs.load.levels.Goals as goal

started : (bs : List Bool) (n total own : ℕ) → own ≡ count_at bs (32 + n * 41) → Walk first_edition bs n (after first_edition bs (32 + n * 41)) (total - count_at bs (32 + n * 41))
    → Walk first_edition bs (n - 0) (32 + n * 41 + 10 + own * 42) (total - count_at bs (32 + n * 41))
started bs n total own e w = rw (minus-none n) (subst (λ (q : ℕ). Walk first_edition bs n q (total - count_at bs (32 + n * 41))) (sym (after_is bs (32 + n * 41) own e)) w)

pub field-own-requires : goal.field-own-requires
field-own-requires c =
    let a = c.args in
    let w = c.requires.4.1 in
    (omega (arith, w.0, length-bits_in a.bytes.now), search rules, search rules)

pub packed_level-requires : goal.packed_level-requires
packed_level-requires c =
    let a = c.args in
    (search rules, search rules, rw c.field-own.ensures (number-at-low (bits_in a.bytes.now) 10 (32 + a.n * 41)), search rules)

pub overflow_mul-at : goal.overflow_mul-at
overflow_mul-at c =
    let a = c.args in record { fits = omega (arith, c.field-own.ensures, number-at-low (bits_in a.bytes.now) 10 (32 + a.n * 41)) }

pub overflow_add-at-2 : goal.overflow_add-at-2
overflow_add-at-2 c =
    let a = c.args in record { fits = omega (arith, c.field-own.ensures, number-at-low (bits_in a.bytes.now) 10 (32 + a.n * 41)) }

pub loop-k-init : goal.loop-k-init
loop-k-init c =
    let a = c.args in
    let r = c.requires.4 in
    record {
      all = root-first (bits_in a.bytes.now) a.n a.words.now c.field-own.result c.packed_level.result.0 (32 + a.n * 41 + 10 + c.field-own.result * 42) (search rules) c.packed_level.ensures c.field-own.ensures refl;
      kept = refl;
      long = refl;
      walk = (r.0 - count_at (bits_in a.bytes.now) (32 + a.n * 41), started (bits_in a.bytes.now) a.n r.0 c.field-own.result c.field-own.ensures r.1.2);
    }

pub field-count-requires : goal.field-count-requires
field-count-requires c =
    let a = c.args in
    let l = c.loop-k in
    let w = walk_step first_edition (bits_in a.bytes.now) a.n l.k l.at l.invariant.walk.0 (search rules) l.invariant.walk.1 in
    (omega (arith, w.0, length-bits_in a.bytes.now), search rules, omega (arith, w.0, length-bits_in a.bytes.now, c.requires.3))

pub level_word-requires : goal.level_word-requires
level_word-requires c =
    let a = c.args in
    let l = c.loop-k in
    (omega (arith, c.requires.2), omega (arith, c.requires.2, c.requires.3), rw c.field-count.ensures (number-at-low (bits_in a.bytes.now) 10 l.at))

pub overflow_add-at-in-loop-k : goal.overflow_add-at-in-loop-k
overflow_add-at-in-loop-k c =
    let a = c.args in
    let l = c.loop-k in
    let w = walk_step first_edition (bits_in a.bytes.now) a.n l.k l.at l.invariant.walk.0 (search rules) l.invariant.walk.1 in
    record { fits = omega (arith, w.0, length-bits_in a.bytes.now, c.requires.3, c.field-count.ensures, number-at-low (bits_in a.bytes.now) 10 l.at) }

pub overflow_mul-at-in-loop-k : goal.overflow_mul-at-in-loop-k
overflow_mul-at-in-loop-k c =
    let a = c.args in
    let l = c.loop-k in
    let w = walk_step first_edition (bits_in a.bytes.now) a.n l.k l.at l.invariant.walk.0 (search rules) l.invariant.walk.1 in
    record { fits = omega (arith, w.0, length-bits_in a.bytes.now, c.requires.3, c.field-count.ensures, number-at-low (bits_in a.bytes.now) 10 l.at) }

pub overflow_add-at-in-loop-k-2 : goal.overflow_add-at-in-loop-k-2
overflow_add-at-in-loop-k-2 c =
    let a = c.args in
    let l = c.loop-k in
    let w = walk_step first_edition (bits_in a.bytes.now) a.n l.k l.at l.invariant.walk.0 (search rules) l.invariant.walk.1 in
    record { fits = omega (arith, w.0, length-bits_in a.bytes.now, c.requires.3, c.field-count.ensures, number-at-low (bits_in a.bytes.now) 10 l.at) }

pub loop-k-preserved : goal.loop-k-preserved
loop-k-preserved c =
    let a = c.args in
    let l = c.loop-k in
    let bs = bits_in a.bytes.now in
    let w = walk_step first_edition bs a.n l.k l.at l.invariant.walk.0 (search rules) l.invariant.walk.1 in
    let first = set a.words.now 0 c.packed_level.result.0 in
    let v = c.level_word.result in
    let h : l.k + 1 < length l.words = omega (arith, l.invariant.long, length-set a.words.now 0 c.packed_level.result.0, c.requires.0) in
    let z = after_is bs l.at c.field-count.result c.field-count.ensures in
    record {
      all = put_next l.words first (l.k + 1) v h
          (level_words first_edition bs (a.n - (l.k + 1)) (32 + (l.k + 1) * 41) (l.at + 10 + c.field-count.result * 42))
          (all_words first_edition bs a.n)
          (ap (λ (r : List ℕ). take (l.k + 1) l.words ++ r)
          (levels-more first_edition bs a.n l.k (32 + l.k * 41) (32 + (l.k + 1) * 41) l.at
          (l.at + 10 + c.field-count.result * 42) v (search rules)
          (c.level_word.ensures ∙ ap (λ (c : ℕ). pack (suc (depth_at first_edition bs (32 + l.k * 41))) (type_at first_edition bs (32 + l.k * 41)) c
          (segment_number (chars_at first_edition bs (32 + l.k * 41)))) c.field-count.ensures) (search rules) z)
          ∙ l.invariant.all);
      kept = kept_next l.words first (l.k + 1) v h l.invariant.kept;
      long = length-set l.words (l.k + 1) v ∙ l.invariant.long;
      walk = (
        l.invariant.walk.0 - count_at bs l.at,
        subst (λ (q : ℕ). Walk first_edition bs (a.n - (l.k + 1)) q (l.invariant.walk.0 - count_at bs l.at)) (sym z) w.2,
      );
    }

pub returns : goal.returns
returns c =
    let a = c.args in
    let l = c.loop-k in
    let bs = bits_in a.bytes.now in
    let z : a.n - l.k ≡ 0 = search rules in
    finished l.words (set a.words.now 0 c.packed_level.result.0) (all_words first_edition bs a.n) (l.k + 1) (suc a.n) (search rules)
    (sym (ap (λ (j : ℕ). take (l.k + 1) l.words ++ level_words first_edition bs j (32 + l.k * 41) l.at) z
    ∙ level-word-none (take (l.k + 1) l.words) bs (32 + l.k * 41) l.at) ∙ l.invariant.all) l.invariant.kept
    ∙ ap (λ (r : List ℕ). all_words first_edition bs a.n ++ r) (drop-set-lt (suc a.n) a.words.now 0 c.packed_level.result.0 (omega arith))
