-- The parts one after the other, in cleared memory.
use borrow.Author.Rules.{rules}
use native.Mathlib.Omega.{arith}
use mathlib.Core.Path.{◌≡◌, ap, ◌∙◌}
use mathlib.Core.List.{List, ◌∷◌, ◌++◌, map}
use Prim.Native.Nat.{ℕ, suc, ◌+◌, ◌-◌, ◌<◌, ◌≤◌}
use lib.ListN.{length, set, replicate, length-map, length-replicate, length-set}
use Rattle.table.specs.Limits.{limits}
use borrow.Rule.Slice.PartMut.{put_mid}
use Rattle.image.specs.Bits.{bits_in, number_at}
use Rattle.image.specs.Format.{first_edition, bindings_place, objects_place}
use Rattle.image.specs.Reader.{bound_at, objects_at, all_words}
use Rattle.table.specs.Layout.{bind_word, pad}
use Rattle.image.proofs.Steps.{steps-are, steps-objects, part-long, part-put}
use Rattle.image.proofs.Filling.{all-parts, kept-front, kept-middle, grants}
use Rattle.image.proofs.Contents.{length-all_words, length-objects_at}
use Rattle.image.specs.declared.Counts.{Counts}
use Rattle.image.specs.Inside.{Accepted, loaded}
use Rattle.table.specs.Memory.{size}
use Rattle.image.proofs.load.fill.Goals as goal

cleared : (ws vs : List ℕ) → length ws ≡ size limits → vs ≡ replicate (length ws) 0 → length vs ≡ 1153
cleared ws vs h e = ap length e ∙ length-replicate {A = ℕ} (length ws) 0 ∙ h

parts-loaded : (bytes : List ℕ) (c : Counts) (at : ℕ) → Accepted bytes c → at ≡ objects_place first_edition c.levels c.bindings
    → pad 128 (all_words first_edition (bits_in bytes) c.levels) ++ (pad 512
    (map bind_word (bound_at first_edition (bits_in bytes) (suc c.levels) (bindings_place first_edition c.levels))) ++
    (c.objects ∷ pad 512 (objects_at (bits_in bytes) c.objects at)))
    ≡ loaded first_edition limits (bits_in bytes)
unfolding loaded
parts-loaded bytes c at a e = rw (e, a.counts)

pub levels-requires : goal.levels-requires
levels-requires c =
    let a = c.args in
    let g = grants a.bytes.now a.c c.requires.0 in
    let l : length c.fill.new.self ≡ 1153 = cleared a.table.now c.fill.new.self c.requires.1 (c.fill.ensures.after (λ y h. h)) in
    (omega (arith, g.levels, l), g.levels, g.records, g.short, (a.c.bindings, g.walk))

pub bindings-requires : goal.bindings-requires
bindings-requires c =
    let a = c.args in
    let g = grants a.bytes.now a.c c.requires.0 in
    (rw g.counted (search rules), rw g.counted g.bindings, g.levels, g.short, rw g.counted g.walk)

pub objects_place-at-requires : goal.objects_place-at-requires
objects_place-at-requires c = let g = grants c.args.bytes.now c.args.c c.requires.0 in (g.levels, g.bindings)

pub overflow_add-objects : goal.overflow_add-objects
overflow_add-objects c = let g = grants c.args.bytes.now c.args.c c.requires.0 in record { fits = omega (arith, g.objects) }

pub slice_bounds-objects-end : goal.slice_bounds-objects-end
slice_bounds-objects-end c =
    let a = c.args in
    let g = grants a.bytes.now a.c c.requires.0 in
    let bs = bits_in a.bytes.now in
    let D = bound_at first_edition bs (suc a.c.levels) (bindings_place first_edition a.c.levels) in
    let lc = cleared a.table.now c.fill.new.self c.requires.1 (c.fill.ensures.after (λ y h. h)) in
    let ll = kept-front (all_words first_edition bs a.c.levels) c.fill.new.self c.levels.new.words (suc a.c.levels) 1153
    (length-all_words first_edition bs a.c.levels) lc (omega (arith, g.levels)) c.levels.ensures in
    let lb = kept-middle 128 a.c.bindings 1153 (map bind_word D) c.levels.new.words c.bindings.new.words
    (length-map D bind_word ∙ g.counted) ll (omega (arith, g.bindings)) (rw g.counted at c.bindings.ensures) in
    let ls : length (set c.bindings.new.words 640 a.c.objects) ≡ 1153 = length-set c.bindings.new.words 640 a.c.objects ∙ lb in
    omega (arith, ls, g.objects)

pub each-requires : goal.each-requires
each-requires c =
    let a = c.args in
    let g = grants a.bytes.now a.c c.requires.0 in
    let bs = bits_in a.bytes.now in
    let D = bound_at first_edition bs (suc a.c.levels) (bindings_place first_edition a.c.levels) in
    let lc = cleared a.table.now c.fill.new.self c.requires.1 (c.fill.ensures.after (λ y h. h)) in
    let ll = kept-front (all_words first_edition bs a.c.levels) c.fill.new.self c.levels.new.words (suc a.c.levels) 1153
    (length-all_words first_edition bs a.c.levels) lc (omega (arith, g.levels)) c.levels.ensures in
    let lb = kept-middle 128 a.c.bindings 1153 (map bind_word D) c.levels.new.words c.bindings.new.words
    (length-map D bind_word ∙ g.counted) ll (omega (arith, g.bindings)) (rw g.counted at c.bindings.ensures) in
    let ls : length (set c.bindings.new.words 640 a.c.objects) ≡ 1153 = length-set c.bindings.new.words 640 a.c.objects ∙ lb in
    let r : 641 + a.c.objects ≤ length (set c.bindings.new.words 640 a.c.objects) = omega (arith, ls, g.objects) in
    let pl = part-long (set c.bindings.new.words 640 a.c.objects) 641 a.c.objects r in (
      search rules,
      λ k h. let j : k < a.c.objects = omega (arith, h, pl) in (
        (omega (arith, j, g.there, c.objects_place-at.ensures), omega (arith, j, g.levels, g.bindings, g.objects, c.objects_place-at.ensures)),
        omega (arith, j, g.levels, g.bindings, g.objects, c.objects_place-at.ensures),
      ),
    )

pub returns : goal.returns
returns c =
    let a = c.args in
    let g = grants a.bytes.now a.c c.requires.0 in
    let bs = bits_in a.bytes.now in
    let D = bound_at first_edition bs (suc a.c.levels) (bindings_place first_edition a.c.levels) in
    let lc = cleared a.table.now c.fill.new.self c.requires.1 (c.fill.ensures.after (λ y h. h)) in
    let ll = kept-front (all_words first_edition bs a.c.levels) c.fill.new.self c.levels.new.words (suc a.c.levels) 1153
    (length-all_words first_edition bs a.c.levels) lc (omega (arith, g.levels)) c.levels.ensures in
    let lb = kept-middle 128 a.c.bindings 1153 (map bind_word D) c.levels.new.words c.bindings.new.words
    (length-map D bind_word ∙ g.counted) ll (omega (arith, g.bindings)) (rw g.counted at c.bindings.ensures) in
    let ls : length (set c.bindings.new.words 640 a.c.objects) ≡ 1153 = length-set c.bindings.new.words 640 a.c.objects ∙ lb in
    let r : 641 + a.c.objects ≤ length (set c.bindings.new.words 640 a.c.objects) = omega (arith, ls, g.objects) in
    let pl = part-long (set c.bindings.new.words 640 a.c.objects) 641 a.c.objects r in
    let at = c.objects_place-at.result in
    let part = c.each.new.words in
    let is : part ≡ objects_at bs a.c.objects at =
    steps-are (number_at bs 64) 64 part a.c.objects at (c.each.auto.words ∙ pl) (λ k j. c.each.ensures k (omega (arith, j, pl)))
    ∙ steps-objects bs a.c.objects at in
    all-parts 128 512 512 a.c.objects (all_words first_edition bs a.c.levels) (map bind_word D) (objects_at bs a.c.objects at)
    c.fill.new.self c.levels.new.words c.bindings.new.words (put_mid 641 (641 + a.c.objects - 641) (set c.bindings.new.words 640 a.c.objects) part)
    (suc a.c.levels) a.c.bindings a.c.objects
    (length-all_words first_edition bs a.c.levels) (length-map D bind_word ∙ g.counted) (length-objects_at bs a.c.objects at)
    (omega (arith, g.levels)) g.bindings g.objects (length a.table.now) c.requires.1
    (c.fill.ensures.after (λ y h. h)) c.levels.ensures (rw g.counted at c.bindings.ensures)
    (part-put (set c.bindings.new.words 640 a.c.objects) part (objects_at bs a.c.objects at) 641 a.c.objects is)
    ∙ parts-loaded a.bytes.now a.c at c.requires.0 c.objects_place-at.ensures
