-- What checks that hold say, record by record, and the room that the records take.
use mathlib.Core.Path.{◌≡◌, refl, ap, subst, ◌∙◌}
use mathlib.Core.Bool.{Bool, true, false, not, ◌&&◌, ◌||◌}
use mathlib.Core.List.{List, []}
use Prim.Native.Nat.{ℕ, zero, suc, ◌+◌, ◌-◌, ◌*◌, ◌<◌, ◌≤◌}
use native.Mathlib.Omega.{arith}
use native.Mathlib.Nat.{suc-mul, add-mul}
use lib.Dec.{leb, ltb, eqb}
use lib.ListN.{length, get_or, length-append}
use borrow.Author.Tests.{le-leb, leb-true, lt-ltb, ltb-true}
use Rattle.pkg_length.specs.Refusal.{gives}
use Rattle.pkg_length.proofs.Answers.{halves}
use Rattle.image.specs.Bits.{number_at}
use Rattle.image.specs.Format.{Format, level_bits, binding_bits}
use Rattle.image.specs.Reader.{first, are_chars_ok, segment_number, segment_checks, named_checks, depth_at, type_at, level_checks, levels_checks, handle_at, binding_checks, bindings_checks, count_at, count_checks, own_checks, bound_checks, after, object_checks, bindings_at, bound_at}
use Rattle.image.specs.Inside.{Walk}
use Rattle.image.proofs.Checks.{head-holds, both_first, own-holds}

pub record SegmentHolds (bs : List Bool) (p lo : ℕ) : Type 0 where
  pub room : p + 32 ≤ length bs
  pub named : are_chars_ok (number_at bs 32 p) ≡ true
  pub rises : lo ≤ segment_number (number_at bs 32 p)

segment-holds : (bs : List Bool) (p lo : ℕ) → first (segment_checks bs p lo) ≡ gives tt → SegmentHolds bs p lo
unfolding segment_checks
segment-holds bs p lo h =
    let x = head-holds _ _ h in
    let y = head-holds _ _ x.1 in
    let z = head-holds _ _ y.1 in
    record { room = leb-true _ _ x.0; named = y.0; rises = leb-true _ _ z.0 }

holds-segment : (bs : List Bool) (p lo : ℕ) → SegmentHolds bs p lo → first (segment_checks bs p lo) ≡ gives tt
unfolding segment_checks first
holds-segment bs p lo h = rw (le-leb (p + 32) (length bs) h.room, h.named, le-leb lo (segment_number (number_at bs 32 p)) h.rises)

pub record LevelHolds (f : Format) (bs : List Bool) (p before : ℕ) (low : List ℕ) : Type 0 where
  pub below : 0 < depth_at f bs p
  pub shallow : depth_at f bs p ≤ f.deepest
  pub step : depth_at f bs p ≤ before + 1
  pub typed : type_at f bs p < 6
  pub segment : SegmentHolds bs (p + f.depth_bits + 3) (get_or low (depth_at f bs p) 0)

pub level_holds : (f : Format) (bs : List Bool) (p before : ℕ) (low : List ℕ) → first (level_checks f bs p before low) ≡ gives tt → LevelHolds f bs p before low
unfolding level_checks named_checks
level_holds f bs p before low h =
    let x = head-holds _ _ (head-holds _ _ h).1 in
    let y = head-holds _ _ (head-holds _ _ x.1).1 in
    let u = halves (ltb 0 (depth_at f bs p) && leb (depth_at f bs p) f.deepest) (leb (depth_at f bs p) (before + 1)) x.0 in
    let v = halves (ltb 0 (depth_at f bs p)) (leb (depth_at f bs p) f.deepest) u.0 in
    record {
      below = ltb-true _ _ v.0;
      shallow = leb-true _ _ v.1;
      step = leb-true _ _ u.1;
      typed = ltb-true _ _ y.0;
      segment = segment-holds bs (p + f.depth_bits + 3) (get_or low (depth_at f bs p) 0) y.1;
    }

pub holds-level : (f : Format) (bs : List Bool) (p before : ℕ) (low : List ℕ) → LevelHolds f bs p before low → first (level_checks f bs p before low) ≡ gives tt
unfolding level_checks named_checks first
holds-level f bs p before low h =
    let r = h.segment.room in
    rw (
      le-leb (p + f.depth_bits) (length bs) (omega arith),
      lt-ltb 0 (depth_at f bs p) h.below,
      le-leb (depth_at f bs p) f.deepest h.shallow,
      le-leb (depth_at f bs p) (before + 1) h.step,
      le-leb (p + f.depth_bits + 3) (length bs) (omega arith),
      lt-ltb (type_at f bs p) 6 h.typed,
    )
    (holds-segment bs (p + f.depth_bits + 3) (get_or low (depth_at f bs p) 0) h.segment)

pub record BindingHolds (f : Format) (bs : List Bool) (made q lo : ℕ) : Type 0 where
  pub segment : SegmentHolds bs q lo
  pub room : q + binding_bits f ≤ length bs
  pub live : handle_at f bs q < made

pub binding-holds : (f : Format) (bs : List Bool) (made q lo : ℕ) → first (binding_checks f bs made q lo) ≡ gives tt → BindingHolds f bs made q lo
unfolding binding_checks
binding-holds f bs made q lo h =
    let x = both_first (segment_checks bs q lo) _ h in
    let y = head-holds _ _ x.1 in
    let r : q + 32 + f.handle_bits ≤ length bs = leb-true _ _ y.0 in
    record { segment = segment-holds bs q lo x.0; room = omega arith; live = ltb-true _ _ (head-holds _ _ y.1).0 }

pub holds-binding : (f : Format) (bs : List Bool) (made q lo : ℕ) → BindingHolds f bs made q lo → first (binding_checks f bs made q lo) ≡ gives tt
unfolding binding_checks segment_checks first
holds-binding f bs made q lo h =
    let r = h.room in
    rw (
      le-leb (q + 32) (length bs) h.segment.room,
      h.segment.named,
      le-leb lo (segment_number (number_at bs 32 q)) h.segment.rises,
      le-leb (q + 32 + f.handle_bits) (length bs) (omega arith),
      lt-ltb (handle_at f bs q) made h.live,
    )

pub record CountHolds (f : Format) (bs : List Bool) (last : Bool) (q d rest : ℕ) : Type 0 where
  pub room : q + 10 ≤ length bs
  pub deep : (not (eqb d f.deepest) || eqb (count_at bs q) 0) ≡ true
  pub held : count_at bs q ≤ rest
  pub full : (not last || leb rest (count_at bs q)) ≡ true

pub count-holds : (f : Format) (bs : List Bool) (last : Bool) (q d rest : ℕ) → first (count_checks f bs last q d rest) ≡ gives tt → CountHolds f bs last q d rest
unfolding count_checks
count-holds f bs last q d rest h =
    let x = head-holds _ _ h in
    let y = head-holds _ _ x.1 in
    let z = head-holds _ _ y.1 in
    record { room = leb-true _ _ x.0; deep = y.0; held = leb-true _ _ z.0; full = (head-holds _ _ z.1).0 }

pub holds-count : (f : Format) (bs : List Bool) (last : Bool) (q d rest : ℕ) → CountHolds f bs last q d rest → first (count_checks f bs last q d rest) ≡ gives tt
unfolding count_checks first
holds-count f bs last q d rest h = rw (le-leb (q + 10) (length bs) h.room, h.deep, le-leb (count_at bs q) rest h.held, h.full)

-- Room.

more_room : (p w n len : ℕ) → p + w + n * w ≤ len → p + suc n * w ≤ len
more_room p w n len h = rw (suc-mul n w) (omega arith)

none-room : (p w len : ℕ) → p ≤ len → p + 0 * w ≤ len
none-room p w len h = omega arith

pub level-room : (f : Format) (bs : List Bool) (p before : ℕ) (low : List ℕ) → LevelHolds f bs p before low → p + level_bits f ≤ length bs
level-room f bs p before low h = let r = h.segment.room in omega arith

pub levels-room : (f : Format) (bs : List Bool) (n p before : ℕ) (low : List ℕ) → first (levels_checks f bs n p before low) ≡ gives tt → p ≤ length bs → p + n * level_bits f ≤ length bs
unfolding levels_checks
levels-room f bs zero p before low h r = none-room p (level_bits f) (length bs) r
levels-room f bs (suc n) p before low h r =
    let x = both_first (level_checks f bs p before low) _ h in
    more_room p (level_bits f) n (length bs) (levels-room f bs n (p + level_bits f) _ _ x.1 (level-room f bs p before low (level_holds f bs p before low x.0)))

pub bindings-room : (f : Format) (bs : List Bool) (made n q lo : ℕ) → first (bindings_checks f bs made n q lo) ≡ gives tt → q ≤ length bs → q + n * binding_bits f ≤ length bs
unfolding bindings_checks
bindings-room f bs made zero q lo h r = none-room q (binding_bits f) (length bs) r
bindings-room f bs made (suc n) q lo h r =
    let x = both_first (binding_checks f bs made q lo) _ h in
    more_room q (binding_bits f) n (length bs) (bindings-room f bs made n (q + binding_bits f) _ x.1 (binding-holds f bs made q lo x.0).room)

pub objects-room : (bs : List Bool) (n p : ℕ) → first (object_checks bs n p) ≡ gives tt → p ≤ length bs → p + n * 64 ≤ length bs
unfolding object_checks
objects-room bs zero p h r = none-room p 64 (length bs) r
objects-room bs (suc n) p h r = let x = head-holds _ _ h in more_room p 64 n (length bs) (objects-room bs n (p + 64) x.1 (leb-true _ _ x.0))

-- the bindings of a level and of those behind it
pub record Opened (f : Format) (bs : List Bool) (made n p q d rest : ℕ) (last : Bool) : Type 0 where
  pub count : CountHolds f bs last q d rest
  pub own : first (bindings_checks f bs made (count_at bs q) (q + 10) 0) ≡ gives tt
  pub room : after f bs q ≤ length bs

opened : (f : Format) (bs : List Bool) (made n p q d rest : ℕ) (last : Bool) → first (own_checks f bs made last q d rest) ≡ gives tt → Opened f bs made n p q d rest last
opened f bs made n p q d rest last h =
    let x = own-holds f bs made last q d rest h in
    let c = count-holds f bs last q d rest x.0 in
    record { count = c; own = x.1; room = bindings-room f bs made (count_at bs q) (q + 10) 0 x.1 c.room }

pub open-last : (f : Format) (bs : List Bool) (made p q d rest : ℕ) → first (bound_checks f bs made zero p q d rest) ≡ gives tt → Opened f bs made zero p q d rest true
unfolding bound_checks
open-last f bs made p q d rest h = opened f bs made zero p q d rest true h

pub open_more : (f : Format) (bs : List Bool) (made n p q d rest : ℕ) → first (bound_checks f bs made (suc n) p q d rest) ≡ gives tt
    → Opened f bs made n p q d rest false × (first (bound_checks f bs made n (p + level_bits f) (after f bs q) (depth_at f bs p) (rest - count_at bs q)) ≡ gives tt)
unfolding bound_checks
open_more f bs made n p q d rest h = let x = both_first (own_checks f bs made false q d rest) _ h in (opened f bs made n p q d rest false x.0, x.1)

pub all_left : (n rest : ℕ) → n ≤ rest → (not true || leb rest n) ≡ true → n ≡ rest
all_left n rest h k = omega (arith, leb-true rest n k)

pub walk-bound : (f : Format) (bs : List Bool) (made n p q d rest : ℕ) → first (bound_checks f bs made n p q d rest) ≡ gives tt → Walk f bs (suc n) q rest
walk-bound f bs made zero p q d rest h = let o = open-last f bs made p q d rest h in (o.room, o.count.held, tt)
walk-bound f bs made (suc n) p q d rest h =
    let x = open_more f bs made n p q d rest h in
    (x.0.room, x.0.count.held, walk-bound f bs made n (p + level_bits f) (after f bs q) (depth_at f bs p) (rest - count_at bs q) x.1)

pub length-bindings_at : (f : Format) (bs : List Bool) (n q : ℕ) → length (bindings_at f bs n q) ≡ n
unfolding bindings_at
length-bindings_at f bs zero q = refl
length-bindings_at f bs (suc n) q = ap suc (length-bindings_at f bs n (q + binding_bits f))

-- as many bindings as the header counts
pub bound-count : (f : Format) (bs : List Bool) (made n p q d rest : ℕ) → first (bound_checks f bs made n p q d rest) ≡ gives tt → length (bound_at f bs (suc n) q) ≡ rest
unfolding bound_at
bound-count f bs made zero p q d rest h =
    let o = open-last f bs made p q d rest h in
    length-append (bindings_at f bs (count_at bs q) (q + 10)) [] ∙ rw (length-bindings_at f bs (count_at bs q) (q + 10)) (omega (arith, all_left (count_at bs q) rest o.count.held o.count.full))
bound-count f bs made (suc n) p q d rest h =
    let x = open_more f bs made n p q d rest h in
    let e = bound-count f bs made n (p + level_bits f) (after f bs q) (depth_at f bs p) (rest - count_at bs q) x.1 in
    let k = x.0.count.held in
    length-append (bindings_at f bs (count_at bs q) (q + 10)) (bound_at f bs (suc n) (after f bs q)) ∙ rw (length-bindings_at f bs (count_at bs q) (q + 10), e) (omega arith)

-- and the place behind them
behind : (q c rest n w len : ℕ) → c ≤ rest → q + 10 + c * w + (suc n * 10 + (rest - c) * w) ≤ len → q + (suc (suc n) * 10 + rest * w) ≤ len
behind q c rest n w len h k = let e : rest * w ≡ c * w + (rest - c) * w = ap (λ (x : ℕ). x * w) (parts c rest h) ∙ add-mul c (rest - c) w in omega arith
  where
    parts : (c rest : ℕ) → c ≤ rest → rest ≡ c + (rest - c)
    parts c rest h = omega arith

pub bound-room : (f : Format) (bs : List Bool) (made n p q d rest : ℕ) → first (bound_checks f bs made n p q d rest) ≡ gives tt → q + (suc n * 10 + rest * binding_bits f) ≤ length bs
bound-room f bs made zero p q d rest h =
    let o = open-last f bs made p q d rest h in
    let r : q + 10 + rest * binding_bits f ≤ length bs = subst (λ (c : ℕ). q + 10 + c * binding_bits f ≤ length bs) (all_left (count_at bs q) rest o.count.held o.count.full) o.room in
    last q (rest * binding_bits f) (length bs) r
  where
    last : (q x len : ℕ) → q + 10 + x ≤ len → q + (1 * 10 + x) ≤ len
    last q x len h = omega arith
bound-room f bs made (suc n) p q d rest h =
    let x = open_more f bs made n p q d rest h in
    behind q (count_at bs q) rest n (binding_bits f) (length bs) x.0.count.held (bound-room f bs made n (p + level_bits f) (after f bs q) (depth_at f bs p) (rest - count_at bs q) x.1)
