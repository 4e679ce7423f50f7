-- What the functions inside promise one another. No public contract rests on these.
use Rattle.std.specs.Prelude.{◌≡◌, ℕ, zero, suc, ◌+◌, ◌-◌, ◌/◌, ◌^◌, ◌<◌, ◌≤◌, Bool, false, cond, not, ◌&&◌, Option, None, Some, Result, Ok, Err, List, [], ◌∷◌, ◌++◌, map, leb, ltb, eqb, length, take, drop, get_or, set, replicate}
use Rattle.pkg_length.specs.Refusal.{Answer, gives, refuses}
use Rattle.name_object.specs.Memory.{all_zero}
use Rattle.table.specs.Limits.{Limits}
use Rattle.table.specs.Layout.{rank_of, type_of, count_of, seg_of, binding_of}
use Rattle.table.specs.Valid.{rising, level_ok}
use Rattle.table.specs.declared.inner.Sought.{Sought as Placed}
use Rattle.table.specs.declared.inner.Place.{Place}
use Rattle.table.specs.declared.inner.Spot.{Spot}
use Rattle.table.specs.declared.inner.Nearest.{Nearest}
use Rattle.pkg_length.specs.declared.AmlError.{AmlError}
use Rattle.table.specs.Tree.{Binding}
use Rattle.table.specs.Edits.{scope_of, last_of, is_root}

-- Well-formed words, in one pass.

-- a record's own fields, its segment from lo on
abbrev pub word_ok : ℕ → ℕ → ℕ → Bool
word_ok limit lo w = level_ok limit (rank_of w) lo (seg_of w) (type_of w) (count_of w)

-- n bindings stand next
unfoldable pub binds_ok : (ℕ → Bool) → ℕ → List ℕ → Bool
binds_ok live n bs = leb n (length bs) && rising live 0 (map binding_of (take n bs))

-- a record w after one of rank p: no more than one below it, its own fields, its bindings
unfoldable pub record_ok : ℕ → (ℕ → Bool) → ℕ → List ℕ → ℕ → List ℕ → Bool
record_ok limit live p low w bs = leb (rank_of w) (p + 1) && word_ok limit (get_or low (rank_of w) 0) w && binds_ok live (count_of w) bs

-- after a record: siblings come above its segment, children may have any
abbrev pub noted : List ℕ → ℕ → List ℕ
noted low w = set (set low (rank_of w) (seg_of w + 1)) (rank_of w + 1) 0

-- p is the rank of the record before, low the least segment that may come at each rank; from the first zero word on all is spare
unfoldable pub scan : ℕ → (ℕ → Bool) → ℕ → List ℕ → List ℕ → List ℕ → Bool
scan limit live p low [] bs = all_zero bs
scan limit live p low (w ∷ ws) bs =
    cond (eqb w 0) (all_zero ws && all_zero bs) (record_ok limit live p low w bs && scan limit live (rank_of w) (noted low w) ws (drop (count_of w) bs))

-- nothing stands at any rank
unfoldable pub lowest : ℕ → List ℕ
lowest limit = replicate (limit + 2) 0

-- the objects' part: how many, their values, spare zeros
unfoldable pub objects_ok : ℕ → List ℕ → Bool
objects_ok room [] = false
objects_ok room (n ∷ vs) = leb n room && all_zero (drop n vs)

-- handles below a number
abbrev pub below : ℕ → ℕ → Bool
below made h = ltb h made

-- the three parts
unfoldable pub parts_ok : Limits → List ℕ → List ℕ → List ℕ → Bool
parts_ok m ls bs os =
    objects_ok m.objects os && not (eqb (get_or ls 0 0) 0) && scan m.components (below (get_or os 0 0)) 0 (lowest m.components) ls bs

-- Where a path leads, in one pass over the records.

-- the record of the path's level stands at this index; its parent is there, and its record would stand at this index; segments up to and
-- including a missing one that is not the last
pub data Sought : Type 0 where
  here : ℕ → Sought
  before : ℕ → Sought
  missing : ℕ → Sought

-- no such child of the level of rank r: where it is the path's last, its record would stand at k
unfoldable pub gone : List ℕ → ℕ → ℕ → Sought
gone [] r k = before k
gone (s ∷ p) r k = missing r

-- r keys are behind, the last of them led to the record at index at; the words stand from index k on
unfoldable pub seek_in : List ℕ → List ℕ → ℕ → ℕ → ℕ → Sought
seek_in [] ws r at k = here at
seek_in (s ∷ p) [] r at k = gone p r k
seek_in (s ∷ p) (w ∷ ws) r at k =
    cond (leb (rank_of w) r) (gone p r k)
    (cond (eqb (rank_of w) (suc r))
    (cond (eqb (seg_of w) s) (seek_in p ws (suc r) k (suc k)) (cond (ltb s (seg_of w)) (gone p r k) (seek_in (s ∷ p) ws r at (suc k))))
    (seek_in (s ∷ p) ws r at (suc k)))

-- a level's child of rank r and segment s, past deeper records and smaller segments; the words stand from index k on, and m bindings before them
unfoldable pub child_in : ℕ → ℕ → List ℕ → ℕ → ℕ → Result Place ℕ
child_in r s [] k m = Err k
child_in r s (w ∷ ws) k m =
    cond (ltb r (rank_of w)) (child_in r s ws (suc k) (m + count_of w))
    (cond (ltb (rank_of w) r) (Err k)
    (cond (ltb (seg_of w) s) (child_in r s ws (suc k) (m + count_of w))
    (cond (eqb (seg_of w) s) (Ok (record { level = k; binding = m })) (Err k))))

-- how many bindings records have
unfoldable pub counts : List ℕ → ℕ
counts [] = 0
counts (w ∷ ws) = count_of w + counts ws

-- Room made in words.

-- the list with c put in front, in place of the first spare word, or else of the last
unfoldable pub push : ℕ → List ℕ → List ℕ
push c [] = []
push c (x ∷ xs) = c ∷ cond (eqb x 0) xs (push x xs)

-- A level with all below it is one run of records.

-- how many records in a row are below the rank r
unfoldable pub run : ℕ → List ℕ → ℕ
run r [] = 0
run r (w ∷ ws) = cond (ltb r (rank_of w)) (suc (run r ws)) 0

-- the index past the records of the level at j and of those below it
unfoldable pub subtree_end : List ℕ → ℕ → ℕ
subtree_end ls j = j + 1 + run (rank_of (get_or ls j 0)) (drop (j + 1) ls)

-- words from index a up to, not including, index e are taken out; zeros follow the rest
unfoldable pub closed : ℕ → ℕ → List ℕ → List ℕ
closed a e xs = take a xs ++ (drop e xs ++ replicate (e - a) 0)

-- what the pass tells of memory: the record's index with that of its level's first binding
abbrev pub placed : List ℕ → Sought → Placed
placed ls (here k) = Placed.Here (record { level = k; binding = counts (take k ls) })
placed ls (before k) = Placed.Before k
placed ls (missing n) = Placed.Missing n

abbrev pub placed_gone_at : ℕ → ℕ → ℕ → Placed
placed_gone_at n j k = cond (eqb (j + 1) n) (Placed.Before k) (Placed.Missing j)

abbrev pub subtree_of : List ℕ → ℕ → Place
subtree_of ls j = record { level = subtree_end ls j; binding = counts (take (subtree_end ls j) ls) }

-- behind a level's record and its bindings
abbrev pub place_behind : List ℕ → Place → Place
place_behind ls p = record { level = p.level + 1; binding = p.binding + count_of (get_or ls p.level 0) }

-- Bindings.

-- a segment among a level's bindings, the first of which stands at index i: its handle, or where it would stand
unfoldable pub slot_in : ℕ → List Binding → ℕ → Result ℕ ℕ
slot_in s [] i = Err i
slot_in s (b ∷ bs) i = cond (eqb b.segment s) (Ok b.handle) (cond (ltb s b.segment) (Err i) (slot_in s bs (suc i)))

-- the bindings of the level whose record stands at index k
unfoldable pub bindings_at : List ℕ → List ℕ → ℕ → List Binding
bindings_at ls bs k = map binding_of (take (count_of (get_or ls k 0)) (drop (counts (take k ls)) bs))

abbrev pub slot_spot : ℕ → Result ℕ ℕ → Spot
slot_spot k (Ok h) = Spot.Bound h
slot_spot k (Err i) = Spot.Free (record { level = k; binding = i })

abbrev pub spot_from : List ℕ → List ℕ → List ℕ → Sought → Result Spot AmlError
spot_from ls bs p (here k) = Ok (slot_spot k (slot_in (last_of p) (bindings_at ls bs k) (counts (take k ls))))
spot_from ls bs p (before k) = Err (AmlError.LevelDoesNotExist (length p - 2))
spot_from ls bs p (missing n) = Err (AmlError.LevelDoesNotExist n)

-- where a path's last segment is bound, or would be
unfoldable pub spot_in : List ℕ → List ℕ → List ℕ → Result Spot AmlError
spot_in ls bs p = cond (is_root p) (Err AmlError.RootNotAllowed) (spot_from ls bs p (seek_in (scope_of p) ls 0 0 0))

-- the segments of n binding words from index from on rise
abbrev pub Rising : List ℕ → ℕ → ℕ → Type 0
Rising bs from n = (i j : ℕ) → from ≤ i → i < j → j < from + n → get_or bs i 0 / 2 ^ 32 < get_or bs j 0 / 2 ^ 32

-- the bindings that the records count are there, and those of a level that a path leads to rise
pub record BindingsHeld (ls bs : List ℕ) : Type 0 where
  pub held : (k : ℕ) → counts (take k ls) + count_of (get_or ls k 0) ≤ length bs
  pub rise : (p : List ℕ) (k : ℕ) → 0 < length p → seek_in p ls 0 0 0 ≡ here k → Rising bs (counts (take k ls)) (count_of (get_or ls k 0))

-- the words with one binding more: its level's record counts it, and its word stands at index i of the bindings
unfoldable pub bind_words : Limits → List ℕ → ℕ → ℕ → ℕ → List ℕ
bind_words m ws at i x =
    set (take m.levels ws) at (get_or ws at 0 + 2 ^ 32)
    ++ ((take i (take m.bindings (drop m.levels ws)) ++ push x (drop i (take m.bindings (drop m.levels ws))))
    ++ drop (m.levels + m.bindings) ws)

-- Search.

-- what was found, and how many components its scope has
pub record Deep (A : Type 0) : Type 0 where
  pub depth : ℕ
  pub value : A

-- a scope that answers is nearer than what was found further out
abbrev pub closer : {A : Type 0} → ℕ → Answer A → Answer (Deep A) → Answer (Deep A)
closer n (gives a) out = gives (record { depth = n; value = a })
closer n (refuses k q) out = out

-- the innermost of the scopes of 1 to n components that answers
unfoldable pub deepest : {A : Type 0} → (ℕ → Answer A) → ℕ → Answer (Deep A)
deepest ask zero = refuses 0 0
deepest ask (suc n) = closer (suc n) (ask (suc n)) (deepest ask n)

-- what the words hold under a segment in the scope of a path's first n keys
abbrev pub spotted : Result Spot AmlError → Answer ℕ
spotted (Ok (Spot.Bound h)) = gives h
spotted (Ok (Spot.Free p)) = refuses 16 0
spotted (Err e) = refuses 16 0

unfoldable pub value_held : List ℕ → List ℕ → List ℕ → ℕ → ℕ → Answer ℕ
value_held ls bs p s n = spotted (spot_in ls bs (take n p ++ (s ∷ [])))

abbrev pub seen : Sought → Answer (Unit {0})
seen (here k) = gives tt
seen (before k) = refuses 15 1
seen (missing n) = refuses 15 1

unfoldable pub level_held : List ℕ → List ℕ → ℕ → ℕ → Answer (Unit {0})
level_held ls p s n = seen (seek_in (take n p ++ (s ∷ [])) ls 0 0 0)

-- as the code holds it
abbrev pub nearest_of : Answer (Deep ℕ) → Option Nearest
nearest_of (gives d) = Some (record { depth = d.depth; handle = d.value })
nearest_of (refuses n p) = None

abbrev pub depth_of : Answer (Deep (Unit {0})) → Option ℕ
depth_of (gives d) = Some d.depth
depth_of (refuses n p) = None

-- the first n keys of p lead to the record at index at, whose bindings begin at index from; whatever follows them is looked for behind that record
pub record Reached (ls p : List ℕ) (n at from : ℕ) : Type 0 where
  pub inside : at < length ls
  pub counted : from ≡ counts (take at ls)
  pub leads : (q : List ℕ) → seek_in (take n p ++ q) ls 0 0 0 ≡ seek_in q (drop (at + 1) ls) n at (at + 1)

-- where the words begin
abbrev pub start : Place
start = record { level = 0; binding = 0 }

-- the first n keys of p lead to levels, each with its place, and more of them to none
pub record Trailed (ls p : List ℕ) (places : List Place) (n : ℕ) : Type 0 where
  pub short : n ≤ length p
  pub there : (i : ℕ) → i < n → Reached ls p (i + 1) (get_or places i start).level (get_or places i start).binding
  pub gone : (i : ℕ) → n < i → i ≤ length p → (q : List ℕ) (j : ℕ) → seek_in (take i p ++ q) ls 0 0 0 ≡ here j → ⊥

-- Paths.

-- a path's keys, as the functions inside take them
pub record Keyed (limit : ℕ) (p : List ℕ) : Type 0 where
  pub short : length p ≤ limit
  pub low : (i : ℕ) → get_or p i 0 < 2 ^ 32
