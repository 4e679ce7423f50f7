-- The list of levels: the records of a run of words, written one after the other, are what the call's definition leaves; and the run is the one that the pass over the records found.
use mathlib.Core.Path.{◌≡◌, refl, ap, sym, subst, ◌∙◌}
use mathlib.Core.Bool.{true}
use mathlib.Core.List.{List, [], ◌∷◌, ◌++◌, map}
use Prim.Native.Nat.{ℕ, zero, suc, ◌+◌, ◌-◌, ◌<◌, ◌≤◌, ◌^◌}
use native.Mathlib.Omega.{arith}
use native.Mathlib.Numerals.{add-one}
use Rattle.std.proofs.lemmas.List.{map-append}
use lib.ListN.{length, take, drop, get_or, set, length-set, length-map, length-drop}
use lib.Seq.{take-suc, drop-cons, set_at, append_snoc, length-take-le, take-add, take-take, drop_at, get_or-take, get_or-drop, take_all}
use borrow.Author.Tests.{le-leb, lt-leb}
use Rattle.std.specs.Prelude.{Result}
use Rattle.pkg_length.specs.Refusal.{Answer, gives, refuses, refused}
use Rattle.pkg_length.specs.declared.AmlError.{AmlError}
use Rattle.table.specs.Limits.{Limits}
use Rattle.table.specs.Memory.{is_well_formed, decode}
use Rattle.table.specs.Levels.{levels_from, fitting, word_level}
use Rattle.table.specs.Inside.{seek_in, counts, subtree_end, placed, subtree_of}
use Rattle.table.specs.declared.inner.Sought.{Sought as Placed}
use Rattle.table.specs.declared.inner.Place.{Place}
use Rattle.table.proofs.Objects.{long}
use Rattle.table.proofs.LevelCalls.{length-ls}
use Rattle.table.proofs.Listing.{listed_at, listed_here, listed-before, listed-missing}
use Rattle.namespace.specs.Levels.{record_of_word, records_from, filled, left_of_list, Filled}
use Rattle.namespace.specs.Listing.{word_record, run_records, Stands, Listable}
use Rattle.namespace.specs.declared.LevelRecord.{LevelRecord}
use Rattle.namespace.specs.declared.listing.Listing.{Listing}

-- Records written one after the other.

-- the first i elements of a list, set one after the other
unfoldable pub written : {A : Type 0} → (ℕ → A) → ℕ → List A → List A
written f zero ys = ys
written f (suc i) ys = set (written f i ys) i (f i)

pub length-written : {A : Type 0} (f : ℕ → A) (i : ℕ) (ys : List A) → length (written f i ys) ≡ length ys
unfolding written
length-written f zero ys = refl
length-written f (suc i) ys = length-set (written f i ys) i (f i) ∙ length-written f i ys

-- one more
pub written-more : {A : Type 0} (f : ℕ → A) (i : ℕ) (ys zs : List A) (x : A) → zs ≡ written f i ys → x ≡ f i → set zs i x ≡ written f (i + 1) ys
unfolding written
written-more f i ys zs x e h =
    let s : i + 1 ≡ suc i = omega arith in rw (e, h, s)

written_is : {A : Type 0} (f : ℕ → A) (xs ys : List A) (d : A) → ((i : ℕ) → i < length xs → f i ≡ get_or xs i d) → (n : ℕ) → n ≤ length xs → n ≤ length ys → written f n ys ≡ take n xs ++ drop n ys
unfolding written
written_is f xs ys d e zero h k = refl
written_is {A} f xs ys d e (suc n) h k =
    ap (λ (l : List A). set l n (f n)) (written_is f xs ys d e n (omega arith) (omega arith) ∙ ap (λ (l : List A). take n xs ++ l) (drop-cons ys n d (omega arith)))
    ∙ set_at (take n xs) (get_or ys n d) (drop (suc n) ys) (f n) n (length-take-le n xs (omega arith))
    ∙ sym (append_snoc (take n xs) (f n) (drop (suc n) ys))
    ∙ ap (λ (l : List A). l ++ drop (suc n) ys) (ap (λ (x : A). take n xs ++ (x ∷ [])) (e n (omega arith)) ∙ sym (take-suc xs n d (omega arith)))

map-get_or : {A : Type 0} (g : ℕ → A) (l : List ℕ) (i : ℕ) → get_or (map g l) i (g 0) ≡ g (get_or l i 0)
map-get_or g [] i = refl
map-get_or g (x ∷ l) zero = refl
map-get_or g (x ∷ l) (suc i) = map-get_or g l i

-- one element more, written over what stood behind the others
pub filled-more : {A : Type 0} (f : ℕ → A) (ws : List ℕ) (ys zs : List A) (i : ℕ) (x : A) → i < length ws → i < length ys → zs ≡ map f (take i ws) ++ drop i ys → x ≡ f (get_or ws i 0)
    → set zs i x ≡ map f (take (i + 1) ws) ++ drop (i + 1) ys
filled-more {A} f ws ys zs i x h k e v =
    rw (e, add-one i, drop-cons ys i x k)
    (set_at (map f (take i ws)) (get_or ys i x) (drop (suc i) ys) x i (length-map (take i ws) f ∙ length-take-le i ws (omega arith))
    ∙ ap (λ (y : A). map f (take i ws) ++ (y ∷ drop (suc i) ys)) v
    ∙ sym (append_snoc (map f (take i ws)) (f (get_or ws i 0)) (drop (suc i) ys))
    ∙ ap (λ (l : List A). l ++ drop (suc i) ys) (sym (map-append f (take i ws) (get_or ws i 0 ∷ [])) ∙ ap (map f) (sym (take-suc ws i 0 h))))

-- the records of a run, in its place
module _ (ws : List ℕ) (at n : ℕ) (h : at + n ≤ length ws) where
  run_long : length (take n (drop at ws)) ≡ n
  run_long = length-take-le n (drop at ws) (omega (arith, length-drop at ws))

  pub records-long : length (run_records ws at n) ≡ n
  records-long = length-map (take n (drop at ws)) word_record ∙ run_long

  record-at : (i : ℕ) → i < length (run_records ws at n) → word_record (get_or ws (at + i) 0) ≡ get_or (run_records ws at n) i (word_record 0)
  record-at i k =
      sym (map-get_or word_record (take n (drop at ws)) i ∙ ap word_record (get_or-take n (drop at ws) i 0 (omega (arith, records-long)) ∙ get_or-drop at ws i 0))

  pub run-written : (ys : List LevelRecord) → n ≤ length ys → written (λ j. word_record (get_or ws (at + j) 0)) n ys ≡ run_records ws at n ++ drop (length (run_records ws at n)) ys
  run-written ys k =
      written_is (λ j. word_record (get_or ws (at + j) 0)) (run_records ws at n) ys (word_record 0) record-at n (omega (arith, records-long)) k
      ∙ ap (λ (l : List LevelRecord). l ++ drop n ys) (take_all n (run_records ws at n) (omega (arith, records-long)))
      ∙ ap (λ (k : ℕ). run_records ws at n ++ drop k ys) (sym records-long)

same-filled : {x y : List LevelRecord} {a b : Answer ℕ} → x ≡ y → a ≡ b → ◌≡◌ {A = Filled} (record { records = x; said = a }) (record { records = y; said = b })
same-filled e f = λ i. record { records = e i; said = f i }

-- what stands in the list when as many are written as were counted
pub leaves : (ws : List ℕ) (room : ℕ) (a : Answer (List LevelRecord)) (l : Listing) → Stands ws room a l → (ys : List LevelRecord) → length ys ≡ room
    → left_of_list (written (λ j. word_record (get_or ws (l.at + j) 0)) l.count ys) (gives l.count) ≡ filled ys a
leaves ws room a l h ys e =
    same-filled (run-written ws l.at l.count h.inside ys (omega (arith, h.fits))) (ap gives (sym (records-long ws l.at l.count h.inside)))
    ∙ ap (filled ys) (sym h.answer)

-- a refusal leaves it
pub leaves-refused : (a : Answer (List LevelRecord)) (e : AmlError) → a ≡ refused e → (ys : List LevelRecord) → left_of_list ys (refused e) ≡ filled ys a
leaves-refused a e h ys = ap (filled ys) (sym h)

-- What was found.

pub stands-same : (ws : List ℕ) (room : ℕ) (a b : Answer (List LevelRecord)) (r : Result Listing AmlError) → a ≡ b → Listable ws room a r → Listable ws room b r
stands-same ws room a b r e h = subst (λ (x : Answer (List LevelRecord)). Listable ws room x r) e h

pub run_end : (u : Place) (ls : List ℕ) (a : ℕ) → u ≡ subtree_of ls a → u.level ≡ subtree_end ls a
run_end u ls a f = ap (λ (y : Place). y.level) f

map-twice : {A B C : Type 0} (g : B → C) (f : A → B) (l : List A) → map g (map f l) ≡ map (λ x. g (f x)) l
map-twice g f [] = refl
map-twice {C = C} g f (x ∷ l) = ap (λ (k : List C). g (f x) ∷ k) (map-twice g f l)

-- a part of the first elements
part_of : (l : ℕ) (ws : List ℕ) (a n : ℕ) → l ≤ length ws → a + n ≤ l → take n (drop a (take l ws)) ≡ take n (drop a ws)
part_of l ws a n h k = sym (cut (take l ws) (omega (arith, length-take-le l ws h))) ∙ ap (drop a) (take-take (a + n) l ws k) ∙ cut ws (omega arith)
  where
    cut : (x : List ℕ) → a ≤ length x → drop a (take (a + n) x) ≡ take n (drop a x)
    cut x h = ap (drop a) (take-add a n x) ∙ drop_at (take a x) (take n (drop a x)) a (length-take-le a x h)

module _ (m : Limits) (hm : m.objects ≤ 2 ^ 32) (ws : List ℕ) (ok : is_well_formed m ws ≡ true) (room x : ℕ) (q : List ℕ) (r : Placed)
    (e : r ≡ placed (take m.levels ws) (seek_in (x ∷ q) (take m.levels ws) 0 0 0)) where
  abbrev ls : List ℕ
  ls = take m.levels ws

  gone : (n : ℕ) → levels_from (decode m ws) (x ∷ q) ≡ refuses 15 n → records_from room (decode m ws) (x ∷ q) ≡ refuses 15 n
  unfolding records_from
  gone n d = rw d

  some-before : (k : ℕ) → r ≡ Placed.Before k → records_from room (decode m ws) (x ∷ q) ≡ refuses 15 (length (x ∷ q) - 1)
  some-before k d = gone (length q) (listed-before m hm ws ok x q r e k d) ∙ ap (refuses 15) (omega arith)

  some-missing : (n : ℕ) → r ≡ Placed.Missing n → records_from room (decode m ws) (x ∷ q) ≡ refuses 15 n
  some-missing n d = gone n (listed-missing m hm ws ok x q r e n d)

  module _ (a b : ℕ) (d : r ≡ Placed.Here (record { level = a; binding = b })) (u : Place) (f : u ≡ subtree_of ls a) where
    end_is : u.level ≡ subtree_end ls a
    end_is = run_end u ls a f

    fits_in : (a ≤ u.level) × (a + (u.level - a) ≤ m.levels) × (m.levels ≤ length ws)
    fits_in =
        let y = listed_at m hm ws ok x q r e a b d in
        omega (arith, end_is, length-ls m hm ws ok, long m hm ws ok, y.2, y.3)

    records-are : records_from room (decode m ws) (x ∷ q) ≡ fitting room (run_records ws a (u.level - a))
    unfolding records_from
    records-are =
        rw (listed_here m hm ws ok x q r e a b d)
        (ap (fitting room) (map-twice record_of_word word_level (take (subtree_end ls a - a) (drop a ls))
        ∙ ap (λ (k : ℕ). map word_record (take (k - a) (drop a ls))) (sym end_is)
        ∙ ap (map word_record) (part_of m.levels ws a (u.level - a) fits_in.2 fits_in.1)))

    inside : a + (u.level - a) ≤ length ws
    inside = omega (arith, fits_in.1, fits_in.2)

    some-here : u.level - a ≤ room → Stands ws room (records_from room (decode m ws) (x ∷ q)) (record { at = a; count = u.level - a })
    unfolding fitting
    some-here h =
        record {
          answer = records-are ∙ rw (le-leb (length (run_records ws a (u.level - a))) room (omega (arith, records-long ws a (u.level - a) inside)));
          fits = h;
          inside = inside;
        }

    some-short : room < u.level - a → records_from room (decode m ws) (x ∷ q) ≡ refuses 25 (u.level - a)
    unfolding fitting
    some-short h =
        records-are ∙ rw (lt-leb (length (run_records ws a (u.level - a))) room (omega (arith, records-long ws a (u.level - a) inside))) (ap (refuses 25) (records-long ws a (u.level - a) inside))

-- the same of any path with a key
module _ (m : Limits) (hm : m.objects ≤ 2 ^ 32) (ws : List ℕ) (ok : is_well_formed m ws ≡ true) (room : ℕ) where
  abbrev Told : List ℕ → Placed → Type 0
  Told p r = r ≡ placed (take m.levels ws) (seek_in p (take m.levels ws) 0 0 0)

  pub below_at : (p : List ℕ) → 0 < length p → (r : Placed) → Told p r → (a b : ℕ) → r ≡ Placed.Here (record { level = a; binding = b })
      → (a < length (take m.levels ws)) × (b ≡ counts (take a (take m.levels ws))) × (a < subtree_end (take m.levels ws) a)
  below_at [] h r e a b d = absurd (omega arith)
  below_at (x ∷ q) h r e a b d = let y = listed_at m hm ws ok x q r e a b d in (y.0, y.1, y.2)

  pub below-here : (p : List ℕ) → 0 < length p → (r : Placed) → Told p r → (a b : ℕ) → r ≡ Placed.Here (record { level = a; binding = b }) → (u : Place) → u ≡ subtree_of (take m.levels ws) a → u.level - a ≤ room
      → Stands ws room (records_from room (decode m ws) p) (record { at = a; count = u.level - a })
  below-here [] h r e a b d u f = absurd (omega arith)
  below-here (x ∷ q) h r e a b d u f = some-here m hm ws ok room x q r e a b d u f

  pub below-short : (p : List ℕ) → 0 < length p → (r : Placed) → Told p r → (a b : ℕ) → r ≡ Placed.Here (record { level = a; binding = b }) → (u : Place) → u ≡ subtree_of (take m.levels ws) a → room < u.level - a
      → records_from room (decode m ws) p ≡ refuses 25 (u.level - a)
  below-short [] h r e a b d u f = absurd (omega arith)
  below-short (x ∷ q) h r e a b d u f = some-short m hm ws ok room x q r e a b d u f

  pub below-before : (p : List ℕ) → 0 < length p → (r : Placed) → Told p r → (k : ℕ) → r ≡ Placed.Before k → records_from room (decode m ws) p ≡ refuses 15 (length p - 1)
  below-before [] h r e k d = absurd (omega arith)
  below-before (x ∷ q) h r e k d = some-before m hm ws ok room x q r e k d

  pub below-missing : (p : List ℕ) → 0 < length p → (r : Placed) → Told p r → (n : ℕ) → r ≡ Placed.Missing n → records_from room (decode m ws) p ≡ refuses 15 n
  below-missing [] h r e n d = absurd (omega arith)
  below-missing (x ∷ q) h r e n d = some-missing m hm ws ok room x q r e n d
