-- What a turn of each loop of the test of memory does, over the list that is left.
use mathlib.Core.Path.{◌≡◌, refl, ap, sym, ◌∙◌}
use mathlib.Core.Bool.{Bool, true, false, ◌&&◌, and-false, and-true}
use mathlib.Core.List.{List, [], ◌∷◌, map}
use Prim.Native.Nat.{ℕ, suc, ◌+◌, ◌-◌, ◌*◌, ◌/◌, ◌%◌, ◌^◌, ◌<◌, ◌≤◌}
use native.Mathlib.Omega.{arith}
use native.Mathlib.Numerals.{add-one}
use lib.Bits.{bit_or, or_add_and, and_le_l, and_le_r}
use lib.Dec.{leb, ltb, eqb}
use lib.ListN.{length, take, drop, get_or, drop_of_length-le}
use lib.Seq.{drop-cons, slice, slice-cons, slice_empty, drop-drop}
use borrow.Author.Tests.{le-leb, lt-leb, lt-ltb, le-ltb, eq-eqb, ne_eqb, leb-true, ltb-true, ltb-false, eqb-true, eqb-false}
use Rattle.pkg_length.proofs.Answers.{halves}
use Rattle.name_object.specs.Memory.{all_zero}
use Rattle.table.specs.Limits.{Limits}
use Rattle.table.specs.Tree.{Binding}
use Rattle.table.specs.Layout.{rank_of, type_of, count_of, seg_of, binding_of}
use Rattle.table.specs.Valid.{segment_ok, rising, name_ok, level_ok}
use Rattle.table.specs.Inside.{word_ok, binds_ok, record_ok, noted, scan, objects_ok, below, parts_ok, lowest}
use Rattle.table.proofs.Shape.{level-tests}

-- bindings
-- The last binding's word passed, all bits of its handle set, stands for the least segment that may come; and since they rise, the segments passed
-- are tested from above by the last of them alone.
unfoldable pub rest_ok : (ℕ → Bool) → ℕ → List ℕ → Bool
rest_ok live last ws = ltb last (37 ^ 4 * 2 ^ 32) && rising live (last / 2 ^ 32 + 1) (map binding_of ws)

rising-first : (live : ℕ → Bool) (bs : List Binding) → rising live (10 * 37 ^ 3) bs ≡ rising live 0 bs
unfolding rising segment_ok
rising-first live [] = refl
rising-first live (b ∷ bs) = rw (le-leb 0 b.segment (omega arith)) (go (leb (10 * 37 ^ 3) b.segment) (ltb b.segment (37 ^ 4)) (live b.handle))
  where
    go : (x y z : Bool) → (x && (x && y) && z && rising live (suc b.segment) bs) ≡ ((x && y) && z && rising live (suc b.segment) bs)
    go true y z = refl
    go false y z = refl

rest-start : (live : ℕ → Bool) (ws : List ℕ) → rest_ok live (10 * 37 ^ 3 * 2 ^ 32 - 1) ws ≡ rising live 0 (map binding_of ws)
unfolding rest_ok
rest-start live ws = rising-first live (map binding_of ws)

module _ (live : ℕ → Bool) (last i e : ℕ) (l : List ℕ) (h : i < e) (k : e ≤ length l) (f : last % 2 ^ 32 ≡ 2 ^ 32 - 1) where
  pub rest-low : get_or l i 0 ≤ last → rest_ok live last (slice i e l) ≡ false
  unfolding rest_ok rising
  rest-low x = rw (slice-cons i e l 0 h k, lt-leb (last / 2 ^ 32 + 1) (get_or l i 0 / 2 ^ 32) (omega arith)) (and-false (ltb last (37 ^ 4 * 2 ^ 32)))

  pub rest-dead : live (get_or l i 0 % 2 ^ 32) ≡ false → rest_ok live last (slice i e l) ≡ false
  unfolding rest_ok rising
  rest-dead x = rw (slice-cons i e l 0 h k, x) (simp and-false)

  module _ (g : 10 * 37 ^ 3 ≤ last / 2 ^ 32 + 1) (above : last < get_or l i 0) (alive : live (get_or l i 0 % 2 ^ 32) ≡ true) where
    next : ℕ
    next = get_or l i 0 / 2 ^ 32 * 2 ^ 32 + (2 ^ 32 - 1)

    next-seg : next / 2 ^ 32 ≡ get_or l i 0 / 2 ^ 32
    unfolding next
    next-seg = omega arith

    pub rest-on : rest_ok live (get_or l i 0 / 2 ^ 32 * 2 ^ 32 + (2 ^ 32 - 1)) (slice (i + 1) e l) ≡ rest_ok live last (slice i e l)
    unfolding rest_ok rising segment_ok next
    rest-on =
        rw (
          add-one i,
          slice-cons i e l 0 h k,
          next-seg,
          add-one (get_or l i 0 / 2 ^ 32),
          le-leb (last / 2 ^ 32 + 1) (get_or l i 0 / 2 ^ 32) (omega arith),
          le-leb (10 * 37 ^ 3) (get_or l i 0 / 2 ^ 32) (omega arith),
          alive,
        )
        (go (ltb (get_or l i 0 / 2 ^ 32) (37 ^ 4)) refl)
      where
        rest : Bool
        rest = rising live (suc (get_or l i 0 / 2 ^ 32)) (map binding_of (slice (suc i) e l))

        go : (t : Bool) → ltb (get_or l i 0 / 2 ^ 32) (37 ^ 4) ≡ t
            → (ltb (get_or l i 0 / 2 ^ 32 * 2 ^ 32 + (2 ^ 32 - 1)) (37 ^ 4 * 2 ^ 32) && rest) ≡ (ltb last (37 ^ 4 * 2 ^ 32) && (t && true && rest))
        go true x =
            let y = ltb-true (get_or l i 0 / 2 ^ 32) (37 ^ 4) x in
            rw (lt-ltb (get_or l i 0 / 2 ^ 32 * 2 ^ 32 + (2 ^ 32 - 1)) (37 ^ 4 * 2 ^ 32) (omega arith), lt-ltb last (37 ^ 4 * 2 ^ 32) (omega arith))
        go false x =
            let y = ltb-false (get_or l i 0 / 2 ^ 32) (37 ^ 4) x in
            rw (le-ltb (get_or l i 0 / 2 ^ 32 * 2 ^ 32 + (2 ^ 32 - 1)) (37 ^ 4 * 2 ^ 32) (omega arith)) (sym (and-false (ltb last (37 ^ 4 * 2 ^ 32))))

pub rest_end : (live : ℕ → Bool) (last i e : ℕ) (l : List ℕ) → i ≡ e → rest_ok live last (slice i e l) ≡ ltb last (37 ^ 4 * 2 ^ 32)
unfolding rest_ok rising
rest_end live last i e l h = rw (h, slice_empty e l) (and-true (ltb last (37 ^ 4 * 2 ^ 32)))

-- spare words, by the bits that any of them has
or-zero : (a b : ℕ) → eqb (bit_or a b) 0 ≡ (eqb a 0 && eqb b 0)
or-zero a b = go (eqb a 0) (eqb b 0) refl refl
  where
    go : (x y : Bool) → eqb a 0 ≡ x → eqb b 0 ≡ y → eqb (bit_or a b) 0 ≡ (x && y)
    go true true p q = rw (eqb-true a 0 p, eqb-true b 0 q)
    go true false p q = ne_eqb (bit_or a b) 0 (λ e. eqb-false b 0 q (omega (arith, or_add_and a b, and_le_l a b)))
    go false y p q = ne_eqb (bit_or a b) 0 (λ e. eqb-false a 0 p (omega (arith, or_add_and a b, and_le_r a b)))

pub spare-turn : (xs : List ℕ) (i seen : ℕ) → i < length xs → (eqb (bit_or seen (get_or xs i 0)) 0 && all_zero (drop (i + 1) xs)) ≡ (eqb seen 0 && all_zero (drop i xs))
unfolding all_zero
spare-turn xs i seen h =
    rw (add-one i, drop-cons xs i 0 h, or-zero seen (get_or xs i 0)) (go (eqb seen 0) (eqb (get_or xs i 0) 0) refl)
  where
    go : (x y : Bool) → eqb (get_or xs i 0) 0 ≡ y → ((x && eqb (get_or xs i 0) 0) && all_zero (drop (suc i) xs)) ≡ (x && all_zero (get_or xs i 0 ∷ drop (suc i) xs))
    go true true q = rw q
    go true false q = rw q
    go false y q = refl

pub spare-end : (xs : List ℕ) (i seen : ℕ) → length xs ≤ i → (eqb seen 0 && all_zero (drop i xs)) ≡ eqb seen 0
unfolding all_zero
spare-end xs i seen h = rw (drop_of_length-le xs h) (and-true (eqb seen 0))

pub binds-short : (live : ℕ → Bool) (n : ℕ) (l : List ℕ) → length l < n → binds_ok live n l ≡ false
unfolding binds_ok
binds-short live n l h = rw (lt-leb n (length l) h)

pub binds-rest : (live : ℕ → Bool) (n : ℕ) (l : List ℕ) → n ≤ length l → binds_ok live n l ≡ rest_ok live (10 * 37 ^ 3 * 2 ^ 32 - 1) (take n l)
unfolding binds_ok
binds-rest live n l h = rw (le-leb n (length l) h) (sym (rest-start live (take n l)))

-- a record, test by test
module _ (limit : ℕ) (live : ℕ → Bool) (p : ℕ) (low : List ℕ) (w : ℕ) (bs : List ℕ) where
  pub record-jumps : p + 1 < rank_of w → record_ok limit live p low w bs ≡ false
  unfolding record_ok
  record-jumps h = rw (lt-leb (rank_of w) (p + 1) h)

  module _ (step : rank_of w ≤ p + 1) where
    pub record-spare : rank_of w ≡ 0 → record_ok limit live p low w bs ≡ false
    unfolding record_ok level_ok
    record-spare h = rw (le-leb (rank_of w) (p + 1) step, le-ltb 0 (rank_of w) (omega arith))

    pub record-low : seg_of w < get_or low (rank_of w) 0 → record_ok limit live p low w bs ≡ false
    unfolding record_ok level_ok
    record-low h = rw (le-leb (rank_of w) (p + 1) step, lt-leb (get_or low (rank_of w) 0) (seg_of w) h) (simp and-false)

    pub record-nameless : name_ok (rank_of w) (seg_of w) (type_of w) ≡ false → record_ok limit live p low w bs ≡ false
    unfolding record_ok level_ok
    record-nameless h = rw (le-leb (rank_of w) (p + 1) step, h) (simp and-false)

    module _ (ranked : (rank_of w ≡ 0 → ⊥)) (rises : get_or low (rank_of w) 0 ≤ seg_of w) (named : name_ok (rank_of w) (seg_of w) (type_of w) ≡ true) where
      pub record-binds : rank_of w < limit → record_ok limit live p low w bs ≡ binds_ok live (count_of w) bs
      unfolding record_ok level_ok
      record-binds h =
          rw (
            le-leb (rank_of w) (p + 1) step,
            lt-ltb 0 (rank_of w) (omega arith),
            le-leb (rank_of w) limit (omega arith),
            le-leb (get_or low (rank_of w) 0) (seg_of w) rises,
            named,
            lt-ltb (rank_of w) limit h,
            lt-ltb (count_of w) 1024 (omega arith),
          )

      pub record-deepest : limit ≤ rank_of w → record_ok limit live p low w bs ≡ (eqb (rank_of w) limit && eqb (count_of w) 0)
      unfolding record_ok level_ok binds_ok rising
      record-deepest h =
          rw (le-leb (rank_of w) (p + 1) step, lt-ltb 0 (rank_of w) (omega arith), le-leb (get_or low (rank_of w) 0) (seg_of w) rises, named, le-ltb (rank_of w) limit h)
          (go (eqb (rank_of w) limit) (eqb (count_of w) 0) refl refl)
        where
          none-held : count_of w ≡ 0 → binds_ok live (count_of w) bs ≡ true
          none-held e = rw (e, le-leb 0 (length bs) (omega arith))

          go : (x y : Bool) → eqb (rank_of w) limit ≡ x → eqb (count_of w) 0 ≡ y → (leb (rank_of w) limit && true && true && y && binds_ok live (count_of w) bs) ≡ (x && y)
          go true true a b = rw (le-leb (rank_of w) limit (omega (arith, eqb-true (rank_of w) limit a)), none-held (eqb-true (count_of w) 0 b))
          go true false a b = rw (le-leb (rank_of w) limit (omega (arith, eqb-true (rank_of w) limit a)))
          go false y a b = rw (lt-leb (rank_of w) limit (omega (arith, eqb-false (rank_of w) limit a)))

-- a record that passes
pub record Passed (limit w : ℕ) (l : List ℕ) : Type 0 where
  pub rank : rank_of w ≤ limit
  pub room : count_of w ≤ length l

pub passed : (limit : ℕ) (live : ℕ → Bool) (p : ℕ) (low : List ℕ) (w : ℕ) (l : List ℕ) → record_ok limit live p low w l ≡ true → Passed limit w l
unfolding record_ok binds_ok
passed limit live p low w l h =
    let b = halves (leb (rank_of w) (p + 1) && word_ok limit (get_or low (rank_of w) 0) w) (binds_ok live (count_of w) l) h in
    let a = halves (leb (rank_of w) (p + 1)) (word_ok limit (get_or low (rank_of w) 0) w) b.0 in
    let c = halves (leb (count_of w) (length l)) _ b.1 in
    record {
      rank = (level-tests limit (rank_of w) (get_or low (rank_of w) 0) (seg_of w) (type_of w) (count_of w) a.1).shallow;
      room = leb-true (count_of w) (length l) c.0;
    }

-- the pass over the records
module _ (limit : ℕ) (live : ℕ → Bool) (p : ℕ) (low ws : List ℕ) (k : ℕ) (bs : List ℕ) (h : k < length ws) where
  pub turn-zero : get_or ws k 0 ≡ 0 → scan limit live p low (drop k ws) bs ≡ (all_zero (drop (k + 1) ws) && all_zero bs)
  unfolding scan
  turn-zero z = rw (add-one k, drop-cons ws k 0 h, eq-eqb (get_or ws k 0) 0 z)

  module _ (n : get_or ws k 0 ≡ 0 → ⊥) where
    pub turn-unfit : record_ok limit live p low (get_or ws k 0) bs ≡ false → scan limit live p low (drop k ws) bs ≡ false
    unfolding scan
    turn-unfit e = rw (drop-cons ws k 0 h, ne_eqb (get_or ws k 0) 0 n, e)

    pub turn-pass : record_ok limit live p low (get_or ws k 0) bs ≡ true
        → scan limit live p low (drop k ws) bs ≡ scan limit live (rank_of (get_or ws k 0)) (noted low (get_or ws k 0)) (drop (k + 1) ws) (drop (count_of (get_or ws k 0)) bs)
    unfolding scan
    turn-pass e = rw (add-one k, drop-cons ws k 0 h, ne_eqb (get_or ws k 0) 0 n, e)

pub turn_end : (limit : ℕ) (live : ℕ → Bool) (p : ℕ) (low ws : List ℕ) (k : ℕ) (bs : List ℕ) → length ws ≤ k → scan limit live p low (drop k ws) bs ≡ all_zero bs
unfolding scan
turn_end limit live p low ws k bs h = rw (drop_of_length-le ws h)

-- the objects' part
module _ (m : Limits) (ls bs os : List ℕ) (h : 0 < length os) where
  objects-at : objects_ok m.objects os ≡ (leb (get_or os 0 0) m.objects && all_zero (drop (get_or os 0 0 + 1) os))
  unfolding objects_ok
  objects-at = ap (objects_ok m.objects) (drop-cons os 0 0 h) ∙ ap (λ (l : List ℕ). leb (get_or os 0 0) m.objects && all_zero l) (drop-drop (get_or os 0 0) 1 os ∙ ap (λ (n : ℕ). drop n os) (swap (get_or os 0 0)))
    where
      swap : (n : ℕ) → 1 + n ≡ n + 1
      swap n = omega arith

  pub parts-many : m.objects < get_or os 0 0 → parts_ok m ls bs os ≡ false
  unfolding parts_ok
  parts-many x = rw (objects-at, lt-leb (get_or os 0 0) m.objects x)

  pub parts-bare : get_or ls 0 0 ≡ 0 → parts_ok m ls bs os ≡ false
  unfolding parts_ok
  parts-bare z = rw (eq-eqb (get_or ls 0 0) 0 z, and-false (objects_ok m.objects os))

  module _ (x : get_or os 0 0 ≤ m.objects) where
    pub parts_loose : all_zero (drop (get_or os 0 0 + 1) os) ≡ false → parts_ok m ls bs os ≡ false
    unfolding parts_ok
    parts_loose y = rw (objects-at, le-leb (get_or os 0 0) m.objects x, y)

    pub parts-scan : all_zero (drop (get_or os 0 0 + 1) os) ≡ true → (get_or ls 0 0 ≡ 0 → ⊥)
        → parts_ok m ls bs os ≡ scan m.components (below (get_or os 0 0)) 0 (lowest m.components) ls bs
    unfolding parts_ok
    parts-scan y z = rw (objects-at, le-leb (get_or os 0 0) m.objects x, y, ne_eqb (get_or ls 0 0) 0 z)
