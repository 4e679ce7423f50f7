-- The words that the parts of an image leave in a cleared table are the table's memory, part by part with spare zeros; and what an image that
-- passes grants to the functions that fill the table.
use mathlib.Core.Path.{◌≡◌, ap, sym, ◌∙◌}
use mathlib.Core.List.{List, [], ◌∷◌, ◌++◌, append_assoc}
use Prim.Native.Nat.{ℕ, zero, suc, ◌+◌, ◌-◌, ◌*◌, ◌/◌, ◌^◌, ◌<◌, ◌≤◌}
use native.Mathlib.Omega.{arith}
use lib.ListN.{length, take, drop, set, replicate, length-append, length-drop, replicate-append-replicate}
use lib.Seq.{take_at, drop_at, drop-drop, set_at, length-take-le}
use borrow.Author.Tests.{eq-eqb, ne_eqb}
use Rattle.pkg_length.specs.Refusal.{gives, refuses}
use Rattle.table.specs.Limits.{Limits, limits}
use Rattle.table.specs.Layout.{pad, encode}
use Rattle.table.specs.Memory.{size, left}
use Rattle.table.proofs.Whole.{length-pad}
use Rattle.image.specs.Bits.{bits_in}
use Rattle.image.specs.declared.Counts.{Counts}
use Rattle.image.specs.Format.{Format, first_edition, header_bits, bindings_place, objects_place}
use Rattle.image.specs.Reader.{first, image_checks, root_seen, tree_in, image_in, levels_in, bindings_in, objects_in, bound_at}
use Rattle.image.specs.Calls.{read_call, counts_in}
use Rattle.image.specs.Inside.{Walk, Accepted}
use Rattle.image.proofs.Fields.{length-bits_in}
use Rattle.image.proofs.Rooms.{levels-room, walk-bound, bound-count}
use Rattle.image.proofs.Laws.{head, levels-ok, bound-ok, objects-there, length-is}

drop-zeros : (k n : ℕ) → drop {A = ℕ} k (replicate n 0) ≡ replicate (n - k) 0
drop-zeros zero n = ap (λ (j : ℕ). replicate j 0) (none n)
  where
    none : (n : ℕ) → n ≡ n - 0
    none n = omega arith
drop-zeros (suc k) zero = ap (λ (j : ℕ). replicate j 0) (none k)
  where
    none : (k : ℕ) → 0 ≡ 0 - suc k
    none k = omega arith
drop-zeros (suc k) (suc n) = drop-zeros k n ∙ ap (λ (j : ℕ). replicate j 0) (less n k)
  where
    less : (n k : ℕ) → n - k ≡ suc n - suc k
    less n k = omega arith

-- a list behind another, cut within the second
cut : (X Y : List ℕ) (a d : ℕ) → length X ≡ a → drop (a + d) (X ++ Y) ≡ drop d Y
cut X Y a d h = sym (drop-drop d a (X ++ Y)) ∙ ap (drop d) (drop_at X Y a h)

-- spare zeros in two parts
spare : (n a r : ℕ) (X : List ℕ) → length X ≤ a → n ≡ (a - length X) + r → X ++ replicate n 0 ≡ pad a X ++ replicate r 0
unfolding pad
spare n a r X h e =
    ap (λ (k : ℕ). X ++ replicate k 0) e
    ∙ ap (λ (l : List ℕ). X ++ l) (sym (replicate-append-replicate (a - length X) r 0))
    ∙ sym (append_assoc X (replicate (a - length X) 0) (replicate r 0))

module _ (a b c made : ℕ) (W D Vs t₀ t₁ t₂ t₃ : List ℕ) (w d v : ℕ) (ew : length W ≡ w) (ed : length D ≡ d) (ev : length Vs ≡ v) (hw : w ≤ a) (hd : d ≤ b) (hv : v ≤ c)
    (L : ℕ) (hL : L ≡ a + (b + suc c)) (e₀ : t₀ ≡ replicate L 0) (e₁ : t₁ ≡ W ++ drop w t₀) (e₂ : t₂ ≡ take a t₁ ++ (D ++ drop (a + d) t₁))
    (e₃ : t₃ ≡ take (a + b + 1) (set t₂ (a + b) made) ++ (Vs ++ drop (a + b + 1 + v) (set t₂ (a + b) made))) where
  first_part : t₁ ≡ pad a W ++ replicate (b + suc c) 0
  first_part = e₁ ∙ rw (e₀, drop-zeros w L) (spare (L - w) a (b + suc c) W (omega arith) (omega arith))

  long-levels : length (pad a W) ≡ a
  long-levels = length-pad a W (omega arith)

  second-part : t₂ ≡ pad a W ++ (pad b D ++ replicate (suc c) 0)
  second-part =
      e₂ ∙ rw (first_part, take_at (pad a W) (replicate (b + suc c) 0) a long-levels, cut (pad a W) (replicate (b + suc c) 0) a d long-levels, drop-zeros d (b + suc c))
      (ap (λ (l : List ℕ). pad a W ++ l) (spare (b + suc c - d) b (suc c) D (omega arith) (omega arith)))

  both : List ℕ
  both = pad a W ++ pad b D

  long-both : length both ≡ a + b
  unfolding both
  long-both = rw (length-append (pad a W) (pad b D), long-levels, length-pad b D (omega arith))

  third-part : set t₂ (a + b) made ≡ (both ++ (made ∷ [])) ++ replicate c 0
  unfolding both
  third-part =
      rw (second-part, ← append_assoc (pad a W) (pad b D) (replicate (suc c) 0)) (set_at (pad a W ++ pad b D) 0 (replicate c 0) made (a + b) (unfold both in long-both) ∙ sym (append_assoc (pad a W ++ pad b D) (made ∷ []) (replicate c 0)))

  long-third : length (both ++ (made ∷ [])) ≡ a + b + 1
  long-third = rw (length-append both (made ∷ []), long-both)

  pub all-parts : t₃ ≡ pad a W ++ (pad b D ++ (made ∷ pad c Vs))
  unfolding both pad
  all-parts =
      e₃ ∙ rw (third-part, take_at (both ++ (made ∷ [])) (replicate c 0) (a + b + 1) long-third, cut (both ++ (made ∷ [])) (replicate c 0) (a + b + 1) v long-third, drop-zeros v c, ← ev)
      (append_assoc both (made ∷ []) (Vs ++ replicate (c - length Vs) 0) ∙ append_assoc (pad a W) (pad b D) (made ∷ (Vs ++ replicate (c - length Vs) 0)))

-- the table stays as long as it was
pub kept-front : (W C L : List ℕ) (w len : ℕ) → length W ≡ w → length C ≡ len → w ≤ len → L ≡ W ++ drop w C → length L ≡ len
kept-front W C L w len ew ec h e = ap length e ∙ length-append W (drop w C) ∙ rw (ew, length-drop w C, ec) (omega arith)

pub kept-middle : (a d len : ℕ) (D L M : List ℕ) → length D ≡ d → length L ≡ len → a + d ≤ len → M ≡ take a L ++ (D ++ drop (a + d) L) → length M ≡ len
kept-middle a d len D L M ed el h e =
    ap length e ∙ length-append (take a L) (D ++ drop (a + d) L)
    ∙ rw (length-append D (drop (a + d) L), length-take-le a L (omega arith), ed, length-drop (a + d) L, el) (omega arith)

-- What an image that passes grants.

pub record Grants (bytes : List ℕ) (n total made : ℕ) : Type 0 where
  pub levels : n < 128
  pub bindings : total ≤ 512
  pub objects : made ≤ 512
  pub records : header_bits + n * 41 ≤ 8 * length bytes
  pub short : length bytes < 2 ^ 16
  pub walk : Walk first_edition (bits_in bytes) (suc n) (bindings_place first_edition n) total
  pub counted : length (bound_at first_edition (bits_in bytes) (suc n) (bindings_place first_edition n)) ≡ total
  pub there : objects_place first_edition n total + made * 64 ≤ 8 * length bytes

same-grants : (bytes : List ℕ) {c d : Counts} → c ≡ d → Grants bytes d.levels d.bindings d.objects → Grants bytes c.levels c.bindings c.objects
same-grants bytes e x = rw e x

pub grants : (bytes : List ℕ) (c : Counts) → Accepted bytes c → Grants bytes c.levels c.bindings c.objects
grants bytes c a =
    let h = head first_edition limits bytes a.checked in
    let l = length-bits_in bytes in
    let z = length-is first_edition limits bytes a.checked in
    let b = bound-ok first_edition limits bytes a.checked in
    same-grants bytes a.counts
    (record {
      levels = h.levels;
      bindings = h.bindings;
      objects = h.objects;
      records = rw l at (levels-room first_edition (bits_in bytes) (levels_in (bits_in bytes)) header_bits 0 (root_seen first_edition) (levels-ok first_edition limits bytes a.checked) h.room);
      short = small (length bytes) (levels_in (bits_in bytes)) (bindings_in (bits_in bytes)) (objects_in (bits_in bytes)) h.levels h.bindings h.objects (sym l ∙ z);
      walk = walk-bound first_edition (bits_in bytes) (objects_in (bits_in bytes)) (levels_in (bits_in bytes)) header_bits (bindings_place first_edition (levels_in (bits_in bytes))) 0 (bindings_in (bits_in bytes)) b;
      counted = bound-count first_edition (bits_in bytes) (objects_in (bits_in bytes)) (levels_in (bits_in bytes)) header_bits (bindings_place first_edition (levels_in (bits_in bytes))) 0 (bindings_in (bits_in bytes)) b;
      there = rw l at (objects-there first_edition limits bytes a.checked);
    })
  where
    small : (x n t o : ℕ) → n < 128 → t ≤ 512 → o ≤ 512 → 8 * x ≡ 8 * ((32 + n * 41 + (suc n * 10 + t * 42) + o * 64 + 7) / 8) → x < 2 ^ 16
    small x n t o a b c e = omega arith

-- The call.

module _ (f : Format) (m : Limits) (bytes ws : List ℕ) where
  pub read-wrong : (length ws ≡ size m → ⊥) → left m ws (read_call f m bytes ws) ≡ record { words = ws; said = refuses 24 0 }
  unfolding read_call
  read-wrong h = rw (ne_eqb (length ws) (size m) h)

  pub read-refused : length ws ≡ size m → {n p : ℕ} → first (image_checks f m (bits_in bytes)) ≡ refuses n p → left m ws (read_call f m bytes ws) ≡ record { words = ws; said = refuses n p }
  unfolding read_call image_in
  read-refused h e = rw (eq-eqb (length ws) (size m) h, e)

  pub read-fine : length ws ≡ size m → first (image_checks f m (bits_in bytes)) ≡ gives tt → left m ws (read_call f m bytes ws) ≡ record { words = encode m (tree_in f (bits_in bytes)); said = gives (counts_in bytes) }
  unfolding read_call image_in
  read-fine h e = rw (eq-eqb (length ws) (size m) h, e)
