-- The parts of an image, each written behind those before it.
use mathlib.Core.Path.{◌≡◌, ap, sym, ◌∙◌}
use mathlib.Core.Bool.{Bool}
use mathlib.Core.List.{List, [], ◌∷◌, ◌++◌, map, append_assoc}
use Prim.Native.Nat.{ℕ, ◌+◌, ◌-◌, ◌*◌, ◌^◌, ◌<◌, ◌≤◌}
use native.Mathlib.Omega.{arith}
use lib.ListN.{length, drop, length-map, length-append, length-drop}
use lib.Seq.{get_or-drop}
use Rattle.table.specs.Tree.{Binding}
use Rattle.table.specs.Layout.{binding_of}
use Rattle.image.specs.Bits.{field, spelled}
use Rattle.image.specs.Format.{first_edition, objects_place, image_bits}
use Rattle.image.specs.Image.{object_fields}
use Rattle.image.specs.Inside.{ink, words_fields, counted_fields, counts_fields, table_fields, Ranked, Ready, Filled}
use Rattle.image.proofs.Written.{ink-next, ink-clean, ink-length, length-words, length-counted, length-spelled, spelled-append}

-- bits that stand from the front on
pub record Stands (out o : List ℕ) (F : List Bool) : Type 0 where
  pub is : o ≡ ink out 0 F
  pub room : 0 + length F ≤ 8 * length out

module _ {out o : List ℕ} {F : List Bool} (s : Stands out o F) (q : ℕ) (e : q ≡ 0 + length F) where
  pub stands-more : {o' : List ℕ} (G : List Bool) → o' ≡ ink o q G → 0 + (length F + length G) ≤ 8 * length out → Stands out o' (F ++ G)
  stands-more {o'} G d h = record { is = ink-next out 0 F o s.is s.room q G o' d e; room = rw (length-append F G) h }

  pub stands-ready : (n : ℕ) → q + n ≤ 8 * length out → q + n < 2 ^ 19 → Ready o q n
  stands-ready n h l = record { clean = ink-clean out 0 F o s.is s.room q e; room = rw (ink-length out 0 F o s.is s.room) h; low = l }

pub ranked-below : (ls below : List ℕ) → below ≡ drop 1 ls → Ranked ls → Ranked below
ranked-below ls below b r = rw b (λ k h. rw (get_or-drop 1 ls k 0) (r (1 + k) (omega (arith, length-drop 1 ls))))

header-long : (n b o : ℕ) → length (spelled (counts_fields first_edition n b o)) ≡ 32
unfolding counts_fields
header-long n b o = length-spelled (field 4 1 ∷ field 8 n ∷ field 10 b ∷ field 10 o ∷ [])

fields-in-row : (ls below vs : List ℕ) (n : ℕ) (bs : List Binding) → below ≡ drop 1 ls
    → ((spelled (counts_fields first_edition (length below) n (length vs)) ++ spelled (words_fields first_edition below)) ++ spelled (counted_fields first_edition ls bs)) ++ spelled (object_fields vs)
    ≡ spelled (table_fields first_edition ls n bs vs)
unfolding table_fields
fields-in-row ls below vs n bs e =
    let H = spelled (counts_fields first_edition (length ls - 1) n (length vs)) in
    let W = spelled (words_fields first_edition (drop 1 ls)) in
    let C = spelled (counted_fields first_edition ls bs) in
    let O = spelled (object_fields vs) in
    sym (rw (
      e,
      length-drop 1 ls,
      spelled-append (counts_fields first_edition (length ls - 1) n (length vs)) (words_fields first_edition (drop 1 ls) ++ (counted_fields first_edition ls bs ++ object_fields vs)),
      spelled-append (words_fields first_edition (drop 1 ls)) (counted_fields first_edition ls bs ++ object_fields vs),
      spelled-append (counted_fields first_edition ls bs) (object_fields vs),
    )
    (sym (append_assoc (H ++ W) C O ∙ append_assoc H W (C ++ O))))

-- what each part finds, and what all of them leave
module _ (ls bs vs out below : List ℕ) (b : below ≡ drop 1 ls) (f : Filled ls bs vs) (room : image_bits first_edition (length ls - 1) (length bs) (length vs) ≤ 8 * length out) where
  less : length below ≡ length ls - 1
  less = rw (b, length-drop 1 ls)

  abbrev H : List Bool
  H = spelled (counts_fields first_edition (length below) (length bs) (length vs))

  abbrev W : List Bool
  W = spelled (words_fields first_edition below)

  abbrev C : List Bool
  C = spelled (counted_fields first_edition ls (map binding_of bs))

  H-long : length H ≡ 32
  H-long = header-long (length below) (length bs) (length vs)

  W-long : length W ≡ length below * 41
  W-long = length-words first_edition below

  C-long : length C ≡ length ls * 10 + length bs * 42
  C-long =
      length-counted first_edition ls (map binding_of bs) (rw (length-map bs binding_of) (omega (arith, f.counted)))
      ∙ ap (λ (n : ℕ). length ls * 10 + n * 42) f.counted

  HW-long : length (H ++ W) ≡ 32 + length below * 41
  HW-long = rw (length-append H W, H-long, W-long)

  HWC-long : length ((H ++ W) ++ C) ≡ 32 + length below * 41 + (length ls * 10 + length bs * 42)
  HWC-long = rw (length-append (H ++ W) C, HW-long, C-long)

  module _ {o₁ : List ℕ} (e₁ : o₁ ≡ ink out 0 (spelled (counts_fields first_edition (length below) (length bs) (length vs)))) where
    s₁ : Stands out o₁ H
    s₁ = record { is = e₁; room = omega (arith, H-long, room, f.rooted) }

    pub levels-ready : Ready o₁ 32 (length below * 41)
    levels-ready = stands-ready s₁ 32 (omega (arith, H-long)) (length below * 41) (omega (arith, room, less, f.rooted)) (omega (arith, less, f.few))

    module _ {o₂ : List ℕ} (e₂ : o₂ ≡ ink o₁ 32 (spelled (words_fields first_edition below))) where
      s₂ : Stands out o₂ (H ++ W)
      s₂ = stands-more s₁ 32 (omega (arith, H-long)) (spelled (words_fields first_edition below)) e₂ (omega (arith, H-long, W-long, room, less, f.rooted))

      pub bound-ready : Ready o₂ (32 + length below * 41) (length ls * 10 + length bs * 42)
      bound-ready = stands-ready s₂ (32 + length below * 41) (omega (arith, HW-long)) (length ls * 10 + length bs * 42) (omega (arith, room, less, f.rooted)) (omega (arith, less, f.few, f.bounded))

      module _ {o₃ : List ℕ} (e₃ : o₃ ≡ ink o₂ (32 + length below * 41) (spelled (counted_fields first_edition ls (map binding_of bs)))) where
        s₃ : Stands out o₃ ((H ++ W) ++ C)
        s₃ = stands-more s₂ (32 + length below * 41) (omega (arith, HW-long)) (spelled (counted_fields first_edition ls (map binding_of bs))) e₃ (omega (arith, HW-long, C-long, room, less, f.rooted))

        module _ {q : ℕ} (p : q ≡ objects_place first_edition (length below) (length bs)) where
          place : q ≡ 0 + length ((H ++ W) ++ C)
          place = omega (arith, p, HWC-long, less, f.rooted)

          pub objects-ready : Ready o₃ q (length vs * 64)
          objects-ready = stands-ready s₃ q place (length vs * 64) (omega (arith, p, room, less, f.rooted)) (omega (arith, p, less, f.few, f.bounded, f.made))

          pub all-written : {o₄ : List ℕ} → o₄ ≡ ink o₃ q (spelled (object_fields vs)) → o₄ ≡ ink out 0 (spelled (table_fields first_edition ls (length bs) (map binding_of bs) vs))
          all-written {o₄} e₄ =
              ink-next out 0 ((H ++ W) ++ C) o₃ s₃.is s₃.room q (spelled (object_fields vs)) o₄ e₄ place
              ∙ ap (ink out 0) (fields-in-row ls below vs (length bs) (map binding_of bs) b)
