-- A well-formed table's parts, as the writer takes them: its levels, bindings and objects are the tree's, so that their fields are its image.
use mathlib.Core.Path.{◌≡◌, refl, ap, sym, ◌∙◌}
use mathlib.Core.Bool.{Bool, true, false}
use mathlib.Core.List.{List, [], ◌∷◌, ◌++◌, map, map-append, append-nil}
use Prim.Native.Nat.{ℕ, zero, suc, ◌-◌, ◌^◌, ◌<◌, ◌≤◌}
use native.Mathlib.Omega.{arith}
use lib.ListN.{length, take, drop, get_or, replicate, length-map}
use lib.Seq.{take_at, drop-drop, get_or-drop}
use borrow.Author.Tests.{le-leb, lt-leb}
use Rattle.pkg_length.specs.Refusal.{gives, refuses}
use Rattle.table.specs.Limits.{limits}
use Rattle.table.specs.Tree.{Binding, Forest, none, level, Tree, bound, is_live}
use Rattle.table.specs.Layout.{pack, flat, pad, bind_word, binding_of}
use Rattle.table.specs.Memory.{is_well_formed, means, decode}
use Rattle.table.proofs.Shape.{Valid, binding-tests}
use Rattle.table.proofs.Numbers.{segment-range}
use Rattle.table.specs.Valid.{rising, some}
use Rattle.pkg_length.proofs.Answers.{never}
use Rattle.table.proofs.Whole.{Whole, valid-whole, small-handles}
use Rattle.table.proofs.Memory.{formed-whole, level_part, bind_part, object_part, first-is, second_is, third-is, bound-back, encode-length}
use Rattle.image.specs.Bits.{spelled, packed, bytes_for}
use Rattle.image.specs.Format.{first_edition, image_length}
use Rattle.image.specs.Image.{image_fields, image}
use Rattle.image.specs.Calls.{write_call}
use Rattle.image.specs.Inside.{ink, used_of, table_fields, Filled, IsInUse}
use Rattle.pkg_length.specs.Wrote.{Wrote, wrote}
use Rattle.image.proofs.Written.{used-pad, ink-all}
use Rattle.image.proofs.Ink.{length-packed}
use Rattle.image.proofs.Laws.{fields-are, counts-bound, bits_are}

-- words from some number on
abbrev pub Over : ℕ → List ℕ → Type 0
Over n [] = Unit {0}
Over n (w ∷ ws) = (n ≤ w) × Over n ws

over-append : (n : ℕ) (xs ys : List ℕ) → Over n xs → Over n ys → Over n (xs ++ ys)
over-append n [] ys a b = b
over-append n (x ∷ xs) ys a b = (a.0, over-append n xs ys a.1 b)

over-at : (n : ℕ) (ws : List ℕ) (k : ℕ) → Over n ws → k < length ws → n ≤ get_or ws k 0
over-at n [] k b h = absurd (omega arith)
over-at n (w ∷ ws) zero b h = b.0
over-at n (w ∷ ws) (suc k) b h = over-at n ws k b.1 (omega arith)

ranked-word : (r t n s : ℕ) → 0 < r → 2 ^ 45 ≤ pack r t n s
unfolding pack
ranked-word r t n s h = omega arith

pub flat-over : (limit : ℕ) (live : ℕ → Bool) (r lo : ℕ) (F : Forest) → Valid limit live r lo F → Over (2 ^ 45) (flat r F)
unfolding flat
flat-over limit live r lo none v = tt
flat-over limit live r lo (level s t b kids next) v =
    (ranked-word r t (length b) s v.0.ranked, over-append (2 ^ 45) (flat (suc r) kids) (flat r next) (flat-over limit live (suc r) 0 kids v.1) (flat-over limit live r (suc s) next v.2))

rising-over : (live : ℕ → Bool) (lo : ℕ) (b : List Binding) → rising live lo b ≡ true → Over 1 (map bind_word b)
rising-over live lo [] h = tt
rising-over live lo (b ∷ bs) h =
    let t = binding-tests live lo b bs h in
    let r = segment-range b.segment t.named in
    (omega arith, rising-over live (suc b.segment) bs t.later)

bound-over : (limit : ℕ) (live : ℕ → Bool) (r lo : ℕ) (F : Forest) → Valid limit live r lo F → Over 1 (map bind_word (bound F))
unfolding bound
bound-over limit live r lo none v = tt
bound-over limit live r lo (level s t b kids next) v =
    rw (map-append bind_word b (bound kids ++ bound next), map-append bind_word (bound kids) (bound next))
    (over-append 1 (map bind_word b) (map bind_word (bound kids) ++ map bind_word (bound next)) (rising-over live 0 b v.0.ordered)
    (over-append 1 (map bind_word (bound kids)) (map bind_word (bound next)) (bound-over limit live (suc r) 0 kids v.1) (bound-over limit live r (suc s) next v.2)))

used_over : (n a : ℕ) (ws : List ℕ) → 0 < n → Over n ws → used_of (pad a ws) ≡ length ws
unfolding pad
used_over n a ws h o = used-pad ws (a - length ws) (λ k l e. omega (arith, over-at n ws k o l))

root-words : (F : Forest) → some F ≡ true → 1 ≤ length (flat 1 F)
unfolding flat
root-words none h = never h
root-words (level s t b kids next) h = omega arith

module _ (ws : List ℕ) (ok : is_well_formed limits ws ≡ true) where
  abbrev t : Tree
  t = decode limits ws

  pub whole : Whole limits t
  whole = valid-whole limits t (formed-whole limits ws ok).0

  hm : limits.objects ≤ 2 ^ 32
  hm = omega arith

  pub long-enough : length ws ≡ 1153
  long-enough = ap length (formed-whole limits ws ok).1 ∙ encode-length limits hm t whole

  pub levels-part : take 128 ws ≡ pad 128 (flat 1 t.levels)
  unfolding level_part
  levels-part = first-is limits hm t whole ws (formed-whole limits ws ok).1

  pub bindings-part : take 512 (drop 128 ws) ≡ pad 512 (map bind_word (bound t.levels))
  unfolding bind_part
  bindings-part = second_is limits hm t whole ws (formed-whole limits ws ok).1

  objects-part : drop 640 ws ≡ length t.objects ∷ pad 512 t.objects
  unfolding object_part
  objects-part = third-is limits hm t whole ws (formed-whole limits ws ok).1

  pub values-part : drop 641 ws ≡ pad 512 t.objects
  values-part = sym (drop-drop 1 640 ws) ∙ ap (drop 1) objects-part

  pub made : get_or ws 640 0 ≡ length t.objects
  made = sym (get_or-drop 640 ws 0 0) ∙ ap (λ (l : List ℕ). get_or l 0 0) objects-part

  over : Over (2 ^ 45) (flat 1 t.levels)
  over = flat-over limits.components (is_live t) 1 0 t.levels whole.forest

  take-pad : (a : ℕ) (xs : List ℕ) → take (length xs) (pad a xs) ≡ xs
  take-pad a xs = unfold pad in take_at xs (replicate (a - length xs) 0) (length xs) refl

  -- the words before the first spare one are the tree's
  pub levels-used : take (used_of (take 128 ws)) (take 128 ws) ≡ flat 1 t.levels
  levels-used =
      ap (λ (n : ℕ). take n (take 128 ws)) (ap used_of levels-part ∙ used_over (2 ^ 45) 128 (flat 1 t.levels) (omega arith) over)
      ∙ ap (take (length (flat 1 t.levels))) levels-part ∙ take-pad 128 (flat 1 t.levels)

  abbrev words : List ℕ
  words = map bind_word (bound t.levels)

  pub bindings-used : take (used_of (take 512 (drop 128 ws))) (take 512 (drop 128 ws)) ≡ words
  bindings-used =
      ap (λ (n : ℕ). take n (take 512 (drop 128 ws)))
      (ap used_of bindings-part ∙ used_over 1 512 words (omega arith) (bound-over limits.components (is_live t) 1 0 t.levels whole.forest))
      ∙ ap (take (length words)) bindings-part ∙ take-pad 512 words

  pub objects-used : take (get_or ws 640 0) (drop 641 ws) ≡ t.objects
  objects-used = ap (λ (n : ℕ). take n (drop 641 ws)) made ∙ ap (take (length t.objects)) values-part ∙ take-pad 512 t.objects

  pub few-objects : get_or ws 640 0 ≤ 512
  few-objects = rw made whole.objects

  -- what the words of the tree are
  pub filled : {ls bs vs : List ℕ} → IsInUse t ls bs vs → Filled ls bs vs
  filled u =
      rw (u.levels, u.bindings, u.objects)
      (record {
        ranked = λ k h. over-at (2 ^ 45) (flat 1 t.levels) k over h;
        rooted = root-words t.levels whole.rooted;
        few = whole.levels;
        counted = counts-bound limits.components (is_live t) 1 0 t.levels whole.forest ∙ sym (length-map (bound t.levels) bind_word);
        bounded = rw (length-map (bound t.levels) bind_word) whole.bindings;
        made = whole.objects;
      })

  -- the fields written are the image's
  pub saved : {ls bs vs : List ℕ} → IsInUse t ls bs vs → spelled (table_fields first_edition ls (length bs) (map binding_of bs) vs) ≡ spelled (image_fields first_edition t)
  saved u =
      rw (u.levels, u.bindings, u.objects, length-map (bound t.levels) bind_word, bound-back limits.components (is_live t) 1 0 t.levels (small-handles limits t whole hm) whole.forest)
      (ap (λ (l : List Binding). spelled (table_fields first_edition (flat 1 t.levels) (length (bound t.levels)) l t.objects)) (sym (append-nil (bound t.levels)))
      ∙ ap spelled (fields-are first_edition limits t [] whole))

  pub long : length (image first_edition t) ≡ image_length first_edition (length (flat 1 t.levels) - 1) (length (bound t.levels)) (length t.objects)
  unfolding image
  long = length-packed (spelled (image_fields first_edition t)) ∙ ap bytes_for (bits_are first_edition limits t whole)

  pub image-long : {ls bs vs : List ℕ} → IsInUse t ls bs vs → image_length first_edition (length ls - 1) (length bs) (length vs) ≡ length (image first_edition t)
  image-long u = rw (u.levels, u.bindings, u.objects, length-map (bound t.levels) bind_word) (sym long)

  meant : means limits ws ≡ gives t
  unfolding means
  meant = rw ok

  pub write-small : (room : ℕ) → room < length (image first_edition t) → write_call first_edition limits room ws ≡ refuses 25 0
  unfolding write_call
  write-small room h = rw (meant, lt-leb (length (image first_edition t)) room h)

  pub write-fine : (room : ℕ) → length (image first_edition t) ≤ room → write_call first_edition limits room ws ≡ gives (image first_edition t)
  unfolding write_call
  write-fine room h = rw (meant, le-leb (length (image first_edition t)) room h)

pub write-wrong : (ws : List ℕ) (room : ℕ) → is_well_formed limits ws ≡ false → write_call first_edition limits room ws ≡ refuses 24 0
unfolding write_call means
write-wrong ws room e = rw e

-- what stands in the output
pub wrote-all : (out o' : List ℕ) (X : List Bool) (r : ℕ) → o' ≡ ink out 0 X → r ≡ length (packed X) → ◌≡◌ {A = Wrote} (record { out = o'; said = gives r }) (wrote out (gives (packed X)))
wrote-all out o' X r e d = λ i. record { out = (e ∙ ink-all out X ∙ ap (λ (k : ℕ). packed X ++ drop k out) (sym (length-packed X))) i; said = gives (d i) }
