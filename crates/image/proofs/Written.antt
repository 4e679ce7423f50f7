-- What is written: the fields of the table's words are those of its tree, and bits put behind bits are put there at once.
use mathlib.Core.Path.{◌≡◌, refl, ap, ap₂, sym, ◌∙◌}
use mathlib.Core.Bool.{Bool}
use mathlib.Core.List.{List, [], ◌∷◌, ◌++◌, append_assoc, append-nil, map}
use Prim.Native.Nat.{ℕ, zero, suc, ◌+◌, ◌-◌, ◌*◌, ◌^◌, ◌<◌, ◌≤◌}
use native.Mathlib.Omega.{arith}
use native.Mathlib.Nat.{suc-mul, add-mul}
use native.Mathlib.Numerals.{add-one}
use lib.ListN.{length, take, drop, get_or, replicate, length-append, length-drop}
use lib.Seq.{take-suc, take_all, take-append_seam, drop-append_seam, drop-drop, length-take-le, take-add}
use borrow.Author.Tests.{ne_eqb}
use Rattle.table.specs.Tree.{Binding, Forest, none, level, bound}
use Rattle.table.specs.Layout.{pack, count_of, binding_of, flat}
use Rattle.table.specs.Inside.{counts}
use Rattle.table.proofs.Words.{rank-pack, type-pack, count-pack, seg-pack}
use Rattle.table.proofs.Shape.{Valid}
use Rattle.image.specs.Bits.{Field, field, spelled, bits, bytes_for, packed}
use Rattle.image.specs.Format.{Format, level_bits, binding_bits}
use Rattle.image.specs.Image.{bytes_of_segment, level_fields, binding_fields, bound_fields, object_fields}
use Rattle.image.specs.Inside.{ink, used_of, fields_of_word, words_fields, counted_fields}
use Rattle.image.proofs.Fields.{length-bits}
use Rattle.image.proofs.Ink.{length-ink, ink-ink}

pub spelled-append : (xs ys : List Field) → spelled (xs ++ ys) ≡ spelled xs ++ spelled ys
unfolding spelled
spelled-append [] ys = refl
spelled-append (f ∷ xs) ys = rw (spelled-append xs ys, append_assoc (bits f.width f.number) (spelled xs) (spelled ys))

-- bits put behind bits
module _ (out : List ℕ) (p : ℕ) (F : List Bool) (o₁ : List ℕ) (e : o₁ ≡ ink out p F) (room : p + length F ≤ 8 * length out) where
  pub ink-length : length o₁ ≡ length out
  ink-length = rw e (length-ink out p F room)

  pub ink-next : (q : ℕ) (G : List Bool) (o₂ : List ℕ) → o₂ ≡ ink o₁ q G → q ≡ p + length F → o₂ ≡ ink out p (F ++ G)
  ink-next q G o₂ d h = d ∙ ap (λ (o : List ℕ). ink o q G) e ∙ ink-ink out p F room q G h

  pub ink-clean : (q : ℕ) → q ≡ p + length F → ink o₁ q [] ≡ o₁
  ink-clean q h = ink-next q [] (ink o₁ q []) refl h ∙ ap (ink out p) (append-nil F) ∙ sym e

pub ink-all : (out : List ℕ) (bs : List Bool) → ink out 0 bs ≡ packed bs ++ drop (bytes_for (length bs)) out
unfolding ink
ink-all out bs = ap (λ (k : ℕ). packed bs ++ drop (bytes_for k) out) (none (length bs))
  where
    none : (n : ℕ) → 0 + n ≡ n
    none n = omega arith

-- Fields of words.

pub length-word : (f : Format) (w : ℕ) → length (spelled (fields_of_word f w)) ≡ level_bits f
unfolding fields_of_word spelled
length-word f w =
    simp (length-append, length-bits) (omega arith)

pub length-words : (f : Format) (ws : List ℕ) → length (spelled (words_fields f ws)) ≡ length ws * level_bits f
unfolding words_fields
length-words f [] = unfold spelled in none (level_bits f)
  where
    none : (n : ℕ) → 0 ≡ 0 * n
    none n = omega arith
length-words f (w ∷ ws) =
    rw (spelled-append (fields_of_word f w) (words_fields f ws), length-append (spelled (fields_of_word f w)) (spelled (words_fields f ws)), length-word f w, length-words f ws, suc-mul (length ws) (level_bits f))
    (swap (level_bits f) (length ws * level_bits f))
  where
    swap : (a b : ℕ) → a + b ≡ b + a
    swap a b = omega arith

pub words_append : (f : Format) (xs ys : List ℕ) → words_fields f (xs ++ ys) ≡ words_fields f xs ++ words_fields f ys
unfolding words_fields
words_append f [] ys = refl
words_append f (w ∷ xs) ys = rw (words_append f xs ys, append_assoc (fields_of_word f w) (words_fields f xs) (words_fields f ys))

pub length-bindings : (f : Format) (bs : List Binding) → length (spelled (binding_fields f bs)) ≡ length bs * binding_bits f
unfolding binding_fields spelled
length-bindings f [] = none (binding_bits f)
  where
    none : (n : ℕ) → 0 ≡ 0 * n
    none n = omega arith
length-bindings f (b ∷ bs) =
    rw (
      length-append (bits 32 (bytes_of_segment b.segment)) (bits f.handle_bits b.handle ++ spelled (binding_fields f bs)),
      length-append (bits f.handle_bits b.handle) (spelled (binding_fields f bs)),
      length-bits 32 (bytes_of_segment b.segment),
      length-bits f.handle_bits b.handle,
      length-bindings f bs,
      suc-mul (length bs) (binding_bits f),
    )
    (swap f.handle_bits (length bs * binding_bits f))
  where
    swap : (h b : ℕ) → 32 + (h + b) ≡ b + (32 + h)
    swap h b = omega arith

pub bindings-append : (f : Format) (xs ys : List Binding) → binding_fields f (xs ++ ys) ≡ binding_fields f xs ++ binding_fields f ys
unfolding binding_fields
bindings-append f [] ys = refl
bindings-append f (b ∷ xs) ys = rw (bindings-append f xs ys)

pub length-objects : (vs : List ℕ) → length (spelled (object_fields vs)) ≡ length vs * 64
unfolding object_fields spelled
length-objects [] = refl
length-objects (v ∷ vs) = rw (length-append (bits 64 v) (spelled (object_fields vs)), length-bits 64 v, length-objects vs) (omega arith)

-- one level more
pub counts-append : (xs ys : List ℕ) → counts (xs ++ ys) ≡ counts xs + counts ys
unfolding counts
counts-append [] ys = omega arith
counts-append (w ∷ xs) ys = rw (counts-append xs ys) (omega arith)

pub counted-append : (f : Format) (xs ys : List ℕ) (bs : List Binding) → counted_fields f (xs ++ ys) bs ≡ counted_fields f xs bs ++ counted_fields f ys (drop (counts xs) bs)
unfolding counted_fields counts
counted-append f [] ys bs = refl
counted-append f (w ∷ xs) ys bs =
    rw (counted-append f xs ys (drop (count_of w) bs), drop-drop (counts xs) (count_of w) bs, append_assoc (binding_fields f (take (count_of w) bs)) (counted_fields f xs (drop (count_of w) bs)) (counted_fields f ys (drop (count_of w + counts xs) bs)))

pub length-counted : (f : Format) (ws : List ℕ) (bs : List Binding) → counts ws ≤ length bs → length (spelled (counted_fields f ws bs)) ≡ length ws * 10 + counts ws * binding_bits f
unfolding counted_fields counts spelled
length-counted f [] bs h = none (binding_bits f)
  where
    none : (n : ℕ) → 0 ≡ 0 * 10 + 0 * n
    none n = omega arith
length-counted f (w ∷ ws) bs h =
    rw (
      length-append (bits 10 (count_of w)) (spelled (binding_fields f (take (count_of w) bs) ++ counted_fields f ws (drop (count_of w) bs))),
      length-bits 10 (count_of w),
      spelled-append (binding_fields f (take (count_of w) bs)) (counted_fields f ws (drop (count_of w) bs)),
      length-append (spelled (binding_fields f (take (count_of w) bs))) (spelled (counted_fields f ws (drop (count_of w) bs))),
      length-bindings f (take (count_of w) bs),
      length-take-le (count_of w) bs (omega arith),
      length-counted f ws (drop (count_of w) bs) (rw (length-drop (count_of w) bs) (omega arith)),
      add-mul (count_of w) (counts ws) (binding_bits f),
    )
    (swap (count_of w * binding_bits f) (length ws) (counts ws * binding_bits f))
  where
    swap : (a n b : ℕ) → 10 + (a + (n * 10 + b)) ≡ suc n * 10 + (a + b)
    swap a n b = omega arith

-- Fields of a tree.

module _ (f : Format) (limit : ℕ) (live : ℕ → Bool) where
  word-level : (d s t : ℕ) (b : List Binding) → t < 8 → length b < 1024 → s < 2 ^ 32
      → fields_of_word f (pack (suc d) t (length b) s) ≡ field f.depth_bits d ∷ field 3 t ∷ field 32 (bytes_of_segment s) ∷ []
  unfolding fields_of_word
  word-level d s t b ht hn hs =
      rw (rank-pack (suc d) t (length b) s ht hn hs, type-pack (suc d) t (length b) s ht hn hs, seg-pack (suc d) t (length b) s ht hn hs)
      (ap (λ (k : ℕ). field f.depth_bits k ∷ field 3 t ∷ field 32 (bytes_of_segment s) ∷ []) (less d))
    where
      less : (d : ℕ) → suc d - 1 ≡ d
      less d = omega arith

  pub levels-fields : (d lo : ℕ) (F : Forest) → Valid limit live (suc d) lo F → words_fields f (flat (suc d) F) ≡ level_fields f d F
  unfolding flat level_fields words_fields
  levels-fields d lo none v = refl
  levels-fields d lo (level s t b kids next) v =
      rw (
        word-level d s t b v.0.small v.0.few v.0.fits,
        words_append f (flat (suc (suc d)) kids) (flat (suc d) next),
        levels-fields (suc d) 0 kids v.1,
        levels-fields d (suc s) next v.2,
      )

  pub bound-fields : (r lo : ℕ) (F : Forest) (ws : List ℕ) (X : List Binding) → Valid limit live r lo F
      → counted_fields f (flat r F ++ ws) (bound F ++ X) ≡ bound_fields f F ++ counted_fields f ws X
  unfolding flat bound bound_fields counted_fields
  bound-fields r lo none ws X v = refl
  bound-fields r lo (level s t b kids next) ws X v =
      rw (
        count-pack r t (length b) s v.0.small v.0.few v.0.fits,
        append_assoc b (bound kids ++ bound next) X,
        take-append_seam b ((bound kids ++ bound next) ++ X),
        drop-append_seam b ((bound kids ++ bound next) ++ X),
        append_assoc (flat (suc r) kids) (flat r next) ws,
        append_assoc (bound kids) (bound next) X,
        bound-fields (suc r) 0 kids (flat r next ++ ws) (bound next ++ X) v.1,
        bound-fields r (suc s) next ws X v.2,
      )
      (ap (λ (l : List Field). field 10 (length b) ∷ l)
      (sym (append_assoc (binding_fields f b) (bound_fields f kids ++ bound_fields f next) (counted_fields f ws X) ∙ ap (λ (l : List Field). binding_fields f b ++ l) (append_assoc (bound_fields f kids) (bound_fields f next) (counted_fields f ws X)))))

-- words up to the first spare one
pub used-pad : (ws : List ℕ) (n : ℕ) → ((k : ℕ) → k < length ws → get_or ws k 0 ≡ 0 → ⊥) → used_of (ws ++ replicate n 0) ≡ length ws
unfolding used_of
used-pad [] zero h = refl
used-pad [] (suc n) h = refl
used-pad (w ∷ ws) n h = rw (ne_eqb w 0 (h 0 (omega arith)), used-pad ws n (λ k l. h (suc k) (omega arith)))

-- One field more.

abbrev pub widths : List Field → ℕ
widths [] = 0
widths (f ∷ fs) = f.width + widths fs

pub length-spelled : (fs : List Field) → length (spelled fs) ≡ widths fs
unfolding spelled
length-spelled [] = refl
length-spelled (f ∷ fs) = rw (length-append (bits f.width f.number) (spelled fs), length-bits f.width f.number, length-spelled fs)

one-spelled : (w v : ℕ) → spelled (field w v ∷ []) ≡ bits w v
unfolding spelled
one-spelled w v = append-nil (bits w v)

pub one_field : (out o : List ℕ) (p w v : ℕ) → o ≡ ink out p (bits w v) → o ≡ ink out p (spelled (field w v ∷ []))
one_field out o p w v e = rw (one-spelled w v) e

pub more-field : (out o o' : List ℕ) (p q w v : ℕ) (fs : List Field) → o ≡ ink out p (spelled fs) → p + widths fs ≤ 8 * length out → q ≡ p + widths fs → o' ≡ ink o q (bits w v)
    → o' ≡ ink out p (spelled (fs ++ (field w v ∷ [])))
more-field out o o' p q w v fs e room h d =
    ink-next out p (spelled fs) o e (rw (length-spelled fs) room) q (bits w v) o' d (rw (length-spelled fs) h)
    ∙ ap (ink out p) (sym (spelled-append fs (field w v ∷ []) ∙ ap (λ (l : List Bool). spelled fs ++ l) (one-spelled w v)))

-- Rows: bits of each word, one word behind the other.

unfoldable pub row : (ℕ → List Bool) → List ℕ → List Bool
row g [] = []
row g (w ∷ ws) = g w ++ row g ws

pub words-row : (f : Format) (ws : List ℕ) → row (λ w. spelled (fields_of_word f w)) ws ≡ spelled (words_fields f ws)
unfolding row words_fields
words-row f [] = unfold spelled in refl
words-row f (w ∷ ws) = rw (words-row f ws) (sym (spelled-append (fields_of_word f w) (words_fields f ws)))

pub bindings-row : (f : Format) (ws : List ℕ) → row (λ w. spelled (binding_fields f (binding_of w ∷ []))) ws ≡ spelled (binding_fields f (map binding_of ws))
unfolding row
bindings-row f [] = unfold spelled binding_fields in refl
bindings-row f (w ∷ ws) =
    rw (bindings-row f ws) (sym (spelled-append (binding_fields f (binding_of w ∷ [])) (binding_fields f (map binding_of ws))) ∙ ap spelled (sym (bindings-append f (binding_of w ∷ []) (map binding_of ws))))

pub objects-row : (vs : List ℕ) → row (bits 64) vs ≡ spelled (object_fields vs)
unfolding row spelled object_fields
objects-row [] = refl
objects-row (v ∷ vs) = rw (objects-row vs)

-- k words of a row are put into `out` from p on; the next one stands from q on
pub record Put (g : ℕ → List Bool) (n : ℕ) (out : List ℕ) (p : ℕ) (ws : List ℕ) (k : ℕ) (o : List ℕ) (q : ℕ) : Type 0 where
  pub is : o ≡ ink out p (row g (take k ws))
  pub place : q ≡ p + k * n
  pub long : length o ≡ length out

module _ (g : ℕ → List Bool) (n : ℕ) (each : (w : ℕ) → length (g w) ≡ n) where
  row-append : (xs ys : List ℕ) → row g (xs ++ ys) ≡ row g xs ++ row g ys
  unfolding row
  row-append [] ys = refl
  row-append (x ∷ xs) ys = rw (row-append xs ys, append_assoc (g x) (row g xs) (row g ys))

  row-one : (w : ℕ) → row g (w ∷ []) ≡ g w
  unfolding row
  row-one w = append-nil (g w)

  length-row : (ws : List ℕ) → length (row g ws) ≡ length ws * n
  unfolding row
  length-row [] = none n
    where
      none : (n : ℕ) → 0 ≡ 0 * n
      none n = omega arith
  length-row (w ∷ ws) = rw (length-append (g w) (row g ws), each w, length-row ws) (more n (length ws))
    where
      more : (n l : ℕ) → n + l * n ≡ suc l * n
      more n l = omega arith

  pub put-none : (out : List ℕ) (p : ℕ) (ws : List ℕ) → ink out p [] ≡ out → Put g n out p ws 0 out p
  unfolding row
  put-none out p ws e = record { is = sym e; place = none p n; long = refl }
    where
      none : (p n : ℕ) → p ≡ p + 0 * n
      none p n = omega arith

  pub put-more : {out o o' ws : List ℕ} {p k q : ℕ} → Put g n out p ws k o q → k < length ws → q + n ≤ 8 * length out → o' ≡ ink o q (g (get_or ws k 0)) → Put g n out p ws (k + 1) o' (q + n)
  put-more {out} {o} {o'} {ws} {p} {k} {q} x h room e =
      record {
        is = ink-next out p (row g (take k ws)) o x.is (rw long-row (low x.place)) q (g (get_or ws k 0)) o' e (rw long-row x.place)
            ∙ ap (ink out p) (sym (rw (add-one k, take-suc ws k 0 h, row-append (take k ws) (get_or ws k 0 ∷ []), row-one (get_or ws k 0))));
        place = next x.place;
        long = ink-length o q (g (get_or ws k 0)) o' e (rw (each (get_or ws k 0), x.long) room) ∙ x.long;
      }
    where
      long-row : length (row g (take k ws)) ≡ k * n
      long-row = length-row (take k ws) ∙ ap (λ (j : ℕ). j * n) (length-take-le k ws (omega arith))

      low : q ≡ p + k * n → p + k * n ≤ 8 * length out
      low e = omega arith

      next : q ≡ p + k * n → q + n ≡ p + (k + 1) * n
      next e = omega arith

  pub put-all : {out o ws : List ℕ} {p k q : ℕ} → Put g n out p ws k o q → length ws ≤ k → o ≡ ink out p (row g ws)
  put-all {out} {o} {ws} {p} {k} {q} x h = x.is ∙ ap (λ (l : List ℕ). ink out p (row g l)) (take_all k ws h)

-- One level's bindings more.

module _ (out o o' : List ℕ) (p : ℕ) (len : length o ≡ length out) where
  pub counted_next : (f : Format) (ws : List ℕ) (bs : List Binding) (k q m c : ℕ) → k < length ws → c ≡ count_of (get_or ws k 0) → m ≡ counts (take k ws) → m ≤ length bs
      → o ≡ ink out p (spelled (counted_fields f (take k ws) bs)) → p + (k * 10 + m * binding_bits f) ≤ 8 * length out → q ≡ p + (k * 10 + m * binding_bits f)
      → o' ≡ ink o q (spelled (field 10 c ∷ binding_fields f (take c (drop m bs)))) → o' ≡ ink out p (spelled (counted_fields f (take (k + 1) ws) bs))
  counted_next f ws bs k q m c h hc hm few e room d g =
      ink-next out p (spelled (counted_fields f (take k ws) bs)) o e (rw long room) q (spelled (field 10 c ∷ binding_fields f (take c (drop m bs)))) o' g (rw long d)
      ∙ ap (ink out p) (sym (rw (add-one k, take-suc ws k 0 h, counted-append f (take k ws) (get_or ws k 0 ∷ []) bs, spelled-append (counted_fields f (take k ws) bs) (counted_fields f (get_or ws k 0 ∷ []) (drop (counts (take k ws)) bs)), one-level, hc, hm)))
    where
      one-level : counted_fields f (get_or ws k 0 ∷ []) (drop (counts (take k ws)) bs) ≡ field 10 (count_of (get_or ws k 0)) ∷ binding_fields f (take (count_of (get_or ws k 0)) (drop (counts (take k ws)) bs))
      one-level = unfold counted_fields in ap (λ (l : List Field). field 10 (count_of (get_or ws k 0)) ∷ l) (append-nil (binding_fields f (take (count_of (get_or ws k 0)) (drop (counts (take k ws)) bs))))

      long : length (spelled (counted_fields f (take k ws) bs)) ≡ k * 10 + m * binding_bits f
      long = length-counted f (take k ws) bs (rw (sym hm) few) ∙ ap₂ (λ (j i : ℕ). j * 10 + i * binding_bits f) (length-take-le k ws (omega arith)) (sym hm)

pub counts-next : (ws : List ℕ) (k m c : ℕ) → k < length ws → m ≡ counts (take k ws) → c ≡ count_of (get_or ws k 0) → m + c ≡ counts (take (k + 1) ws)
counts-next ws k m c h e d = rw (add-one k, take-suc ws k 0 h, counts-append (take k ws) (get_or ws k 0 ∷ []), e, d) (ap (λ (x : ℕ). counts (take k ws) + x) (sym (one (get_or ws k 0))))
  where
    one : (w : ℕ) → counts (w ∷ []) ≡ count_of w
    one w = unfold counts in plus_none (count_of w)
      where
        plus_none : (n : ℕ) → n + 0 ≡ n
        plus_none n = omega arith

pub counts-less : (ws : List ℕ) (k n : ℕ) → k ≤ n → n ≤ length ws → counts (take k ws) ≤ counts (take n ws)
counts-less ws k n h l =
    let s : k + (n - k) ≡ n = omega arith in
    let e : counts (take n ws) ≡ counts (take k ws) + counts (take (n - k) (drop k ws)) = ap (λ (j : ℕ). counts (take j ws)) (sym s) ∙ ap counts (take-add k (n - k) ws) ∙ counts-append (take k ws) (take (n - k) (drop k ws)) in
    omega arith

-- what one level more counts
pub record Turn (ls : List ℕ) (k total : ℕ) : Type 0 where
  pub more : counts (take k ls) + count_of (get_or ls k 0) ≡ counts (take (k + 1) ls)
  pub less : counts (take (k + 1) ls) ≤ total

pub turn : (ls : List ℕ) (k total : ℕ) → k < length ls → counts ls ≡ total → Turn ls k total
turn ls k total h e =
    record {
      more = counts-next ls k (counts (take k ls)) (count_of (get_or ls k 0)) h refl refl;
      less = omega (arith, counts-less ls (k + 1) (length ls) (omega arith) (omega arith), ap counts (take_all (length ls) ls (omega arith)), e);
    }
