-- The words after a binding more, and after a value more, are those of the definition's tree.
use mathlib.Core.Path.{◌≡◌, refl, ap, ap₂, sym, ◌∙◌}
use mathlib.Core.Bool.{true, Bool, false, cond}
use mathlib.Core.List.{List, [], ◌∷◌, ◌++◌, append_assoc, map}
use Prim.Native.Nat.{ℕ, suc, ◌+◌, ◌*◌, ◌-◌, ◌<◌, ◌≤◌, ◌^◌}
use native.Mathlib.Omega.{arith}
use lib.ListN.{length, take, drop, get_or, set, replicate, length-append, length-set, take-append-drop}
use lib.Seq.{get_or-take, set_at, drop-set-lt, take-set-lt, drop-drop}
use borrow.Author.Tests.{lt-leb, le-leb}
use Rattle.pkg_length.specs.Refusal.{Answer, gives, refuses}
use Rattle.table.specs.Limits.{Limits}
use Rattle.table.specs.Tree.{Binding, Forest, Tree, bound, is_live}
use Rattle.table.specs.Layout.{pack, flat, pad, encode, bind_word}
use Rattle.table.specs.Memory.{is_well_formed, decode, Left}
use Rattle.table.specs.Edits.{alter, scope_of, last_of, with_binding, with_levels, with_objects, bind}
use Rattle.table.specs.Inside.{counts, spot_in, bind_words, push}
use Rattle.std.specs.Prelude.{Result}
use Rattle.pkg_length.specs.declared.AmlError.{AmlError}
use Rattle.table.specs.declared.inner.Spot.{Spot}
use Rattle.table.proofs.Whole.{Whole, length-words, length-pad}
use Rattle.table.proofs.Focus.{Focus}
use Rattle.table.proofs.Insert.{put-length, put-words}
use Rattle.table.proofs.Objects.{whole, set-append-add}
use Rattle.table.proofs.Held.{levels-are, bindings-are, rebuild}
use Rattle.table.proofs.Slots.{FreeAt, slot-free}
use Rattle.table.proofs.Bind.{node-is, new, bound-levels, same_count, put-binding, one-bound, place-bound}
use Rattle.table.proofs.BindCalls.{Open}
use Rattle.table.proofs.Moves.{pos-bound}
use lib.Dec.{eqb}

same_left : {A : Type 0} {ws us : List ℕ} {a b : Answer A} → ws ≡ us → a ≡ b → ◌≡◌ {A = Left A} (record { words = ws; said = a }) (record { words = us; said = b })
same_left e f = λ i. record { words = e i; said = f i }

more : (n k : ℕ) → n < k → k - n ≡ suc (k - suc n)
more n k h = omega arith

-- a value more, over whatever stands before the objects
module _ (A vs : List ℕ) (room v : ℕ) (h : length vs < room) where
  grown : length (vs ++ (v ∷ [])) ≡ length vs + 1
  grown = length-append vs (v ∷ [])

  value_in : set (vs ++ replicate (room - length vs) 0) (length vs) v ≡ vs ++ (v ∷ []) ++ replicate (room - length (vs ++ (v ∷ []))) 0
  value_in =
      ap (λ (n : ℕ). set (vs ++ replicate n 0) (length vs) v) (more (length vs) room h)
      ∙ set_at vs 0 (replicate (room - suc (length vs)) 0) v (length vs) refl
      ∙ sym (append_assoc vs (v ∷ []) (replicate (room - suc (length vs)) 0))
      ∙ ap (λ (n : ℕ). vs ++ (v ∷ []) ++ replicate (room - n) 0) (one (length vs) (length (vs ++ (v ∷ []))) grown)
    where
      one : (n k : ℕ) → k ≡ n + 1 → suc n ≡ k
      one n k e = omega arith

  pub objects-more : set (set (A ++ (length vs ∷ pad room vs)) (length A + 1 + length vs) v) (length A) (length vs + 1) ≡ A ++ (length (vs ++ (v ∷ [])) ∷ pad room (vs ++ (v ∷ [])))
  unfolding pad
  objects-more =
      ap₂ (λ (l : List ℕ) (n : ℕ). set l n (length vs + 1))
      (ap (λ (n : ℕ). set (A ++ (length vs ∷ (vs ++ replicate (room - length vs) 0))) n v) (next (length A) (length vs))
      ∙ set-append-add A (length vs ∷ (vs ++ replicate (room - length vs) 0)) (suc (length vs)) v
      ∙ ap (λ (l : List ℕ). A ++ (length vs ∷ l)) value_in)
      (plus (length A))
      ∙ set-append-add A (length vs ∷ (vs ++ (v ∷ []) ++ replicate (room - length (vs ++ (v ∷ []))) 0)) 0 (length vs + 1)
      ∙ ap (λ (n : ℕ). A ++ (n ∷ (vs ++ (v ∷ []) ++ replicate (room - length (vs ++ (v ∷ []))) 0))) (sym grown)
    where
      next : (a b : ℕ) → a + 1 + b ≡ a + suc b
      next a b = omega arith

      plus : (a : ℕ) → a ≡ a + 0
      plus a = omega arith

-- the code's two stores
pub bind-moves : (m : Limits) (ws : List ℕ) (at i word : ℕ) → at < m.levels → (vs : List ℕ)
    → vs ≡ take i (take m.bindings (drop m.levels (set ws at (get_or ws at 0 + 2 ^ 32)))) ++ push word (drop i (take m.bindings (drop m.levels (set ws at (get_or ws at 0 + 2 ^ 32)))))
    → take m.levels (set ws at (get_or ws at 0 + 2 ^ 32)) ++ (vs ++ drop m.bindings (drop m.levels (set ws at (get_or ws at 0 + 2 ^ 32)))) ≡ bind_words m ws at i word
unfolding bind_words
bind-moves m ws at i word h vs v =
    let d : drop m.levels (set ws at (get_or ws at 0 + 2 ^ 32)) ≡ drop m.levels ws = drop-set-lt m.levels ws at (get_or ws at 0 + 2 ^ 32) h in
    ap₂ {C = List ℕ} ◌++◌ (take-set-lt m.levels ws at (get_or ws at 0 + 2 ^ 32) h)
    (ap₂ {C = List ℕ} ◌++◌ (v ∙ ap (λ (l : List ℕ). take i (take m.bindings l) ++ push word (drop i (take m.bindings l))) d)
    (ap (drop m.bindings) d ∙ drop-drop m.bindings m.levels ws))

length_push : (c : ℕ) (xs : List ℕ) → length (push c xs) ≡ length xs
unfolding push
length_push c [] = refl
length_push c (x ∷ xs) = ap suc (go (eqb x 0) (length_push x xs))
  where
    go : (t : Bool) → length (push x xs) ≡ length xs → length (cond t xs (push x xs)) ≡ length xs
    go true h = refl
    go false h = h

pub bind-length : (m : Limits) (ws : List ℕ) (at i word : ℕ) → length (bind_words m ws at i word) ≡ length ws
unfolding bind_words
bind-length m ws at i word =
    length-append (set (take m.levels ws) at (get_or ws at 0 + 2 ^ 32)) _
    ∙ ap₂ ◌+◌ (length-set (take m.levels ws) at (get_or ws at 0 + 2 ^ 32))
    (length-append (take i (take m.bindings (drop m.levels ws)) ++ push word (drop i (take m.bindings (drop m.levels ws)))) (drop (m.levels + m.bindings) ws)
    ∙ ap₂ ◌+◌ (length-append (take i (take m.bindings (drop m.levels ws))) _ ∙ ap₂ ◌+◌ refl (length_push word (drop i (take m.bindings (drop m.levels ws))))
    ∙ sym (length-append (take i (take m.bindings (drop m.levels ws))) _) ∙ ap length (take-append-drop i (take m.bindings (drop m.levels ws)))) refl)
    ∙ sums
  where
    sums : length (take m.levels ws) + (length (take m.bindings (drop m.levels ws)) + length (drop (m.levels + m.bindings) ws)) ≡ length ws
    sums =
        ap₂ ◌+◌ refl (ap₂ ◌+◌ refl (ap length (sym (drop-drop m.bindings m.levels ws))) ∙ sym (length-append (take m.bindings (drop m.levels ws)) _) ∙ ap length (take-append-drop m.bindings (drop m.levels ws)))
        ∙ sym (length-append (take m.levels ws) (drop m.levels ws)) ∙ ap length (take-append-drop m.levels ws)

module _ (m : Limits) (hm : m.objects ≤ 2 ^ 32) (ws : List ℕ) (ok : is_well_formed m ws ≡ true) (p : List ℕ) (r : Result Spot AmlError)
    (e : r ≡ spot_in (take m.levels ws) (take m.bindings (drop m.levels ws)) p) (at i : ℕ) (o : Open m hm ws ok p r e at i) where
  abbrev t : Tree
  t = decode m ws

  abbrev ls : List ℕ
  ls = take m.levels ws

  abbrev bs : List ℕ
  bs = take m.bindings (drop m.levels ws)

  abbrev z : ℕ
  z = m.levels - length (flat 1 (decode m ws).levels)

  abbrev y : ℕ
  y = m.bindings - length (map bind_word (bound (decode m ws).levels))

  abbrev w : Whole m (decode m ws)
  w = whole m hm ws ok

  abbrev tied : ℕ → Binding
  tied h = record { segment = last_of p; handle = h }

  free : (h : ℕ) → FreeAt (last_of p) (is_live t) 0 (tied h) o.level.b (counts (take at ls)) i
  free h = slot-free (last_of p) (is_live t) 0 (tied h) o.level.b (counts (take at ls)) i refl o.level.valid.0.ordered o.slot

  abbrev lvl : Focus m.components (is_live t) t.levels 0 0 (scope_of p) 0 at 0
  lvl = o.level

  pub level-place : at < length (flat 1 (decode m ws).levels)
  unfolding flat
  level-place =
      omega (arith, lvl.at, ap length lvl.was, length-append lvl.pre (flat lvl.rank (level-of lvl) ++ lvl.post), length-append (flat lvl.rank (level-of lvl)) lvl.post)
    where
      level-of : Focus m.components (is_live t) t.levels 0 0 (scope_of p) 0 at 0 → Forest
      level-of f = Rattle.table.specs.Tree.level f.seg f.typ f.b f.kids f.next

  pub bind-place : (at < m.levels) × (i ≤ m.bindings)
  bind-place = (
    omega (arith, level-place, w.levels),
    omega (arith, place-bound m t w hm ls bs z y (levels-are m hm ws ok) (bindings-are m hm ws ok) (scope_of p) at lvl (last_of p) (tied 0) i (free 0), w.bindings),
  )

  word_at : get_or ls at 0 ≡ get_or ws at 0
  word_at = get_or-take m.levels ws at 0 bind-place.0

  pub word_low : m.components ≤ 256 → get_or ws at 0 + 2 ^ 32 < 2 ^ 64
  word_low c =
      rw (sym word_at ∙ node-is m t w hm ls bs z y (levels-are m hm ws ok) (bindings-are m hm ws ok) (scope_of p) at lvl)
      (low lvl.rank lvl.typ (length lvl.b) lvl.seg (omega (arith, lvl.valid.0.shallow)) lvl.valid.0.small lvl.valid.0.few lvl.valid.0.fits)
    where
      low : (r u n s : ℕ) → r ≤ 256 → u < 8 → n < 1024 → s < 2 ^ 32 → pack r u n s + 2 ^ 32 < 2 ^ 64
      low r u n s a b c d = unfold pack in omega arith

  pub bind-full : m.bindings ≤ length (bound (decode m ws).levels) → (h : ℕ) → bind m (decode m ws) p h ≡ refuses 19 0
  bind-full f h = o.tied h ∙ rw (le-leb m.bindings (length (bound t.levels)) f)

  module _ (room : length (bound (decode m ws).levels) < m.bindings) (h : ℕ) where
    abbrev f' : Forest
    f' = alter (with_binding (tied h)) (decode m ws).levels (scope_of p)

    pub bind-room : bind m (decode m ws) p h ≡ gives (with_levels (decode m ws) f')
    bind-room = o.tied h ∙ rw (lt-leb m.bindings (length (bound t.levels)) room)

    new-levels : set ls at (get_or ws at 0 + 2 ^ 32) ≡ pad m.levels (flat 1 f')
    unfolding pad new
    new-levels =
        ap (λ (n : ℕ). set ls at (n + 2 ^ 32)) (sym word_at)
        ∙ bound-levels m t w hm ls bs z y (levels-are m hm ws ok) (bindings-are m hm ws ok) (scope_of p) at lvl (last_of p) (tied h) i (free h)
        ∙ ap (λ (n : ℕ). flat 1 f' ++ replicate (m.levels - n) 0) (sym (same_count m t w hm ls bs z y (levels-are m hm ws ok) (bindings-are m hm ws ok) (scope_of p) at lvl (last_of p) (tied h) i (free h)))

    new-binds : take i bs ++ push (bind_word (tied h)) (drop i bs) ≡ pad m.bindings (map bind_word (bound f'))
    unfolding pad new
    new-binds =
        let b : ℕ = length (map bind_word (bound t.levels)) in
        ap (λ (l : List ℕ). take i l ++ push (bind_word (tied h)) (drop i l))
        (bindings-are m hm ws ok ∙ ap (λ (n : ℕ). map bind_word (bound t.levels) ++ replicate n 0) (more b m.bindings (rw (length-words t.levels) room)))
        ∙ put-words (map bind_word (bound t.levels)) (map bind_word (bound f')) (bind_word (tied h)) i (m.bindings - suc b) (pos-bound m.components (is_live t) t.levels 1 0 w.forest) put
        ∙ ap (λ (n : ℕ). map bind_word (bound f') ++ replicate (m.bindings - n) 0) (sym (put-length (map bind_word (bound t.levels)) (map bind_word (bound f')) (bind_word (tied h)) i 0 put))
      where
        put : Rattle.table.proofs.Insert.PutIn (map bind_word (bound t.levels)) (map bind_word (bound (alter (with_binding (tied h)) (decode m ws).levels (scope_of p)))) (bind_word (tied h)) i 0
        put = unfold new in put-binding m t w hm ls bs z y (levels-are m hm ws ok) (bindings-are m hm ws ok) (scope_of p) at lvl (last_of p) (tied h) i (free h)

    pub bound-words : bind_words m ws at i (last_of p * 2 ^ 32 + h) ≡ encode m (with_levels (decode m ws) f')
    unfolding bind_words
    bound-words = rebuild m hm ws ok f' (set ls at (get_or ws at 0 + 2 ^ 32)) (take i bs ++ push (bind_word (tied h)) (drop i bs)) new-levels new-binds

    -- a value more
    front : List ℕ
    front = pad m.levels (flat 1 f') ++ pad m.bindings (map bind_word (bound f'))

    length_front : length front ≡ m.levels + m.bindings
    unfolding front new
    length_front =
        length-append (pad m.levels (flat 1 f')) (pad m.bindings (map bind_word (bound f')))
        ∙ ap₂ ◌+◌ (length-pad m.levels (flat 1 f') (rw (same_count m t w hm ls bs z y (levels-are m hm ws ok) (bindings-are m hm ws ok) (scope_of p) at lvl (last_of p) (tied h) i (free h)) w.levels))
        (length-pad m.bindings (map bind_word (bound f'))
        (rw (length-words f', one-bound m t w hm ls bs z y (levels-are m hm ws ok) (bindings-are m hm ws ok) (scope_of p) at lvl (last_of p) (tied h) i (free h)) room))

    pub value-words : (v : ℕ) → length (decode m ws).objects < m.objects
        → set (set (bind_words m ws at i (last_of p * 2 ^ 32 + h)) (m.levels + m.bindings + 1 + length (decode m ws).objects) v) (m.levels + m.bindings) (length (decode m ws).objects + 1)
        ≡ encode m (with_objects (with_levels (decode m ws) f') ((decode m ws).objects ++ (v ∷ [])))
    unfolding encode front
    value-words v l =
        ap₂ (λ (x : List ℕ) (n : ℕ). set (set x (n + 1 + length t.objects) v) n (length t.objects + 1))
        (bound-words ∙ sym (append_assoc (pad m.levels (flat 1 f')) (pad m.bindings (map bind_word (bound f'))) (length t.objects ∷ pad m.objects t.objects))) (sym length_front)
        ∙ objects-more front t.objects m.objects v l
        ∙ append_assoc (pad m.levels (flat 1 f')) (pad m.bindings (map bind_word (bound f'))) (length (t.objects ++ (v ∷ [])) ∷ pad m.objects (t.objects ++ (v ∷ [])))
