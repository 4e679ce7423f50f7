-- Where a path leads: over the tree, and over the words in one pass, the same.
use mathlib.Core.Path.{◌≡◌, refl, ap, ◌∙◌}
use mathlib.Core.Bool.{Bool, true, false, cond}
use mathlib.Core.List.{List, [], ◌∷◌, ◌++◌, append_assoc}
use Prim.Native.Nat.{ℕ, suc, ◌+◌, ◌<◌, ◌≤◌, ◌^◌}
use native.Mathlib.Omega.{arith}
use lib.Dec.{ltb, eqb}
use lib.ListN.{length, length-append}
use borrow.Author.Tests.{le-leb, lt-leb, eq-eqb, ne_eqb, eqb-true, eqb-false, lt-ltb, le-ltb, ltb-true, ltb-false}
use Rattle.pkg_length.specs.Refusal.{Answer, gives, refuses}
use Rattle.table.specs.Tree.{Forest, none, level, Level}
use Rattle.table.specs.Layout.{pack, rank_of, seg_of, flat}
use Rattle.table.specs.Edits.{reached, level_at}
use Rattle.table.specs.Inside.{Sought, here, before, missing, gone, seek_in}
use Rattle.table.proofs.Words.{rank-pack, seg-pack}
use Rattle.table.proofs.Shape.{Valid}
use Rattle.table.proofs.Decode.{Below, below-flat}
use Rattle.table.proofs.Facts.{plus-zero, suc-plus}

-- the index past a forest's records, the first of which stands at k
unfoldable pub after : Forest → ℕ → ℕ
after none k = k
after (level s t b kids next) k = after next (after kids (suc k))

pub after_is : (f : Forest) (r k : ℕ) → after f k ≡ k + length (flat r f)
unfolding after flat
after_is none r k = omega arith
after_is (level s t b kids next) r k =
    omega (arith, after_is next r (after kids (suc k)), after_is kids (suc r) (suc k), length-append (flat (suc r) kids) (flat r next))

-- the siblings f of rank r + 1 begin at index k: where the path leads from there
unfoldable pub seek_f : Forest → List ℕ → ℕ → ℕ → ℕ → Sought
seek_f none [] r at k = here at
seek_f none (s ∷ p) r at k = gone p r k
seek_f (level s' t b kids next) [] r at k = here at
seek_f (level s' t b kids next) (s ∷ p) r at k =
    cond (eqb s' s) (seek_f kids p (suc r) k (suc k)) (cond (ltb s s') (gone p r k) (seek_f next (s ∷ p) r at (after kids (suc k))))

pub seek-nil : (f : Forest) (r at k : ℕ) → seek_f f [] r at k ≡ here at
unfolding seek_f
seek-nil none r at k = refl
seek-nil (level s t b kids next) r at k = refl

module _ (s : ℕ) (p : List ℕ) (w : ℕ) (ws : List ℕ) (r at k : ℕ) where
  pub seek_stop : rank_of w ≤ r → seek_in (s ∷ p) (w ∷ ws) r at k ≡ gone p r k
  unfolding seek_in
  seek_stop h = rw (le-leb (rank_of w) r h)

  module _ (h : rank_of w ≡ suc r) where
    pub seek-down : seg_of w ≡ s → seek_in (s ∷ p) (w ∷ ws) r at k ≡ seek_in p ws (suc r) k (suc k)
    unfolding seek_in
    seek-down e = rw (lt-leb (rank_of w) r (omega arith), eq-eqb (rank_of w) (suc r) h, eq-eqb (seg_of w) s e)

    pub seek-before : s < seg_of w → seek_in (s ∷ p) (w ∷ ws) r at k ≡ gone p r k
    unfolding seek_in
    seek-before l = rw (lt-leb (rank_of w) r (omega arith), eq-eqb (rank_of w) (suc r) h, ne_eqb (seg_of w) s (λ e. omega arith), lt-ltb s (seg_of w) l)

    pub seek-other : seg_of w < s → seek_in (s ∷ p) (w ∷ ws) r at k ≡ seek_in (s ∷ p) ws r at (suc k)
    unfolding seek_in
    seek-other l = rw (lt-leb (rank_of w) r (omega arith), eq-eqb (rank_of w) (suc r) h, ne_eqb (seg_of w) s (λ e. omega arith), le-ltb s (seg_of w) (omega arith))

  pub seek-deep : suc r < rank_of w → seek_in (s ∷ p) (w ∷ ws) r at k ≡ seek_in (s ∷ p) ws r at (suc k)
  unfolding seek_in
  seek-deep h = rw (lt-leb (rank_of w) r (omega arith), ne_eqb (rank_of w) (suc r) (λ e. omega arith))

seek-below : (s : ℕ) (p ws : List ℕ) (r at k : ℕ) → Below (suc r) ws → seek_in (s ∷ p) ws r at k ≡ gone p r k
unfolding seek_in
seek-below s p [] r at k u = refl
seek-below s p (w ∷ ws) r at k u = seek_stop s p w ws r at k (omega arith)

module _ (limit : ℕ) (live : ℕ → Bool) where
  -- deeper records are passed over
  seek-past : (f : Forest) (q lo s : ℕ) (p ws : List ℕ) (r at k : ℕ) → suc r < q → Valid limit live q lo f
      → seek_in (s ∷ p) (flat q f ++ ws) r at k ≡ seek_in (s ∷ p) ws r at (after f k)
  unfolding flat after
  seek-past none q lo s p ws r at k h v = refl
  seek-past (level s' t b kids next) q lo s p ws r at k h v =
      rw (append_assoc (flat (suc q) kids) (flat q next) ws)
      (seek-deep s p (pack q t (length b) s') _ r at k (rw (rank-pack q t (length b) s' v.0.small v.0.few v.0.fits) h)
      ∙ seek-past kids (suc q) 0 s p (flat q next ++ ws) r at (suc k) (omega arith) v.1
      ∙ seek-past next q (suc s') s p ws r at (after kids (suc k)) h v.2)

  module _ (s' t n : ℕ) (kids : Forest) (s : ℕ) (p X : List ℕ) (r at k : ℕ) (A B : Sought)
      (ht : t < 8) (hn : n < 1024) (hs : s' < 2 ^ 32) (v : Valid limit live (suc (suc r)) 0 kids)
      (inside : seek_in p (flat (suc (suc r)) kids ++ X) (suc r) k (suc k) ≡ A)
      (later : seek_in (s ∷ p) X r at (after kids (suc k)) ≡ B) where
    rank_is : rank_of (pack (suc r) t n s') ≡ suc r
    rank_is = rank-pack (suc r) t n s' ht hn hs

    seg-is : seg_of (pack (suc r) t n s') ≡ s'
    seg-is = seg-pack (suc r) t n s' ht hn hs

    seek-apart : (e : Bool) → ltb s s' ≡ e → (s' ≡ s → ⊥)
        → seek_in (s ∷ p) (pack (suc r) t n s' ∷ (flat (suc (suc r)) kids ++ X)) r at k ≡ cond e (gone p r k) B
    seek-apart true e d = seek-before s p _ _ r at k rank_is (rw seg-is (ltb-true s s' e))
    seek-apart false e d =
        seek-other s p _ _ r at k rank_is (rw seg-is (omega (arith, ltb-false s s' e, d)))
        ∙ seek-past kids (suc (suc r)) 0 s p X r at (suc k) (omega arith) v
        ∙ later

    seek-here : (e : Bool) → eqb s' s ≡ e
        → seek_in (s ∷ p) (pack (suc r) t n s' ∷ (flat (suc (suc r)) kids ++ X)) r at k ≡ cond e A (cond (ltb s s') (gone p r k) B)
    seek-here true e = seek-down s p _ _ r at k rank_is (seg-is ∙ eqb-true s' s e) ∙ inside
    seek-here false e = seek-apart (ltb s s') refl (eqb-false s' s e)

  -- one pass over a forest's words finds what the forest says
  pub seek-forest : (f : Forest) (lo : ℕ) (p ws : List ℕ) (r at k : ℕ) → Valid limit live (suc r) lo f → Below (suc r) ws
      → seek_in p (flat (suc r) f ++ ws) r at k ≡ seek_f f p r at k
  unfolding flat seek_f
  seek-forest none lo [] ws r at k v u = unfold seek_in in refl
  seek-forest none lo (s ∷ p) ws r at k v u = seek-below s p ws r at k u
  seek-forest (level s' t b kids next) lo [] ws r at k v u = unfold seek_in in refl
  seek-forest (level s' t b kids next) lo (s ∷ p) ws r at k v u =
      rw (append_assoc (flat (suc (suc r)) kids) (flat (suc r) next) ws)
      (seek-here s' t (length b) kids s p (flat (suc r) next ++ ws) r at k _ _ v.0.small v.0.few v.0.fits v.1
      (seek-forest kids 0 p (flat (suc r) next ++ ws) (suc r) k (suc k) v.1 (below-flat limit live (suc r) (suc s') next ws v.2 u))
      (seek-forest next (suc s') (s ∷ p) ws r at (after kids (suc k)) v.2 u)
      (eqb s' s)
      refl)

  -- a segment below all siblings is none of them
  pub late : (f : Forest) (r lo n s : ℕ) (p : List ℕ) → Valid limit live r lo f → s < lo → level_at n f (s ∷ p) ≡ refuses 15 n
  unfolding level_at
  late none r lo n s p v h = refl
  late (level s' t b kids next) r lo n s p v h =
      rw (ne_eqb s' s (λ e. omega (arith, v.0.rises))) (late next r (suc s') n s p v.2 (omega (arith, v.0.rises)))

-- what is not there, by the definition that edits go by
abbrev pub lacking : ℕ → List ℕ → Sought → Answer Level → Type 0
lacking r p (here j) a = Unit {0}
lacking r p (before j) a = a ≡ refuses 15 (r + length p)
lacking r p (missing n) a = a ≡ refuses 15 n

lacking-gone : (p : List ℕ) (r k : ℕ) (a : Answer Level) → a ≡ refuses 15 r → lacking r p (gone p r k) a
unfolding gone
lacking-gone [] r k a e = e ∙ ap (refuses 15) (plus-zero r)
lacking-gone (x ∷ p) r k a e = e

lacking-deeper : (r : ℕ) (x : ℕ) (p : List ℕ) (s : Sought) (a : Answer Level) → lacking (suc r) p s a → lacking r (x ∷ p) s a
lacking-deeper r x p (here j) a h = tt
lacking-deeper r x p (before j) a h = h ∙ ap (refuses 15) (suc-plus r (length p))
lacking-deeper r x p (missing n) a h = h

module _ (limit : ℕ) (live : ℕ → Bool) where
  pub lacks : (f : Forest) (r lo s : ℕ) (p : List ℕ) (at k : ℕ) → Valid limit live (suc r) lo f → lacking r p (seek_f f (s ∷ p) r at k) (level_at r f (s ∷ p))
  unfolding seek_f level_at
  lacks none r lo s p at k v = lacking-gone p r k (refuses 15 r) refl
  lacks (level s' t b kids next) r lo s p at k v =
      go (inner p (λ x q. lacks kids (suc r) 0 x q k (suc k) v.1)) (lacks next r (suc s') s p at (after kids (suc k)) v.2) (eqb s' s) (ltb s s') refl
    where
      inner : (p : List ℕ) → ((x : ℕ) (q : List ℕ) → lacking (suc r) q (seek_f kids (x ∷ q) (suc r) k (suc k)) (level_at (suc r) kids (x ∷ q)))
          → lacking r p (seek_f kids p (suc r) k (suc k)) (reached p (gives (record { segment = s'; typ = t; bindings = b; children = kids })) (level_at (suc r) kids p))
      inner [] i = rw (seek-nil kids (suc r) k (suc k)) tt
      inner (x ∷ q) i = lacking-deeper r x q (seek_f kids (x ∷ q) (suc r) k (suc k)) (level_at (suc r) kids (x ∷ q)) (i x q)

      go : lacking r p (seek_f kids p (suc r) k (suc k)) (reached p (gives (record { segment = s'; typ = t; bindings = b; children = kids })) (level_at (suc r) kids p))
          → lacking r p (seek_f next (s ∷ p) r at (after kids (suc k))) (level_at r next (s ∷ p)) → (e d : Bool) → ltb s s' ≡ d
          → lacking r p (cond e (seek_f kids p (suc r) k (suc k)) (cond d (gone p r k) (seek_f next (s ∷ p) r at (after kids (suc k)))))
          (cond e (reached p (gives (record { segment = s'; typ = t; bindings = b; children = kids })) (level_at (suc r) kids p)) (level_at r next (s ∷ p)))
      go i l true d h = i
      go i l false true h = lacking-gone p r k (level_at r next (s ∷ p)) (late limit live next (suc r) (suc s') r s p v.2 (omega (arith, ltb-true s s' h)))
      go i l false false h = l

-- a longer path is missing where a part of it is
abbrev pub Shorter : ℕ → List ℕ → Sought → Sought → Type 0
Shorter r p (here j) long = Unit {0}
Shorter r p (before j) long = long ≡ missing (r + length p)
Shorter r p (missing n) long = long ≡ missing n

shorter-gone : (p : List ℕ) (x : ℕ) (q : List ℕ) (r k : ℕ) → Shorter r p (gone p r k) (gone (p ++ (x ∷ q)) r k)
unfolding gone
shorter-gone [] x q r k = ap missing (plus-zero r)
shorter-gone (y ∷ p) x q r k = refl

shorter-deeper : (r : ℕ) (y : ℕ) (p : List ℕ) (s long : Sought) → Shorter (suc r) p s long → Shorter r (y ∷ p) s long
shorter-deeper r y p (here j) long h = tt
shorter-deeper r y p (before j) long h = h ∙ ap missing (suc-plus r (length p))
shorter-deeper r y p (missing n) long h = h

pub shorter : (f : Forest) (r s : ℕ) (p : List ℕ) (x : ℕ) (q : List ℕ) (at k : ℕ) → Shorter r p (seek_f f (s ∷ p) r at k) (seek_f f (s ∷ (p ++ (x ∷ q))) r at k)
unfolding seek_f
shorter none r s p x q at k = shorter-gone p x q r k
shorter (level s' t b kids next) r s p x q at k = go (inner p (λ y p. shorter kids (suc r) y p x q k (suc k))) (shorter next r s p x q at (after kids (suc k))) (eqb s' s) (ltb s s')
  where
    inner : (p : List ℕ) → ((y : ℕ) (p : List ℕ) → Shorter (suc r) p (seek_f kids (y ∷ p) (suc r) k (suc k)) (seek_f kids (y ∷ (p ++ (x ∷ q))) (suc r) k (suc k)))
        → Shorter r p (seek_f kids p (suc r) k (suc k)) (seek_f kids (p ++ (x ∷ q)) (suc r) k (suc k))
    inner [] i = rw (seek-nil kids (suc r) k (suc k)) tt
    inner (y ∷ p) i = shorter-deeper r y p (seek_f kids (y ∷ p) (suc r) k (suc k)) (seek_f kids (y ∷ (p ++ (x ∷ q))) (suc r) k (suc k)) (i y p)

    go : Shorter r p (seek_f kids p (suc r) k (suc k)) (seek_f kids (p ++ (x ∷ q)) (suc r) k (suc k))
        → Shorter r p (seek_f next (s ∷ p) r at (after kids (suc k))) (seek_f next (s ∷ (p ++ (x ∷ q))) r at (after kids (suc k))) → (e d : Bool)
        → Shorter r p (cond e (seek_f kids p (suc r) k (suc k)) (cond d (gone p r k) (seek_f next (s ∷ p) r at (after kids (suc k)))))
        (cond e (seek_f kids (p ++ (x ∷ q)) (suc r) k (suc k)) (cond d (gone (p ++ (x ∷ q)) r k) (seek_f next (s ∷ (p ++ (x ∷ q))) r at (after kids (suc k)))))
    go i l true d = i
    go i l false true = shorter-gone p x q r k
    go i l false false = l
