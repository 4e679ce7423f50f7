-- A level that is there: what stands before and after it in memory, and one law for every change of it.
use mathlib.Core.Path.{◌≡◌, refl, ap, ap₂, sym, ◌∙◌}
use mathlib.Core.Bool.{Bool, true, false, cond}
use mathlib.Core.List.{List, [], ◌∷◌, ◌++◌, append_assoc, append-nil}
use Prim.Native.Nat.{ℕ, suc, ◌+◌}
use native.Mathlib.Omega.{arith}
use lib.Dec.{ltb, eqb}
use lib.ListN.{length, length-append}
use Rattle.pkg_length.specs.Refusal.{gives}
use Rattle.pkg_length.proofs.Answers.{refuses-not}
use Rattle.table.specs.Tree.{Binding, Forest, none, level, Level, bound}
use Rattle.table.specs.Layout.{pack, count_of, flat}
use Rattle.table.specs.Edits.{level_at, Change, alter}
use Rattle.table.specs.Inside.{Sought, here, before, missing, gone, counts}
use Rattle.table.proofs.Words.{count-pack}
use Rattle.table.proofs.Shape.{Valid}
use Rattle.table.proofs.Decode.{Below, below-flat}
use Rattle.table.proofs.Levels.{level-miss, alter-miss}
use Rattle.table.proofs.Seek.{after, after_is, seek_f, seek-nil, lacking, lacks}

pub counts-append : (xs ys : List ℕ) → counts (xs ++ ys) ≡ counts xs + counts ys
unfolding counts
counts-append [] ys = omega arith
counts-append (x ∷ xs) ys = ap (λ (n : ℕ). count_of x + n) (counts-append xs ys) ∙ omega arith

pub counts-flat : (limit : ℕ) (live : ℕ → Bool) (r lo : ℕ) (f : Forest) → Valid limit live r lo f → counts (flat r f) ≡ length (bound f)
unfolding counts flat bound
counts-flat limit live r lo none v = refl
counts-flat limit live r lo (level s t b kids next) v =
    ap₂ ◌+◌ (count-pack r t (length b) s v.0.small v.0.few v.0.fits)
    (counts-append (flat (suc r) kids) (flat r next) ∙ ap₂ ◌+◌ (counts-flat limit live (suc r) 0 kids v.1) (counts-flat limit live r (suc s) next v.2) ∙ sym (length-append (bound kids) (bound next)))
    ∙ sym (length-append b (bound kids ++ bound next))

-- f is written as pre, the level at the path q with its later siblings, and post; and so with any change of it
pub record Focus (limit : ℕ) (live : ℕ → Bool) (f : Forest) (r lo₀ : ℕ) (q : List ℕ) (at₀ j k : ℕ) : Type 0 where
  pub rank : ℕ
  pub lo : ℕ
  pub seg : ℕ
  pub typ : ℕ
  pub b : List Binding
  pub kids : Forest
  pub next : Forest
  pub pre : List ℕ
  pub post : List ℕ
  pub bpre : List Binding
  pub bpost : List Binding
  pub was : flat (suc r) f ≡ pre ++ (flat rank (level seg typ b kids next) ++ post)
  pub is : (g : Change) → flat (suc r) (alter g f q) ≡ pre ++ (flat rank (g seg typ b kids next) ++ post)
  pub was_b : bound f ≡ bpre ++ (bound (level seg typ b kids next) ++ bpost)
  pub is_b : (g : Change) → bound (alter g f q) ≡ bpre ++ (bound (g seg typ b kids next) ++ bpost)
  pub at : j ≡ k + length pre
  pub off : counts pre ≡ length bpre
  pub valid : Valid limit live rank lo (level seg typ b kids next)
  pub keeps : (g : Change) → Valid limit live rank lo (g seg typ b kids next) → Valid limit live (suc r) lo₀ (alter g f q)
  pub below : (ws : List ℕ) → Below (suc r) ws → Below rank (post ++ ws)
  pub deep : rank ≡ r + length q
  pub found : level_at r f q ≡ gives (record { segment = seg; typ = typ; bindings = b; children = kids })
  pub through : (p : List ℕ) → seek_f f (q ++ p) r at₀ k ≡ seek_f kids p rank j (suc j)

regroup : {A : Type 0} (a x p n : List A) → a ++ (x ++ p) ++ n ≡ a ++ (x ++ (p ++ n))
regroup a x p n = simp append_assoc

-- one step of the way to the level
module _ (limit : ℕ) (live : ℕ → Bool) (s' t : ℕ) (b : List Binding) (kids next : Forest) (r lo₀ : ℕ) (v : Valid limit live (suc r) lo₀ (level s' t b kids next)) where
  word_count : count_of (pack (suc r) t (length b) s') ≡ length b
  word_count = count-pack (suc r) t (length b) s' v.0.small v.0.few v.0.fits

  module _ (s at k : ℕ) where
    -- the level itself
    focus-here : eqb s' s ≡ true → Focus limit live (level s' t b kids next) r lo₀ (s ∷ []) at k k
    unfolding counts alter level_at seek_f
    focus-here e =
        record {
          rank = suc r;
          lo = lo₀;
          seg = s';
          typ = t;
          b = b;
          kids = kids;
          next = next;
          pre = [];
          post = [];
          bpre = [];
          bpost = [];
          was = sym (append-nil (flat (suc r) (level s' t b kids next)));
          is = λ g. rw e (sym (append-nil (flat (suc r) (g s' t b kids next))));
          was_b = sym (append-nil (bound (level s' t b kids next)));
          is_b = λ g. rw e (sym (append-nil (bound (g s' t b kids next))));
          at = omega arith;
          off = refl;
          valid = v;
          keeps = λ g x. rw e x;
          below = λ ws u. u;
          deep = omega arith;
          found = rw e;
          through = λ p. rw e;
        }

    -- below it
    focus-kids : (y : ℕ) (q : List ℕ) (j : ℕ) → eqb s' s ≡ true → Focus limit live kids (suc r) 0 (y ∷ q) k j (suc k) → Focus limit live (level s' t b kids next) r lo₀ (s ∷ y ∷ q) at j k
    unfolding flat bound counts alter level_at seek_f
    focus-kids y q j e f =
        record {
          rank = f.rank;
          lo = f.lo;
          seg = f.seg;
          typ = f.typ;
          b = f.b;
          kids = f.kids;
          next = f.next;
          pre = pack (suc r) t (length b) s' ∷ f.pre;
          post = f.post ++ flat (suc r) next;
          bpre = b ++ f.bpre;
          bpost = f.bpost ++ bound next;
          was = ap (λ (l : List ℕ). pack (suc r) t (length b) s' ∷ l)
              (ap (λ (l : List ℕ). l ++ flat (suc r) next) f.was ∙ regroup f.pre (flat f.rank (level f.seg f.typ f.b f.kids f.next)) f.post (flat (suc r) next));
          is = λ g. rw e (ap (λ (l : List ℕ). pack (suc r) t (length b) s' ∷ l)
              (ap (λ (l : List ℕ). l ++ flat (suc r) next) (f.is g) ∙ regroup f.pre (flat f.rank (g f.seg f.typ f.b f.kids f.next)) f.post (flat (suc r) next)));
          was_b = ap (λ (l : List Binding). b ++ l)
              (ap (λ (l : List Binding). l ++ bound next) f.was_b ∙ regroup f.bpre (bound (level f.seg f.typ f.b f.kids f.next)) f.bpost (bound next))
              ∙ sym (append_assoc b f.bpre _);
          is_b = λ g. rw e (ap (λ (l : List Binding). b ++ l)
              (ap (λ (l : List Binding). l ++ bound next) (f.is_b g) ∙ regroup f.bpre (bound (g f.seg f.typ f.b f.kids f.next)) f.bpost (bound next))
              ∙ sym (append_assoc b f.bpre _));
          at = omega (arith, f.at);
          off = ap₂ ◌+◌ word_count f.off ∙ sym (length-append b f.bpre);
          valid = f.valid;
          keeps = λ g x. rw e (v.0, f.keeps g x, v.2);
          below = λ ws u. rw (append_assoc f.post (flat (suc r) next) ws) (f.below (flat (suc r) next ++ ws) (below-flat limit live (suc r) (suc s') next ws v.2 u));
          deep = omega (arith, f.deep);
          found = rw e f.found;
          through = λ p. rw e (f.through p);
        }

    -- among its later siblings
    focus-next : (q : List ℕ) (j : ℕ) → eqb s' s ≡ false → ltb s s' ≡ false → Focus limit live next r (suc s') (s ∷ q) at j (after kids (suc k))
        → ((g : Change) → alter g (level s' t b kids next) (s ∷ q) ≡ level s' t b kids (alter g next (s ∷ q)))
        → level_at r (level s' t b kids next) (s ∷ q) ≡ level_at r next (s ∷ q)
        → Focus limit live (level s' t b kids next) r lo₀ (s ∷ q) at j k
    unfolding flat bound counts seek_f
    focus-next q j e d f eqn same =
        record {
          rank = f.rank;
          lo = f.lo;
          seg = f.seg;
          typ = f.typ;
          b = f.b;
          kids = f.kids;
          next = f.next;
          pre = pack (suc r) t (length b) s' ∷ (flat (suc (suc r)) kids ++ f.pre);
          post = f.post;
          bpre = b ++ (bound kids ++ f.bpre);
          bpost = f.bpost;
          was = ap (λ (l : List ℕ). pack (suc r) t (length b) s' ∷ l) (ap (λ (l : List ℕ). flat (suc (suc r)) kids ++ l) f.was ∙ sym (append_assoc (flat (suc (suc r)) kids) f.pre _));
          is = λ g. ap (flat (suc r)) (eqn g)
              ∙ ap (λ (l : List ℕ). pack (suc r) t (length b) s' ∷ l) (ap (λ (l : List ℕ). flat (suc (suc r)) kids ++ l) (f.is g) ∙ sym (append_assoc (flat (suc (suc r)) kids) f.pre _));
          was_b = ap (λ (l : List Binding). b ++ l) (ap (λ (l : List Binding). bound kids ++ l) f.was_b ∙ sym (append_assoc (bound kids) f.bpre _)) ∙ sym (append_assoc b (bound kids ++ f.bpre) _);
          is_b = λ g. ap bound (eqn g)
              ∙ ap (λ (l : List Binding). b ++ l) (ap (λ (l : List Binding). bound kids ++ l) (f.is_b g) ∙ sym (append_assoc (bound kids) f.bpre _)) ∙ sym (append_assoc b (bound kids ++ f.bpre) _);
          at = omega (arith, f.at, after_is kids (suc (suc r)) (suc k), length-append (flat (suc (suc r)) kids) f.pre);
          off = ap₂ ◌+◌ word_count
              (counts-append (flat (suc (suc r)) kids) f.pre ∙ ap₂ ◌+◌ (counts-flat limit live (suc (suc r)) 0 kids v.1) f.off ∙ sym (length-append (bound kids) f.bpre))
              ∙ sym (length-append b (bound kids ++ f.bpre));
          valid = f.valid;
          keeps = λ g x. rw (eqn g) (v.0, v.1, f.keeps g x);
          below = f.below;
          deep = f.deep;
          found = same ∙ f.found;
          through = λ p. rw (e, d) (f.through p);
        }

here-same : {i j : ℕ} → here i ≡ here j → i ≡ j
here-same e = cc

pub gone-not : (p : List ℕ) (r k j : ℕ) → gone p r k ≡ here j → ⊥
unfolding gone
gone-not [] r k j e = let z : ◌≡◌ {A = ℕ} 0 1 = cc in omega arith
gone-not (x ∷ p) r k j e = let z : ◌≡◌ {A = ℕ} 0 1 = cc in omega arith

module _ (limit : ℕ) (live : ℕ → Bool) (s' t : ℕ) (b : List Binding) (kids next : Forest) (r lo₀ : ℕ) (v : Valid limit live (suc r) lo₀ (level s' t b kids next)) (s : ℕ) (p : List ℕ) (at k j : ℕ)
    (inside : eqb s' s ≡ true → seek_f kids p (suc r) k (suc k) ≡ here j → Focus limit live (level s' t b kids next) r lo₀ (s ∷ p) at j k)
    (later : seek_f next (s ∷ p) r at (after kids (suc k)) ≡ here j → Focus limit live next r (suc s') (s ∷ p) at j (after kids (suc k))) where
  focus-pick : (e d : Bool) → eqb s' s ≡ e → ltb s s' ≡ d → cond e (seek_f kids p (suc r) k (suc k)) (cond d (gone p r k) (seek_f next (s ∷ p) r at (after kids (suc k)))) ≡ here j
      → Focus limit live (level s' t b kids next) r lo₀ (s ∷ p) at j k
  focus-pick true d x z y = inside x y
  focus-pick false true x z y = absurd (gone-not p r k j y)
  focus-pick false false x z y =
      focus-next limit live s' t b kids next r lo₀ v s at k p j x z (later y) (λ g. alter-miss s' t b kids next s g p x) (level-miss s' t b kids next s r p x)

-- whatever the pass finds has its focus
pub focus : (limit : ℕ) (live : ℕ → Bool) (f : Forest) (r lo₀ s : ℕ) (p : List ℕ) (at k j : ℕ) → Valid limit live (suc r) lo₀ f → seek_f f (s ∷ p) r at k ≡ here j → Focus limit live f r lo₀ (s ∷ p) at j k
unfolding seek_f
focus limit live none r lo₀ s p at k j v e = absurd (gone-not p r k j e)
focus limit live (level s' t b kids next) r lo₀ s [] at k j v e =
    focus-pick limit live s' t b kids next r lo₀ v s [] at k j
    (λ x y. rw (← here-same (sym (seek-nil kids (suc r) k (suc k)) ∙ y)) (focus-here limit live s' t b kids next r lo₀ v s at k x))
    (focus limit live next r (suc s') s [] at (after kids (suc k)) j v.2)
    (eqb s' s) (ltb s s') refl refl e
focus limit live (level s' t b kids next) r lo₀ s (x ∷ q) at k j v e =
    focus-pick limit live s' t b kids next r lo₀ v s (x ∷ q) at k j
    (λ y z. focus-kids limit live s' t b kids next r lo₀ v s at k x q j y (focus limit live kids (suc r) 0 x q k (suc k) j v.1 z))
    (focus limit live next r (suc s') s (x ∷ q) at (after kids (suc k)) j v.2)
    (eqb s' s) (ltb s s') refl refl e

-- a level that the definition finds has its focus
pub focus_at : (limit : ℕ) (live : ℕ → Bool) (f : Forest) (lo s : ℕ) (p : List ℕ) (l : Level) → Valid limit live 1 lo f → level_at 0 f (s ∷ p) ≡ gives l → (k : ℕ) × Focus limit live f 0 lo (s ∷ p) 0 k 0
focus_at limit live f lo s p l v e = go (seek_f f (s ∷ p) 0 0 0) refl (lacks limit live f 0 lo s p 0 0 v)
  where
    go : (x : Sought) → seek_f f (s ∷ p) 0 0 0 ≡ x → lacking 0 p x (level_at 0 f (s ∷ p)) → (k : ℕ) × Focus limit live f 0 lo (s ∷ p) 0 k 0
    go (here k) d a = (k, focus limit live f 0 lo s p 0 0 k v d)
    go (before k) d a = refuses-not (sym a ∙ e)
    go (missing n) d a = refuses-not (sym a ∙ e)
