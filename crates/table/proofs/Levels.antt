-- One step of the way to a level: a path's first segment is this level's, or it is looked for among the later siblings.
use mathlib.Core.Path.{◌≡◌, refl}
use mathlib.Core.Bool.{Bool, true, false, cond}
use mathlib.Core.List.{List, [], ◌∷◌}
use Prim.Native.Nat.{ℕ, suc}
use lib.Dec.{eqb}
use lib.ListN.{length}
use Rattle.pkg_length.specs.Refusal.{gives}
use Rattle.table.specs.Tree.{Binding, Forest, none, level, Level}
use Rattle.table.specs.Valid.{some}
use Rattle.table.specs.Edits.{reached, level_at, Change, alter}

abbrev pub made : ℕ → ℕ → List Binding → Forest → Level
made s t b kids = record { segment = s; typ = t; bindings = b; children = kids }

module _ (s' t : ℕ) (b : List Binding) (kids next : Forest) (s : ℕ) where
  pub level-hit : (n : ℕ) (q : List ℕ) → eqb s' s ≡ true → level_at n (level s' t b kids next) (s ∷ q) ≡ reached q (gives (made s' t b kids)) (level_at (suc n) kids q)
  unfolding level_at
  level-hit n q e = rw e

  pub level-miss : (n : ℕ) (q : List ℕ) → eqb s' s ≡ false → level_at n (level s' t b kids next) (s ∷ q) ≡ level_at n next (s ∷ q)
  unfolding level_at
  level-miss n q e = rw e

  pub alter-hit : (g : Change) (p : List ℕ) → eqb s' s ≡ true → alter g (level s' t b kids next) (s ∷ p) ≡ reached p (g s' t b kids next) (level s' t b (alter g kids p) next)
  unfolding alter
  alter-hit g p e = rw e

  pub alter-miss : (g : Change) (p : List ℕ) → eqb s' s ≡ false → alter g (level s' t b kids next) (s ∷ p) ≡ level s' t b kids (alter g next (s ∷ p))
  unfolding alter
  alter-miss g p e = rw e

-- a change below the first level leaves a first level, and so does one that leaves the level itself there
pub alter-some : (g : Change) (f : Forest) (x : ℕ) (p : List ℕ) → (length p ≡ 0 → (s t : ℕ) (b : List Binding) (k n : Forest) → some (g s t b k n) ≡ true)
    → some f ≡ true → some (alter g f (x ∷ p)) ≡ true
unfolding alter
alter-some g none x p h k = k
alter-some g (level s' t b kids next) x p h k = go (eqb s' x) p h
  where
    go : (e : Bool) (p : List ℕ) → (length p ≡ 0 → (s t : ℕ) (b : List Binding) (k n : Forest) → some (g s t b k n) ≡ true)
        → some (cond e (reached p (g s' t b kids next) (level s' t b (alter g kids p) next)) (level s' t b kids (alter g next (x ∷ p)))) ≡ true
    go true [] h = h refl s' t b kids next
    go true (y ∷ p) h = refl
    go false p h = refl
