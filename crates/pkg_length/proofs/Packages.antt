-- A package is read where, and only where, its bytes spell one; and what `pkg_length_answer` answers of a part is what is read of its package, with the place of a refusal.
use mathlib.Core.Path.{◌≡◌, refl, sym, ap, subst, ◌∙◌}
use mathlib.Core.Bool.{Bool, true, false, cond}
use mathlib.Core.List.{List, [], ◌∷◌, ◌++◌, append_assoc}
use Prim.Native.Nat.{ℕ, suc, ◌+◌, ◌-◌, ◌*◌, ◌/◌, ◌%◌, ◌≤◌, ◌<◌}
use native.Mathlib.Omega.{arith}
use lib.Dec.{leb, eqb}
use lib.ListN.{length, take, drop, length-append, length-drop}
use lib.Seq.{length-take-le, take-add, drop-append_seam, take-append_seam}
use borrow.Author.Tests.{eqb-true, eqb-false, leb-true, leb-false, le-leb, lt-leb, eq-eqb, ne_eqb}
use Rattle.pkg_length.specs.Refusal.{Answer, gives, refuses, and_then, block_limit}
use Rattle.pkg_length.specs.Little.{little}
use Rattle.pkg_length.specs.declared.PkgLength.{PkgLength}
use Rattle.pkg_length.specs.declared.Raw.{Raw}
use Rattle.pkg_length.specs.declared.Pkg.{Pkg}
use Rattle.pkg_length.specs.Pkg.{spelt, raw_length_answer, from_raw, pkg_length_answer}
use Rattle.pkg_length.specs.Package.{Spells, spelt_plain, spelt_extra, Package, d_package, package_in}
use Rattle.pkg_length.proofs.Answers.{refuses-not, then-gives}

-- a test that gave went one way
pub test-gives : {A : Type 0} (t : Bool) (r : Answer A) (n p : ℕ) {a : A} → cond t r (refuses n p) ≡ gives a → (t ≡ true) × (r ≡ gives a)
test-gives true r n p e = (refl, e)
test-gives false r n p e = refuses-not e

-- ## Lengths

-- bytes that were read as a length
pub record Spelt (s : List ℕ) (w : Raw) : Type 0 where
  pub some : 0 < w.used
  pub fits : w.used ≤ length s
  pub spells : Spells w.raw (take w.used s)

module _ (lead : ℕ) (rest : List ℕ) where
  plain-spelt : lead / 64 ≡ 0 → Spelt (lead ∷ rest) (record { raw = lead % 64; used = 1 })
  plain-spelt e =
      let q : lead ≡ lead % 64 = omega arith in
      record {
        some = omega arith;
        fits = omega arith;
        spells = subst (λ (n : ℕ). Spells n (lead ∷ [])) q (spelt_plain (omega arith));
      }

  extra-spelt : (lead / 64 ≡ 0 → ⊥) → lead / 64 ≤ length rest →
      Spelt (lead ∷ rest) (record { raw = lead % 16 + 16 * little (take (lead / 64) rest); used = 1 + lead / 64 })
  extra-spelt ne le =
      let xs = take (lead / 64) rest in
      let n : length xs ≡ lead / 64 = length-take-le (lead / 64) rest le in
      let q : 64 * length xs + (16 * (lead / 16 % 4) + lead % 16) ≡ lead = omega arith in
      let one : 1 + lead / 64 ≡ suc (lead / 64) = omega arith in
      record {
        some = omega arith;
        fits = omega arith;
        spells =
            rw one
            (subst (λ (b : ℕ). Spells (lead % 16 + 16 * little xs) (b ∷ xs)) q (spelt_extra (omega arith) (omega arith) (omega arith)));
      }

pub spelt-sound : (s : List ℕ) (w : Raw) → spelt s ≡ gives w → Spelt s w
unfolding spelt
spelt-sound [] w e = refuses-not e
spelt-sound (lead ∷ rest) w e = go (eqb (lead / 64) 0) refl e
  where
    go : (t : Bool) → eqb (lead / 64) 0 ≡ t →
        cond t
        (gives (record { raw = lead % 64; used = 1 }))
        (cond (leb (lead / 64) (length rest))
        (gives (record { raw = lead % 16 + 16 * little (take (lead / 64) rest); used = 1 + lead / 64 }))
        (refuses 1 (suc (length rest)))) ≡ gives w → Spelt (lead ∷ rest) w
    go true q h =
        let e : record { raw = lead % 64; used = 1 } ≡ w = cc in
        subst (Spelt (lead ∷ rest)) e (plain-spelt lead rest (eqb-true _ _ q))
    go false q h =
        let (t, f) = test-gives (leb (lead / 64) (length rest)) _ 1 (suc (length rest)) h in
        let e : record { raw = lead % 16 + 16 * little (take (lead / 64) rest); used = 1 + lead / 64 } ≡ w = cc in
        subst (Spelt (lead ∷ rest)) e (extra-spelt lead rest (eqb-false _ _ q) (leb-true _ _ t))

pub spelt-complete : {n : ℕ} {h : List ℕ} → Spells n h → (r : List ℕ) → spelt (h ++ r) ≡ gives (record { raw = n; used = length h })
unfolding spelt
spelt-complete (spelt_plain {n = n} lt) r =
    let q : n % 64 ≡ n = omega arith in
    rw (eq-eqb (n / 64) 0 (omega arith), q)
spelt-complete (spelt_extra {low = low} {ignored = i} {xs = xs} some lo ig) r =
    let lead = 64 * length xs + (16 * i + low) in
    let q₁ : lead / 64 ≡ length xs = omega arith in
    let q₂ : lead % 16 ≡ low = omega arith in
    let q₃ : 1 + length xs ≡ suc (length xs) = omega arith in
    let ne : eqb (length xs) 0 ≡ false = ne_eqb (length xs) 0 (λ e. omega arith) in
    let le : leb (length xs) (length (xs ++ r)) ≡ true = le-leb (length xs) (length (xs ++ r)) (omega (arith, length-append xs r)) in
    rw (q₁, q₂, ne, le, take-append_seam xs r, q₃)

-- a length that is not there: 1, within the part or at its end
pub spelt-refuses : (t : List ℕ) (n q : ℕ) → spelt t ≡ refuses n q → (n ≡ 1) × (q ≤ length t)
unfolding spelt
spelt-refuses [] n q e = (let z : 1 ≡ n = cc in sym z, let z : 0 ≡ q = cc in omega arith)
spelt-refuses (lead ∷ rest) n q e =
    go (eqb (lead / 64) 0) (leb (lead / 64) (length rest))
    (record { raw = lead % 64; used = 1 })
    (record { raw = lead % 16 + 16 * little (take (lead / 64) rest); used = 1 + lead / 64 }) e
  where
    go : (x y : Bool) (a b : Raw) → cond x (gives a) (cond y (gives b) (refuses 1 (suc (length rest)))) ≡ refuses n q → (n ≡ 1) × (q ≤ suc (length rest))
    go true y a b e = refuses-not (sym e)
    go false true a b e = refuses-not (sym e)
    go false false a b e = (let z : 1 ≡ n = cc in sym z, let z : suc (length rest) ≡ q = cc in omega arith)

-- a length that passes its part holds its own bytes, since the part holds them: the two bad lengths exclude each other
pub not-both : (s : List ℕ) (w : Raw) → spelt s ≡ gives w → length s < w.raw → w.used ≤ w.raw
not-both s w e h = omega (arith, (spelt-sound s w e).fits)

module _ (n : ℕ) (a : Raw) where
  pub unfit : n < a.raw → from_raw n a.raw ≡ refuses 2 0
  unfolding from_raw
  unfit h = rw (lt-leb a.raw n h)

  pub fit : a.raw ≤ n → from_raw n a.raw ≡ gives (record { raw_length = a.raw; end_offset = n - a.raw })
  unfolding from_raw
  fit h = rw (le-leb a.raw n h)

-- ## Packages

-- a package that was read
pub record Packs (s : List ℕ) (w : Raw) : Type 0 where
  pub holds : 0 < w.used
  pub own_in : w.used ≤ w.raw
  pub within : w.raw ≤ length s
  pub is : Package (take (w.raw - w.used) (drop w.used s)) (take w.raw s)

packs : (s : List ℕ) (w : Raw) → Spelt s w → w.raw ≤ length s → w.used ≤ w.raw → Packs s w
packs s w h fit own =
    let m = w.raw - w.used in
    let c = take m (drop w.used s) in
    let e : w.raw ≡ w.used + m = omega arith in
    let n : length c ≡ m = length-take-le m (drop w.used s) (omega (arith, length-drop w.used s)) in
    let k : length (take w.used s) ≡ w.used = length-take-le w.used s h.fits in
    let g : Package c (take w.used s ++ c) = d_package {c = c} h.spells (omega arith) in
    let q : take w.raw s ≡ take w.used s ++ c = ap (λ (i : ℕ). take i s) e ∙ take-add w.used m s in
    record { holds = h.some; own_in = own; within = fit; is = rw q g }

pub package-sound : (s : List ℕ) (w : Raw) → package_in s ≡ gives w → Packs s w
unfolding package_in from_raw
package-sound s w e =
    let (v, e₁, f₁) = then-gives (spelt s) _ e in
    let (t, f₂) = test-gives (leb v.used v.raw) _ 31 0 f₁ in
    let (l, e₂, g) = then-gives (from_raw (length s) v.raw) _ f₂ in
    let (u, h) = test-gives (leb v.raw (length s)) _ 2 0 e₂ in
    let q : v ≡ w = cc in
    subst (Packs s) q (packs s v (spelt-sound s v e₁) (leb-true _ _ u) (leb-true _ _ t))

-- a package that is there, with more behind it
pub package-complete : {X : Type 0} {c b : List ℕ} → Package c b → (r : List ℕ) →
    ((w : Raw) → package_in (b ++ r) ≡ gives w → w.raw ≡ length b → w.raw ≡ w.used + length c → drop w.used (b ++ r) ≡ c ++ r → X) → X
unfolding package_in
package-complete (d_package {n = n} {h = h} {c = c} sp e) r g =
    let w : Raw = record { raw = n; used = length h } in
    let q : (h ++ c) ++ r ≡ h ++ (c ++ r) = append_assoc h c r in
    let l : length (h ++ (c ++ r)) ≡ length h + (length c + length r) = length-append h (c ++ r) ∙ ap (λ (k : ℕ). length h + k) (length-append c r) in
    g w
    (rw (q, spelt-complete sp (c ++ r), fit (length (h ++ (c ++ r))) w (omega arith), le-leb (length h) n (omega arith)))
    (e ∙ sym (length-append h c)) e
    (rw q (drop-append_seam h (c ++ r)))

-- ## What the code reads by `pkg_length`

module _ (t : List ℕ) (short : length t ≤ block_limit) where
  abbrev pkg_of : Raw → Answer Pkg
  pkg_of a = and_then (from_raw (length t) a.raw) (λ l. gives (record { length_read = l; used = a.used }))

  pkg-is : pkg_length_answer t ≡ and_then (spelt t) pkg_of
  unfolding pkg_length_answer raw_length_answer
  pkg-is = rw (le-leb (length t) block_limit short)

  abbrev pkg : PkgLength → ℕ → Pkg
  pkg l u = record { length_read = l; used = u }

  -- a refusal: 1 or 2, at a place within the part
  pub record Refuses (n q : ℕ) : Type 0 where
    pub is : refuses n q ≡ package_in t
    pub inside : q ≤ length t
    pub one-or-two : (n ≡ 1 → ⊥) → n ≡ 2

  pub package-no : (n q : ℕ) → refuses n q ≡ pkg_length_answer t → Refuses n q
  unfolding package_in
  package-no n q e = go (spelt t) refl (e ∙ pkg-is)
    where
      tried : (a : Raw) (b : Bool) → leb a.raw (length t) ≡ b → spelt t ≡ gives a → refuses n q ≡ pkg_of a → Refuses n q
      tried a true h f z = refuses-not {v = pkg _ _} (z ∙ ap (λ (R : Answer PkgLength). and_then R (λ l. gives (pkg l a.used))) (fit (length t) a (leb-true _ _ h)))
      tried a false h f z =
          let lt : length t < a.raw = leb-false a.raw (length t) h in
          let g : refuses n q ≡ refuses 2 0 = z ∙ rw (unfit (length t) a lt) in
          let x : n ≡ 2 = cc in
          let y : q ≡ 0 = cc in
          record { is = rw (x, y, f, le-leb a.used a.raw (not-both t a f lt), unfit (length t) a lt); inside = omega arith; one-or-two = λ _. x }

      go : (R : Answer Raw) → spelt t ≡ R → refuses n q ≡ and_then R pkg_of → Refuses n q
      go (gives a) f h = tried a (leb a.raw (length t)) refl f h
      go (refuses c m) f h =
          let y : n ≡ c = cc in
          let z : q ≡ m = cc in
          let k = spelt-refuses t c m f in
          record { is = rw (y, z, f); inside = omega (arith, k.1); one-or-two = λ ne. absurd (ne (y ∙ k.0)) }

  -- a length that was read: it lies within the part, and holds its own bytes or not
  module _ (l : PkgLength) (u : ℕ) (e : gives (pkg l u) ≡ pkg_length_answer t) where
    read_as : {X : Type 0} → ((a : Raw) → spelt t ≡ gives a → a.raw ≤ length t → a.raw ≡ l.raw_length → a.used ≡ u → X) → X
    read_as {X} g = go (spelt t) refl (e ∙ pkg-is)
      where
        tried : (a : Raw) (b : Bool) → leb a.raw (length t) ≡ b → spelt t ≡ gives a → gives (pkg l u) ≡ pkg_of a → X
        tried a true h f q =
            let le : a.raw ≤ length t = leb-true _ _ h in
            let made : PkgLength = record { raw_length = a.raw; end_offset = length t - a.raw } in
            let w : gives (pkg l u) ≡ gives (pkg made a.used) = q ∙ rw (fit (length t) a le) in
            let v : pkg l u ≡ pkg made a.used = cc in
            g a f le (sym (ap (λ (x : Pkg). x.length_read.raw_length) v)) (sym (ap (λ (x : Pkg). x.used) v))
        tried a false h f q = refuses-not {n = 2} {p = 0} (sym (q ∙ rw (unfit (length t) a (leb-false _ _ h))))

        go : (R : Answer Raw) → spelt t ≡ R → gives (pkg l u) ≡ and_then R pkg_of → X
        go (gives a) f h = tried a (leb a.raw (length t)) refl f h
        go (refuses c m) f h = refuses-not (sym h)

    pub package-early : l.raw_length < u → refuses 31 0 ≡ package_in t
    unfolding package_in
    package-early lt = read_as λ a f le e₁ e₂. sym (rw (f, lt-leb a.used a.raw (omega arith)))

    pub package-yes : u ≤ l.raw_length → gives (record { raw = l.raw_length; used = u }) ≡ package_in t
    unfolding package_in
    package-yes h = read_as λ a f le e₁ e₂. sym (rw (f, fit (length t) a le, le-leb a.used a.raw (omega arith), ← e₁, ← e₂))
