-- What a valid forest is written as passes.
use mathlib.Core.Path.{◌≡◌, refl, ◌∙◌}
use mathlib.Core.Bool.{Bool, true}
use mathlib.Core.List.{List, ◌∷◌, ◌++◌, append_assoc, map, map-append}
use Prim.Native.Nat.{ℕ, zero, suc, ◌+◌, ◌<◌, ◌≤◌}
use native.Mathlib.Omega.{arith}
use native.Mathlib.Numerals.{add-one}
use lib.ListN.{length, take, drop, get_or, set, replicate, length-set, length-append, length-map}
use lib.Seq.{get_or-set_same, get_or-set_other, take_at, drop_at}
use Rattle.name_object.specs.Memory.{all_zero}
use Rattle.table.specs.Tree.{Binding, Forest, none, level, bound}
use Rattle.table.specs.Layout.{pack, bind_word, flat}
use Rattle.table.specs.Inside.{scan}
use Rattle.table.proofs.Words.{rank-pack, type-pack, count-pack, seg-pack, bindings-back}
use Rattle.table.proofs.Shape.{Small, LevelFit, Valid}
use Rattle.table.proofs.Scan.{scan-zero, scan-pass}

module _ (limit : ℕ) (live : ℕ → Bool) (hm : Small live) where
  module _ (p r lo s t : ℕ) (low : List ℕ) (b : List Binding) (W X : List ℕ) (f : LevelFit limit live r lo s t b) (h : r ≤ p + 1) (e : get_or low r 0 ≡ lo) where
    own : take (length b) (map bind_word b ++ X) ≡ map bind_word b
    own = take_at (map bind_word b) X (length b) (length-map b bind_word)

    rest : drop (length b) (map bind_word b ++ X) ≡ X
    rest = drop_at (map bind_word b) X (length b) (length-map b bind_word)

    pub scan-level : scan limit live p low (pack r t (length b) s ∷ W) (map bind_word b ++ X) ≡ scan limit live r (set (set low r (s + 1)) (r + 1) 0) W X
    scan-level =
        let rk = rank-pack r t (length b) s f.small f.few f.fits in
        let tk = type-pack r t (length b) s f.small f.few f.fits in
        let ck = count-pack r t (length b) s f.small f.few f.fits in
        let sk = seg-pack r t (length b) s f.small f.few f.fits in
        scan-pass limit live p low (pack r t (length b) s) W (map bind_word b ++ X)
        (record {
          step = rw rk h;
          held = rw (ck, length-append (map bind_word b) X, length-map b bind_word) (omega arith);
          fits = rw (rk, tk, ck, sk, own, bindings-back live 0 b hm f.ordered, e) f;
        })
        ∙ rw (rk, ck, sk, rest)

  -- where the pass stands after the records of siblings of rank r
  pub record After (r : ℕ) (low : List ℕ) (p : ℕ) (ws bs ws' bs' : List ℕ) : Type 0 where
    pub rank : ℕ
    pub seen : List ℕ
    pub far : r ≤ rank + 1
    pub long : length seen ≡ limit + 2
    pub same : (e : ℕ) → e < r → get_or seen e 0 ≡ get_or low e 0
    pub goes : scan limit live p low ws bs ≡ scan limit live rank seen ws' bs'

  pub complete : (f : Forest) (r lo p : ℕ) (low ws bs : List ℕ) → Valid limit live r lo f → length low ≡ limit + 2 → r ≤ p + 1 → get_or low r 0 ≡ lo
      → After r low p (flat r f ++ ws) (map bind_word (bound f) ++ bs) ws bs
  unfolding flat bound
  complete none r lo p low ws bs v l h e = record { rank = p; seen = low; far = h; long = l; same = λ x y. refl; goes = refl }
  complete (level s t b kids next) r lo p low ws bs v l h e =
      let now : List ℕ = set (set low r (s + 1)) (r + 1) 0 in
      let here : get_or now r 0 ≡ suc s =
      get_or-set_other (set low r (s + 1)) (r + 1) r 0 0 (λ x. omega arith) ∙ get_or-set_same low r (s + 1) 0 (omega (arith, v.0.shallow)) ∙ add-one s in
      let next-rank : get_or now (suc r) 0 ≡ 0 =
      rw (← add-one r) (get_or-set_same (set low r (s + 1)) (r + 1) 0 0 (rw (length-set low r (s + 1)) (omega (arith, v.0.shallow)))) in
      let a = complete kids (suc r) 0 r now (flat r next ++ ws) (map bind_word (bound next) ++ bs) v.1 (simp length-set l) (omega arith) next-rank in
      let c = complete next r (suc s) a.rank a.seen ws bs v.2 a.long (omega (arith, a.far)) (a.same r (omega arith) ∙ here) in
      record {
        rank = c.rank;
        seen = c.seen;
        far = c.far;
        long = c.long;
        same = λ x y. c.same x y ∙ a.same x (omega arith) ∙ get_or-set_other (set low r (s + 1)) (r + 1) x 0 0 (λ z. omega arith) ∙ get_or-set_other low r x (s + 1) 0 (λ z. omega arith);
        goes =
            rw (map-append bind_word b (bound kids ++ bound next), append_assoc (map bind_word b) (map bind_word (bound kids ++ bound next)) bs)
            (scan-level p r lo s t low b _ _ v.0 h e
            ∙ rw (
              append_assoc (flat (suc r) kids) (flat r next) ws,
              map-append bind_word (bound kids) (bound next),
              append_assoc (map bind_word (bound kids)) (map bind_word (bound next)) bs,
            ) (a.goes ∙ c.goes));
      }

pub zeros-spare : (n : ℕ) → all_zero (replicate n 0) ≡ true
unfolding all_zero
zeros-spare zero = refl
zeros-spare (suc n) = zeros-spare n

pub scan-spare : (limit : ℕ) (live : ℕ → Bool) (z p : ℕ) (low bs : List ℕ) → all_zero bs ≡ true → scan limit live p low (replicate z 0) bs ≡ true
scan-spare limit live zero p low bs h = unfold scan in h
scan-spare limit live (suc z) p low bs h = scan-zero limit live p low 0 (replicate z 0) bs refl ∙ rw (zeros-spare z) h
