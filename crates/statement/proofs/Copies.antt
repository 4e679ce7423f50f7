-- A loop that changes each element of a list in its place: what is behind it is changed, and what is before it is as it was.
use Rattle.std.proofs.Common.{◌≡◌, ℕ, suc, ◌+◌, ◌<◌, List, ◌++◌, map, length, get_or, take, drop, set, sym, ap, ◌∙◌, le_of_lt, add-one, arith, length-take-le, drop-cons, take-suc}
use lib.ListN.{length-map, get_or-map}
use lib.Seq.{set_at, get_or_at, append_snoc}

module _ {A : Type 0} (d s : List A) where
  -- one more element
  copied : (j : ℕ) (z : A) → j < length d → j < length s → set (take j s ++ drop j d) j (get_or s j z) ≡ take (j + 1) s ++ drop (j + 1) d
  copied j z hd hs =
      let v : A = get_or s j z in
      ap (λ (r : List A). set (take j s ++ r) j v) (drop-cons d j z hd)
      ∙ set_at (take j s) (get_or d j z) (drop (suc j) d) v j (length-take-le j s (le_of_lt hs))
      ∙ sym (append_snoc (take j s) v (drop (suc j) d))
      ∙ ap (λ (r : List A). r ++ drop (suc j) d) (sym (take-suc s j z hs))
      ∙ ap (λ (k : ℕ). take k s ++ drop k d) (sym (add-one j))

  -- the next one to be filled is the destination's
  next-kept : (j : ℕ) (z : A) → j < length d → j < length s → get_or (take j s ++ drop j d) j z ≡ get_or d j z
  next-kept j z hd hs =
      ap (λ (r : List A). get_or (take j s ++ r) j z) (drop-cons d j z hd)
      ∙ get_or_at (take j s) (get_or d j z) (drop (suc j) d) z j (length-take-le j s (le_of_lt hs))

-- each element is changed in its place
module _ (f : ℕ → ℕ) (d : List ℕ) where
  pub changed : (j : ℕ) → j < length d →
      set (take j (map f d) ++ drop j d) j (f (get_or (take j (map f d) ++ drop j d) j 0)) ≡ take (j + 1) (map f d) ++ drop (j + 1) d
  changed j h =
      let l : length (map f d) ≡ length d = length-map d f in
      ap (λ (v : ℕ). set (take j (map f d) ++ drop j d) j v)
      (ap f (next-kept d (map f d) j 0 h (omega arith)) ∙ sym (get_or-map f d j 0))
      ∙ copied d (map f d) j (f 0) h (omega arith)
