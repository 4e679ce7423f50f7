-- A loop that copies a list from its start: what is behind it is the source's, and what is before it is as it was.
use Rattle.std.proofs.Common.{◌≡◌, ℕ, suc, ◌+◌, ◌<◌, ◌≤◌, List, ◌++◌, length, get_or, take, drop, set, sym, ap, ◌∙◌, append-nil, le_of_lt, add-one, drop_of_length-le, length-take-le, take_all, drop-cons, take-suc}
use lib.Seq.{set_at, append_snoc}

module _ {A : Type 0} (d s : List A) where
  -- one more element
  pub copied : (j : ℕ) (z : A) → j < length d → j < length s → set (take j s ++ drop j d) j (get_or s j z) ≡ take (j + 1) s ++ drop (j + 1) d
  copied j z hd hs =
      let v : A = get_or s j z in
      ap (λ (r : List A). set (take j s ++ r) j v) (drop-cons d j z hd)
      ∙ set_at (take j s) (get_or d j z) (drop (suc j) d) v j (length-take-le j s (le_of_lt hs))
      ∙ sym (append_snoc (take j s) v (drop (suc j) d))
      ∙ ap (λ (r : List A). r ++ drop (suc j) d) (sym (take-suc s j z hs))
      ∙ ap (λ (k : ℕ). take k s ++ drop k d) (sym (add-one j))

  pub copied_all : (j : ℕ) → length s ≤ j → length d ≤ j → take j s ++ drop j d ≡ s
  copied_all j h k = ap (λ (r : List A). r ++ drop j d) (take_all j s h) ∙ ap (λ (r : List A). s ++ r) (drop_of_length-le d k) ∙ append-nil s
