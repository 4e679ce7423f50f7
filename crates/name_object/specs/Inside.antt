-- What the functions inside promise one another. No public contract rests on these.
use Rattle.std.specs.Prelude.{ℕ, zero, suc, ◌+◌, ◌*◌, Bool, cond, List, [], ◌∷◌, ◌++◌, eqb, get_or, drop}
use Rattle.pkg_length.specs.Refusal.{Answer, gives, and_then}
use Rattle.name_object.specs.Component.{Component, seg, lead_ok, char_ok}
use Rattle.name_object.specs.Memory.{Named}
use Rattle.name_object.specs.Name.{segment, segments, prefix_of}

-- character k of a segment: the first is a lead
unfoldable pub seg_char : ℕ → ℕ → Bool
seg_char k b = cond (eqb k 0) (lead_ok b) (char_ok b)

-- the n segments at the front of bytes that were tested
unfoldable pub cut : ℕ → List ℕ → List Component
cut zero s = []
cut (suc n) s = seg (get_or s 0 0) (get_or s 1 0) (get_or s 2 0) (get_or s 3 0) ∷ cut n (drop 4 s)

-- the offset after a segment
unfoldable pub segment_end : List ℕ → ℕ → Answer ℕ
segment_end xs p = and_then (segment xs p) (λ c. gives (p + 4))

-- the offset after n segments
unfoldable pub segments_end : List ℕ → ℕ → ℕ → Answer ℕ
segments_end xs p n = and_then (segments xs p n) (λ cs. gives (p + 4 * n))

-- the name whose n segments stand from p on, behind its prefix
abbrev pub name_at : List ℕ → ℕ → ℕ → Named ℕ
name_at xs p n = record { path = prefix_of xs ++ cut n (drop p xs); value = p + 4 * n }
