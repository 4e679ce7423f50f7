-- NameString, read by document 01's grammar: what bytes name, and how many of them.
use Rattle.std.specs.Prelude.{ℕ, zero, suc, ◌+◌, ◌*◌, Bool, cond, List, [], ◌∷◌, ◌++◌, leb, ltb, eqb, length, get_or}
use Rattle.pkg_length.specs.Refusal.{Answer, gives, refuses, and_then}
use Rattle.name_object.specs.Component.{Component, root, up, seg, lead_ok, char_ok}
use Rattle.name_object.specs.Memory.{Named, Told}
use Rattle.name_object.specs.declared.NameRead.{NameRead}
use Rattle.name_object.specs.declared.Run.{Run}

-- the byte at offset p of a part: 1 at the end where there is none
unfoldable pub byte_at : List ℕ → ℕ → Answer ℕ
byte_at xs p = cond (ltb p (length xs)) (gives (get_or xs p 0)) (refuses 1 (length xs))

-- a character at offset p: 6 where the byte is none
unfoldable pub char : (ℕ → Bool) → List ℕ → ℕ → Answer ℕ
char ok xs p = and_then (byte_at xs p) (λ b. cond (ok b) (gives b) (refuses 6 p))

-- a segment: a lead, then three of lead or digit
unfoldable pub segment : List ℕ → ℕ → Answer Component
segment xs p =
    and_then (char lead_ok xs p) (λ a.
    and_then (char char_ok xs (p + 1)) (λ b.
    and_then (char char_ok xs (p + 2)) (λ c.
    and_then (char char_ok xs (p + 3)) (λ d.
    gives (seg a b c d)))))

-- n segments in a row
unfoldable pub segments : List ℕ → ℕ → ℕ → Answer (List Component)
segments xs p zero = gives []
segments xs p (suc n) = and_then (segment xs p) (λ c. and_then (segments xs (p + 4) n) (λ cs. gives (c ∷ cs)))

-- where a NamePath's segments start, and how many there are: 00 none, 2E two, 2F as many as its count byte says, and else one, with nothing before it
unfoldable pub run_at : List ℕ → ℕ → Answer Run
run_at xs p =
    and_then (byte_at xs p) (λ b.
    cond (eqb b 0x00) (gives (record { from = p + 1; count = 0 }))
    (cond (eqb b 0x2E) (gives (record { from = p + 1; count = 2 }))
    (cond (eqb b 0x2F) (and_then (byte_at xs (p + 1)) (λ n. gives (record { from = p + 2; count = n })))
    (gives (record { from = p; count = 1 })))))

-- NamePath: its segments, and the offset after them
unfoldable pub name_path_answer : List ℕ → ℕ → Answer (Named ℕ)
name_path_answer xs p =
    and_then (run_at xs p) (λ r.
    and_then (segments xs r.from r.count) (λ cs.
    gives (record { path = cs; value = r.from + 4 * r.count })))

unfoldable pub carets : List ℕ → List Component
carets [] = []
carets (b ∷ s) = cond (eqb b 0x5E) (up ∷ carets s) []

-- `\`, or any number of `^`: one byte each
unfoldable pub prefix_of : List ℕ → List Component
prefix_of xs = cond (eqb (get_or xs 0 0) 0x5C) (root ∷ []) (carets xs)

-- NameString by the grammar alone: the components, and the bytes used
unfoldable pub spelled : List ℕ → Answer (Named ℕ)
spelled xs =
    and_then (name_path_answer xs (length (prefix_of xs))) (λ n.
    gives (record { path = prefix_of xs ++ n.path; value = n.value }))

-- a name that is well-formed: 7 without components, 9 with over `limit`
unfoldable pub judged : ℕ → Named ℕ → Answer (Named ℕ)
judged limit n = cond (eqb (length n.path) 0) (refuses 7 0) (cond (leb (length n.path) limit) (gives n) (refuses 9 0))

-- a NameString within the limit: grammar faults come first
unfoldable pub name_string_answer : ℕ → List ℕ → Answer (Named ℕ)
name_string_answer limit xs = and_then (spelled xs) (judged limit)

-- a name that the code read: its path in memory, and the bytes used
abbrev pub name_read : NameRead → Told ℕ
name_read r = record { memory = r.name; value = r.used }
