-- What a call that writes bytes leaves of the memory it was lent.
use Rattle.std.specs.Prelude.{ℕ, List, ◌++◌, length, drop}
use Rattle.pkg_length.specs.Refusal.{Answer, gives, refuses}

-- lent bytes, beside what is said of them
pub record Wrote : Type 0 where
  pub out : List ℕ
  pub said : Answer ℕ

-- what is written goes to the start of what is lent, and all after it stays; so does everything with a refusal
abbrev pub wrote : List ℕ → Answer (List ℕ) → Wrote
wrote out (gives bytes) = record { out = bytes ++ drop (length bytes) out; said = gives (length bytes) }
wrote out (refuses n p) = record { out = out; said = refuses n p }
