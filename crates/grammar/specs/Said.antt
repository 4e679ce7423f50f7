-- What the answers of reading say: how far it went, or the refusal.
use Rattle.std.specs.Prelude.{ℕ, ◌+◌, List}
use Rattle.pkg_length.specs.Refusal.{Answer, gives, refuses}
use Rattle.grammar.specs.declared.unread.Unread.{Unread}
use Rattle.grammar.specs.Reader.{Read, took}

-- something was read
abbrev pub Accepts : {A : Type 0} → Answer A → Type 0
Accepts (gives a) = Unit {0}
Accepts (refuses n p) = ⊥

-- read from `at` on: the place after it
abbrev pub up_to : {A : Type 0} → ℕ → Answer (Read A) → Answer ℕ
up_to at (gives (took a k)) = gives (at + k)
up_to at (refuses n p) = refuses n p

-- how far a reader goes over what a part has left: the place after it, or the refusal and its place
abbrev pub read_by : {A : Type 0} → (ℕ → List ℕ → Answer (Read A)) → Unread → Answer ℕ
read_by reader u = up_to u.place (reader u.place u.bytes.now)

-- read to the end of the part, or the refusal
abbrev pub read_through : {A : Type 0} → Answer (Read A) → Answer (Unit {0})
read_through (gives a) = gives tt
read_through (refuses n p) = refuses n p
