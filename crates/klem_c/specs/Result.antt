-- What a call leaves, as include/klem.h has it: the number that it returns, the words of its result, and what else it was lent to write.
use Rattle.std.specs.Prelude.{ℕ, ◌-◌, Bool, cond, List, [], ◌∷◌, ◌++◌, eqb, length, get_or, replicate}
use Rattle.pkg_length.specs.Refusal.{Answer, gives, refuses, and_then}
use Rattle.klem_c.specs.declared.reply.Fault.{Fault}
use Rattle.klem_c.specs.declared.reply.Fault.TheVariants.{BadType, BadCell, BadWidth}

-- The library's own numbers start at 1001, past any that the paper gives.

-- KLEM_BAD_SLICE: a slice whose length is fixed has another
abbrev pub bad_slice : ℕ
bad_slice = 1001

-- KLEM_BAD_TYPE: a level's type is over 5
abbrev pub bad_type : ℕ
bad_type = 1002

-- KLEM_BAD_CELL: a frame has no such cell; the place is the cell
abbrev pub bad_cell : ℕ
bad_cell = 1003

-- KLEM_BAD_WIDTH: a frame's width is neither 32 nor 64; the place is that width
abbrev pub bad_width : ℕ
bad_width = 1004

-- KLEM_RESULT: the words of a result
abbrev pub result_words : ℕ
result_words = 8

-- KLEM_SEGMENT: the bytes of a segment, and of a table's signature
abbrev pub letters : ℕ
letters = 4

-- zeros up to the words of a result
abbrev pub filled : List ℕ → List ℕ
filled ws = ws ++ replicate (result_words - length ws) 0

-- 0, 0 and the values; or the refusal's number and place
abbrev pub result_of : Answer (List ℕ) → List ℕ
result_of (gives vs) = filled (0 ∷ 0 ∷ vs)
result_of (refuses n p) = filled (n ∷ p ∷ [])

-- an answer's value as words
abbrev pub valued : {A : Type 0} → (A → List ℕ) → Answer A → Answer (List ℕ)
valued f a = and_then a (λ v. gives (f v))

abbrev pub nothing : {A : Type 0} → A → List ℕ
nothing v = []

abbrev pub one : ℕ → List ℕ
one n = n ∷ []

-- 1 where it is so, else 0
abbrev pub flag : Bool → ℕ
flag b = cond b 1 0

-- a slice has the length that is fixed for it
abbrev pub sized : ℕ → List ℕ → Bool
sized n xs = eqb (length xs) n

-- what a call returns, its result, and what else it was lent: `out`, a text, the table or a frame; nothing where there is none
pub record After : Type 0 where
  pub number : ℕ
  pub result : List ℕ
  pub lent : List ℕ

-- where the slices fit, the result and what else was lent are written, and the result's first word is returned; else KLEM_BAD_SLICE, and all stays
abbrev pub leaves : Bool → List ℕ → List ℕ → List ℕ → List ℕ → After
leaves fit result lent words new =
    cond fit
    (record { number = get_or words 0 0; result = words; lent = new })
    (record { number = bad_slice; result = result; lent = lent })

-- a call that is lent nothing but its result
abbrev pub answers : Bool → List ℕ → Answer (List ℕ) → After
answers fit result a = leaves fit result [] (result_of a) []

-- the library's own refusals
abbrev pub fault_said : {A : Type 0} → Fault → Answer A
fault_said BadType = refuses bad_type 0
fault_said (BadCell cell) = refuses bad_cell cell
fault_said (BadWidth width) = refuses bad_width width
