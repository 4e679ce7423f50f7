-- What the tables say of a byte, from a test that is computed over all rows.
use mathlib.Core.Path.{◌≡◌, refl, sym, ap, ◌∙◌}
use mathlib.Core.Bool.{Bool, true, false, cond}
use mathlib.Core.List.{List, [], ◌∷◌}
use Prim.Native.Nat.{ℕ, ◌+◌, ◌-◌, ◌≤◌, ◌<◌}
use native.Mathlib.Omega.{arith}
use lib.Dec.{leb, eqb}
use borrow.Author.Tests.{leb-true, le-leb}
use Rattle.grammar.specs.declared.opcode.TermOp.{TermOp}
use Rattle.grammar.specs.declared.opcode.TermOp.TheVariants.{Constant, Bytes, Cell, Step, One, Two, BadTerm}
use Rattle.grammar.specs.Opcode.{is_cell_byte, Row, row, look, term_rows, term_op_at}
use Rattle.grammar.specs.Grammar.{cells}
use Rattle.grammar.proofs.Answers.{pick-by}

-- the test at each row
all : {A : Type 0} → (A → Bool) → List (Row A) → Bool
all P [] = true
all P (row k a ∷ rows) = cond (P a) (all P rows) false

all_head : (a b : Bool) → cond a b false ≡ true → a ≡ true
all_head true b e = refl
all_head false b e = e

all_tail : (a b : Bool) → cond a b false ≡ true → b ≡ true
all_tail true b e = e
all_tail false b e = absurd (cc)

look-all : {A : Type 0} (P : A → Bool) (rows : List (Row A)) (other : A) (b : ℕ) → all P rows ≡ true → P other ≡ true → P (look rows other b) ≡ true
unfolding look all
look-all P [] other b h e = e
look-all P (row k a ∷ rows) other b h e =
    pick-by (λ x. P x ≡ true) (eqb b k) (λ _. all_head (P a) (all P rows) h) (λ _. look-all P rows other b (all_tail (P a) (all P rows) h) e)

-- a cell's byte, and its number
pub is-cell : (b : ℕ) → is_cell_byte b ≡ true → (0x60 ≤ b) × (b ≤ 0x6E)
is-cell b e = go (leb 0x60 b) (leb b 0x6E) refl refl e
  where
    go : (x y : Bool) → leb 0x60 b ≡ x → leb b 0x6E ≡ y → cond x y false ≡ true → (0x60 ≤ b) × (b ≤ 0x6E)
    go true true e f h = (leb-true _ _ e, leb-true _ _ f)
    go true false e f h = absurd (cc)
    go false y e f h = absurd (cc)

pub cell-is : (b : ℕ) → 0x60 ≤ b → b ≤ 0x6E → is_cell_byte b ≡ true
cell-is b lo hi = rw (le-leb 0x60 b lo, le-leb b 0x6E hi)

pub cell_op : (c : ℕ) → c < cells → term_op_at (0x60 + c) ≡ Cell c
unfolding term_op_at
cell_op c h = rw (cell-is (0x60 + c) (omega arith) (omega arith)) (ap Cell (omega arith))

other-op : TermOp → Bool
other-op (Constant n) = true
other-op (Bytes n) = leb n 8
other-op (Cell c) = false
other-op (Step o) = true
other-op (One o d) = true
other-op (Two o d) = true
other-op BadTerm = true

rows_other : (b : ℕ) → other-op (look term_rows BadTerm b) ≡ true
unfolding all other-op
rows_other b = look-all other-op term_rows BadTerm b refl refl

-- only a cell's byte is a cell, and no constant is of more than 8 bytes
pub op-cell : (b c : ℕ) → term_op_at b ≡ Cell c → (is_cell_byte b ≡ true) × (c ≡ b - 0x60) × (c < cells)
unfolding term_op_at other-op
op-cell b c e = go (is_cell_byte b) refl e
  where
    go : (t : Bool) → is_cell_byte b ≡ t → cond t (Cell (b - 0x60)) (look term_rows BadTerm b) ≡ Cell c → (is_cell_byte b ≡ true) × (c ≡ b - 0x60) × (c < cells)
    go true q h =
        let e : b - 0x60 ≡ c = cc in
        let r = is-cell b q in
        (q, sym e, omega (arith, r))
    go false q h = absurd (let f : false ≡ true = sym (ap other-op h) ∙ rows_other b in cc)

pub op_bytes : (b n : ℕ) → term_op_at b ≡ Bytes n → n ≤ 8
unfolding term_op_at other-op
op_bytes b n e = go (is_cell_byte b) refl e
  where
    go : (t : Bool) → is_cell_byte b ≡ t → cond t (Cell (b - 0x60)) (look term_rows BadTerm b) ≡ Bytes n → n ≤ 8
    go true q h = absurd (cc)
    go false q h = leb-true n 8 (sym (ap other-op h) ∙ rows_other b)
