-- The opcodes under the Rust's names (opcode.rs), and what each byte starts, as rows of tables: a further operator is a further row.
use Rattle.std.specs.Prelude.{◌≡◌, ℕ, ◌-◌, ◌^◌, Bool, false, cond, List, [], ◌∷◌, leb, eqb}
use Rattle.grammar.specs.declared.opcode.Plain.TheVariants.{Break, Continue, BreakPoint, Noop}
use Rattle.grammar.specs.declared.opcode.StepOp.TheVariants.{Increment, Decrement}
use Rattle.grammar.specs.declared.opcode.OneOp.TheVariants.{Store, Not, FindSetLeftBit, FindSetRightBit, LNot}
use Rattle.grammar.specs.declared.opcode.TwoOp.TheVariants.{Add, Subtract, And, Or, XOr, LAnd, LOr, LEqual, LGreater, LLess}
use Rattle.grammar.specs.declared.opcode.Dest.TheVariants.{Nowhere, ToCell, ToTarget}
use Rattle.grammar.specs.declared.opcode.TermOp.{TermOp}
use Rattle.grammar.specs.declared.opcode.TermOp.TheVariants.{Constant, Bytes, Cell, Step, One, Two, BadTerm}
use Rattle.grammar.specs.declared.opcode.StmtOp.{StmtOp}
use Rattle.grammar.specs.declared.opcode.StmtOp.TheVariants.{Simple, Return, If, While, Expr, BadStmt}

-- ## The opcodes

abbrev pub NULL_NAME : ℕ
NULL_NAME = 0x00

abbrev pub ZERO_OP : ℕ
ZERO_OP = 0x00

abbrev pub ONE_OP : ℕ
ONE_OP = 0x01

abbrev pub ONES_OP : ℕ
ONES_OP = 0xFF

abbrev pub BYTE_CONST : ℕ
BYTE_CONST = 0x0A

abbrev pub WORD_CONST : ℕ
WORD_CONST = 0x0B

abbrev pub DWORD_CONST : ℕ
DWORD_CONST = 0x0C

abbrev pub QWORD_CONST : ℕ
QWORD_CONST = 0x0E

abbrev pub DEF_CONTINUE_OP : ℕ
DEF_CONTINUE_OP = 0x9F

abbrev pub DEF_IF_ELSE_OP : ℕ
DEF_IF_ELSE_OP = 0xA0

abbrev pub DEF_ELSE_OP : ℕ
DEF_ELSE_OP = 0xA1

abbrev pub DEF_WHILE_OP : ℕ
DEF_WHILE_OP = 0xA2

abbrev pub DEF_NOOP_OP : ℕ
DEF_NOOP_OP = 0xA3

abbrev pub DEF_RETURN_OP : ℕ
DEF_RETURN_OP = 0xA4

abbrev pub DEF_BREAK_OP : ℕ
DEF_BREAK_OP = 0xA5

abbrev pub DEF_BREAKPOINT_OP : ℕ
DEF_BREAKPOINT_OP = 0xCC

abbrev pub DEF_STORE_OP : ℕ
DEF_STORE_OP = 0x70

abbrev pub DEF_ADD_OP : ℕ
DEF_ADD_OP = 0x72

abbrev pub DEF_INCREMENT_OP : ℕ
DEF_INCREMENT_OP = 0x75

abbrev pub DEF_DECREMENT_OP : ℕ
DEF_DECREMENT_OP = 0x76

abbrev pub DEF_AND_OP : ℕ
DEF_AND_OP = 0x7B

abbrev pub DEF_NOT_OP : ℕ
DEF_NOT_OP = 0x80

abbrev pub DEF_FIND_SET_LEFT_BIT_OP : ℕ
DEF_FIND_SET_LEFT_BIT_OP = 0x81

abbrev pub DEF_FIND_SET_RIGHT_BIT_OP : ℕ
DEF_FIND_SET_RIGHT_BIT_OP = 0x82

abbrev pub DEF_SUBTRACT_OP : ℕ
DEF_SUBTRACT_OP = 0x74

abbrev pub DEF_OR_OP : ℕ
DEF_OR_OP = 0x7D

abbrev pub DEF_X_OR_OP : ℕ
DEF_X_OR_OP = 0x7F

abbrev pub DEF_L_AND_OP : ℕ
DEF_L_AND_OP = 0x90

abbrev pub DEF_L_OR_OP : ℕ
DEF_L_OR_OP = 0x91

abbrev pub DEF_L_NOT_OP : ℕ
DEF_L_NOT_OP = 0x92

abbrev pub DEF_L_EQUAL_OP : ℕ
DEF_L_EQUAL_OP = 0x93

abbrev pub DEF_L_GREATER_OP : ℕ
DEF_L_GREATER_OP = 0x94

abbrev pub DEF_L_LESS_OP : ℕ
DEF_L_LESS_OP = 0x95

abbrev pub LOCAL0_OP : ℕ
LOCAL0_OP = 0x60

abbrev pub ARG6_OP : ℕ
ARG6_OP = 0x6E

-- ## What a byte starts

-- 60 to 67 Locals, 68 to 6E Args
abbrev pub is_cell_byte : ℕ → Bool
is_cell_byte b = cond (leb LOCAL0_OP b) (leb b ARG6_OP) false

-- a row: the byte, and what it starts
pub data Row (A : Type 0) : Type 0 where
  row : ℕ → A → Row A

unfoldable pub look : {A : Type 0} → List (Row A) → A → ℕ → A
look [] other b = other
look (row k a ∷ rows) other b = cond (eqb b k) a (look rows other b)

abbrev pub term_rows : List (Row TermOp)
term_rows =
    row ZERO_OP (Constant 0)
    ∷ row ONE_OP (Constant 1)
    ∷ row ONES_OP (Constant (2 ^ 64 - 1))
    ∷ row BYTE_CONST (Bytes 1)
    ∷ row WORD_CONST (Bytes 2)
    ∷ row DWORD_CONST (Bytes 4)
    ∷ row QWORD_CONST (Bytes 8)
    ∷ row DEF_INCREMENT_OP (Step Increment)
    ∷ row DEF_DECREMENT_OP (Step Decrement)
    ∷ row DEF_STORE_OP (One Store ToCell)
    ∷ row DEF_NOT_OP (One Not ToTarget)
    ∷ row DEF_FIND_SET_LEFT_BIT_OP (One FindSetLeftBit ToTarget)
    ∷ row DEF_FIND_SET_RIGHT_BIT_OP (One FindSetRightBit ToTarget)
    ∷ row DEF_L_NOT_OP (One LNot Nowhere)
    ∷ row DEF_ADD_OP (Two Add ToTarget)
    ∷ row DEF_SUBTRACT_OP (Two Subtract ToTarget)
    ∷ row DEF_AND_OP (Two And ToTarget)
    ∷ row DEF_OR_OP (Two Or ToTarget)
    ∷ row DEF_X_OR_OP (Two XOr ToTarget)
    ∷ row DEF_L_AND_OP (Two LAnd Nowhere)
    ∷ row DEF_L_OR_OP (Two LOr Nowhere)
    ∷ row DEF_L_EQUAL_OP (Two LEqual Nowhere)
    ∷ row DEF_L_GREATER_OP (Two LGreater Nowhere)
    ∷ row DEF_L_LESS_OP (Two LLess Nowhere)
    ∷ []

-- what a byte starts as a term
unfoldable pub term_op_at : ℕ → TermOp
term_op_at b = cond (is_cell_byte b) (Cell (b - LOCAL0_OP)) (look term_rows BadTerm b)

abbrev pub stmt_rows : List (Row StmtOp)
stmt_rows =
    row DEF_BREAK_OP (Simple Break)
    ∷ row DEF_CONTINUE_OP (Simple Continue)
    ∷ row DEF_BREAKPOINT_OP (Simple BreakPoint)
    ∷ row DEF_NOOP_OP (Simple Noop)
    ∷ row DEF_RETURN_OP Return
    ∷ row DEF_IF_ELSE_OP If
    ∷ row DEF_WHILE_OP While
    ∷ []

-- a term that starts so, as a statement: it is an expression, or starts none
abbrev pub stmt_op_of : TermOp → StmtOp
stmt_op_of (Constant n) = BadStmt
stmt_op_of (Bytes n) = BadStmt
stmt_op_of (Cell c) = BadStmt
stmt_op_of (Step o) = Expr
stmt_op_of (One o d) = Expr
stmt_op_of (Two o d) = Expr
stmt_op_of BadTerm = BadStmt

-- what a byte starts as a statement: one of its own, or what it is as a term
unfoldable pub stmt_op_at : ℕ → StmtOp
stmt_op_at b = look stmt_rows (stmt_op_of (term_op_at b)) b

-- a statement starts with the byte
abbrev pub Starts : ℕ → Type 0
Starts b = stmt_op_at b ≡ BadStmt → ⊥
