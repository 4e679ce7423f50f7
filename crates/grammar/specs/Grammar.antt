-- The grammar: which bytes derive which tree, with so many depths left. Nothing here reads: a byte is what the tables say, and parts stand one behind the other.
use Rattle.std.specs.Prelude.{ℕ, suc, ◌+◌, ◌<◌, ◌≡◌, List, [], ◌∷◌, ◌++◌, length}
use Rattle.pkg_length.specs.Little.{little}
use Rattle.pkg_length.specs.Package.{Package}
use Rattle.grammar.specs.declared.opcode.Plain.{Plain}
use Rattle.grammar.specs.declared.opcode.StepOp.{StepOp}
use Rattle.grammar.specs.declared.opcode.OneOp.{OneOp}
use Rattle.grammar.specs.declared.opcode.TwoOp.{TwoOp}
use Rattle.grammar.specs.declared.opcode.Dest.{Dest}
use Rattle.grammar.specs.declared.opcode.Dest.TheVariants.{Nowhere, ToCell, ToTarget}
use Rattle.grammar.specs.declared.opcode.TermOp.TheVariants.{Constant, Bytes, Step, One, Two}
use Rattle.grammar.specs.declared.opcode.StmtOp.TheVariants.{Simple, Return, If, While, Expr}
use Rattle.grammar.specs.Opcode.{NULL_NAME, LOCAL0_OP, DEF_ELSE_OP, term_op_at, stmt_op_at}
use Rattle.grammar.specs.Tree.{Place, cell, Target, nowhere, to, Term, const, read, step, one, two, Stmt, plain, return, if_else, while, expr, Stmts, nil, cons}

-- statements and terms of at most this depth
abbrev pub depth_limit : ℕ
depth_limit = 16

-- Locals and Args
abbrev pub cells : ℕ
cells = 15

-- what is read or written: a cell, which is one byte
pub data DPlace : Place → List ℕ → Type 0 where
  d_cell : {c : ℕ} → c < cells → DPlace (cell c) ((LOCAL0_OP + c) ∷ [])

-- where an operator's result goes: no byte, a cell, or a target, which is a cell or 00
pub data DDest : Dest → Target → List ℕ → Type 0 where
  d_nowhere : DDest Nowhere nowhere []
  d_to_cell : {x : Place} {s : List ℕ} → DPlace x s → DDest ToCell (to x) s
  d_null : DDest ToTarget nowhere (NULL_NAME ∷ [])
  d_target : {x : Place} {s : List ℕ} → DPlace x s → DDest ToTarget (to x) s

-- terms; an operand is one deeper. Constants of 1, 2, 4 and 8 bytes are one rule
pub data DTerm : ℕ → Term → List ℕ → Type 0 where
  d_constant : {l b n : ℕ} → term_op_at b ≡ Constant n → DTerm (suc l) (const n) (b ∷ [])
  d_bytes : {l b : ℕ} {s : List ℕ} → term_op_at b ≡ Bytes (length s) → DTerm (suc l) (const (little s)) (b ∷ s)
  d_read : {l : ℕ} {x : Place} {s : List ℕ} → DPlace x s → DTerm (suc l) (read x) s
  d_step : {l b : ℕ} {o : StepOp} {x : Place} {s : List ℕ} → term_op_at b ≡ Step o → DPlace x s → DTerm (suc l) (step o x) (b ∷ s)
  d_one : {l b : ℕ} {o : OneOp} {d : Dest} {t : Term} {x : Target} {s w : List ℕ} →
      term_op_at b ≡ One o d → DTerm l t s → DDest d x w → DTerm (suc l) (one o t x) (b ∷ s ++ w)
  d_two : {l b : ℕ} {o : TwoOp} {d : Dest} {t u : Term} {x : Target} {s r w : List ℕ} →
      term_op_at b ≡ Two o d → DTerm l t s → DTerm l u r → DDest d x w → DTerm (suc l) (two o t u x) (b ∷ s ++ (r ++ w))

mutual
  pub data DStmt : ℕ → Stmt → List ℕ → Type 0 where
    d-plain : {l b : ℕ} {o : Plain} → stmt_op_at b ≡ Simple o → DStmt (suc l) (plain o) (b ∷ [])
    d-return : {l b : ℕ} {t : Term} {s : List ℕ} → stmt_op_at b ≡ Return → DTerm depth_limit t s → DStmt (suc l) (return t) (b ∷ s)
    d-if : {l b : ℕ} {t : Term} {xs ys : Stmts} {w e : List ℕ} → stmt_op_at b ≡ If → DHead l t xs w → DElse l ys e → DStmt (suc l) (if_else t xs ys) (b ∷ w ++ e)
    d-while : {l b : ℕ} {t : Term} {xs : Stmts} {w : List ℕ} → stmt_op_at b ≡ While → DHead l t xs w → DStmt (suc l) (while t xs) (b ∷ w)
    d-expr : {l b : ℕ} {t : Term} {s : List ℕ} → stmt_op_at b ≡ Expr → DTerm depth_limit t (b ∷ s) → DStmt (suc l) (expr t) (b ∷ s)

  -- a package of a predicate and a body; a body's statements are one deeper than their owner
  pub data DHead : ℕ → Term → Stmts → List ℕ → Type 0 where
    d-head : {l : ℕ} {t : Term} {xs : Stmts} {s b w : List ℕ} → DTerm depth_limit t s → DStmts l xs b → Package (s ++ b) w → DHead l t xs w

  -- an else, or no byte: then it is the empty list
  pub data DElse : ℕ → Stmts → List ℕ → Type 0 where
    d-none : {l : ℕ} → DElse l nil []
    d-else : {l : ℕ} {xs : Stmts} {b w : List ℕ} → DStmts l xs b → Package b w → DElse l xs (DEF_ELSE_OP ∷ w)

  pub data DStmts : ℕ → Stmts → List ℕ → Type 0 where
    d-nil : {l : ℕ} → DStmts l nil []
    d-cons : {l : ℕ} {x : Stmt} {xs : Stmts} {s b : List ℕ} → DStmt l x s → DStmts l xs b → DStmts l (cons x xs) (s ++ b)
