-- A reading: the tree of a block's statements and terms. It holds constants and places as numbers, and none of the block's bytes or offsets.
use Rattle.std.specs.Prelude.{ℕ}
use Rattle.grammar.specs.declared.opcode.Plain.{Plain}
use Rattle.grammar.specs.declared.opcode.StepOp.{StepOp}
use Rattle.grammar.specs.declared.opcode.OneOp.{OneOp}
use Rattle.grammar.specs.declared.opcode.TwoOp.{TwoOp}

-- what is read or written: a cell
pub data Place : Type 0 where
  cell : ℕ → Place

-- where a result is written
pub data Target : Type 0 where
  nowhere : Target
  to : Place → Target

pub data Term : Type 0 where
  const : ℕ → Term
  read : Place → Term
  step : StepOp → Place → Term
  one : OneOp → Term → Target → Term
  two : TwoOp → Term → Term → Target → Term

mutual
  pub data Stmt : Type 0 where
    plain : Plain → Stmt
    return : Term → Stmt
    if_else : Term → Stmts → Stmts → Stmt
    while : Term → Stmts → Stmt
    expr : Term → Stmt

  -- statement lists hold statements, and statements hold statement lists
  pub data Stmts : Type 0 where
    nil : Stmts
    cons : Stmt → Stmts → Stmts
