-- Reading a part from left to right: the tree and how many bytes it took, or the number and the place of the first refusal.
-- p is the place in the block, s the bytes from there to the end of the part.
use Rattle.std.specs.Prelude.{ℕ, zero, suc, ◌+◌, ◌-◌, Bool, true, false, cond, List, [], ◌∷◌, leb, eqb, length, take, drop}
use Rattle.pkg_length.specs.Refusal.{Answer, gives, refuses, and_then, ends_early, block_limit}
use Rattle.pkg_length.specs.Little.{little}
use Rattle.pkg_length.specs.declared.Raw.{Raw}
use Rattle.pkg_length.specs.Package.{package_in}
use Rattle.grammar.specs.declared.opcode.OneOp.{OneOp}
use Rattle.grammar.specs.declared.opcode.TwoOp.{TwoOp}
use Rattle.grammar.specs.declared.opcode.Dest.{Dest}
use Rattle.grammar.specs.declared.opcode.Dest.TheVariants.{Nowhere, ToCell, ToTarget}
use Rattle.grammar.specs.declared.opcode.TermOp.{TermOp}
use Rattle.grammar.specs.declared.opcode.TermOp.TheVariants.{Constant, Bytes, Cell, Step, One, Two, BadTerm}
use Rattle.grammar.specs.declared.opcode.StmtOp.{StmtOp}
use Rattle.grammar.specs.declared.opcode.StmtOp.TheVariants.{Simple, Return, If, While, Expr, BadStmt}
use Rattle.grammar.specs.Opcode.{NULL_NAME, LOCAL0_OP, DEF_ELSE_OP, is_cell_byte, term_op_at, stmt_op_at}
use Rattle.grammar.specs.Tree.{Place, cell, Target, nowhere, to, Term, const, read, step, one, two, Stmt, plain, return, if_else, while, expr, Stmts, nil, cons}
use Rattle.grammar.specs.Grammar.{depth_limit}

-- what was read, and how many bytes it took
pub data Read (A : Type 0) : Type 0 where
  took : A → ℕ → Read A

abbrev pub reads : {A : Type 0} → A → ℕ → Answer (Read A)
reads a k = gives (took a k)

-- what follows; a refusal stands
abbrev pub then_read : {A B : Type 0} → Answer (Read A) → (A → ℕ → Answer B) → Answer B
then_read (gives (took a k)) next = next a k
then_read (refuses n p) next = refuses n p

-- ## Terms

-- n bytes: 1 at the part's end, if they are not there
abbrev pub read_bytes : ℕ → ℕ → List ℕ → Answer (Read Term)
read_bytes n p s = cond (leb n (length s)) (reads (const (little (take n s))) n) (refuses 1 (p + length s))

-- what is read or written
abbrev pub read_place : ℕ → List ℕ → Answer (Read Place)
read_place p [] = refuses 1 p
read_place p (b ∷ s) = cond (is_cell_byte b) (reads (cell (b - LOCAL0_OP)) 1) (refuses 3 p)

abbrev pub read_target : ℕ → List ℕ → Answer (Read Target)
read_target p [] = refuses 1 p
read_target p (b ∷ s) = cond (eqb b NULL_NAME) (reads nowhere 1) (then_read (read_place p (b ∷ s)) (λ x k. reads (to x) k))

-- where an operator's result goes
abbrev pub read_dest : Dest → ℕ → List ℕ → Answer (Read Target)
read_dest Nowhere p s = reads nowhere 0
read_dest ToCell p s = then_read (read_place p s) (λ x k. reads (to x) k)
read_dest ToTarget p s = read_target p s

-- an operator's operands, and where its result goes
pub data Operand : Type 0 where
  operand : Term → Target → Operand

pub data Operands : Type 0 where
  operands : Term → Term → Target → Operands

abbrev pub before : Term → Operand → Operands
before t (operand u x) = operands t u x

module _ (term : ℕ → List ℕ → Answer (Read Term)) where
  unfoldable pub read_one : Dest → ℕ → List ℕ → Answer (Read Operand)
  read_one d p s =
      then_read (term p s) (λ t k.
      then_read (read_dest d (p + k) (drop k s)) (λ x j.
      reads (operand t x) (k + j)))

  unfoldable pub read_two : Dest → ℕ → List ℕ → Answer (Read Operands)
  read_two d p s =
      then_read (term p s) (λ t k.
      then_read (read_one d (p + k) (drop k s)) (λ o j.
      reads (before t o) (k + j)))

abbrev pub one_of : OneOp → Operand → Term
one_of o (operand t x) = one o t x

abbrev pub two_of : TwoOp → Operands → Term
two_of o (operands t u x) = two o t u x

-- by what the first byte is, s being the bytes behind it; `term` reads one deeper
abbrev pub term_by : (ℕ → List ℕ → Answer (Read Term)) → ℕ → List ℕ → TermOp → Answer (Read Term)
term_by term p s (Constant n) = reads (const n) 1
term_by term p s (Bytes n) = then_read (read_bytes n (suc p) s) (λ t k. reads t (suc k))
term_by term p s (Cell c) = reads (read (cell c)) 1
term_by term p s (Step o) = then_read (read_place (suc p) s) (λ x k. reads (step o x) (suc k))
term_by term p s (One o d) = then_read (read_one term d (suc p) s) (λ x k. reads (one_of o x) (suc k))
term_by term p s (Two o d) = then_read (read_two term d (suc p) s) (λ x k. reads (two_of o x) (suc k))
term_by term p s BadTerm = refuses 3 p

-- depth is tested before the byte, even at the part's end
unfoldable pub read_term : ℕ → ℕ → List ℕ → Answer (Read Term)
read_term zero p s = refuses 4 p
read_term (suc left) p [] = refuses 1 p
read_term (suc left) p (b ∷ s) = term_by (read_term left) p s (term_op_at b)

-- ## Packages

-- a place that the layer below counts from the package's lead byte
abbrev pub moved : {A : Type 0} → ℕ → Answer A → Answer A
moved p (gives a) = gives a
moved p (refuses n q) = refuses n (p + q)

-- a package's length at its lead byte
unfoldable pub read_package : ℕ → List ℕ → Answer Raw
read_package p s = moved p (package_in s)

-- ## Statements

pub data Head : Type 0 where
  head : Term → Stmts → Head

abbrev pub if_of : Head → Stmts → Stmt
if_of (head t xs) ys = if_else t xs ys

abbrev pub while_of : Head → Stmt
while_of (head t xs) = while t xs

-- `list` reads a body, one deeper
module _ (list : ℕ → List ℕ → Answer (Read Stmts)) where
  -- a predicate, read against the enclosing part; that it ended inside the package, else it needed the byte at the package's end; then the body
  unfoldable pub read_head : ℕ → List ℕ → Answer (Read Head)
  read_head p s =
      and_then (read_package p s) (λ w.
      then_read (read_term depth_limit (p + w.used) (drop w.used s)) (λ t k.
      cond (leb (w.used + k) w.raw)
      (then_read (list (p + (w.used + k)) (take (w.raw - (w.used + k)) (drop (w.used + k) s))) (λ xs _.
      reads (head t xs) w.raw))
      (ends_early (p + w.raw))))

  abbrev pub else_by : ℕ → List ℕ → Bool → Answer (Read Stmts)
  else_by p s true =
      and_then (read_package p s) (λ w.
      then_read (list (p + w.used) (take (w.raw - w.used) (drop w.used s))) (λ xs _.
      reads xs (suc w.raw)))
  else_by p s false = reads nil 0

  unfoldable pub read_else : ℕ → List ℕ → Answer (Read Stmts)
  read_else p [] = reads nil 0
  read_else p (b ∷ s) = else_by (suc p) s (eqb b DEF_ELSE_OP)

  unfoldable pub read_if : ℕ → List ℕ → Answer (Read Stmt)
  read_if p s =
      then_read (read_head p s) (λ h n.
      then_read (read_else (p + n) (drop n s)) (λ ys j.
      reads (if_of h ys) (n + j)))

  -- b is the first byte, s the bytes behind it
  abbrev pub stmt_by : ℕ → ℕ → List ℕ → StmtOp → Answer (Read Stmt)
  stmt_by b p s (Simple o) = reads (plain o) 1
  stmt_by b p s Return = then_read (read_term depth_limit (suc p) s) (λ t k. reads (return t) (suc k))
  stmt_by b p s If = then_read (read_if (suc p) s) (λ x k. reads x (suc k))
  stmt_by b p s While = then_read (read_head (suc p) s) (λ h k. reads (while_of h) (suc k))
  stmt_by b p s Expr = then_read (read_term depth_limit p (b ∷ s)) (λ t k. reads (expr t) k)
  stmt_by b p s BadStmt = refuses 3 p

  abbrev pub stmt_at : ℕ → List ℕ → Answer (Read Stmt)
  stmt_at p [] = refuses 1 p
  stmt_at p (b ∷ s) = stmt_by b p s (stmt_op_at b)

-- statements to the end of the part; `skip` bytes belong to the statement before
unfoldable pub list_by : (ℕ → List ℕ → Answer (Read Stmt)) → ℕ → ℕ → List ℕ → Answer (Read Stmts)
list_by stmt skip p [] = reads nil 0
list_by stmt (suc skip) p (b ∷ s) = list_by stmt skip (suc p) s
list_by stmt zero p (b ∷ s) =
    then_read (stmt p (b ∷ s)) (λ x k.
    then_read (list_by stmt (k - 1) (suc p) s) (λ xs j.
    reads (cons x xs) (k + j)))

-- depth is tested before the byte
unfoldable pub read_stmt : ℕ → ℕ → List ℕ → Answer (Read Stmt)
read_stmt zero p s = refuses 4 p
read_stmt (suc left) p s = stmt_at (list_by (read_stmt left) 0) p s

abbrev pub read_list : ℕ → ℕ → List ℕ → Answer (Read Stmts)
read_list left = list_by (read_stmt left) 0

-- ## A block

abbrev pub tree_of : Answer (Read Stmts) → Answer Stmts
tree_of (gives (took xs k)) = gives xs
tree_of (refuses n p) = refuses n p

-- the reading of a block, or its refusal: its length first
unfoldable pub read_block : List ℕ → Answer Stmts
read_block s = cond (leb (length s) block_limit) (tree_of (read_list depth_limit 0 s)) (refuses 5 0)
