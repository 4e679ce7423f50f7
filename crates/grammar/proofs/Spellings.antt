-- A tree within the limits has a spelling that the grammar derives: constants in eight bytes, lengths in four, and every If with its else.
use mathlib.Core.Path.{◌≡◌, refl, ap, subst}
use mathlib.Core.List.{List, [], ◌∷◌, ◌++◌}
use Prim.Native.Nat.{ℕ, zero, suc, ◌+◌, ◌*◌, ◌/◌, ◌%◌, ◌^◌, ◌≤◌, ◌<◌}
use native.Mathlib.Nat.{pow-suc}
use native.Mathlib.Omega.{arith}
use lib.ListN.{length, length-append}
use Rattle.pkg_length.specs.Refusal.{block_limit}
use Rattle.pkg_length.specs.Little.{little}
use Rattle.pkg_length.specs.Package.{Spells, spelt_extra, Package, d_package}
use Rattle.grammar.specs.declared.opcode.Plain.{Plain}
use Rattle.grammar.specs.declared.opcode.Plain.TheVariants.{Break, Continue, BreakPoint, Noop}
use Rattle.grammar.specs.declared.opcode.StepOp.{StepOp}
use Rattle.grammar.specs.declared.opcode.StepOp.TheVariants.{Increment, Decrement}
use Rattle.grammar.specs.declared.opcode.OneOp.{OneOp}
use Rattle.grammar.specs.declared.opcode.OneOp.TheVariants.{Store, Not, FindSetLeftBit, FindSetRightBit, LNot}
use Rattle.grammar.specs.declared.opcode.TwoOp.{TwoOp}
use Rattle.grammar.specs.declared.opcode.TwoOp.TheVariants.{Add, Subtract, And, Or, XOr, LAnd, LOr, LEqual, LGreater, LLess}
use Rattle.grammar.specs.declared.opcode.Dest.{Dest}
use Rattle.grammar.specs.declared.opcode.Dest.TheVariants.{Nowhere, ToCell, ToTarget}
use Rattle.grammar.specs.declared.opcode.TermOp.TheVariants.{Bytes, Step, One, Two}
use Rattle.grammar.specs.declared.opcode.StmtOp.TheVariants.{Simple, Expr}
use Rattle.grammar.specs.Opcode.{look, term_op_at, stmt_op_at}
use Rattle.grammar.specs.Tree.{Place, cell, Target, nowhere, to, Term, const, read, step, one, two, Stmt, plain, return, if_else, while, expr, Stmts, nil, cons}
use Rattle.grammar.specs.Grammar.{depth_limit, cells, DPlace, d_cell, DDest, d_nowhere, d_to_cell, d_null, d_target, DTerm, d_bytes, d_read, d_step, d_one, d_two, DStmt, d-plain, d-return, d-if, d-while, d-expr, d-head, d-else, DStmts, d-nil, d-cons}
use Rattle.grammar.specs.Promise.{Derives}

-- ## Numbers and packages

-- k bytes of a number, low first
unfoldable pub bytes_of : ℕ → ℕ → List ℕ
bytes_of zero n = []
bytes_of (suc k) n = (n % 256) ∷ bytes_of k (n / 256)

bytes-length : (k n : ℕ) → length (bytes_of k n) ≡ k
unfolding bytes_of
bytes-length zero n = refl
bytes-length (suc k) n = ap suc (bytes-length k (n / 256))

bytes-little : (k n : ℕ) → n < 256 ^ k → little (bytes_of k n) ≡ n
unfolding bytes_of little
bytes-little zero n h = omega arith
bytes-little (suc k) n h =
    let g = rw pow-suc at h in
    let e : little (bytes_of k (n / 256)) ≡ n / 256 = bytes-little k (n / 256) (omega arith) in
    omega arith

unfoldable pub packed : List ℕ → List ℕ
packed c = ((0xC0 + (4 + length c) % 16) ∷ bytes_of 3 ((4 + length c) / 16)) ++ c

packed-length : (c : List ℕ) → length (packed c) ≡ 4 + length c
unfolding packed
packed-length c = omega (arith, length-append (bytes_of 3 ((4 + length c) / 16)) c, bytes-length 3 ((4 + length c) / 16))

package-spelt : (c : List ℕ) → length c ≤ block_limit → Package c (packed c)
unfolding packed
package-spelt c h =
    let n : ℕ = 4 + length c in
    let xs : List ℕ = bytes_of 3 (n / 16) in
    let l : length xs ≡ 3 = bytes-length 3 (n / 16) in
    let v : little xs ≡ n / 16 = bytes-little 3 (n / 16) (omega arith) in
    let raw : n % 16 + 16 * little xs ≡ n = omega arith in
    let lead : 64 * length xs + (16 * 0 + n % 16) ≡ 0xC0 + n % 16 = omega arith in
    let s₁ : Spells (n % 16 + 16 * little xs) ((64 * length xs + (16 * 0 + n % 16)) ∷ xs) =
    spelt_extra {low = n % 16} {ignored = 0} {xs = xs} (omega arith) (omega arith) (omega arith) in
    let s₂ : Spells n ((64 * length xs + (16 * 0 + n % 16)) ∷ xs) = subst (λ (m : ℕ). Spells m ((64 * length xs + (16 * 0 + n % 16)) ∷ xs)) raw s₁ in
    let s₃ : Spells n ((0xC0 + n % 16) ∷ xs) = subst (λ (b : ℕ). Spells n (b ∷ xs)) lead s₂ in
    d_package {n = n} {h = (0xC0 + n % 16) ∷ xs} {c = c} s₃ (omega arith)

-- ## Terms

unfoldable pub step_byte : StepOp → ℕ
step_byte Increment = 0x75
step_byte Decrement = 0x76

unfoldable pub one_byte : OneOp → ℕ
one_byte Store = 0x70
one_byte Not = 0x80
one_byte FindSetLeftBit = 0x81
one_byte FindSetRightBit = 0x82
one_byte LNot = 0x92

unfoldable pub two_byte : TwoOp → ℕ
two_byte Add = 0x72
two_byte And = 0x7B
two_byte Subtract = 0x74
two_byte Or = 0x7D
two_byte XOr = 0x7F
two_byte LAnd = 0x90
two_byte LOr = 0x91
two_byte LEqual = 0x93
two_byte LGreater = 0x94
two_byte LLess = 0x95

-- where the operator's result may go
unfoldable pub one_dest : OneOp → Dest
one_dest Store = ToCell
one_dest Not = ToTarget
one_dest FindSetLeftBit = ToTarget
one_dest FindSetRightBit = ToTarget
one_dest LNot = Nowhere

unfoldable pub two_dest : TwoOp → Dest
two_dest Add = ToTarget
two_dest And = ToTarget
two_dest Subtract = ToTarget
two_dest Or = ToTarget
two_dest XOr = ToTarget
two_dest LAnd = Nowhere
two_dest LOr = Nowhere
two_dest LEqual = Nowhere
two_dest LGreater = Nowhere
two_dest LLess = Nowhere

step_op : (o : StepOp) → (term_op_at (step_byte o) ≡ Step o) × (stmt_op_at (step_byte o) ≡ Expr)
unfolding step_byte term_op_at stmt_op_at look
step_op Increment = (refl, refl)
step_op Decrement = (refl, refl)

one-op : (o : OneOp) → (term_op_at (one_byte o) ≡ One o (one_dest o)) × (stmt_op_at (one_byte o) ≡ Expr)
unfolding one_byte one_dest term_op_at stmt_op_at look
one-op Store = (refl, refl)
one-op Not = (refl, refl)
one-op FindSetLeftBit = (refl, refl)
one-op FindSetRightBit = (refl, refl)
one-op LNot = (refl, refl)

two-op : (o : TwoOp) → (term_op_at (two_byte o) ≡ Two o (two_dest o)) × (stmt_op_at (two_byte o) ≡ Expr)
unfolding two_byte two_dest term_op_at stmt_op_at look
two-op Add = (refl, refl)
two-op And = (refl, refl)
two-op Subtract = (refl, refl)
two-op Or = (refl, refl)
two-op XOr = (refl, refl)
two-op LAnd = (refl, refl)
two-op LOr = (refl, refl)
two-op LEqual = (refl, refl)
two-op LGreater = (refl, refl)
two-op LLess = (refl, refl)

unfoldable pub spell_place : Place → List ℕ
spell_place (cell c) = (0x60 + c) ∷ []

unfoldable pub spell_target : Dest → Target → List ℕ
spell_target Nowhere x = []
spell_target ToCell nowhere = []
spell_target ToCell (to x) = spell_place x
spell_target ToTarget nowhere = 0 ∷ []
spell_target ToTarget (to x) = spell_place x

unfoldable pub spell_term : Term → List ℕ
spell_term (const n) = 0x0E ∷ bytes_of 8 n
spell_term (read x) = spell_place x
spell_term (step o x) = step_byte o ∷ spell_place x
spell_term (one o a x) = one_byte o ∷ spell_term a ++ spell_target (one_dest o) x
spell_term (two o a b x) = two_byte o ∷ spell_term a ++ (spell_term b ++ spell_target (two_dest o) x)

-- within the limits: 64 bits, 15 cells, a target that the operator can have, and the depths left
abbrev pub FitsPlace : Place → Type 0
FitsPlace (cell c) = c < cells

abbrev pub FitsTarget : Dest → Target → Type 0
FitsTarget Nowhere nowhere = Unit {0}
FitsTarget Nowhere (to x) = ⊥
FitsTarget ToCell nowhere = ⊥
FitsTarget ToCell (to x) = FitsPlace x
FitsTarget ToTarget nowhere = Unit {0}
FitsTarget ToTarget (to x) = FitsPlace x

unfoldable pub FitsTerm : ℕ → Term → Type 0
FitsTerm zero t = ⊥
FitsTerm (suc l) (const n) = n < 2 ^ 64
FitsTerm (suc l) (read x) = FitsPlace x
FitsTerm (suc l) (step o x) = FitsPlace x
FitsTerm (suc l) (one o a x) = FitsTerm l a × FitsTarget (one_dest o) x
FitsTerm (suc l) (two o a b x) = FitsTerm l a × FitsTerm l b × FitsTarget (two_dest o) x

place-spelt : (x : Place) → FitsPlace x → DPlace x (spell_place x)
unfolding spell_place
place-spelt (cell c) h = d_cell h

target-spelt : (d : Dest) (x : Target) → FitsTarget d x → DDest d x (spell_target d x)
unfolding spell_target
target-spelt Nowhere nowhere h = d_nowhere
target-spelt Nowhere (to x) h = absurd h
target-spelt ToCell nowhere h = absurd h
target-spelt ToCell (to x) h = d_to_cell (place-spelt x h)
target-spelt ToTarget nowhere h = d_null
target-spelt ToTarget (to x) h = d_target (place-spelt x h)

const-spelt : (l n : ℕ) → n < 2 ^ 64 → DTerm (suc l) (const n) (0x0E ∷ bytes_of 8 n)
unfolding term_op_at look
const-spelt l n h =
    let b : term_op_at 0x0E ≡ Bytes (length (bytes_of 8 n)) = rw (bytes-length 8 n) in
    subst (λ (m : ℕ). DTerm (suc l) (const m) (0x0E ∷ bytes_of 8 n)) (bytes-little 8 n (omega arith)) (d_bytes {b = 0x0E} {s = bytes_of 8 n} b)

term-spelt : (l : ℕ) (t : Term) → FitsTerm l t → DTerm l t (spell_term t)
unfolding spell_term FitsTerm
term-spelt zero t h = absurd h
term-spelt (suc l) (const n) h = const-spelt l n h
term-spelt (suc l) (read x) h = d_read (place-spelt x h)
term-spelt (suc l) (step o x) h = d_step (step_op o).0 (place-spelt x h)
term-spelt (suc l) (one o a x) h = d_one (one-op o).0 (term-spelt l a h.0) (target-spelt (one_dest o) x h.1)
term-spelt (suc l) (two o a b x) h = d_two (two-op o).0 (term-spelt l a h.0) (term-spelt l b h.1) (target-spelt (two_dest o) x h.2)

-- ## Statements

unfoldable pub plain_byte : Plain → ℕ
plain_byte Break = 0xA5
plain_byte Continue = 0x9F
plain_byte BreakPoint = 0xCC
plain_byte Noop = 0xA3

plain_op : (o : Plain) → stmt_op_at (plain_byte o) ≡ Simple o
unfolding plain_byte stmt_op_at look
plain_op Break = refl
plain_op Continue = refl
plain_op BreakPoint = refl
plain_op Noop = refl

unfoldable mutual
  pub spell_stmt : Stmt → List ℕ
  spell_stmt (plain o) = plain_byte o ∷ []
  spell_stmt (return a) = 0xA4 ∷ spell_term a
  spell_stmt (if_else a xs ys) = 0xA0 ∷ packed (spell_term a ++ spell_stmts xs) ++ (0xA1 ∷ packed (spell_stmts ys))
  spell_stmt (while a xs) = 0xA2 ∷ packed (spell_term a ++ spell_stmts xs)
  spell_stmt (expr a) = spell_term a

  pub spell_stmts : Stmts → List ℕ
  spell_stmts nil = []
  spell_stmts (cons x xs) = spell_stmt x ++ spell_stmts xs

-- a term that may stand as a statement
unfoldable pub FitsExpr : Term → Type 0
FitsExpr (const n) = ⊥
FitsExpr (read x) = ⊥
FitsExpr (step o x) = FitsTerm depth_limit (step o x)
FitsExpr (one o a x) = FitsTerm depth_limit (one o a x)
FitsExpr (two o a b x) = FitsTerm depth_limit (two o a b x)

unfoldable mutual
  pub FitsStmt : Stmt → ℕ → Type 0
  FitsStmt (plain o) zero = ⊥
  FitsStmt (plain o) (suc l) = Unit {0}
  FitsStmt (return a) zero = ⊥
  FitsStmt (return a) (suc l) = FitsTerm depth_limit a
  FitsStmt (if_else a xs ys) zero = ⊥
  FitsStmt (if_else a xs ys) (suc l) = FitsTerm depth_limit a × FitsStmts xs l × FitsStmts ys l
  FitsStmt (while a xs) zero = ⊥
  FitsStmt (while a xs) (suc l) = FitsTerm depth_limit a × FitsStmts xs l
  FitsStmt (expr a) zero = ⊥
  FitsStmt (expr a) (suc l) = FitsExpr a

  pub FitsStmts : Stmts → ℕ → Type 0
  FitsStmts nil l = Unit {0}
  FitsStmts (cons x xs) l = FitsStmt x l × FitsStmts xs l

expr-spelt : (l : ℕ) (a : Term) → FitsExpr a → DStmt (suc l) (expr a) (spell_term a)
unfolding spell_term FitsExpr
expr-spelt l (const n) h = absurd h
expr-spelt l (read x) h = absurd h
expr-spelt l (step o x) h = d-expr (step_op o).1 (term-spelt depth_limit (step o x) h)
expr-spelt l (one o a x) h = d-expr (one-op o).1 (term-spelt depth_limit (one o a x) h)
expr-spelt l (two o a b x) h = d-expr (two-op o).1 (term-spelt depth_limit (two o a b x) h)

mutual
  unfolding spell_stmt FitsStmt stmt_op_at look

  stmt-spelt : (x : Stmt) (l : ℕ) → FitsStmt x l → length (spell_stmt x) ≤ block_limit → DStmt l x (spell_stmt x)
  stmt-spelt (plain o) zero h n = absurd h
  stmt-spelt (plain o) (suc l) h n = d-plain (plain_op o)
  stmt-spelt (return a) zero h n = absurd h
  stmt-spelt (return a) (suc l) h n = d-return refl (term-spelt depth_limit a h)
  stmt-spelt (if_else a xs ys) zero h n = absurd h
  stmt-spelt (if_else a xs ys) (suc l) h n =
      let c = spell_term a ++ spell_stmts xs in
      let d = spell_stmts ys in
      let m₁ : length (packed c ++ (0xA1 ∷ packed d)) ≡ length (packed c) + suc (length (packed d)) = length-append (packed c) (0xA1 ∷ packed d) in
      let m₂ : length (packed c) ≡ 4 + length c = packed-length c in
      let m₃ : length (packed d) ≡ 4 + length d = packed-length d in
      let m₄ : length c ≡ length (spell_term a) + length (spell_stmts xs) = length-append (spell_term a) (spell_stmts xs) in
      d-if refl (d-head (term-spelt depth_limit a h.0) (list-spelt xs l h.1 (omega arith)) (package-spelt c (omega arith)))
      (d-else (list-spelt ys l h.2 (omega arith)) (package-spelt d (omega arith)))
  stmt-spelt (while a xs) zero h n = absurd h
  stmt-spelt (while a xs) (suc l) h n =
      let c = spell_term a ++ spell_stmts xs in
      let m₂ : length (packed c) ≡ 4 + length c = packed-length c in
      let m₄ : length c ≡ length (spell_term a) + length (spell_stmts xs) = length-append (spell_term a) (spell_stmts xs) in
      d-while refl (d-head (term-spelt depth_limit a h.0) (list-spelt xs l h.1 (omega arith)) (package-spelt c (omega arith)))
  stmt-spelt (expr a) zero h n = absurd h
  stmt-spelt (expr a) (suc l) h n = expr-spelt l a h

  list-spelt : (xs : Stmts) (l : ℕ) → FitsStmts xs l → length (spell_stmts xs) ≤ block_limit → DStmts l xs (spell_stmts xs)
  list-spelt nil l h n = d-nil
  list-spelt (cons x xs) l h n =
      let m : length (spell_stmt x ++ spell_stmts xs) ≡ length (spell_stmt x) + length (spell_stmts xs) = length-append (spell_stmt x) (spell_stmts xs) in
      d-cons (stmt-spelt x l h.0 (omega arith)) (list-spelt xs l h.1 (omega arith))

pub tree-has-spelling : (t : Stmts) → FitsStmts t depth_limit → length (spell_stmts t) ≤ block_limit → Derives (spell_stmts t) t
tree-has-spelling t h n = record { short = n; derived = list-spelt t depth_limit h n }
