-- What the check promises.
use Rattle.std.specs.Prelude.{◌≡◌, List, ℕ, ◌≤◌, length, Result, Ok}
use Rattle.pkg_length.specs.declared.AmlError.{AmlError}
use Rattle.pkg_length.specs.Refusal.{refuses, said, block_limit}
use Rattle.grammar.specs.Tree.{Stmts}
use Rattle.grammar.specs.Grammar.{depth_limit, DStmts}
use Rattle.grammar.specs.Reader.{read_block}

-- the grammar derives the block, as this tree, within the limits
pub record Derives (s : List ℕ) (tree : Stmts) : Type 0 where
  pub short : length s ≤ block_limit
  pub derived : DStmts depth_limit tree s

-- the check accepts exactly the blocks that the grammar derives; any other it refuses as `read_block` does
pub record Checked (s : List ℕ) (r : Result (Unit {0}) AmlError) : Type 0 where
  pub derived : (t : Stmts) → Derives s t → r ≡ Ok tt
  pub reading : r ≡ Ok tt → (t : Stmts) × Derives s t
  pub refusal : (n p : ℕ) → read_block s ≡ refuses n p → said r ≡ refuses n p
