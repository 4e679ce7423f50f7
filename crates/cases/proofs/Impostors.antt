-- What a program must answer that meets the public contracts, on inputs where the impostors that document 01 names answer otherwise. Nothing is said of
-- code here: a contract fixes the answer, and the definitions compute.
use Prim.Native.Nat.{ℕ}
use mathlib.Core.Path.{◌≡◌, refl, ap, sym, ◌∙◌}
use mathlib.Core.List.{List, [], ◌∷◌}
use Rattle.pkg_length.specs.Little.{little}
use Rattle.pkg_length.specs.Pkg.{spelt, raw_length_answer, from_raw, pkg_length_answer}
use Rattle.pkg_length.specs.Package.{package_in}
use Rattle.std.specs.Prelude.{Result, Ok, Err}
use Rattle.pkg_length.specs.declared.AmlError.{AmlError}
use Rattle.pkg_length.specs.Refusal.{Answer, gives, refuses, said, said_as, and_then}
use Rattle.name_object.specs.Component.{component_limit}
use Rattle.name_object.specs.Memory.{Told, told}
use Rattle.table.specs.Limits.{limits}
use Rattle.table.specs.Layout.{encode}
use Rattle.table.specs.Memory.{Left, left, fresh_tree}
use Rattle.table.specs.Search.{Hit}
use Rattle.namespace.specs.declared.LevelType.TheVariants.{Scope}
use Rattle.namespace.specs.Calls.{add_level_call, edit_left}
use Rattle.namespace.specs.declared.Found.{Found}
use Rattle.namespace.specs.Search.{search_call, found_hit}
use Rattle.statement.specs.declared.Execution.{Execution}
use Rattle.statement.specs.declared.frame.Frame.{Frame}
use Rattle.grammar.specs.Tree.{Stmts}
use Rattle.grammar.specs.Opcode.{look, term_op_at, stmt_op_at}
use Rattle.grammar.specs.Reader.{read_one, read_two, read_term, read_package, read_head, read_else, read_if, list_by, read_stmt, read_block}
use Rattle.statement.specs.declared.frame.Width.TheVariants.{Bits64}
use Rattle.statement.specs.Frames.{fresh}
use Rattle.statement.specs.Meaning.{eval, turns, do_stmt, do_stmts}
use Rattle.grammar.specs.Promise.{Checked}
use Rattle.statement.specs.Promise.{HasRun, run_said}
use Rattle.grammar.proofs.Theorems.{derives-what-reads}
use Rattle.cases.specs.Cases.{typed, after, run_shown, paper_table, run}
use Rattle.cases.proofs.Search.{a-is-written, search-hit}

-- a check that refuses all: the empty block has to be accepted
pub no-check-refuses-all : (r : Result (Unit {0}) AmlError) → Checked [] r → r ≡ Ok tt
unfolding read_block list_by
no-check-refuses-all r c = c.derived _ (derives-what-reads [] _ refl)

-- a check that accepts all: `60` has to be refused, with 3 at 0
pub no-check-accepts-all : (r : Result (Unit {0}) AmlError) → Checked (0x60 ∷ []) r → said r ≡ refuses 3 0
unfolding read_block list_by read_stmt look stmt_op_at term_op_at
no-check-accepts-all r c = c.refusal 3 0 refl

-- a run that meets its contract shows what the list of cases shows, on every block and budget
pub run-shows : (s : List ℕ) (budget : ℕ) (g : Frame) (r : Result Execution AmlError) → HasRun s (fresh Bits64) budget g r → run_shown (run_said g r) ≡ run s budget
run-shows s budget g r h = go (read_block s) refl
  where
    go : (a : Answer Stmts) → read_block s ≡ a → run_shown (run_said g r) ≡ run s budget
    go (gives t) e = rw e (ap run_shown (h.meaning t (derives-what-reads s t e)))
    go (refuses n p) e = rw e (ap run_shown (h.refusal n p e))

-- a While that executes its first turn and counts the rest would return 2, one that counts from the start 3; units that are invented are not 10
pub no-while-counts : (g : Frame) (r : Result Execution AmlError)
    → HasRun (0x70 ∷ 0x0A ∷ 0x03 ∷ 0x60 ∷ 0xA2 ∷ 0x04 ∷ 0x60 ∷ 0x76 ∷ 0x60 ∷ 0xA4 ∷ 0x60 ∷ []) (fresh Bits64) 100 g r
    → run_shown (run_said g r) ≡ gives (1 ∷ 0 ∷ 10 ∷ [])
unfolding little spelt raw_length_answer from_raw pkg_length_answer look term_op_at stmt_op_at read_one read_two read_term package_in read_package read_head read_else read_if list_by read_stmt read_block
    fresh eval turns do_stmt do_stmts
no-while-counts g r h = run-shows _ 100 g r h

-- a search that returns one handle, or refuses, or invents scopes asked: here it is handle 1, and 3 asked
pub no-search-gives-one : (r : Result Found AmlError)
    → said_as found_hit r ≡ told component_limit (search_call limits paper_table (typed (0x58 ∷ [])) (typed (0x5C ∷ 0x41 ∷ 0x2E ∷ 0x42 ∷ 0x2E ∷ 0x43 ∷ [])))
    → said_as (λ f. (found_hit f).value) r ≡ gives (record { handle = 1; asked = 3 })
no-search-gives-one r h = beside r ∙ ap value (h ∙ ap (told component_limit) search-hit)
  where
    value : Answer (Told Hit) → Answer Hit
    value a = and_then a (λ t. gives t.value)

    beside : (r : Result Found AmlError) → said_as (λ f. (found_hit f).value) r ≡ and_then (said_as found_hit r) (λ t. gives t.value)
    beside (Ok f) = refl
    beside (Err e) = refl

-- an edit that keeps the table as it was: a level that is added to a fresh table changes its words
pub no-edit-is-idle : (ws : List ℕ) (r : Result (Unit {0}) AmlError)
    → edit_left ws (said r) ≡ left limits (encode limits fresh_tree) (add_level_call limits (encode limits fresh_tree) (typed (0x5C ∷ 0x41 ∷ [])) Scope)
    → ws ≡ encode limits fresh_tree → ⊥
unfolding after
no-edit-is-idle ws r h e = a-is-written (sym (ap (λ (l : Left (Unit {0})). l.words) h) ∙ e)
