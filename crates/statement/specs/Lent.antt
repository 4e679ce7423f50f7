-- What the running functions answer beside what is lent: the frame, the units and the answer as one, of what was read. w is the width.
use Rattle.std.specs.Prelude.{◌≡◌, ℕ, suc, ◌+◌, ◌-◌, ◌<◌, ◌≤◌, Bool, true, false, List, length, take, drop, get_or, Result, Ok, Err, Option, Some, None}
use Rattle.pkg_length.specs.declared.AmlError.{AmlError}
use Rattle.pkg_length.specs.declared.AmlError.TheVariants.{BudgetSpent}
use Rattle.pkg_length.specs.declared.Raw.{Raw}
use Rattle.pkg_length.specs.Refusal.{Answer, gives, refuses, refused, said_as}
use Rattle.statement.specs.declared.frame.Frame.{Frame}
use Rattle.grammar.specs.declared.opcode.OneOp.{OneOp}
use Rattle.grammar.specs.declared.opcode.TwoOp.{TwoOp}
use Rattle.statement.specs.declared.eval.Value.{Value}
use Rattle.statement.specs.declared.exec.Propagate.{Propagate}
use Rattle.statement.specs.declared.exec.Propagate.TheVariants.{Refused, Return, Break, Continue}
use Rattle.grammar.specs.Tree.{Target, Term, Stmt, Stmts}
use Rattle.grammar.specs.Said.{Accepts, up_to}
use Rattle.grammar.specs.Reader.{Read, took, Operand, operand, Operands, one_of, two_of, Head, while_of, read_term, read_package, read_else, read_stmt, read_list}
use Rattle.statement.specs.Meaning.{frames, binary, Ran, ran, then_do, spend, put, eval, Ended, finished, returned, break_out, continue_out, Go, again, over, go_of, one_turn, turns, do_stmt, do_stmts}

-- a package at `at` that was read before
pub record Spans (s : List ℕ) (at : ℕ) (r : Raw) : Type 0 where
  pub is : gives r ≡ read_package 0 (drop at s)
  pub own : r.used ≤ r.raw
  pub fits : at + r.raw ≤ length s

-- the else that may stand at `at`, as it was read before: its package, if it is there; and where that ends
abbrev pub ElseHeld : List ℕ → ℕ → Type 0
ElseHeld s at = at < length s → get_or s at 0 ≡ 0xA1 → Accepts (read_package 0 (drop (at + 1) s))

abbrev pub ElseAt : List ℕ → ℕ → Option Raw → Type 0
ElseAt s at None = at < length s → get_or s at 0 ≡ 0xA1 → ⊥
ElseAt s at (Some r) = (at < length s) × (get_or s at 0 ≡ 0xA1) × Spans s (at + 1) r

abbrev pub ElseEnds : List ℕ → ℕ → ℕ → Type 0
ElseEnds s at end = (l : ℕ) → Accepts (read_else (read_list l) 0 (drop at s)) → gives end ≡ up_to at (read_else (read_list l) 0 (drop at s))

-- ## Terms

-- a term that was read from `at` on, with l depths left; what that says of its place and depth is named with it
pub record TermReady (s : List ℕ) (at l : ℕ) : Type 0 where
  pub inside : at < length s
  pub deep : 0 < l
  pub reads : Accepts (read_term l 0 (drop at s))

-- a number and the place behind the term, or the refusal
abbrev pub value_said : Result Value AmlError → Answer (Read ℕ)
value_said r = said_as (λ v. took v.number v.next) r

-- no term takes a unit here
abbrev pub ev_in : Frame → Result Value AmlError → Ran Frame (Read ℕ)
ev_in f r = ran f 0 (value_said r)

abbrev pub ev_at : ℕ → Ran Frame ℕ → Ran Frame (Read ℕ)
ev_at next r = then_do r (λ n f u. ran f u (gives (took n next)))

-- of what was read from `at` on
abbrev pub evaled_by : {A : Type 0} → (A → Frame → ℕ → Ran Frame ℕ) → ℕ → Answer (Read A) → Frame → Ran Frame (Read ℕ)
evaled_by ev at (gives (took a k)) f = ev_at (at + k) (ev a f 0)
evaled_by ev at (refuses n p) f = ran f 0 (refuses n p)

abbrev pub ev_put : ℕ → Target → Frame → ℕ → Ran Frame ℕ
ev_put n x f u = put frames x n f u

module _ (w : ℕ) where
  abbrev pub ev_one : OneOp → Operand → Frame → ℕ → Ran Frame ℕ
  ev_one o x f u = eval frames w (one_of o x) f u

  abbrev pub ev_two : TwoOp → Operands → Frame → ℕ → Ran Frame ℕ
  ev_two o x f u = eval frames w (two_of o x) f u

  -- the second operand, n being the first
  abbrev pub ev_second : TwoOp → ℕ → Operand → Frame → ℕ → Ran Frame ℕ
  ev_second o n (operand t x) f u = then_do (eval frames w t f u) (λ m g v. put frames x (binary w o n m) g v)

-- ## Statements

-- a statement that was read from `at` on, as `TermReady` says it of a term
pub record StmtReady (s : List ℕ) (at l : ℕ) : Type 0 where
  pub inside : at < length s
  pub deep : 0 < l
  pub reads : Accepts (read_stmt l 0 (drop at s))

-- a unit was there and was taken, or none was
abbrev pub SpendsOne : ℕ → ℕ → Result (Unit {0}) AmlError → Type 0
SpendsOne u v (Ok x) = u ≡ suc v
SpendsOne u v (Err e) = (u ≡ 0) × (v ≡ 0) × (e ≡ BudgetSpent)

-- how a list ended
abbrev pub list_said : Result (Unit {0}) Propagate → Answer Ended
list_said (Ok x) = gives finished
list_said (Err (Refused e)) = refused e
list_said (Err (Return n)) = gives (returned n)
list_said (Err Break) = gives break_out
list_said (Err Continue) = gives continue_out

abbrev pub ran_in : Frame → ℕ → Result (Unit {0}) Propagate → Ran Frame Ended
ran_in f u r = ran f u (list_said r)

-- a statement ends and reading goes on behind it, or what it stands in ends
pub data Way : Type 0 where
  on : ℕ → Way
  stop : Ended → Way

abbrev pub way_of : ℕ → Ended → Way
way_of next finished = on next
way_of next (returned n) = stop (returned n)
way_of next break_out = stop break_out
way_of next continue_out = stop continue_out

abbrev pub step_at : ℕ → Ran Frame Ended → Ran Frame Way
step_at next r = then_do r (λ e f u. ran f u (gives (way_of next e)))

abbrev pub way_said : Result ℕ Propagate → Answer Way
way_said (Ok next) = gives (on next)
way_said (Err (Refused e)) = refused e
way_said (Err (Return n)) = gives (stop (returned n))
way_said (Err Break) = gives (stop break_out)
way_said (Err Continue) = gives (stop continue_out)

abbrev pub step_in : Frame → ℕ → Result ℕ Propagate → Ran Frame Way
step_in f u r = ran f u (way_said r)

-- a turn answers as a list does: a body that finished asks for another turn
abbrev pub turn_part_at : Ran Frame Ended → Ran Frame Go
turn_part_at r = then_do r (λ e f u. ran f u (gives (go_of e)))

-- whether another turn follows, or what ended the While's last turn
abbrev pub go_said : Result Bool Propagate → Answer Go
go_said (Ok true) = gives again
go_said (Ok false) = gives (over finished)
go_said (Err (Refused e)) = refused e
go_said (Err (Return n)) = gives (over (returned n))
go_said (Err Break) = gives (over break_out)
go_said (Err Continue) = gives (over continue_out)

abbrev pub turn_in : Frame → ℕ → Result Bool Propagate → Ran Frame Go
turn_in f u r = ran f u (go_said r)

module _ (w : ℕ) where
  -- a list that was read
  abbrev pub ran_of : Answer (Read Stmts) → Frame → ℕ → Ran Frame Ended
  ran_of (gives (took xs k)) f u = do_stmts frames w xs f u
  ran_of (refuses n p) f u = ran f u (refuses n p)

  -- a statement that was read from `at` on, with its unit to spend; and once it has it
  abbrev pub step_of : ℕ → Answer (Read Stmt) → Frame → ℕ → Ran Frame Way
  step_of at (gives (took x k)) f u = step_at (at + k) (spend f u (λ v. do_stmt frames w x f v))
  step_of at (refuses n p) f u = ran f u (refuses n p)

  abbrev pub step_do : ℕ → Answer (Read Stmt) → Frame → ℕ → Ran Frame Way
  step_do at (gives (took x k)) f u = step_at (at + k) (do_stmt frames w x f u)
  step_do at (refuses n p) f u = ran f u (refuses n p)

  -- what follows an If's package, that was read from `at` on
  abbrev pub else_do : ℕ → Answer (Read Stmts) → Frame → ℕ → Ran Frame Way
  else_do at (gives (took xs k)) f u = step_at (at + k) (do_stmts frames w xs f u)
  else_do at (refuses n p) f u = ran f u (refuses n p)

  abbrev pub while_do : ℕ → Answer (Read Head) → Frame → ℕ → Ran Frame Way
  while_do at (gives (took h k)) f u = step_at (at + k) (do_stmt frames w (while_of h) f u)
  while_do at (refuses n p) f u = ran f u (refuses n p)

-- a While's turns, of its predicate at `at` and its body up to `end`, as they were read with l depths left
module _ (l : ℕ) (s : List ℕ) (end at : ℕ) where
  abbrev pub body_from : ℕ → Answer (Read Stmts)
  body_from m = read_list l 0 (take (end - m) (drop m s))

  abbrev pub TurnsOk : Answer (Read Term) → Type 0
  TurnsOk (gives (took t k)) = (at + k ≤ end) × Accepts (body_from (at + k))
  TurnsOk (refuses n p) = ⊥

  abbrev pub turn_of : ℕ → Answer (Read Term) → Frame → ℕ → Ran Frame Go
  turn_of w (gives (took t k)) f u = one_turn (eval frames w t) (λ g v. ran_of w (body_from (at + k)) g v) f u
  turn_of w (refuses n p) f u = ran f u (refuses n p)

  abbrev pub turns_by : ℕ → Answer (Read Term) → Frame → ℕ → Ran Frame Ended
  turns_by w (gives (took t k)) f u = turns (eval frames w t) (λ g v. ran_of w (body_from (at + k)) g v) (suc u) f u
  turns_by w (refuses n p) f u = ran f u (refuses n p)
