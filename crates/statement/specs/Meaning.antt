-- What a reading means, for any memory and budget: over the tree alone, without the check or the run. w is the width of numbers in bits.
use Rattle.std.specs.Prelude.{ℕ, zero, suc, ◌+◌, ◌-◌, ◌/◌, ◌%◌, ◌^◌, Bool, true, false, cond, not, ◌==◌, bit_and, bit_or, bit_xor, nat_lt}
use Rattle.pkg_length.specs.Refusal.{Answer, gives, refuses}
use Rattle.statement.specs.declared.frame.Frame.{Frame}
use Rattle.grammar.specs.declared.opcode.Plain.{Plain}
use Rattle.grammar.specs.declared.opcode.Plain.TheVariants.{Break, Continue, BreakPoint, Noop}
use Rattle.grammar.specs.declared.opcode.StepOp.{StepOp}
use Rattle.grammar.specs.declared.opcode.StepOp.TheVariants.{Increment, Decrement}
use Rattle.grammar.specs.declared.opcode.OneOp.{OneOp}
use Rattle.grammar.specs.declared.opcode.OneOp.TheVariants.{Store, Not, FindSetLeftBit, FindSetRightBit, LNot}
use Rattle.grammar.specs.declared.opcode.TwoOp.{TwoOp}
use Rattle.grammar.specs.declared.opcode.TwoOp.TheVariants.{Add, Subtract, And, Or, XOr, LAnd, LOr, LEqual, LGreater, LLess}
use Rattle.grammar.specs.Tree.{Place, cell, Target, nowhere, to, Term, const, read, step, one, two, Stmt, plain, return, if_else, while, expr, Stmts, nil, cons}
use Rattle.statement.specs.Frames.{bits, low, held, wrote, begun}

-- ## Numbers

-- the largest number of w bits
abbrev pub ones_of_width : ℕ → ℕ
ones_of_width w = 2 ^ w - 1

-- true is all ones
abbrev pub truth : ℕ → Bool → ℕ
truth w true = ones_of_width w
truth w false = 0

abbrev pub stepped : ℕ → StepOp → ℕ → ℕ
stepped w Increment n = (n + 1) % 2 ^ w
stepped w Decrement n = (n + ones_of_width w) % 2 ^ w

-- bit k of n is set
abbrev pub is_set : ℕ → ℕ → Bool
is_set n k = n / 2 ^ k % 2 == 1

-- one more than the greatest k below w of which p holds; 0 where there is none
unfoldable pub greatest : (ℕ → Bool) → ℕ → ℕ
greatest p zero = 0
greatest p (suc k) = cond (p k) (suc k) (greatest p k)

-- one more than the least
abbrev pub or_else : ℕ → ℕ → ℕ
or_else zero b = b
or_else (suc a) b = suc a

unfoldable pub least : (ℕ → Bool) → ℕ → ℕ
least p zero = 0
least p (suc k) = or_else (least p k) (cond (p k) (suc k) 0)

-- Not is the complement within the width; the finders give one-based positions
abbrev pub unary : ℕ → OneOp → ℕ → ℕ
unary w Store n = n
unary w Not n = ones_of_width w - low w n
unary w FindSetLeftBit n = greatest (is_set n) w
unary w FindSetRightBit n = least (is_set n) w
unary w LNot n = truth w (n == 0)

abbrev pub both : Bool → Bool → Bool
both true b = b
both false b = false

abbrev pub either : Bool → Bool → Bool
either true b = true
either false b = b

abbrev pub binary : ℕ → TwoOp → ℕ → ℕ → ℕ
binary w Add a b = (a + b) % 2 ^ w
binary w Subtract a b = (a + (2 ^ w - low w b)) % 2 ^ w
binary w And a b = bit_and a b
binary w Or a b = bit_or a b
binary w XOr a b = bit_xor a b
binary w LAnd a b = truth w (both (not (a == 0)) (not (b == 0)))
binary w LOr a b = truth w (either (not (a == 0)) (not (b == 0)))
binary w LEqual a b = truth w (a == b)
binary w LGreater a b = truth w (nat_lt b a)
binary w LLess a b = truth w (nat_lt a b)

-- ## Memory

-- what terms read and write: a state, what a place holds in it, and the state once it is written
pub record Memory : Type 1 where
  pub State : Type 0
  pub load : State → Place → Answer ℕ
  pub save : State → Place → ℕ → Answer State

-- a frame's cells
abbrev pub load_cell_answer : Frame → Place → Answer ℕ
load_cell_answer f (cell c) = held f c

abbrev pub save_cell : Frame → Place → ℕ → Answer Frame
save_cell f (cell c) n = gives (wrote f c n)

abbrev pub frames : Memory
frames = record { State = Frame; load = load_cell_answer; save = save_cell }

-- ## What is evaluated or run: where it stands

-- the state, the units that are left, and what was worked out, or the refusal
pub data Ran (S A : Type 0) : Type 0 where
  ran : S → ℕ → Answer A → Ran S A

-- what follows; a refusal stands, with the effects before it
abbrev pub then_do : {S A B : Type 0} → Ran S A → (A → S → ℕ → Ran S B) → Ran S B
then_do (ran s u (gives a)) next = next a s u
then_do (ran s u (refuses n p)) next = ran s u (refuses n p)

-- no unit is left for what comes next
abbrev pub spent : {S A : Type 0} → S → ℕ → Ran S A
spent s u = ran s u (refuses 22 0)

-- one unit, if there is one: 22 before any effect
abbrev pub spend : {S A : Type 0} → S → ℕ → (ℕ → Ran S A) → Ran S A
spend s zero next = spent s 0
spend s (suc u) next = next u

-- ## Statements: how they end

pub data Ended : Type 0 where
  finished : Ended
  returned : ℕ → Ended
  break_out : Ended
  continue_out : Ended

abbrev pub end_of_plain : Plain → Ended
end_of_plain Break = break_out
end_of_plain Continue = continue_out
end_of_plain BreakPoint = finished
end_of_plain Noop = finished

-- a list goes on behind a statement that finished
abbrev pub go_on : {S : Type 0} → Ended → (S → ℕ → Ran S Ended) → S → ℕ → Ran S Ended
go_on finished next s u = next s u
go_on (returned n) next s u = ran s u (gives (returned n))
go_on break_out next s u = ran s u (gives break_out)
go_on continue_out next s u = ran s u (gives continue_out)

-- a turn of a While asks for another, or the While ends
pub data Go : Type 0 where
  again : Go
  over : Ended → Go

-- Break and Continue of the body act on this While
abbrev pub go_of : Ended → Go
go_of finished = again
go_of (returned n) = over (returned n)
go_of break_out = over finished
go_of continue_out = again

abbrev pub after_turn : {S : Type 0} → Go → (S → ℕ → Ran S Ended) → S → ℕ → Ran S Ended
after_turn again next s u = next s u
after_turn (over e) next s u = ran s u (gives e)

module _ {S : Type 0} (predicate : S → ℕ → Ran S ℕ) (body : S → ℕ → Ran S Ended) where
  -- one turn: a unit, the predicate, the body
  abbrev pub one_turn : S → ℕ → Ran S Go
  one_turn s u =
      spend s u (λ v.
      then_do (predicate s v) (λ n t w.
      cond (n == 0) (ran t w (gives (over finished))) (then_do (body t w) (λ e x y. ran x y (gives (go_of e))))))

  -- at most k turns: as each takes a unit, one more than there are units is enough (`turns-enough`)
  unfoldable pub turns : ℕ → S → ℕ → Ran S Ended
  turns zero s u = spent s u
  turns (suc k) s u = then_do (one_turn s u) (λ g t v. after_turn g (turns k) t v)

-- ## Terms and statements, over any memory

-- a result is written where the operator says, and is the term's number
abbrev pub saved : {S : Type 0} → ℕ → S → ℕ → Answer S → Ran S ℕ
saved n s u (gives t) = ran t u (gives n)
saved n s u (refuses k p) = ran s u (refuses k p)

module _ (m : Memory) where
  abbrev pub fetch : Place → m.State → ℕ → Ran m.State ℕ
  fetch x s u = ran s u (m.load s x)

  abbrev pub put : Target → ℕ → m.State → ℕ → Ran m.State ℕ
  put nowhere n s u = ran s u (gives n)
  put (to x) n s u = saved n s u (m.save s x n)

  -- a constant keeps its low w bits; operands go left to right, both always
  unfoldable pub eval : ℕ → Term → m.State → ℕ → Ran m.State ℕ
  eval w (const n) s u = ran s u (gives (n % 2 ^ w))
  eval w (read x) s u = fetch x s u
  eval w (step o x) s u = then_do (fetch x s u) (λ n t v. put (to x) (stepped w o n) t v)
  eval w (one o a x) s u = then_do (eval w a s u) (λ n t v. put x (unary w o n) t v)
  eval w (two o a b x) s u = then_do (eval w a s u) (λ n t v. then_do (eval w b t v) (λ k y z. put x (binary w o n k) y z))

  unfoldable mutual
    -- a statement that has its unit
    pub do_stmt : ℕ → Stmt → m.State → ℕ → Ran m.State Ended
    do_stmt w (plain o) s u = ran s u (gives (end_of_plain o))
    do_stmt w (return a) s u = then_do (eval w a s u) (λ n t v. ran t v (gives (returned n)))
    do_stmt w (if_else a xs ys) s u = then_do (eval w a s u) (λ n t v. cond (n == 0) (do_stmts w ys t v) (do_stmts w xs t v))
    do_stmt w (while a xs) s u = turns (eval w a) (λ t v. do_stmts w xs t v) (suc u) s u
    do_stmt w (expr a) s u = then_do (eval w a s u) (λ n t v. ran t v (gives finished))

    -- one unit for each statement begun
    pub do_stmts : ℕ → Stmts → m.State → ℕ → Ran m.State Ended
    do_stmts w nil s u = ran s u (gives finished)
    do_stmts w (cons x xs) s u = then_do (spend s u (λ v. do_stmt w x s v)) (λ e t v. go_on e (λ y z. do_stmts w xs y z) t v)

-- ## A block

-- how a run ended, the units used, and the frame
pub record Outcome : Type 0 where
  pub end : Answer Ended
  pub units : ℕ
  pub frame : Frame

abbrev pub outcome : ℕ → Ran Frame Ended → Outcome
outcome budget (ran f u e) = record { end = e; units = budget - u; frame = f }

-- in the frame's width, whose cells are of that width from here on
abbrev pub mean : Stmts → Frame → ℕ → Outcome
mean t f budget = outcome budget (do_stmts frames (bits f.width) t (begun f) budget)
