-- What a run answers of an accepted part, in the code's words: one law for each of its returns.
use Rattle.std.proofs.Common.{Err, inl, inr, ◌≡◌, ℕ, zero, suc, ◌+◌, ◌-◌, ◌<◌, ◌≤◌, true, cond, leb, List, [], ◌∷◌, length, get_or, take, drop, sym, refl, ap, ◌∙◌, arith, length-drop, drop_of_length-le, drop-drop, eq-eqb, ne_eqb, leb-true}
use Rattle.std.proofs.lemmas.Bool.{cases_lt}
use Rattle.pkg_length.specs.Refusal.{Answer, gives, refuses}
use Rattle.pkg_length.specs.declared.Raw.{Raw}
use Rattle.statement.specs.declared.frame.Frame.{Frame}
use Rattle.statement.specs.declared.frame.Width.{Width}
use Rattle.statement.specs.declared.exec.Propagate.{Propagate}
use Rattle.statement.specs.declared.exec.Propagate.TheVariants.{Refused, Return, Break, Continue}
use Rattle.grammar.specs.declared.opcode.Plain.{Plain}
use Rattle.grammar.specs.declared.opcode.Plain.TheVariants.{BreakPoint, Noop}
use Rattle.grammar.specs.declared.opcode.StmtOp.{StmtOp}
use Rattle.grammar.specs.declared.opcode.StmtOp.TheVariants.{Simple, If, While, Expr, BadStmt}
use Rattle.grammar.specs.declared.opcode.TermOp.{TermOp}
use Rattle.grammar.specs.declared.opcode.TermOp.TheVariants.{Constant, Bytes, Cell, Step, One, Two, BadTerm}
use Rattle.grammar.specs.Opcode.{look, stmt_op_at, stmt_op_of, term_op_at}
use Rattle.grammar.specs.Tree.{Term, Stmt, if_else, while, Stmts, cons}
use Rattle.grammar.specs.Grammar.{depth_limit}
use Rattle.grammar.specs.Reader.{Read, took, reads, then_read, read_term, read_package, Head, head, read_head, else_by, read_else, read_if, stmt_by, list_by, read_stmt, read_list}
use Rattle.statement.specs.Meaning.{frames, Ran, ran, then_do, spend, eval, Ended, finished, returned, break_out, continue_out, go_on, end_of_plain, Go, again, over, after_turn, one_turn, turns, do_stmt, do_stmts}
use Rattle.grammar.specs.Said.{Accepts, up_to}
use Rattle.statement.specs.Frames.{bits}
use Rattle.statement.specs.Lent.{Spans, ElseHeld, ElseEnds, TermReady, StmtReady, evaled_by, list_said, Way, on, stop, way_of, step_at, way_said, go_said, turn_part_at, ran_of, step_of, step_do, else_do, while_do, body_from, TurnsOk, turn_of, turns_by}
use Rattle.grammar.proofs.Answers.{Takes, then_by, and-by, pick-ok}
use Rattle.grammar.proofs.Statements.{stmt-sound}
use Rattle.grammar.proofs.Reaches.{here, stmt-is-by, list-eq, else-end, else-other}
use Rattle.grammar.proofs.Packages.{package-any}
use Rattle.grammar.proofs.Places.{term-any, list_any, else-any, head-any, if-any}
use Rattle.statement.proofs.Units.{left_of, term-left, list_left, turns_next, turn-less, with-units}
use Rattle.statement.proofs.Widths.{term-width, begun-width, ran-width, turn-width, same-width}
use Rattle.statement.proofs.Evals.{acc-ok, is-acc, acc-then, acc-same, ev-num, ev-err, term-ready}

pub ran-left : (w : ℕ) (R : Answer (Read Stmts)) (f : Frame) (u : ℕ) → left_of (ran_of w R f u) ≤ u
unfolding left_of
ran-left w (gives (took xs k)) f u = list_left frames w xs f u
ran-left w (refuses n p) f u = omega arith

-- ## A list

-- a statement's end is told by where it leads
unstep : Ran Frame Way → Ran Frame Ended
unstep (ran f u (gives (on n))) = ran f u (gives finished)
unstep (ran f u (gives (stop e))) = ran f u (gives e)
unstep (ran f u (refuses n p)) = ran f u (refuses n p)

step_back : (m : ℕ) (y : Ran Frame Ended) → unstep (step_at m y) ≡ y
unfolding unstep
step_back m (ran f u (gives finished)) = refl
step_back m (ran f u (gives (returned n))) = refl
step_back m (ran f u (gives break_out)) = refl
step_back m (ran f u (gives continue_out)) = refl
step_back m (ran f u (refuses n p)) = refl

-- what ends a statement early ends what it stands in
pub out-way : (m : ℕ) (p : Propagate) (f : Frame) (u : ℕ) → ran f u (way_said (Err p)) ≡ step_at m (ran f u (list_said (Err p)))
out-way m (Refused e) f u = refl
out-way m (Return n) f u = refl
out-way m Break f u = refl
out-way m Continue f u = refl

out-back : (p : Propagate) (f : Frame) (u : ℕ) → unstep (ran f u (way_said (Err p))) ≡ ran f u (list_said (Err p))
unfolding unstep
out-back (Refused e) f u = refl
out-back (Return n) f u = refl
out-back Break f u = refl
out-back Continue f u = refl

out-list : (p : Propagate) (f : Frame) (u : ℕ) (k : Frame → ℕ → Ran Frame Ended) → ran f u (list_said (Err p)) ≡ then_do (ran f u (list_said (Err p))) (λ e g v. go_on e k g v)
out-list (Refused e) f u k = refl
out-list (Return n) f u k = refl
out-list Break f u k = refl
out-list Continue f u k = refl

first-ok : {X : Type 0} (st : ℕ → List ℕ → Answer (Read Stmt)) (p : ℕ) (d : List ℕ) (ys : Stmts) (q : ℕ) → 0 < length d → list_by st 0 p d ≡ reads ys q →
    ((x : Stmt) (k : ℕ) → st p d ≡ reads x k → X) → X
unfolding list_by
first-ok st p [] ys q h e g = absurd (omega arith)
first-ok st p (b ∷ d) ys q h e g = then_by (st p (b ∷ d)) _ e λ x k e₁ e₂. g x k e₁

module _ (l at : ℕ) (s : List ℕ) (f : Frame) (u : ℕ) (lt : at < length s) (acc : Accepts (read_list l 0 (drop at s))) where
  -- the statement and the rest that an accepted list reads
  list_open : {X : Type 0} → ((x : Stmt) (k : ℕ) (xs : Stmts) (j : ℕ) → 0 < k → at + k ≤ length s → read_stmt l 0 (drop at s) ≡ reads x k →
      read_list l 0 (drop (at + k) s) ≡ reads xs j → read_list l 0 (drop at s) ≡ reads (cons x xs) (k + j) → X) → X
  list_open g =
      acc-ok (read_list l 0 (drop at s)) acc λ ys q e.
      first-ok (read_stmt l) 0 (drop at s) ys q (omega (arith, length-drop at s)) e λ x k e₁.
      let t : Takes _ (drop at s) k = stmt-sound l 0 (drop at s) x k e₁ in
      let t₁ : 0 < k = t.some in
      let t₂ : k ≤ length (drop at s) = t.fits in
      let z : length (drop at s) ≡ length s - at = length-drop at s in
      let e₂ : read_list l 0 (drop at s) ≡ then_read (read_list l (0 + k) (drop (at + k) s)) (λ xs j. reads (cons x xs) (k + j)) =
      list-eq (read_stmt l) 0 k (drop at s) x t₁ (omega arith) e₁ ∙ rw (drop-drop k at s) in
      then_by (read_list l (0 + k) (drop (at + k) s)) _ (sym e₂ ∙ e) λ xs j e₃ e₄.
      g x k xs j t₁ (omega arith) e₁ (list_any l (0 + k) 0 (drop (at + k) s) xs j e₃) (e₂ ∙ rw e₃)

  pub list-stmt-acc : Accepts (read_stmt l 0 (drop at s))
  list-stmt-acc = list_open (λ x k xs j h₁ h₂ e₁ e₂ e₃. is-acc e₁)

  module _ (g : Frame) (v : ℕ) where
    same : (r : Ran Frame Way) → r ≡ step_of (bits f.width) at (read_stmt l 0 (drop at s)) f u → (x : Stmt) (k : ℕ) → read_stmt l 0 (drop at s) ≡ reads x k →
        r ≡ step_at (at + k) (spend f u (λ v. do_stmt frames (bits f.width) x f v))
    same r er x k e = er ∙ ap (λ (R : Answer (Read Stmt)). step_of (bits f.width) at R f u) e

    pub run_more : (next : ℕ) → ran g v (gives (on next)) ≡ step_of (bits f.width) at (read_stmt l 0 (drop at s)) f u →
        (at < next) × (next ≤ length s) × Accepts (read_list l 0 (drop next s)) ×
        (ran_of (bits f.width) (read_list l 0 (drop at s)) f u ≡ ran_of (bits g.width) (read_list l 0 (drop next s)) g v)
    unfolding do_stmts unstep
    run_more next er =
        list_open λ x k xs j h₁ h₂ e₁ e₂ e₃.
        let one : Ran Frame Ended = spend f u (λ v. do_stmt frames (bits f.width) x f v) in
        let p : ran g v (gives finished) ≡ one = ap unstep (same _ er x k e₁) ∙ step_back (at + k) one in
        let z : ran g v (gives (on next)) ≡ ran g v (gives (on (at + k))) = same _ er x k e₁ ∙ sym (ap (step_at (at + k)) p) in
        let d : next ≡ at + k = cc in
        let q : g.width ≡ f.width = same-width one f g v _ (begun-width (bits f.width) x f u) (sym p) in
        (omega arith, omega arith, rw d (is-acc e₂), rw (e₃, d, e₂, ← p) (ap (λ (w : Width). do_stmts frames (bits w) xs g v) (sym q)))

    pub run-stop : (r : Propagate) → ran g v (way_said (Err r)) ≡ step_of (bits f.width) at (read_stmt l 0 (drop at s)) f u →
        ran g v (list_said (Err r)) ≡ ran_of (bits f.width) (read_list l 0 (drop at s)) f u
    unfolding do_stmts
    run-stop r er =
        list_open λ x k xs j h₁ h₂ e₁ e₂ e₃.
        let one : Ran Frame Ended = spend f u (λ v. do_stmt frames (bits f.width) x f v) in
        let q : ran g v (list_said (Err r)) ≡ one = sym (out-back r g v) ∙ ap unstep (same _ er x k e₁) ∙ step_back (at + k) one in
        rw (e₃, ← q) (out-list r g v (λ y z. do_stmts frames (bits f.width) xs y z))

pub run_end : (w l at : ℕ) (s : List ℕ) (f : Frame) (u : ℕ) → length s ≤ at → ran f u (gives finished) ≡ ran_of w (read_list l 0 (drop at s)) f u
unfolding list_by do_stmts
run_end w l at s f u h = rw (drop_of_length-le s h)

-- ## An else

pub else-none : (w l at : ℕ) (s : List ℕ) (f : Frame) (u : ℕ) → (at < length s → get_or s at 0 ≡ 0xA1 → ⊥) → at ≤ length s →
    ran f u (gives (on at)) ≡ else_do w at (read_else (read_list l) 0 (drop at s)) f u
unfolding read_else do_stmts
else-none w l at s f u h le =
    let q : at ≡ at + 0 = omega arith in
    elim (cases_lt at (length s)) [
      | inl lt ↦ rw (here s at lt, ne_eqb (get_or s at 0) 0xA1 (h lt)) (ap (λ (n : ℕ). ran f u (gives (on n))) q)
      | inr ge ↦ rw (drop_of_length-le s ge) (ap (λ (n : ℕ). ran f u (gives (on n))) q)
    ]

module _ (l at : ℕ) (s : List ℕ) (lt : at < length s) (eq : get_or s at 0 ≡ 0xA1) (acc : Accepts (read_else (read_list l) 0 (drop at s))) where
  else-eq : read_else (read_list l) 0 (drop at s) ≡ else_by (read_list l) 1 (drop (at + 1) s) true
  unfolding read_else
  else-eq = rw (here s at lt, eq)

  else-package : Accepts (read_package 0 (drop (at + 1) s))
  else-package =
      acc-ok (read_else (read_list l) 0 (drop at s)) acc λ es k e.
      and-by (read_package 1 (drop (at + 1) s)) _ (sym else-eq ∙ e) λ w e₁ e₂.
      is-acc (package-any 1 0 (drop (at + 1) s) w e₁)

  module _ {w : Raw} (held : Spans s (at + 1) w) where
    abbrev else-body : Answer (Read Stmts)
    else-body = read_list l 0 (take (at + 1 + w.raw - (at + 1 + w.used)) (drop (at + 1 + w.used) s))

    else-open : {X : Type 0} → ((es : Stmts) (j : ℕ) → else-body ≡ reads es j → read_else (read_list l) 0 (drop at s) ≡ reads es (suc w.raw) → X) → X
    else-open g =
        let e₀ : read_package 1 (drop (at + 1) s) ≡ gives w = package-any 0 1 (drop (at + 1) s) w (sym held.is) in
        let q : w.raw - w.used ≡ at + 1 + w.raw - (at + 1 + w.used) = omega arith in
        let e₁ : read_else (read_list l) 0 (drop at s) ≡ then_read (read_list l (1 + w.used) (take (at + 1 + w.raw - (at + 1 + w.used)) (drop (at + 1 + w.used) s))) (λ xs _. reads xs (suc w.raw)) =
        else-eq ∙ rw (e₀, q, drop-drop w.used (at + 1) s) in
        acc-ok (read_else (read_list l) 0 (drop at s)) acc λ es k e.
        then_by (read_list l (1 + w.used) (take (at + 1 + w.raw - (at + 1 + w.used)) (drop (at + 1 + w.used) s))) _ (sym e₁ ∙ e) λ ys j e₂ e₃.
        g ys j (list_any l (1 + w.used) 0 (take (at + 1 + w.raw - (at + 1 + w.used)) (drop (at + 1 + w.used) s)) ys j e₂) (e₁ ∙ rw e₂)

    pub else-acc : Accepts else-body
    else-acc = else-open λ es j e₁ e₂. is-acc e₁

    pub else-next : gives (at + 1 + w.raw) ≡ up_to at (read_else (read_list l) 0 (drop at s))
    else-next = else-open λ es j e₁ e₂. rw e₂ (ap gives (omega arith))

    pub else-ran : (v : ℕ) (f : Frame) (u : ℕ) (r : Ran Frame Ended) (z : Ran Frame Way) → z ≡ step_at (at + 1 + w.raw) r → r ≡ ran_of v else-body f u →
        z ≡ else_do v at (read_else (read_list l) 0 (drop at s)) f u
    else-ran v f u r z ez h =
        else-open λ es j e₁ e₂.
        let q : at + 1 + w.raw ≡ at + suc w.raw = omega arith in
        rw (e₂, ← q) (ez ∙ ap (step_at (at + 1 + w.raw)) (h ∙ ap (λ (R : Answer (Read Stmts)). ran_of v R f u) e₁))

-- what was read has the package of its else
pub else-held : (l at : ℕ) (s : List ℕ) → Accepts (read_else (read_list l) 0 (drop at s)) → ElseHeld s at
else-held l at s acc lt eq = else-package l at s lt eq acc

pub ends-none : (at : ℕ) (s : List ℕ) → (at < length s → get_or s at 0 ≡ 0xA1 → ⊥) → at ≤ length s → ElseEnds s at at
unfolding read_else
ends-none at s h le l acc =
    elim (cases_lt at (length s)) [
      | inl lt ↦ else-other l 0 at s lt (h lt)
      | inr ge ↦ else-end l 0 at s ge
    ]

pub ends-some : (at : ℕ) (s : List ℕ) {w : Raw} → at < length s → get_or s at 0 ≡ 0xA1 → Spans s (at + 1) w → ElseEnds s at (at + 1 + w.raw)
ends-some at s lt eq held l acc = else-next l at s lt eq acc held

-- ## A predicate and its body

module _ (l at : ℕ) (s : List ℕ) (acc : Accepts (read_head (read_list l) 0 (drop at s))) where
  pub head-package : Accepts (read_package 0 (drop at s))
  unfolding read_head
  head-package =
      acc-ok (read_head (read_list l) 0 (drop at s)) acc λ h k e.
      and-by (read_package 0 (drop at s)) _ e λ w e₁ e₂.
      is-acc e₁

  module _ {w : Raw} (held : Spans s at w) where
    abbrev test-term : Answer (Read Term)
    test-term = read_term depth_limit 0 (drop (at + w.used) s)

    pub head-open : {X : Type 0} → ((t : Term) (k : ℕ) (xs : Stmts) (j : ℕ) → test-term ≡ reads t k →
        at + w.used + k ≤ at + w.raw → read_list l 0 (take (at + w.raw - (at + w.used + k)) (drop (at + w.used + k) s)) ≡ reads xs j →
        read_head (read_list l) 0 (drop at s) ≡ reads (head t xs) w.raw → X) → X
    unfolding read_head
    head-open g =
        acc-ok (read_head (read_list l) 0 (drop at s)) acc λ h m eh.
        let e₀ : then_read (read_term depth_limit (0 + w.used) (drop w.used (drop at s))) (λ t k.
        cond (leb (w.used + k) w.raw)
        (then_read (read_list l (0 + (w.used + k)) (take (w.raw - (w.used + k)) (drop (w.used + k) (drop at s)))) (λ xs _. reads (head t xs) w.raw))
        (refuses 31 (0 + w.raw))) ≡ reads h m = rw (← held.is) at eh in
        then_by (read_term depth_limit (0 + w.used) (drop w.used (drop at s))) _ e₀ λ t k e₁ f₁.
        let (le, f₂) = pick-ok (leb (w.used + k) w.raw) _ 31 (0 + w.raw) f₁ in
        let lt : w.used + k ≤ w.raw = leb-true _ _ le in
        then_by (read_list l (0 + (w.used + k)) (take (w.raw - (w.used + k)) (drop (w.used + k) (drop at s)))) _ f₂ λ xs j e₃ f₃.
        let q₂ : w.raw - (w.used + k) ≡ at + w.raw - (at + w.used + k) = omega arith in
        let q₃ : at + (w.used + k) ≡ at + w.used + k = omega arith in
        let e₄ : read_list l 0 (take (w.raw - (w.used + k)) (drop (w.used + k) (drop at s))) ≡ reads xs j =
        list_any l (0 + (w.used + k)) 0 (take (w.raw - (w.used + k)) (drop (w.used + k) (drop at s))) xs j e₃ in
        g t k xs j
        (rw drop-drop at (term-any depth_limit (0 + w.used) 0 (drop w.used (drop at s)) t k e₁))
        (omega arith)
        (rw (q₂, drop-drop (w.used + k) at s, q₃) at e₄)
        (rw (← held.is, e₁, le, e₃))

    pub head-term-acc : Accepts test-term
    head-term-acc = head-open (λ t k xs j e₁ le e₂ e₃. is-acc e₁)

    -- a While
    pub turns-ok : TurnsOk l s (at + w.raw) (at + w.used) test-term
    turns-ok = head-open (λ t k xs j e₁ le e₂ e₃. rw e₁ (le, is-acc e₂))

    pub while-ran : (v : ℕ) (f : Frame) (u : ℕ) (r : Ran Frame Ended) (z : Ran Frame Way) → r ≡ turns_by l s (at + w.raw) (at + w.used) v test-term f u →
        z ≡ step_at (at + w.raw) r → z ≡ while_do v at (read_head (read_list l) 0 (drop at s)) f u
    unfolding do_stmt
    while-ran v f u r z h e =
        head-open λ t k xs j e₁ le e₂ e₃.
        let h₂ : r ≡ turns (eval frames v t) (λ g y. ran_of v (body_from l s (at + w.raw) (at + w.used) (at + w.used + k)) g y) (suc u) f u = rw e₁ at h in
        let h₃ : r ≡ do_stmt frames v (while t xs) f u = h₂ ∙ ap (λ (R : Answer (Read Stmts)). turns (eval frames v t) (λ g y. ran_of v R g y) (suc u) f u) e₂ in
        e ∙ ap (step_at (at + w.raw)) h₃ ∙ sym (ap (λ (R : Answer (Read Head)). while_do v at R f u) e₃)

-- ## An If

module _ (l at : ℕ) (s : List ℕ) (acc : Accepts (read_if (read_list l) 0 (drop at s))) where
  pub if-head : Accepts (read_head (read_list l) 0 (drop at s))
  unfolding read_if
  if-head = acc-then (read_head (read_list l) 0 (drop at s)) _ acc

  module _ {w : Raw} (held : Spans s at w) where
    abbrev if-term : Answer (Read Term)
    if-term = read_term depth_limit 0 (drop (at + w.used) s)

    abbrev if-rest : Answer (Read Stmts)
    if-rest = read_else (read_list l) 0 (drop (at + w.raw) s)

    if-open : {X : Type 0} → ((t : Term) (k : ℕ) (xs : Stmts) (q : ℕ) (ys : Stmts) (j : ℕ) → if-term ≡ reads t k →
        at + w.used + k ≤ at + w.raw → read_list l 0 (take (at + w.raw - (at + w.used + k)) (drop (at + w.used + k) s)) ≡ reads xs q →
        if-rest ≡ reads ys j → read_if (read_list l) 0 (drop at s) ≡ reads (if_else t xs ys) (w.raw + j) → X) → X
    unfolding read_if
    if-open g =
        head-open l at s if-head held λ t k xs q e₁ le e₂ e₃.
        let e₄ : read_if (read_list l) 0 (drop at s) ≡ then_read (read_else (read_list l) (0 + w.raw) (drop (at + w.raw) s)) (λ ys j. reads (if_else t xs ys) (w.raw + j)) =
        rw (e₃, drop-drop w.raw at s) in
        acc-ok (read_if (read_list l) 0 (drop at s)) acc λ x m ex.
        then_by (read_else (read_list l) (0 + w.raw) (drop (at + w.raw) s)) _ (sym e₄ ∙ ex) λ ys j e₅ e₆.
        g t k xs q ys j e₁ le e₂ (else-any l (0 + w.raw) 0 (drop (at + w.raw) s) ys j e₅) (e₄ ∙ rw e₅)

    pub if-else-acc : Accepts if-rest
    if-else-acc = if-open (λ t k xs q ys j e₁ le e₂ e₃ e₄. is-acc e₃)

    module _ (f g : Frame) (u : ℕ) where
      pub if-err : (i j : ℕ) → ran g 0 (refuses i j) ≡ evaled_by (eval frames (bits f.width)) (at + w.used) if-term f →
          ran g u (refuses i j) ≡ step_do (bits f.width) at (read_if (read_list l) 0 (drop at s)) f u
      unfolding do_stmt
      if-err i j ev =
          if-open λ t k xs q ys m e₁ le e₂ e₃ e₄.
          rw (e₄, with-units frames (bits f.width) t f g _ (ev-err (eval frames (bits f.width)) (at + w.used) if-term f g t k e₁ i j ev) u)

      module _ (x m : ℕ) (ev : ran g 0 (gives (took x m)) ≡ evaled_by (eval frames (bits f.width)) (at + w.used) if-term f) where
        pub if-body : (m ≤ at + w.raw) × Accepts (read_list l 0 (take (at + w.raw - m) (drop m s)))
        if-body =
            if-open λ t k xs q ys j e₁ le e₂ e₃ e₄.
            let z = ev-num (eval frames (bits f.width)) (at + w.used) if-term f g t k e₁ x m ev in
            rw z.0 (le, is-acc e₂)

        pub if-zero : x ≡ 0 → (z : Ran Frame Way) → z ≡ else_do (bits g.width) (at + w.raw) if-rest g u → z ≡ step_do (bits f.width) at (read_if (read_list l) 0 (drop at s)) f u
        unfolding do_stmt
        if-zero e0 z ez =
            if-open λ t k xs q ys j e₁ le e₂ e₃ e₄.
            let y = ev-num (eval frames (bits f.width)) (at + w.used) if-term f g t k e₁ x m ev in
            let o : g.width ≡ f.width = same-width (eval frames (bits f.width) t f 0) f g 0 _ (term-width (bits f.width) t f 0) y.1 in
            let r : at + w.raw + j ≡ at + (w.raw + j) = omega arith in
            let ez₂ : z ≡ step_at (at + w.raw + j) (do_stmts frames (bits f.width) ys g u) =
            ez ∙ ap (λ (b : Width). else_do (bits b) (at + w.raw) if-rest g u) o ∙ ap (λ (R : Answer (Read Stmts)). else_do (bits f.width) (at + w.raw) R g u) e₃ in
            rw (e₄, with-units frames (bits f.width) t f g _ y.1 u, eq-eqb x 0 e0, ← r) ez₂

        if-true : (x ≡ 0 → ⊥) → (r : Ran Frame Ended) (z : Ran Frame Way) → ((next : ℕ) → gives next ≡ up_to (at + w.raw) if-rest → z ≡ step_at next r) →
            r ≡ ran_of (bits g.width) (read_list l 0 (take (at + w.raw - m) (drop m s))) g u → z ≡ step_do (bits f.width) at (read_if (read_list l) 0 (drop at s)) f u
        unfolding do_stmt
        if-true ne r z ez er =
            if-open λ t k xs q ys j e₁ le e₂ e₃ e₄.
            let y = ev-num (eval frames (bits f.width)) (at + w.used) if-term f g t k e₁ x m ev in
            let o : g.width ≡ f.width = same-width (eval frames (bits f.width) t f 0) f g 0 _ (term-width (bits f.width) t f 0) y.1 in
            let er₂ : r ≡ do_stmts frames (bits f.width) xs g u =
            er ∙ ap (λ (b : Width). ran_of (bits b) (read_list l 0 (take (at + w.raw - m) (drop m s))) g u) o
            ∙ ap (λ (i : ℕ). ran_of (bits f.width) (read_list l 0 (take (at + w.raw - i) (drop i s))) g u) y.0 ∙ ap (λ (R : Answer (Read Stmts)). ran_of (bits f.width) R g u) e₂ in
            let en : gives (at + (w.raw + j)) ≡ up_to (at + w.raw) if-rest = rw e₃ (ap gives (omega arith)) in
            rw (e₄, with-units frames (bits f.width) t f g _ y.1 u, ne_eqb x 0 ne) (ez (at + (w.raw + j)) en ∙ ap (step_at (at + (w.raw + j))) er₂)

        -- the list that was chosen finished, or was left early
        pub if-done : (x ≡ 0 → ⊥) → (h : Frame) (v next : ℕ) → gives next ≡ up_to (at + w.raw) if-rest →
            ran h v (gives finished) ≡ ran_of (bits g.width) (read_list l 0 (take (at + w.raw - m) (drop m s))) g u →
            ran h v (gives (on next)) ≡ step_do (bits f.width) at (read_if (read_list l) 0 (drop at s)) f u
        if-done ne h v next en er =
            if-true ne _ _ (λ n e. let q : gives n ≡ gives next = e ∙ sym en in let r : next ≡ n = cc in ap (λ (i : ℕ). ran h v (gives (on i))) r) er

        pub if-out : (x ≡ 0 → ⊥) → (h : Frame) (v : ℕ) (p : Propagate) → ran h v (list_said (Err p)) ≡ ran_of (bits g.width) (read_list l 0 (take (at + w.raw - m) (drop m s))) g u →
            ran h v (way_said (Err p)) ≡ step_do (bits f.width) at (read_if (read_list l) 0 (drop at s)) f u
        if-out ne h v p er = if-true ne _ _ (λ n e. out-way n p h v) er

-- ## Turns

-- a body that neither Break nor Continue ended ends the While as it ended
pub body-out : (p : Propagate) (f : Frame) (u : ℕ) → (p ≡ Continue → ⊥) → (p ≡ Break → ⊥) → ran f u (go_said (Err p)) ≡ turn_part_at (ran f u (list_said (Err p)))
body-out (Refused e) f u c b = refl
body-out (Return n) f u c b = refl
body-out Break f u c b = absurd (b refl)
body-out Continue f u c b = absurd (c refl)

turn-out : (p : Propagate) (f : Frame) (u : ℕ) (k : Frame → ℕ → Ran Frame Ended) → ran f u (list_said (Err p)) ≡ then_do (ran f u (go_said (Err p))) (λ g t v. after_turn g k t v)
turn-out (Refused e) f u k = refl
turn-out (Return n) f u k = refl
turn-out Break f u k = refl
turn-out Continue f u k = refl

module _ (l e at : ℕ) (s : List ℕ) (tok : TurnsOk l s e at (read_term depth_limit 0 (drop at s))) where
  abbrev predicate : Answer (Read Term)
  predicate = read_term depth_limit 0 (drop at s)

  turn-open : {X : Type 0} → ((t : Term) (k : ℕ) → predicate ≡ reads t k → at + k ≤ e → Accepts (body_from l s e at (at + k)) → X) → X
  turn-open {X} g = go predicate refl tok
    where
      go : (R : Answer (Read Term)) → predicate ≡ R → TurnsOk l s e at R → X
      go (gives (took t k)) q h = g t k q h.0 h.1
      go (refuses n p) q h = absurd h

  pub turn-term-acc : Accepts predicate
  turn-term-acc = turn-open (λ t k e₁ le a. is-acc e₁)

  pub turn-none : (b : ℕ) (f : Frame) (u : ℕ) → u ≡ 0 → ran f 0 (refuses 22 0) ≡ turn_of l s e at b predicate f u
  turn-none b f u h = turn-open λ t k e₁ le a. rw (e₁, h)

  module _ (f g : Frame) (u w : ℕ) (eu : u ≡ suc w) where
    pub turn-err : (i j : ℕ) → ran g 0 (refuses i j) ≡ evaled_by (eval frames (bits f.width)) at predicate f → ran g w (refuses i j) ≡ turn_of l s e at (bits f.width) predicate f u
    turn-err i j ev =
        turn-open λ t k e₁ le a.
        rw (e₁, eu, with-units frames (bits f.width) t f g _ (ev-err (eval frames (bits f.width)) at predicate f g t k e₁ i j ev) w)

    module _ (x m : ℕ) (ev : ran g 0 (gives (took x m)) ≡ evaled_by (eval frames (bits f.width)) at predicate f) where
      pub turn_body : (m ≤ e) × Accepts (read_list l 0 (take (e - m) (drop m s)))
      turn_body =
          turn-open λ t k e₁ le a.
          let y = ev-num (eval frames (bits f.width)) at predicate f g t k e₁ x m ev in
          rw y.0 (le, a)

      pub turn-false : x ≡ 0 → ran g w (gives (over finished)) ≡ turn_of l s e at (bits f.width) predicate f u
      turn-false e0 =
          turn-open λ t k e₁ le a.
          let y = ev-num (eval frames (bits f.width)) at predicate f g t k e₁ x m ev in
          rw (e₁, eu, with-units frames (bits f.width) t f g _ y.1 w, eq-eqb x 0 e0)

      pub turn-true : (x ≡ 0 → ⊥) → (r : Ran Frame Ended) → r ≡ ran_of (bits g.width) (read_list l 0 (take (e - m) (drop m s))) g w →
          turn_part_at r ≡ turn_of l s e at (bits f.width) predicate f u
      turn-true ne r er =
          turn-open λ t k e₁ le a.
          let y = ev-num (eval frames (bits f.width)) at predicate f g t k e₁ x m ev in
          let o : g.width ≡ f.width = same-width (eval frames (bits f.width) t f 0) f g 0 _ (term-width (bits f.width) t f 0) y.1 in
          let er₂ : r ≡ ran_of (bits f.width) (body_from l s e at (at + k)) g w =
          er ∙ ap (λ (b : Width). ran_of (bits b) (read_list l 0 (take (e - m) (drop m s))) g w) o
          ∙ ap (λ (i : ℕ). ran_of (bits f.width) (read_list l 0 (take (e - i) (drop i s))) g w) y.0 in
          rw (e₁, eu, with-units frames (bits f.width) t f g _ y.1 w, ne_eqb x 0 ne) (ap turn_part_at er₂)

  -- the turns from here on
  abbrev by : ℕ → Frame → ℕ → Ran Frame Ended
  by b f u = turns_by l s e at b predicate f u

  module _ (f g : Frame) (u v : ℕ) (r : Ran Frame Go) (er : r ≡ turn_of l s e at (bits f.width) predicate f u) where
    module _ (t : Term) (j : ℕ) (e₁ : predicate ≡ reads t j) where
      abbrev body : Frame → ℕ → Ran Frame Ended
      body h y = ran_of (bits f.width) (body_from l s e at (at + j)) h y

      is-turn : r ≡ one_turn (eval frames (bits f.width) t) body f u
      is-turn = rw e₁ at er

      by_turn : by (bits f.width) f u ≡ then_do r (λ d h y. after_turn d (λ i z. turns (eval frames (bits f.width) t) body (suc z) i z) h y)
      by_turn =
          rw e₁ (turns_next (eval frames (bits f.width) t) body (term-left frames (bits f.width) t) (λ h y. ran-left (bits f.width) (body_from l s e at (at + j)) h y) (suc u) f u (omega arith)
          ∙ rw (← is-turn))

    pub turns-again : r ≡ ran g v (gives again) → (v < u) × (by (bits f.width) f u ≡ by (bits g.width) g v)
    turns-again q =
        turn-open λ t j e₁ le a.
        let is : one_turn (eval frames (bits f.width) t) (body t j e₁) f u ≡ ran g v (gives again) = sym (is-turn t j e₁) ∙ q in
        let o : g.width ≡ f.width =
        same-width (one_turn (eval frames (bits f.width) t) (body t j e₁) f u) f g v _
        (turn-width (eval frames (bits f.width) t) (body t j e₁) (term-width (bits f.width) t) (λ h y. ran-width (bits f.width) (body_from l s e at (at + j)) h y) f u) is in
        let after : by (bits f.width) f u ≡ by (bits f.width) g v = by_turn t j e₁ ∙ rw (q, e₁) in (
          turn-less (eval frames (bits f.width) t) (body t j e₁) (term-left frames (bits f.width) t) (λ h y. ran-left (bits f.width) (body_from l s e at (at + j)) h y) f g u v again is,
          after ∙ ap (λ (w : Width). by (bits w) g v) (sym o),
        )

    pub turns-over : r ≡ ran g v (gives (over finished)) → ran g v (gives finished) ≡ by (bits f.width) f u
    turns-over q = turn-open λ t j e₁ le a. sym (by_turn t j e₁ ∙ rw q)

    pub turns-out : (p : Propagate) → r ≡ ran g v (go_said (Err p)) → ran g v (list_said (Err p)) ≡ by (bits f.width) f u
    turns-out p q =
        turn-open λ t j e₁ le a.
        let next : Frame → ℕ → Ran Frame Ended = λ (i : Frame) (z : ℕ). turns (eval frames (bits f.width) t) (body t j e₁) (suc z) i z in
        turn-out p g v next ∙ ap (λ (x : Ran Frame Go). then_do x (λ d h y. after_turn d next h y)) (sym q) ∙ sym (by_turn t j e₁)

-- ## A statement by its opcode

module _ (l at : ℕ) (s : List ℕ) (lt : at < length s) (acc : Accepts (read_stmt l 0 (drop at s))) where
  -- what was read has a depth
  pub stmt-ready : StmtReady s at l
  unfolding read_stmt
  stmt-ready = go l acc
    where
      go : (l : ℕ) → Accepts (read_stmt l 0 (drop at s)) → StmtReady s at l
      go zero h = absurd h
      go (suc l) h = record { inside = lt; deep = omega arith; reads = h }

-- the bytes that start a statement of their own
module _ {b : ℕ} where
  pub is-break : b ≡ 165 → stmt_op_at b ≡ Simple Plain.Break
  unfolding stmt_op_at look
  is-break e = rw e

  pub is-continue : b ≡ 159 → stmt_op_at b ≡ Simple Plain.Continue
  unfolding stmt_op_at look
  is-continue e = rw e

  pub is-breakpoint : b ≡ 204 → stmt_op_at b ≡ Simple BreakPoint
  unfolding stmt_op_at look
  is-breakpoint e = rw e

  pub is-noop : b ≡ 163 → stmt_op_at b ≡ Simple Noop
  unfolding stmt_op_at look
  is-noop e = rw e

  pub is-return : b ≡ 164 → stmt_op_at b ≡ StmtOp.Return
  unfolding stmt_op_at look
  is-return e = rw e

  pub is-if : b ≡ 160 → stmt_op_at b ≡ If
  unfolding stmt_op_at look
  is-if e = rw e

  pub is-while : b ≡ 162 → stmt_op_at b ≡ While
  unfolding stmt_op_at look
  is-while e = rw e

-- what is no statement of its own is an expression
as-expr : (o : TermOp) → (stmt_op_of o ≡ BadStmt → ⊥) → stmt_op_of o ≡ Expr
as-expr (Constant n) h = absurd (h refl)
as-expr (Bytes n) h = absurd (h refl)
as-expr (Cell c) h = absurd (h refl)
as-expr (Step o) h = refl
as-expr (One o d) h = refl
as-expr (Two o d) h = refl
as-expr BadTerm h = absurd (h refl)

-- a statement of one term: its value, and then the end
module _ (f g : Frame) (u at : ℕ) (R : Answer (Read Term)) (t : Term) (k : ℕ) (e : R ≡ reads t k) where
  one-err : (i j n : ℕ) (next : ℕ → Frame → ℕ → Ran Frame Ended) → ran g 0 (refuses i j) ≡ evaled_by (eval frames (bits f.width)) at R f →
      ran g u (refuses i j) ≡ step_at n (then_do (eval frames (bits f.width) t f u) next)
  one-err i j n next ev = rw (with-units frames (bits f.width) t f g _ (ev-err (eval frames (bits f.width)) at R f g t k e i j ev) u)

  one-num : (n x m : ℕ) (next : ℕ → Frame → ℕ → Ran Frame Ended) → ran g 0 (gives (took x m)) ≡ evaled_by (eval frames (bits f.width)) at R f →
      step_at n (next x g u) ≡ step_at n (then_do (eval frames (bits f.width) t f u) next)
  one-num n x m next ev = rw (with-units frames (bits f.width) t f g _ (ev-num (eval frames (bits f.width)) at R f g t k e x m ev).1 u)

  num-next : (x m : ℕ) → ran g 0 (gives (took x m)) ≡ evaled_by (eval frames (bits f.width)) at R f → m ≡ at + k
  num-next x m ev = (ev-num (eval frames (bits f.width)) at R f g t k e x m ev).0

of-do : (b at : ℕ) (R : Answer (Read Stmt)) (f : Frame) (u w : ℕ) (x : Ran Frame Way) → Accepts R → u ≡ suc w → x ≡ step_do b at R f w → x ≡ step_of b at R f u
of-do b at (gives (took y k)) f u w x acc e h = rw e h
of-do b at (refuses n p) f u w x acc e h = absurd acc

module _ {s : List ℕ} {at l : ℕ} (p : StmtReady s at l) where
  pub no-unit : (b : ℕ) (f : Frame) (u : ℕ) → u ≡ 0 → ran f 0 (refuses 22 0) ≡ step_of b at (read_stmt l 0 (drop at s)) f u
  no-unit b f u e = acc-ok (read_stmt l 0 (drop at s)) p.reads λ x k e₁. rw (e₁, e)

  -- what was read is what the arm of its opcode reads, and runs once it has its unit
  module _ {o : StmtOp} (q : stmt_op_at (get_or s at 0) ≡ o) where
    abbrev stmt-arm : Answer (Read Stmt)
    stmt-arm = stmt_by (read_list (l - 1)) (get_or s at 0) 0 (drop (at + 1) s) o

    same-stmt : read_stmt l 0 (drop at s) ≡ stmt-arm
    same-stmt = stmt-is-by l 0 at s (stmt_op_at (get_or s at 0)) o p.deep p.inside refl q

    arm-acc : Accepts stmt-arm
    arm-acc = acc-same same-stmt p.reads

    run-arm : (b : ℕ) (f : Frame) {u w : ℕ} → u ≡ suc w → (x : Ran Frame Way) → x ≡ step_do b at stmt-arm f w → x ≡ step_of b at (read_stmt l 0 (drop at s)) f u
    run-arm b f {u} {w} z x h = of-do b at stmt-arm f u w x arm-acc z h ∙ sym (ap (λ (R : Answer (Read Stmt)). step_of b at R f u) same-stmt)

  pub is-expr : (get_or s at 0 ≡ 165 → ⊥) → (get_or s at 0 ≡ 159 → ⊥) → (get_or s at 0 ≡ 204 → ⊥) → (get_or s at 0 ≡ 163 → ⊥) → (get_or s at 0 ≡ 164 → ⊥) → (get_or s at 0 ≡ 160 → ⊥) →
      (get_or s at 0 ≡ 162 → ⊥) → stmt_op_at (get_or s at 0) ≡ Expr
  unfolding stmt_op_at look term_op_at
  is-expr h₁ h₂ h₃ h₄ h₅ h₆ h₇ =
      let b = get_or s at 0 in
      let e : stmt_op_at b ≡ stmt_op_of (term_op_at b) = simp (ne_eqb b 165 h₁, ne_eqb b 159 h₂, ne_eqb b 204 h₃, ne_eqb b 163 h₄, ne_eqb b 164 h₅, ne_eqb b 160 h₆, ne_eqb b 162 h₇) in
      e ∙ as-expr (term_op_at b) (λ bad. arm-acc (e ∙ bad))

  -- ## Each arm: what it needs of the part, and what it answers

  pub plain-arm : (f : Frame) {u w : ℕ} → u ≡ suc w → {o : Plain} → stmt_op_at (get_or s at 0) ≡ Simple o →
      ran f w (gives (way_of (at + 1) (end_of_plain o))) ≡ step_of (bits f.width) at (read_stmt l 0 (drop at s)) f u
  unfolding do_stmt
  plain-arm f z q = run-arm q (bits f.width) f z _ refl

  module _ (q : stmt_op_at (get_or s at 0) ≡ StmtOp.Return) where
    return-acc : Accepts (read_term depth_limit 0 (drop (at + 1) s))
    return-acc =
        acc-ok (read_term depth_limit 1 (drop (at + 1) s)) (acc-then (read_term depth_limit 1 (drop (at + 1) s)) _ (arm-acc q)) λ t k e.
        is-acc (term-any depth_limit 1 0 (drop (at + 1) s) t k e)

    pub return-room : TermReady s (at + 1) depth_limit
    return-room = term-ready depth_limit (at + 1) s return-acc

    module _ (f g : Frame) {u w : ℕ} (z : u ≡ suc w) where
      pub return-err : (i j : ℕ) → ran g 0 (refuses i j) ≡ evaled_by (eval frames (bits f.width)) (at + 1) (read_term depth_limit 0 (drop (at + 1) s)) f →
          ran g w (refuses i j) ≡ step_of (bits f.width) at (read_stmt l 0 (drop at s)) f u
      unfolding do_stmt
      return-err i j ev =
          acc-ok (read_term depth_limit 0 (drop (at + 1) s)) return-acc λ t k e.
          run-arm q (bits f.width) f z _
          (rw (term-any depth_limit 0 1 (drop (at + 1) s) t k e) (one-err f g w (at + 1) (read_term depth_limit 0 (drop (at + 1) s)) t k e i j (at + suc k) _ ev))

      pub return-arm : (x m : ℕ) → ran g 0 (gives (took x m)) ≡ evaled_by (eval frames (bits f.width)) (at + 1) (read_term depth_limit 0 (drop (at + 1) s)) f →
          ran g w (gives (stop (returned x))) ≡ step_of (bits f.width) at (read_stmt l 0 (drop at s)) f u
      unfolding do_stmt
      return-arm x m ev =
          acc-ok (read_term depth_limit 0 (drop (at + 1) s)) return-acc λ t k e.
          run-arm q (bits f.width) f z _
          (rw (term-any depth_limit 0 1 (drop (at + 1) s) t k e)
          (one-num f g w (at + 1) (read_term depth_limit 0 (drop (at + 1) s)) t k e (at + suc k) x m (λ (n : ℕ) (h : Frame) (v : ℕ). ran h v (gives (returned n))) ev))

  module _ (q : stmt_op_at (get_or s at 0) ≡ If) where
    if-acc : Accepts (read_if (read_list (l - 1)) 0 (drop (at + 1) s))
    if-acc =
        acc-ok (read_if (read_list (l - 1)) 1 (drop (at + 1) s)) (acc-then (read_if (read_list (l - 1)) 1 (drop (at + 1) s)) _ (arm-acc q)) λ y k e.
        is-acc (if-any (l - 1) 1 0 (drop (at + 1) s) y k e)

    pub if-room : (at + 1 ≤ length s) × Accepts (read_if (read_list (l - 1)) 0 (drop (at + 1) s))
    if-room = (omega (arith, p.inside), if-acc)

    pub if-arm : (b : ℕ) (f : Frame) {u w : ℕ} → u ≡ suc w → (x : Ran Frame Way) → x ≡ step_do b (at + 1) (read_if (read_list (l - 1)) 0 (drop (at + 1) s)) f w →
        x ≡ step_of b at (read_stmt l 0 (drop at s)) f u
    if-arm b f z x h =
        acc-ok (read_if (read_list (l - 1)) 0 (drop (at + 1) s)) if-acc λ y k e.
        let r : at + 1 + k ≡ at + suc k = omega arith in
        run-arm q b f z x (rw (if-any (l - 1) 0 1 (drop (at + 1) s) y k e) (h ∙ rw (e, r)))

  module _ (q : stmt_op_at (get_or s at 0) ≡ While) where
    while-acc : Accepts (read_head (read_list (l - 1)) 0 (drop (at + 1) s))
    while-acc =
        acc-ok (read_head (read_list (l - 1)) 1 (drop (at + 1) s)) (acc-then (read_head (read_list (l - 1)) 1 (drop (at + 1) s)) _ (arm-acc q)) λ y k e.
        is-acc (head-any (l - 1) 1 0 (drop (at + 1) s) y k e)

    pub while-room : (at + 1 ≤ length s) × Accepts (read_head (read_list (l - 1)) 0 (drop (at + 1) s))
    while-room = (omega (arith, p.inside), while-acc)

    pub while-arm : (b : ℕ) (f : Frame) {u w : ℕ} → u ≡ suc w → (x : Ran Frame Way) → x ≡ while_do b (at + 1) (read_head (read_list (l - 1)) 0 (drop (at + 1) s)) f w →
        x ≡ step_of b at (read_stmt l 0 (drop at s)) f u
    while-arm b f z x h =
        acc-ok (read_head (read_list (l - 1)) 0 (drop (at + 1) s)) while-acc λ y k e.
        let r : at + 1 + k ≡ at + suc k = omega arith in
        run-arm q b f z x (rw (head-any (l - 1) 0 1 (drop (at + 1) s) y k e) (h ∙ rw (e, r)))

  -- an expression starts with its own opcode
  module _ (q : stmt_op_at (get_or s at 0) ≡ Expr) where
    expr-acc : Accepts (read_term depth_limit 0 (drop at s))
    expr-acc = rw (here s at p.inside) (acc-then (read_term depth_limit 0 (get_or s at 0 ∷ drop (at + 1) s)) _ (arm-acc q))

    pub expr-room : TermReady s at depth_limit
    expr-room = term-ready depth_limit at s expr-acc

    module _ (f g : Frame) {u w : ℕ} (z : u ≡ suc w) where
      pub expr-err : (i j : ℕ) → ran g 0 (refuses i j) ≡ evaled_by (eval frames (bits f.width)) at (read_term depth_limit 0 (drop at s)) f →
          ran g w (refuses i j) ≡ step_of (bits f.width) at (read_stmt l 0 (drop at s)) f u
      unfolding do_stmt
      expr-err i j ev =
          acc-ok (read_term depth_limit 0 (drop at s)) expr-acc λ t k e.
          run-arm q (bits f.width) f z _ (rw (rw (here s at p.inside) at e) (one-err f g w at (read_term depth_limit 0 (drop at s)) t k e i j (at + k) _ ev))

      pub expr-arm : (x m : ℕ) → ran g 0 (gives (took x m)) ≡ evaled_by (eval frames (bits f.width)) at (read_term depth_limit 0 (drop at s)) f →
          ran g w (gives (on m)) ≡ step_of (bits f.width) at (read_stmt l 0 (drop at s)) f u
      unfolding do_stmt
      expr-arm x m ev =
          acc-ok (read_term depth_limit 0 (drop at s)) expr-acc λ t k e.
          let r = num-next f g w at (read_term depth_limit 0 (drop at s)) t k e x m ev in
          run-arm q (bits f.width) f z _
          (rw (r, rw (here s at p.inside) at e)
          (one-num f g w at (read_term depth_limit 0 (drop at s)) t k e (at + k) x m (λ (n : ℕ) (h : Frame) (v : ℕ). ran h v (gives finished)) ev))
