-- What this layer is for: the run of a block is the meaning of its one reading.
use Rattle.std.proofs.Common.{Result, Ok, Err, ◌≡◌, ℕ, ◌-◌, ◌≤◌, List, length, sym, refl, ap, ◌∙◌, arith}
use Rattle.pkg_length.specs.declared.AmlError.{AmlError}
use Rattle.pkg_length.specs.Refusal.{Answer, gives, refuses, paper, refused, said, block_limit}
use Rattle.pkg_length.proofs.Papers.{case_of, case-is}
use Rattle.statement.specs.declared.End.{End}
use Rattle.statement.specs.declared.Execution.{Execution}
use Rattle.statement.specs.declared.frame.Frame.{Frame}
use Rattle.grammar.specs.Tree.{Stmts}
use Rattle.grammar.specs.Grammar.{depth_limit}
use Rattle.grammar.specs.Reader.{Read, read_list, read_block}
use Rattle.statement.specs.Frames.{bits, begun}
use Rattle.statement.specs.Meaning.{Ended, finished, returned, break_out, continue_out, ran, Outcome, outcome, mean}
use Rattle.grammar.specs.Said.{Accepts}
use Rattle.statement.specs.Lent.{ran_of}
use Rattle.grammar.specs.Promise.{Derives, Checked}
use Rattle.statement.specs.Promise.{end_said, began, run_said, HasRun}
use Rattle.grammar.proofs.Statements.{lists-complete}
use Rattle.grammar.proofs.Theorems.{derives-what-reads, refused-is-underived, underived-is-refused}
use Rattle.statement.proofs.Evals.{is-acc}

-- an accepted block is ready to be run
pub run-ready : (s : List ℕ) → Checked s (Ok tt) → (length s ≤ block_limit) × Accepts (read_list depth_limit 0 s)
run-ready s c = let (t, d) = c.reading refl in (d.short, is-acc (lists-complete depth_limit t s d.derived 0))

-- from the check's refusal
pub run-from-refusal : (s : List ℕ) (f : Frame) (budget : ℕ) (e : AmlError) → Checked s (Err e) → HasRun s f budget f (Err e)
run-from-refusal s f budget e c =
    record {
      stopped = λ n p h. refl;
      started = λ t d. absurd (none t d);
      refusal = λ n p h. again (refused e) (refuses n p) (same n p (c.refusal n p h));
      meaning = λ t d. absurd (none t d);
    }
  where
    none : (t : Stmts) → Derives s t → ⊥
    none t d = let z = c.derived t d in let w : ◌≡◌ {A = ℕ} 0 1 = cc in omega arith

    same : (n p : ℕ) → said {A = Unit {0}} (Err e) ≡ refuses n p → ◌≡◌ {A = Answer Ended} (refused e) (refuses n p)
    same n p h =
        let x : (paper e).0 ≡ n = cc in
        let y : (paper e).1 ≡ p = cc in
        rw (x, y)

    again : (a b : Answer Ended) → a ≡ b → ◌≡◌ {A = Outcome} (record { end = a; units = 0; frame = f }) (record { end = b; units = 0; frame = f })
    again a b h = rw h

-- from what the code ran
pub run-from-meaning : (s : List ℕ) (f : Frame) (budget : ℕ) (g : Frame) (u : ℕ) (a : Answer Ended) (e : Result End AmlError) → Checked s (Ok tt) →
    ran g u a ≡ ran_of (bits f.width) (read_list depth_limit 0 s) (begun f) budget → end_said e ≡ a → HasRun s f budget g (Ok (record { end = e; units = budget - u }))
run-from-meaning s f budget g u a e c ex ee =
    record {
      stopped = λ n p h. absurd (let (t, d) = c.reading refl in refused-is-underived s n p h t d);
      started = λ t d. refl;
      refusal = λ n p h. absurd (let (t, d) = c.reading refl in refused-is-underived s n p h t d);
      meaning = λ t d.
          rw ee (ap (outcome budget) (ex ∙ ap (λ (R : Answer (Read Stmts)). ran_of (bits f.width) R (begun f) budget) (lists-complete depth_limit t s d.derived 0)));
    }

-- a run of a block that nothing derives: the definition's refusal, the frame as it came, no unit
pub run-refuses : (s : List ℕ) (f : Frame) (budget : ℕ) (g : Frame) (r : Result Execution AmlError) → HasRun s f budget g r → ((t : Stmts) → Derives s t → ⊥) →
    (n : ℕ) × (p : ℕ) × (read_block s ≡ refuses n p) × (run_said g r ≡ record { end = refuses n p; units = 0; frame = f })
run-refuses s f budget g r h none = let (n, p, e) = underived-is-refused s none in (n, p, e, h.refusal n p e)

-- a run of any other block is the meaning of its one reading, for every frame and budget
pub run-is-meaning : (s : List ℕ) (f : Frame) (budget : ℕ) (g : Frame) (r : Result Execution AmlError) → HasRun s f budget g r → (t : Stmts) → Derives s t → run_said g r ≡ mean t f budget
run-is-meaning s f budget g r h t d = h.meaning t d

-- a run gives one answer for each block, frame and budget, and leaves one frame
end_of : Answer Ended → Result End AmlError
end_of (gives finished) = Ok End.Finished
end_of (gives (returned n)) = Ok (End.Returned n)
end_of (gives break_out) = Ok End.BreakOut
end_of (gives continue_out) = Ok End.ContinueOut
end_of (refuses n p) = Err (case_of n p)

end_is : (e : Result End AmlError) → end_of (end_said e) ≡ e
unfolding end_of
end_is (Ok End.Finished) = refl
end_is (Ok (End.Returned n)) = refl
end_is (Ok End.BreakOut) = refl
end_is (Ok End.ContinueOut) = refl
end_is (Err e) = ap Err (case-is e)

same-end : (d e : Result End AmlError) → end_said d ≡ end_said e → d ≡ e
same-end d e h = sym (end_is d) ∙ ap end_of h ∙ end_is e

same-run : (r q : Result Execution AmlError) (g h : Frame) → began r ≡ began q → run_said g r ≡ run_said h q → (r ≡ q) × (g ≡ h)
same-run (Ok r) (Ok q) g h b e =
    let x : r.end ≡ q.end = same-end r.end q.end (ap (λ (o : Outcome). o.end) e) in
    let y : r.units ≡ q.units = ap (λ (o : Outcome). o.units) e in
    (ap Ok (both r.end q.end x r.units q.units y), ap (λ (o : Outcome). o.frame) e)
  where
    both : (d e : Result End AmlError) → d ≡ e → (u v : ℕ) → u ≡ v → ◌≡◌ {A = Execution} (record { end = d; units = u }) (record { end = e; units = v })
    both d e p u v s = rw (p, s)
same-run (Ok r) (Err q) g h b e = absurd (let z : ◌≡◌ {A = ℕ} 0 1 = cc in omega arith)
same-run (Err r) (Ok q) g h b e = absurd (let z : ◌≡◌ {A = ℕ} 0 1 = cc in omega arith)
same-run (Err r) (Err q) g h b e =
    let x : ◌≡◌ {A = Result End AmlError} (Err r) (Err q) = same-end (Err r) (Err q) (ap (λ (o : Outcome). o.end) e) in
    let y : r ≡ q = cc in
    (ap Err y, ap (λ (o : Outcome). o.frame) e)

pub one-run : (s : List ℕ) (f : Frame) (budget : ℕ) (g h : Frame) (r q : Result Execution AmlError) → HasRun s f budget g r → HasRun s f budget h q → (r ≡ q) × (g ≡ h)
one-run s f budget g h r q i j = go (read_block s) refl
  where
    go : (R : Answer Stmts) → read_block s ≡ R → (r ≡ q) × (g ≡ h)
    go (gives t) e = let d = derives-what-reads s t e in same-run r q g h (i.started t d ∙ sym (j.started t d)) (i.meaning t d ∙ sym (j.meaning t d))
    go (refuses n p) e = same-run r q g h (i.stopped n p e ∙ sym (j.stopped n p e)) (i.refusal n p e ∙ sym (j.refusal n p e))
