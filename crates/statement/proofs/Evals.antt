-- What evaluating a term at a place answers, in the code's words: one law for each of its returns.
use mathlib.Core.Bool.{false≢true}
use Rattle.std.specs.Prelude.{Result, Ok, Err, IsOk, IsErr, IsErrAnd}
use Rattle.std.proofs.Common.{◌≡◌, ℕ, zero, suc, ◌+◌, ◌-◌, ◌%◌, ◌^◌, ◌<◌, ◌≤◌, true, leb, List, [], ◌∷◌, length, get_or, take, drop, sym, refl, ap, ◌∙◌, subst, arith, length-drop, drop-drop, ne_eqb, le-leb, leb-true}
use Rattle.pkg_length.specs.Refusal.{Answer, gives, refuses, said, block_limit}
use Rattle.pkg_length.specs.Pkg.{pkg_length_answer}
use Rattle.pkg_length.specs.declared.AmlError.{AmlError}
use Rattle.pkg_length.specs.declared.Pkg.{Pkg}
use Rattle.pkg_length.specs.Little.{little}
use Rattle.statement.specs.declared.frame.Frame.{Frame}
use Rattle.statement.specs.declared.frame.Width.{Width}
use Rattle.statement.specs.declared.frame.Width.TheVariants.{Bits64}
use Rattle.grammar.specs.declared.opcode.StepOp.{StepOp}
use Rattle.grammar.specs.declared.opcode.OneOp.{OneOp}
use Rattle.grammar.specs.declared.opcode.TwoOp.{TwoOp}
use Rattle.grammar.specs.declared.opcode.Dest.{Dest}
use Rattle.grammar.specs.declared.opcode.Dest.TheVariants.{Nowhere, ToCell, ToTarget}
use Rattle.grammar.specs.declared.opcode.TermOp.{TermOp}
use Rattle.grammar.specs.declared.opcode.TermOp.TheVariants.{Constant, Bytes, Cell, Step, One, Two}
use Rattle.grammar.specs.Opcode.{is_cell_byte, term_op_at}
use Rattle.grammar.specs.Tree.{cell, Target, to, Term, step}
use Rattle.grammar.specs.Reader.{Read, took, reads, then_read, read_bytes, read_place, read_dest, Operand, operand, Operands, before, read_one, read_two, term_by, read_term, read_package}
use Rattle.statement.specs.Frames.{bits, held, wrote}
use Rattle.statement.specs.Meaning.{stepped, unary, binary, frames, Ran, ran, then_do, put, eval}
use Rattle.grammar.specs.Said.{Accepts}
use Rattle.statement.specs.Lent.{Spans, TermReady, ev_at, evaled_by, ev_one, ev_two, ev_second, ev_put}
use Rattle.statement.proofs.Widths.{term-width, same-width}
use Rattle.grammar.proofs.Answers.{Takes, then_by, pick-ok}
use Rattle.grammar.proofs.Tables.{is-cell, op_bytes}
use Rattle.grammar.proofs.Terms.{term-sound, cell-sound}
use Rattle.grammar.proofs.Packages.{tail, package-no, package-held}
use Rattle.grammar.proofs.Reaches.{here, term-is-by, package-in}
use Rattle.grammar.proofs.Places.{dest-any, one-any, two-any}

pub acc-ok : {A X : Type 0} (R : Answer (Read A)) → Accepts R → ((a : A) (k : ℕ) → R ≡ reads a k → X) → X
acc-ok (gives (took a k)) h g = g a k refl
acc-ok (refuses n p) h g = absurd h

pub is-acc : {A : Type 0} {R : Answer A} {a : A} → R ≡ gives a → Accepts R
is-acc e = rw e tt

pub acc-then : {A B : Type 0} (R : Answer (Read A)) (f : A → ℕ → Answer B) → Accepts (then_read R f) → Accepts R
acc-then (gives (took a k)) f h = tt
acc-then (refuses n p) f h = h

pub acc-same : {A : Type 0} {R S : Answer A} → R ≡ S → Accepts R → Accepts S
acc-same {A} e h = subst (λ (z : Answer A). Accepts z) e h

-- a package that was read before is not refused now, and lies in its part
module _ (s : List ℕ) (at : ℕ) (short : length s ≤ block_limit) (acc : Accepts (read_package 0 (drop at s))) (r : Result Pkg AmlError)
    (e : said r ≡ pkg_length_answer (take (length s - at) (drop at s))) where
  rest-short : length (drop at s) ≤ block_limit
  rest-short = omega (arith, length-drop at s)

  of-rest : said r ≡ pkg_length_answer (drop at s)
  of-rest = e ∙ ap pkg_length_answer (tail s at)

  pub package-ok : IsOk r
  package-ok = go r of-rest
    where
      go : (r : Result Pkg AmlError) → said r ≡ pkg_length_answer (drop at s) → IsOk r
      go (Ok w) h = refl
      go (Err x) h = absurd (acc-same (sym (package-no (drop at s) rest-short 0 x h).0) acc)

  pub package-spans : (w : Pkg) → r ≡ Ok w → at ≤ length s → Spans s at (record { raw = w.length_read.raw_length; used = w.used })
  package-spans w h le =
      let is = package-held (drop at s) rest-short 0 w (sym (ap said h) ∙ of-rest) acc in
      let k = package-in 0 at s w.length_read.raw_length w.used is le in
      record { is = is; own = k.1; fits = k.2 }

-- ## What an evaluation's answer says

module _ {A : Type 0} (ev : A → Frame → ℕ → Ran Frame ℕ) (at : ℕ) (R : Answer (Read A)) (f g : Frame) (a : A) (k : ℕ) (er : R ≡ reads a k) where
  of-read : (z : Ran Frame (Read ℕ)) → z ≡ evaled_by ev at R f → z ≡ ev_at (at + k) (ev a f 0)
  of-read z e = e ∙ ap (λ (z : Answer (Read A)). evaled_by ev at z f) er

  pub ev-num : (x b : ℕ) → ran g 0 (gives (took x b)) ≡ evaled_by ev at R f → (b ≡ at + k) × (ev a f 0 ≡ ran g 0 (gives x))
  ev-num x b e = go (ev a f 0) refl (of-read _ e)
    where
      go : (w : Ran Frame ℕ) → ev a f 0 ≡ w → ran g 0 (gives (took x b)) ≡ ev_at (at + k) w → (b ≡ at + k) × (ev a f 0 ≡ ran g 0 (gives x))
      go (ran h u (gives n)) q z = (let y : b ≡ at + k = cc in y, let y₁ : g ≡ h = cc in let y₂ : 0 ≡ u = cc in let y₃ : x ≡ n = cc in rw (q, y₁, y₃, ← y₂))
      go (ran h u (refuses n p)) q z = absurd (let z : ◌≡◌ {A = ℕ} 0 1 = cc in omega arith)

  pub ev-err : (i j : ℕ) → ran g 0 (refuses i j) ≡ evaled_by ev at R f → ev a f 0 ≡ ran g 0 (refuses i j)
  ev-err i j e = go (ev a f 0) refl (of-read _ e)
    where
      go : (w : Ran Frame ℕ) → ev a f 0 ≡ w → ran g 0 (refuses i j) ≡ ev_at (at + k) w → ev a f 0 ≡ ran g 0 (refuses i j)
      go (ran h u (gives n)) q z = absurd (let z : ◌≡◌ {A = ℕ} 0 1 = cc in omega arith)
      go (ran h u (refuses n p)) q z = let y₁ : g ≡ h = cc in let y₂ : 0 ≡ u = cc in let y₃ : i ≡ n = cc in let y₄ : j ≡ p = cc in rw (q, y₁, y₃, y₄, ← y₂)

-- ## Cells and destinations

-- a written cell that was read
module _ (p at : ℕ) (s : List ℕ) (acc : Accepts (read_place p (drop at s))) where
  pub cell-inside : at < length s
  cell-inside =
      acc-ok (read_place p (drop at s)) acc λ c k e.
      let t : Takes _ (drop at s) k = cell-sound p (drop at s) c k e in
      omega (arith, t.some, t.fits, length-drop at s)

  pub cell-byte : is_cell_byte (get_or s at 0) ≡ true
  cell-byte =
      acc-ok (read_place p (drop at s)) acc λ c k e.
      let f : read_place p (get_or s at 0 ∷ drop (at + 1) s) ≡ reads c k = rw (here s at cell-inside) at e in
      (pick-ok (is_cell_byte (get_or s at 0)) _ 3 p f).0

  pub cell-number : read_place p (drop at s) ≡ reads (cell (get_or s at 0 - 0x60)) 1
  cell-number = rw (here s at cell-inside, cell-byte)

module _ (at : ℕ) (s : List ℕ) (n : ℕ) (f : Frame) where
  pub store-none : ran f 0 (gives (took n at)) ≡ evaled_by (ev_put n) at (read_dest Nowhere 0 (drop at s)) f
  store-none = let q : at ≡ at + 0 = omega arith in ap (λ (k : ℕ). ran f 0 (gives (took n k))) q

  pub store-cell : (g : Frame) (c : ℕ) → Accepts (read_dest ToCell 0 (drop at s)) → c ≡ get_or s at 0 - 0x60 → g ≡ wrote f c n →
      ran g 0 (gives (took n (at + 1))) ≡ evaled_by (ev_put n) at (read_dest ToCell 0 (drop at s)) f
  store-cell g c acc e h = rw (cell-number 0 at s (acc-then (read_place 0 (drop at s)) _ acc), h, e)

  target_is : Accepts (read_dest ToTarget 0 (drop at s)) → at < length s
  target_is acc = go (drop at s) (length-drop at s) acc
    where
      go : (d : List ℕ) → length d ≡ length s - at → Accepts (read_dest ToTarget 0 d) → at < length s
      go [] e h = absurd h
      go (b ∷ d) e h = omega arith

  pub store-null : Accepts (read_dest ToTarget 0 (drop at s)) → get_or s at 0 ≡ 0 →
      ran f 0 (gives (took n (at + 1))) ≡ evaled_by (ev_put n) at (read_dest ToTarget 0 (drop at s)) f
  store-null acc e = rw (here s at (target_is acc), e)

  module _ (acc : Accepts (read_dest ToTarget 0 (drop at s))) (ne : get_or s at 0 ≡ 0 → ⊥) where
    target-eq : read_dest ToTarget 0 (drop at s) ≡ read_dest ToCell 0 (drop at s)
    target-eq = rw (here s at (target_is acc), ne_eqb (get_or s at 0) 0 ne)

    pub target-acc : Accepts (read_place 0 (drop at s))
    target-acc = acc-then (read_place 0 (drop at s)) _ (acc-same target-eq acc)

    pub store-target : (g : Frame) (c : ℕ) → c ≡ get_or s at 0 - 0x60 → g ≡ wrote f c n →
        ran g 0 (gives (took n (at + 1))) ≡ evaled_by (ev_put n) at (read_dest ToTarget 0 (drop at s)) f
    store-target g c e h = store-cell g c (acc-same target-eq acc) e h ∙ ap (λ (R : Answer (Read Target)). evaled_by (ev_put n) at R f) (sym target-eq)

pub dest-cell-acc : (at : ℕ) (s : List ℕ) → Accepts (read_dest ToCell 0 (drop at s)) → Accepts (read_place 0 (drop at s))
dest-cell-acc at s acc = acc-then (read_place 0 (drop at s)) _ acc

pub target-inside : (at : ℕ) (s : List ℕ) → Accepts (read_dest ToTarget 0 (drop at s)) → at < length s
target-inside at s acc = target_is at s 0 (record { set = []; val = []; width = Bits64 }) acc

-- ## Operands

module _ (l at : ℕ) (s : List ℕ) (d : Dest) where
  abbrev the_term : Answer (Read Term)
  the_term = read_term l 0 (drop at s)

  abbrev the_one : Answer (Read Operand)
  the_one = read_one (read_term l) d 0 (drop at s)

  abbrev the-two : Answer (Read Operands)
  the-two = read_two (read_term l) d 0 (drop at s)

  one-open : {X : Type 0} → Accepts the_one → ((t : Term) (k : ℕ) (x : Target) (j : ℕ) → the_term ≡ reads t k → at + k ≤ length s →
      read_dest d 0 (drop (at + k) s) ≡ reads x j → the_one ≡ reads (operand t x) (k + j) → X) → X
  unfolding read_one
  one-open acc g =
      acc-ok the_one acc λ o n e.
      then_by the_term _ e λ t k e₁ f₁.
      then_by (read_dest d (0 + k) (drop k (drop at s))) _ f₁ λ x j e₂ f₂.
      let h : Takes _ (drop at s) k = term-sound l 0 (drop at s) t k e₁ in
      g t k x j e₁ (omega (arith, h.some, h.fits, length-drop at s))
      (rw drop-drop at (dest-any d (0 + k) 0 (drop k (drop at s)) x j e₂))
      (rw (e₁, e₂))

  two-open : {X : Type 0} → Accepts the-two → ((t : Term) (k : ℕ) (o : Operand) (j : ℕ) → the_term ≡ reads t k → at + k ≤ length s →
      read_one (read_term l) d 0 (drop (at + k) s) ≡ reads o j → the-two ≡ reads (before t o) (k + j) → X) → X
  unfolding read_two
  two-open acc g =
      acc-ok the-two acc λ o n e.
      then_by the_term _ e λ t k e₁ f₁.
      then_by (read_one (read_term l) d (0 + k) (drop k (drop at s))) _ f₁ λ x j e₂ f₂.
      let h : Takes _ (drop at s) k = term-sound l 0 (drop at s) t k e₁ in
      g t k x j e₁ (omega (arith, h.some, h.fits, length-drop at s))
      (rw drop-drop at (one-any l d (0 + k) 0 (drop k (drop at s)) x j e₂))
      (rw (e₁, e₂))

  pub one-term-acc : Accepts the_one → Accepts the_term
  one-term-acc acc = one-open acc λ t k x j e₁ le e₂ e₃. is-acc e₁

  pub two-term-acc : Accepts the-two → Accepts the_term
  two-term-acc acc = two-open acc λ t k o j e₁ le e₂ e₃. is-acc e₁

  module _ (f g : Frame) where
    -- the refusal of an operand
    module _ (i j : ℕ) (ev : ran g 0 (refuses i j) ≡ evaled_by (eval frames (bits f.width)) at the_term f) where
      pub one-err : Accepts the_one → (o : OneOp) → ran g 0 (refuses i j) ≡ evaled_by (ev_one (bits f.width) o) at the_one f
      unfolding eval
      one-err acc o = one-open acc λ t k x m e₁ le e₂ e₃. rw (e₃, ev-err (eval frames (bits f.width)) at the_term f g t k e₁ i j ev)

      pub second-err : Accepts the_one → (o : TwoOp) (n : ℕ) → ran g 0 (refuses i j) ≡ evaled_by (ev_second (bits f.width) o n) at the_one f
      second-err acc o n = one-open acc λ t k x m e₁ le e₂ e₃. rw (e₃, ev-err (eval frames (bits f.width)) at the_term f g t k e₁ i j ev)

      two-lacks : (o : TwoOp) (t : Term) (x : Operand) → eval frames (bits f.width) t f 0 ≡ ran g 0 (refuses i j) → ev_two (bits f.width) o (before t x) f 0 ≡ ran g 0 (refuses i j)
      unfolding eval
      two-lacks o t (operand u x) e = rw e

      pub two-err : Accepts the-two → (o : TwoOp) → ran g 0 (refuses i j) ≡ evaled_by (ev_two (bits f.width) o) at the-two f
      two-err acc o = two-open acc λ t k x m e₁ le e₂ e₃. rw (e₃, two-lacks o t x (ev-err (eval frames (bits f.width)) at the_term f g t k e₁ i j ev))

    -- its number n, behind which reading goes on at m
    module _ (n m : ℕ) (ev : ran g 0 (gives (took n m)) ≡ evaled_by (eval frames (bits f.width)) at the_term f) where
      module _ (acc : Accepts the_one) where
        pub one-dest-acc : (m ≤ length s) × Accepts (read_dest d 0 (drop m s))
        one-dest-acc =
            one-open acc λ t k x j e₁ le e₂ e₃.
            let y = ev-num (eval frames (bits f.width)) at the_term f g t k e₁ n m ev in
            rw y.0 (le, is-acc e₂)

        module _ (i : ℕ) (z : Ran Frame (Read ℕ)) (ez : z ≡ evaled_by (ev_put i) m (read_dest d 0 (drop m s)) g) where
          stored : (k : ℕ) (x : Target) (j : ℕ) → m ≡ at + k → read_dest d 0 (drop (at + k) s) ≡ reads x j → z ≡ ev_at (at + (k + j)) (put frames x i g 0)
          stored k x j q e =
              let r : at + k + j ≡ at + (k + j) = omega arith in
              ez ∙ ap (λ (b : ℕ). evaled_by (ev_put i) b (read_dest d 0 (drop b s)) g) q ∙ rw (e, r)

          pub one-stored : (o : OneOp) → i ≡ unary (bits g.width) o n → z ≡ evaled_by (ev_one (bits f.width) o) at the_one f
          unfolding eval
          one-stored o ei =
              one-open acc λ t k x j e₁ le e₂ e₃.
              let y = ev-num (eval frames (bits f.width)) at the_term f g t k e₁ n m ev in
              let q : i ≡ unary (bits f.width) o n =
              ei ∙ ap (λ (v : Width). unary (bits v) o n) (same-width (eval frames (bits f.width) t f 0) f g 0 _ (term-width (bits f.width) t f 0) y.1) in
              rw (e₃, y.1) (stored k x j y.0 e₂ ∙ rw q)

          pub second-stored : (o : TwoOp) (a : ℕ) → i ≡ binary (bits g.width) o a n → z ≡ evaled_by (ev_second (bits f.width) o a) at the_one f
          second-stored o a ei =
              one-open acc λ t k x j e₁ le e₂ e₃.
              let y = ev-num (eval frames (bits f.width)) at the_term f g t k e₁ n m ev in
              let q : i ≡ binary (bits f.width) o a n =
              ei ∙ ap (λ (v : Width). binary (bits v) o a n) (same-width (eval frames (bits f.width) t f 0) f g 0 _ (term-width (bits f.width) t f 0) y.1) in
              rw (e₃, y.1) (stored k x j y.0 e₂ ∙ rw q)

      module _ (acc : Accepts the-two) where
        two-goes : (o : TwoOp) (t : Term) (x : Operand) → eval frames (bits f.width) t f 0 ≡ ran g 0 (gives n) →
            ev_two (bits f.width) o (before t x) f 0 ≡ ev_second (bits f.width) o n x g 0
        unfolding eval
        two-goes o t (operand u x) e = rw e

        pub two-second-acc : Accepts (read_one (read_term l) d 0 (drop m s))
        two-second-acc =
            two-open acc λ t k x j e₁ le e₂ e₃.
            let y = ev-num (eval frames (bits f.width)) at the_term f g t k e₁ n m ev in
            rw y.0 (is-acc e₂)

        pub two-second : (o : TwoOp) (z : Ran Frame (Read ℕ)) → z ≡ evaled_by (ev_second (bits g.width) o n) m (read_one (read_term l) d 0 (drop m s)) g →
            z ≡ evaled_by (ev_two (bits f.width) o) at the-two f
        two-second o z ez =
            two-open acc λ t k x j e₁ le e₂ e₃.
            let y = ev-num (eval frames (bits f.width)) at the_term f g t k e₁ n m ev in
            let r : at + k + j ≡ at + (k + j) = omega arith in
            rw (e₃, two-goes o t x y.1)
            (ez
            ∙ ap (λ (v : Width). evaled_by (ev_second (bits v) o n) m (read_one (read_term l) d 0 (drop m s)) g)
            (same-width (eval frames (bits f.width) t f 0) f g 0 _ (term-width (bits f.width) t f 0) y.1)
            ∙ ap (λ (b : ℕ). evaled_by (ev_second (bits f.width) o n) b (read_one (read_term l) d 0 (drop b s)) g) y.0 ∙ rw (e₂, r))

-- ## A term by its opcode

module _ (l at : ℕ) (s : List ℕ) (acc : Accepts (read_term l 0 (drop at s))) where
  left-some : 0 < l
  unfolding read_term
  left-some = go l acc
    where
      go : (l : ℕ) → Accepts (read_term l 0 (drop at s)) → 0 < l
      go zero h = absurd h
      go (suc l) h = omega arith

  in-part : at < length s
  in-part =
      acc-ok (read_term l 0 (drop at s)) acc λ t k e.
      let h : Takes _ (drop at s) k = term-sound l 0 (drop at s) t k e in
      omega (arith, h.some, h.fits, length-drop at s)

  -- what was read has a place within the part, and a depth
  pub term-ready : TermReady s at l
  term-ready = record { inside = in-part; deep = left-some; reads = acc }

-- what was read is what the arm of its opcode reads
module _ {s : List ℕ} {at l : ℕ} (p : TermReady s at l) {r o : TermOp} (e : r ≡ term_op_at (get_or s at 0)) (q : r ≡ o) where
  abbrev arm : Answer (Read Term)
  arm = term_by (read_term (l - 1)) 0 (drop (at + 1) s) o

  same-reading : read_term l 0 (drop at s) ≡ arm
  same-reading = term-is-by l 0 at s r o p.deep p.inside e q

  pub arm-acc : Accepts arm
  arm-acc = acc-same same-reading p.reads

  pub eval-arm : (w : ℕ) (f : Frame) (x : Ran Frame (Read ℕ)) → x ≡ evaled_by (eval frames w) at arm f → x ≡ evaled_by (eval frames w) at (read_term l 0 (drop at s)) f
  eval-arm w f x h = h ∙ ap (λ (R : Answer (Read Term)). evaled_by (eval frames w) at R f) (sym same-reading)

-- constants of every width
module _ (term : ℕ → List ℕ → Answer (Read Term)) (at n : ℕ) (s : List ℕ) (acc : Accepts (term_by term 0 (drop (at + 1) s) (Bytes n))) where
  bytes_fit : n ≤ length (drop (at + 1) s)
  bytes_fit =
      acc-ok (read_bytes n 1 (drop (at + 1) s)) (acc-then (read_bytes n 1 (drop (at + 1) s)) _ acc) λ t k e.
      leb-true n (length (drop (at + 1) s)) (pick-ok (leb n (length (drop (at + 1) s))) _ 1 (1 + length (drop (at + 1) s)) e).0

  bytes-in : at < length s → at + 1 + n ≤ length s
  bytes-in lt = omega (arith, bytes_fit, length-drop (at + 1) s)

  bytes-val : (w m k : ℕ) (f : Frame) → m ≡ little (take n (drop (at + 1) s)) → k ≡ m % 2 ^ w →
      ran f 0 (gives (took k (at + 1 + n))) ≡ evaled_by (eval frames w) at (term_by term 0 (drop (at + 1) s) (Bytes n)) f
  unfolding eval
  bytes-val w m k f e q =
      let r : at + 1 + n ≡ at + suc n = omega arith in
      rw (le-leb n (length (drop (at + 1) s)) bytes_fit, ← e, q, r)

step-acc : (term : ℕ → List ℕ → Answer (Read Term)) (at : ℕ) (s : List ℕ) (o : StepOp) → Accepts (term_by term 0 (drop (at + 1) s) (Step o)) →
    Accepts (read_place 1 (drop (at + 1) s))
step-acc term at s o acc = acc-then (read_place 1 (drop (at + 1) s)) _ acc

-- each arm: what it needs of the part, and what it answers
module _ {s : List ℕ} {at l : ℕ} (p : TermReady s at l) {r : TermOp} (e : r ≡ term_op_at (get_or s at 0)) where
  pub constant-arm : (w : ℕ) (f : Frame) {n : ℕ} → r ≡ Constant n → (m : ℕ) → m ≡ n % 2 ^ w → ran f 0 (gives (took m (at + 1))) ≡ evaled_by (eval frames w) at (read_term l 0 (drop at s)) f
  unfolding eval
  constant-arm w f q m h = eval-arm p e q w f _ (rw h)

  pub bytes-room : {n : ℕ} → r ≡ Bytes n → (at + 1 + n ≤ length s) × (n ≤ 8)
  bytes-room {n} q = (bytes-in (read_term (l - 1)) at n s (arm-acc p e q) p.inside, op_bytes (get_or s at 0) n (sym e ∙ q))

  pub bytes-arm : (w : ℕ) (f : Frame) {n : ℕ} → r ≡ Bytes n → (m k : ℕ) → m ≡ little (take n (drop (at + 1) s)) → k ≡ m % 2 ^ w →
      ran f 0 (gives (took k (at + 1 + n))) ≡ evaled_by (eval frames w) at (read_term l 0 (drop at s)) f
  bytes-arm w f {n} q m k h h₂ = eval-arm p e q w f _ (bytes-val (read_term (l - 1)) at n s (arm-acc p e q) w m k f h h₂)

  pub cell-arm : (w : ℕ) (f : Frame) {c : ℕ} → r ≡ Cell c → (a : Answer ℕ) → a ≡ held f c → ev_at (at + 1) (ran f 0 a) ≡ evaled_by (eval frames w) at (read_term l 0 (drop at s)) f
  unfolding eval
  cell-arm w f q a h = eval-arm p e q w f _ (ap (λ (z : Answer ℕ). ev_at (at + 1) (ran f 0 z)) h)

  pub step-room : {o : StepOp} → r ≡ Step o → (at + 1 < length s) × (0x60 ≤ get_or s (at + 1) 0) × (get_or s (at + 1) 0 ≤ 0x6E)
  step-room {o} q =
      let acc = step-acc (read_term (l - 1)) at s o (arm-acc p e q) in
      let b = is-cell (get_or s (at + 1) 0) (cell-byte 1 (at + 1) s acc) in
      (cell-inside 1 (at + 1) s acc, b.0, b.1)

  pub step-arm : (w : ℕ) (f : Frame) {o : StepOp} → r ≡ Step o → (c : ℕ) (x : Ran Frame ℕ) → c ≡ get_or s (at + 1) 0 - 0x60 → x ≡ eval frames w (step o (cell c)) f 0 →
      ev_at (at + 2) x ≡ evaled_by (eval frames w) at (read_term l 0 (drop at s)) f
  step-arm w f {o} q c x h h₂ =
      eval-arm p e q w f _ (rw (cell-number 1 (at + 1) s (step-acc (read_term (l - 1)) at s o (arm-acc p e q)), ← h) (ap (ev_at (at + 2)) h₂))

  -- an operator's answer, from the byte behind its opcode
  module _ {o : OneOp} {d : Dest} (q : r ≡ One o d) where
    pub one-room : Accepts (read_one (read_term (l - 1)) d 0 (drop (at + 1) s))
    one-room =
        let acc = arm-acc p e q in
        acc-ok (read_one (read_term (l - 1)) d 1 (drop (at + 1) s)) (acc-then (read_one (read_term (l - 1)) d 1 (drop (at + 1) s)) _ acc) λ x k e.
        is-acc (one-any (l - 1) d 1 0 (drop (at + 1) s) x k e)

    pub one-arm : (w : ℕ) (f : Frame) (z : Ran Frame (Read ℕ)) → z ≡ evaled_by (ev_one w o) (at + 1) (read_one (read_term (l - 1)) d 0 (drop (at + 1) s)) f →
        z ≡ evaled_by (eval frames w) at (read_term l 0 (drop at s)) f
    one-arm w f z ez =
        eval-arm p e q w f z
        (acc-ok (read_one (read_term (l - 1)) d 0 (drop (at + 1) s)) one-room λ x k e.
        let r : at + 1 + k ≡ at + suc k = omega arith in
        rw (one-any (l - 1) d 0 1 (drop (at + 1) s) x k e) (ez ∙ rw (e, r)))

  module _ {o : TwoOp} {d : Dest} (q : r ≡ Two o d) where
    pub two-room : Accepts (read_two (read_term (l - 1)) d 0 (drop (at + 1) s))
    two-room =
        let acc = arm-acc p e q in
        acc-ok (read_two (read_term (l - 1)) d 1 (drop (at + 1) s)) (acc-then (read_two (read_term (l - 1)) d 1 (drop (at + 1) s)) _ acc) λ x k e.
        is-acc (two-any (l - 1) d 1 0 (drop (at + 1) s) x k e)

    pub two-arm : (w : ℕ) (f : Frame) (z : Ran Frame (Read ℕ)) → z ≡ evaled_by (ev_two w o) (at + 1) (read_two (read_term (l - 1)) d 0 (drop (at + 1) s)) f →
        z ≡ evaled_by (eval frames w) at (read_term l 0 (drop at s)) f
    two-arm w f z ez =
        eval-arm p e q w f z
        (acc-ok (read_two (read_term (l - 1)) d 0 (drop (at + 1) s)) two-room λ x k e.
        let r : at + 1 + k ≡ at + suc k = omega arith in
        rw (two-any (l - 1) d 0 1 (drop (at + 1) s) x k e) (ez ∙ rw (e, r)))

-- a cell is read at once
pub cell-at-once : {s : List ℕ} {at l : ℕ} (p : TermReady s at l) (w : ℕ) (f : Frame) → is_cell_byte (get_or s at 0) ≡ true → (c : ℕ) → c ≡ get_or s at 0 - 0x60 → (a : Answer ℕ) → a ≡ held f c →
    ev_at (at + 1) (ran f 0 a) ≡ evaled_by (eval frames w) at (read_term l 0 (drop at s)) f
unfolding term_op_at
cell-at-once {s} {at} p w f b c e a h = cell-arm p {r = term_op_at (get_or s at 0)} refl w f {c = get_or s at 0 - 0x60} (rw b) a (rw e at h)

-- a step of a cell
module _ (w : ℕ) (o : StepOp) (c : ℕ) (f : Frame) where
  unfoldable after-load : Answer ℕ → Ran Frame ℕ
  after-load a = then_do (ran f 0 a) (λ n g u. put frames (to (cell c)) (stepped w o n) g u)

  pub step-err : (i j : ℕ) → refuses i j ≡ held f c → ran f 0 (refuses i j) ≡ eval frames w (step o (cell c)) f 0
  unfolding eval after-load
  step-err i j e = ap after-load e

  pub step-num : (n m : ℕ) (g : Frame) → gives n ≡ held f c → m ≡ stepped w o n → g ≡ wrote f c m → ran g 0 (gives m) ≡ eval frames w (step o (cell c)) f 0
  unfolding eval after-load
  step-num n m g e q h = rw (h, q) (ap after-load e)

-- what a `?` hands on is the error that it met
pub is-err : {A E : Type 0} (r : Result A E) (e : E) → IsErr r × IsErrAnd r (λ x. x ≡ e) → r ≡ Err e
is-err (Ok a) e (h, k) = absurd (false≢true h)
is-err (Err x) e (h, k) = ap Err k
