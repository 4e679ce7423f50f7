-- What the run of a block leaves, from what the layer below promises of it. The promises of the check and of the run each leave one answer open.
use mathlib.Core.Path.{◌≡◌, refl, sym, ◌∙◌, ap}
use mathlib.Core.Bool.{Bool, true, false, cond}
use mathlib.Core.List.{List, []}
use Prim.Native.Nat.{ℕ}
use lib.ListN.{length, get_or}
use borrow.Author.Tests.{eq-eqb}
use Rattle.std.specs.Prelude.{Result, Ok, Err}
use Rattle.pkg_length.specs.Refusal.{Answer, gives, refuses, refused}
use Rattle.pkg_length.specs.declared.AmlError.{AmlError}
use Rattle.grammar.specs.Tree.{Stmts}
use Rattle.grammar.specs.Reader.{read_block}
use Rattle.grammar.proofs.Theorems.{derives-what-reads}
use Rattle.statement.specs.Meaning.{Outcome}
use Rattle.statement.specs.Promise.{end_said, HasRun}
use Rattle.statement.specs.declared.Execution.{Execution}
use Rattle.statement.specs.declared.frame.Frame.{Frame}
use Rattle.klem_c.specs.Result.{result_of, After, leaves}
use Rattle.klem_c.specs.Frames.{fits_frame, is_width_bits, word_of_width, frame_at, frame_words, frame_read}
use Rattle.klem_c.specs.Blocks.{KlemCheck, KlemRun, run_words}
use Rattle.klem_c.specs.declared.reply.Fault.{Fault}
use Rattle.klem_c.specs.declared.reply.Fault.TheVariants.{BadWidth}

-- words whose frame is read have one of the widths, and hold that frame
read-width : (frame : List ℕ) (f : Frame) → ◌≡◌ {A = Result Frame Fault} (frame_read frame) (Ok f) → (is_width_bits (word_of_width frame) ≡ true) × (f ≡ frame_at frame)
read-width frame f h = go (is_width_bits (word_of_width frame)) h
  where
    go : (b : Bool) → ◌≡◌ {A = Result Frame Fault} (cond b (Ok (frame_at frame)) (Err (BadWidth (word_of_width frame)))) (Ok f) → (b ≡ true) × (f ≡ frame_at frame)
    go true e = (refl, cc)
    go false e = absurd cc

module _ (block frame : List ℕ) (budget : ℕ) (result : List ℕ) (a : length result ≡ 8) (b : length frame ≡ 31) where
  fits : fits_frame result frame ≡ true
  fits = rw (eq-eqb _ _ a, eq-eqb _ _ b)

  -- a result that is written, beside a frame
  beside : {r : ℕ} {result' frame' words words' new : List ℕ} → record { number = r; result = result'; lent = [] } ≡ leaves true result [] words [] → words ≡ words' → frame' ≡ new →
      record { number = r; result = result'; lent = frame' } ≡ leaves (fits_frame result frame) result frame words' new
  beside h w l =
      rw fits
      (λ i. record {
        number = (ap (λ (x : After). x.number) h ∙ ap (λ (ws : List ℕ). get_or ws 0 0) w) i;
        result = (ap (λ (x : After). x.result) h ∙ w) i;
        lent = l i;
      })

  module _ (f g : Frame) (o : ◌≡◌ {A = Result Frame Fault} (frame_read frame) (Ok f)) {r : ℕ} {result' frame' words : List ℕ}
      (h : record { number = r; result = result'; lent = [] } ≡ leaves true result [] words []) where
    -- it began: the units are told, and the frame is the run's
    pub run-began : (run : Execution) → HasRun block f budget g (Ok run) → words ≡ run_words (end_said run.end) run.units → frame' ≡ frame_words g →
        KlemRun block frame budget result (record { number = r; result = result'; lent = frame' })
    run-began run n w l =
        let k : HasRun block (frame_at frame) budget g (Ok run) = rw (read-width frame f o).1 at n in
        let wide = (read-width frame f o).0 in
        record {
          unknown = λ u. absurd (let z : true ≡ false = sym wide ∙ u in cc);
          refusal = λ u x y e. absurd (let z : true ≡ false = k.stopped x y e in cc);
          meaning = λ u tree d. beside h (w ∙ ap (λ (s : Outcome). run_words s.end s.units) (k.meaning tree d)) (l ∙ ap (λ (s : Outcome). frame_words s.frame) (k.meaning tree d));
          unfit = λ u. absurd (let z : true ≡ false = sym fits ∙ u in cc);
        }

    -- the check refused: the frame is as it was
    pub run-refused : (e : AmlError) → HasRun block f budget g (Err e) → words ≡ result_of (refused e) → frame' ≡ frame →
        KlemRun block frame budget result (record { number = r; result = result'; lent = frame' })
    run-refused e n w l =
        let k : HasRun block (frame_at frame) budget g (Err e) = rw (read-width frame f o).1 at n in
        let wide = (read-width frame f o).0 in
        record {
          unknown = λ u. absurd (let z : true ≡ false = sym wide ∙ u in cc);
          refusal = λ u x y s. beside h (w ∙ ap (λ (s : Outcome). run_words s.end s.units) (k.refusal x y s)) l;
          meaning = λ u tree d. absurd (let z : false ≡ true = k.started tree d in cc);
          unfit = λ u. absurd (let z : true ≡ false = sym fits ∙ u in cc);
        }

-- each of the two leaves one answer open
pub one-klem-check : (block result : List ℕ) (x y : After) → KlemCheck block result x → KlemCheck block result y → x ≡ y
one-klem-check block result x y k l = go (read_block block) refl
  where
    go : (a : Answer Stmts) → read_block block ≡ a → x ≡ y
    go (gives t) e = let d = derives-what-reads block t e in k.derived t d ∙ sym (l.derived t d)
    go (refuses n p) e = k.refusal n p e ∙ sym (l.refusal n p e)

pub one-klem-run : (block frame : List ℕ) (budget : ℕ) (result : List ℕ) (x y : After) → KlemRun block frame budget result x → KlemRun block frame budget result y → x ≡ y
one-klem-run block frame budget result x y k l = by (is_width_bits (word_of_width frame)) refl
  where
    go : is_width_bits (word_of_width frame) ≡ true → (a : Answer Stmts) → read_block block ≡ a → x ≡ y
    go u (gives t) e = let d = derives-what-reads block t e in k.meaning u t d ∙ sym (l.meaning u t d)
    go u (refuses n p) e = k.refusal u n p e ∙ sym (l.refusal u n p e)

    by : (b : Bool) → is_width_bits (word_of_width frame) ≡ b → x ≡ y
    by true u = go u (read_block block) refl
    by false u = k.unknown u ∙ sym (l.unknown u)
