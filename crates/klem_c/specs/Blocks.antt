-- The check and the run of a control block: what a call leaves, by the grammar and the meaning of a block that is derived, and by the refusal of any other.
use Rattle.std.specs.Prelude.{◌≡◌, true, false, List, [], ◌∷◌, ℕ}
use Rattle.pkg_length.specs.Refusal.{Answer, gives, refuses}
use Rattle.grammar.specs.Tree.{Stmts}
use Rattle.grammar.specs.Reader.{read_block}
use Rattle.grammar.specs.Promise.{Derives}
use Rattle.statement.specs.Meaning.{Ended, finished, returned, break_out, continue_out, Outcome, mean}
use Rattle.klem_c.specs.Result.{result_words, bad_slice, bad_width, filled, result_of, sized, After, leaves, answers}
use Rattle.klem_c.specs.Frames.{fits_frame, is_width_bits, word_of_width, frame_at, frames}

-- 0 exactly where the grammar derives the block; else the refusal; KLEM_BAD_SLICE where the result does not fit
pub record KlemCheck (block result : List ℕ) (left : After) : Type 0 where
  pub derived : (t : Stmts) → Derives block t → left ≡ answers (sized result_words result) result (gives [])
  pub reading : left.number ≡ 0 → (t : Stmts) × Derives block t
  pub refusal : (n p : ℕ) → read_block block ≡ refuses n p → left ≡ answers (sized result_words result) result (refuses n p)
  pub unfit : sized result_words result ≡ false → left ≡ record { number = bad_slice; result = result; lent = [] }

-- 0 finished, 1 returned, 2 break, 3 continue; and the number returned
abbrev pub end_words : Ended → ℕ → List ℕ
end_words finished u = 0 ∷ 0 ∷ 0 ∷ 0 ∷ u ∷ []
end_words (returned n) u = 0 ∷ 0 ∷ 1 ∷ n ∷ u ∷ []
end_words break_out u = 0 ∷ 0 ∷ 2 ∷ 0 ∷ u ∷ []
end_words continue_out u = 0 ∷ 0 ∷ 3 ∷ 0 ∷ u ∷ []

-- the units stand at a refusal too
abbrev pub run_words : Answer Ended → ℕ → List ℕ
run_words (gives e) u = filled (end_words e u)
run_words (refuses n p) u = filled (n ∷ p ∷ 0 ∷ 0 ∷ u ∷ [])

-- what a run leaves
abbrev pub ran : List ℕ → List ℕ → Outcome → After
ran result frame o = frames result frame (run_words o.end o.units) o.frame

-- a frame of another width is refused; a block that nothing derives is refused, with the frame's words as they were; of any other the run is the meaning of
-- its reading
pub record KlemRun (block frame : List ℕ) (budget : ℕ) (result : List ℕ) (left : After) : Type 0 where
  pub unknown : is_width_bits (word_of_width frame) ≡ false → left ≡ leaves (fits_frame result frame) result frame (result_of (refuses bad_width (word_of_width frame))) frame
  pub refusal : is_width_bits (word_of_width frame) ≡ true → (n p : ℕ) → read_block block ≡ refuses n p → left ≡ leaves (fits_frame result frame) result frame (result_of (refuses n p)) frame
  pub meaning : is_width_bits (word_of_width frame) ≡ true → (t : Stmts) → Derives block t → left ≡ ran result frame (mean t (frame_at frame) budget)
  pub unfit : fits_frame result frame ≡ false → left ≡ record { number = bad_slice; result = result; lent = frame }
