-- A frame as KLEM_FRAME words: 15 flags, 0 where the cell is unset, then 15 numbers, then 32 or 64, their width; and the calls on it.
use Rattle.std.specs.Prelude.{ℕ, ◌+◌, Bool, ◌&&◌, ◌||◌, not, cond, List, [], ◌∷◌, ◌++◌, map, eqb, ltb, take, drop, get_or, Result, Ok, Err}
use Rattle.pkg_length.specs.Refusal.{Answer, gives, refuses}
use Rattle.grammar.specs.Grammar.{cells}
use Rattle.statement.specs.Frames.{bits, fresh, held, wrote}
use Rattle.statement.specs.declared.frame.Width.{Width}
use Rattle.statement.specs.declared.frame.Width.TheVariants.{Bits32, Bits64}
use Rattle.statement.specs.declared.frame.Frame.{Frame}
use Rattle.klem_c.specs.declared.reply.Fault.{Fault}
use Rattle.klem_c.specs.declared.reply.Fault.TheVariants.{BadWidth}
use Rattle.klem_c.specs.Result.{bad_cell, bad_width, result_words, result_of, valued, one, flag, sized, After, leaves, answers}

-- KLEM_FRAME: the words of a frame
abbrev pub frame_size : ℕ
frame_size = 31

abbrev pub is_set : ℕ → Bool
is_set w = not (eqb w 0)

unfoldable pub flags_at : List ℕ → List Bool
flags_at ws = map is_set (take cells ws)

-- the word behind the flags and the numbers
abbrev pub word_of_width : List ℕ → ℕ
word_of_width ws = get_or ws (cells + cells) 0

abbrev pub is_width_bits : ℕ → Bool
is_width_bits n = eqb n 32 || eqb n 64

abbrev pub width_from : ℕ → Width
width_from b = cond (eqb b 32) Bits32 Bits64

abbrev pub frame_at : List ℕ → Frame
frame_at ws = record { set = flags_at ws; val = take cells (drop cells ws); width = width_from (word_of_width ws) }

-- the width of a number of bits, where there is one
abbrev pub width_read : ℕ → Result Width Fault
width_read n = cond (is_width_bits n) (Ok (width_from n)) (Err (BadWidth n))

-- the frame that words hold, where their width is one
abbrev pub frame_read : List ℕ → Result Frame Fault
frame_read ws = cond (is_width_bits (word_of_width ws)) (Ok (frame_at ws)) (Err (BadWidth (word_of_width ws)))

unfoldable pub frame_words : Frame → List ℕ
frame_words f = map flag f.set ++ (f.val ++ (bits f.width ∷ []))

abbrev pub fits_frame : List ℕ → List ℕ → Bool
fits_frame result frame = sized result_words result && sized frame_size frame

-- a call that writes a frame
abbrev pub frames : List ℕ → List ℕ → List ℕ → Frame → After
frames result frame words f = leaves (fits_frame result frame) result frame words (frame_words f)

-- a width is 32 or 64
abbrev pub widthed : {A : Type 0} → ℕ → Answer A → Answer A
widthed n a = cond (is_width_bits n) a (refuses bad_width n)

abbrev pub klem_frame_new_after : List ℕ → ℕ → List ℕ → After
klem_frame_new_after frame width result =
    leaves (fits_frame result frame) result frame (result_of (widthed width (gives []))) (cond (is_width_bits width) (frame_words (fresh (width_from width))) frame)

abbrev pub klem_frame_get_after : List ℕ → ℕ → List ℕ → After
klem_frame_get_after frame cell result = answers (fits_frame result frame) result (valued one (widthed (word_of_width frame) (held (frame_at frame) cell)))

-- a cell that is not there is refused, and the frame's words stay
abbrev pub klem_frame_set_after : List ℕ → ℕ → ℕ → List ℕ → After
klem_frame_set_after frame cell number result =
    leaves (fits_frame result frame) result frame
    (result_of (widthed (word_of_width frame) (cond (ltb cell cells) (gives []) (refuses bad_cell cell))))
    (cond (is_width_bits (word_of_width frame) && ltb cell cells) (frame_words (wrote (frame_at frame) cell number)) frame)
