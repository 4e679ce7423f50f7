-- A frame: cells that are unset or hold a number, and the width of its numbers. Writing sets a cell.
use Rattle.std.specs.Prelude.{ℕ, ◌%◌, ◌^◌, true, false, cond, map, replicate, nat_lt, slice_index, slice_index_or, slice_set}
use Rattle.pkg_length.specs.Refusal.{Answer, gives, refuses}
use Rattle.grammar.specs.Grammar.{cells}
use Rattle.statement.specs.declared.frame.Width.{Width}
use Rattle.statement.specs.declared.frame.Width.TheVariants.{Bits32, Bits64}
use Rattle.statement.specs.declared.frame.Frame.{Frame}

-- how many bits numbers have
abbrev pub bits : Width → ℕ
bits Bits32 = 32
bits Bits64 = 64

-- below revision 2 of the DSDT they have 32, in its SSDTs too
abbrev pub width_of : ℕ → Width
width_of revision = cond (nat_lt revision 2) Bits32 Bits64

-- the low w bits of a number
abbrev pub low : ℕ → ℕ → ℕ
low w n = n % 2 ^ w

-- every cell unset
unfoldable pub fresh : Width → Frame
fresh w = record { set = replicate cells false; val = replicate cells 0; width = w }

-- what a cell holds, or 23 with its number
abbrev pub held : Frame → ℕ → Answer ℕ
held f c = cond (slice_index_or f.set c false) (gives (slice_index f.val c)) (refuses 23 c)

abbrev pub wrote : Frame → ℕ → ℕ → Frame
wrote f c n = record { set = slice_set f.set c true; val = slice_set f.val c n; width = f.width }

-- as execution begins: a number that is larger than the width keeps its low bits
abbrev pub begun : Frame → Frame
begun f = record { set = f.set; val = map (low (bits f.width)) f.val; width = f.width }
