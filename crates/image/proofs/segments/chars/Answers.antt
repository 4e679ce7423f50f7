-- The four characters in a row.
use borrow.Author.Rules.{rules}
use mathlib.Core.Path.{ap, ◌∙◌}
use mathlib.Core.List.{List}
use Prim.Native.Nat.{ℕ, ◌/◌, ◌%◌}
use Rattle.std.specs.Int.{w32, from_be_bytes}
use Rattle.table.specs.Levels.{char_of_number}
use Rattle.image.specs.Image.{bytes_of_segment}
use Rattle.image.proofs.Characters.{in-a-number}
use Rattle.image.proofs.segments.chars.Goals as goal

pub returns : goal.returns
returns c =
    let s = c.args.s in (
      unfold bytes_of_segment in c.from.ensures ∙ c.from_be_bytes.ensures ∙ ap (λ (bs : List ℕ). from_be_bytes w32 bs) c.characters.ensures
          ∙ in-a-number (char_of_number (s / 37 / 37 / 37)) (char_of_number (s / 37 / 37 % 37)) (char_of_number (s / 37 % 37)) (char_of_number (s % 37)),
      search rules,
    )
