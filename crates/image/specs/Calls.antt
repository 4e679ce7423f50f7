-- The two calls, whole.
use Rattle.std.specs.Prelude.{cond, ℕ, List, leb, eqb, length}
use Rattle.pkg_length.specs.Refusal.{Answer, gives, refuses, and_then}
use Rattle.table.specs.Limits.{Limits}
use Rattle.table.specs.Memory.{means, size, Edited}
use Rattle.image.specs.declared.Counts.{Counts}
use Rattle.image.specs.Bits.{bits_in}
use Rattle.image.specs.Format.{Format}
use Rattle.image.specs.Image.{image}
use Rattle.image.specs.Reader.{levels_in, bindings_in, objects_in, image_in}

-- writing, into so much room: 24, then 25
unfoldable pub write_call : Format → Limits → ℕ → List ℕ → Answer (List ℕ)
write_call f m room ws = and_then (means m ws) (λ t. cond (leb (length (image f t)) room) (gives (image f t)) (refuses 25 0))

-- what the header counts, the levels without the root
abbrev pub counts_in : List ℕ → Counts
counts_in bytes = record { levels = levels_in (bits_in bytes); bindings = bindings_in (bits_in bytes); objects = objects_in (bits_in bytes) }

-- reading: 24 for memory of a wrong length alone, then the image's first fault; else the tree, whatever the words held
unfoldable pub read_call : Format → Limits → List ℕ → List ℕ → Answer (Edited Counts)
read_call f m bytes ws =
    cond (eqb (length ws) (size m))
    (and_then (image_in f m bytes) (λ t. gives (record { tree = t; value = counts_in bytes })))
    (refuses 24 0)
