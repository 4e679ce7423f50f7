-- The image's format, as request R-6 of document 02 has it. What later editions change is the format's own; the rest stays.
use Rattle.std.specs.Prelude.{ℕ, suc, ◌+◌, ◌*◌}
use Rattle.image.specs.Bits.{bytes_for}

pub record Format : Type 0 where
  pub edition : ℕ
  -- bits of a level's depth, and of a handle
  pub depth_bits : ℕ
  pub handle_bits : ℕ
  -- the depth of the deepest levels, which hold no bindings
  pub deepest : ℕ

abbrev pub first_edition : Format
first_edition = record { edition = 1; depth_bits = 6; handle_bits = 10; deepest = 31 }

-- the header: edition 4, levels 8, bindings 10, objects 10
abbrev pub header_bits : ℕ
header_bits = 32

-- a level: depth, type 3, segment 32
abbrev pub level_bits : Format → ℕ
level_bits f = f.depth_bits + 35

-- a binding: segment 32, handle
abbrev pub binding_bits : Format → ℕ
binding_bits f = 32 + f.handle_bits

-- where the bindings begin, behind so many levels; where the objects begin; all bits but the spare ones
abbrev pub bindings_place : Format → ℕ → ℕ
bindings_place f levels = header_bits + levels * level_bits f

abbrev pub objects_place : Format → ℕ → ℕ → ℕ
objects_place f levels bindings = bindings_place f levels + (suc levels * 10 + bindings * binding_bits f)

abbrev pub image_bits : Format → ℕ → ℕ → ℕ → ℕ
image_bits f levels bindings objects = objects_place f levels bindings + objects * 64

-- the bytes of an image
abbrev pub image_length : Format → ℕ → ℕ → ℕ → ℕ
image_length f levels bindings objects = bytes_for (image_bits f levels bindings objects)
