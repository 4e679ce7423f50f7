-- How much the table holds. Every definition and law takes the limits as a parameter; the code's contracts name `limits`.
use Rattle.std.specs.Prelude.{ℕ}
use Rattle.name_object.specs.Component.{component_limit}

pub record Limits : Type 0 where
  -- levels, the root counted
  pub levels : ℕ
  pub bindings : ℕ
  pub objects : ℕ
  -- components of a name
  pub components : ℕ

abbrev pub limits : Limits
limits = record { levels = 128; bindings = 512; objects = 512; components = component_limit }
