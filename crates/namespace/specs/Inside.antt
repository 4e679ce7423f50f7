-- What the functions inside promise one another. No public contract rests on these.
use Rattle.std.specs.Prelude.{◌≡◌, List, ℕ, ◌+◌, ◌-◌, take, drop, get_or, Result, Ok, MatchResult}
use Rattle.pkg_length.specs.Refusal.{refused}
use Rattle.pkg_length.specs.declared.AmlError.{AmlError}
use Rattle.table.specs.Limits.{Limits}
use Rattle.table.specs.Memory.{decode}
use Rattle.table.specs.Edits.{bind}
use Rattle.table.specs.Inside.{spot_in}
use Rattle.table.specs.declared.inner.Place.{Place}
use Rattle.table.specs.declared.inner.Spot.{Spot}

-- a path's last segment is free: its word would stand at that place among the bindings, its level's record at that among the levels, and the last binding is spare
pub record Spare (m : Limits) (ws p : List ℕ) (at : Place) : Type 0 where
  pub free : spot_in (take m.levels ws) (take m.bindings (drop m.levels ws)) p ≡ Ok (Spot.Free at)
  pub last : get_or ws (m.levels + (m.bindings - 1)) 0 ≡ 0

-- room for a path's last segment, or what binding it to whatever handle is refused with
abbrev pub RoomFor : Limits → List ℕ → List ℕ → Result Place AmlError → Type 0
RoomFor m ws p r = MatchResult r (Spare m ws p) (λ e. (h : ℕ) → bind m (decode m ws) p h ≡ refused e)
