-- A refusal of the readers in one word. No public contract cites it.
use Rattle.std.specs.Prelude.{ℕ, ◌/◌, ◌%◌, eqb, cond, Result, Ok, Err}
use Rattle.pkg_length.specs.Refusal.{Answer, gives, refused}
use Rattle.pkg_length.specs.declared.AmlError.{AmlError}
use Rattle.pkg_length.specs.declared.AmlError.TheVariants.{UnexpectedEndOfStream, InvalidPkgLength, BadOpcode, TooDeep, PackageEndsEarly}
use Rattle.grammar.specs.declared.stop.Reason.{Reason}
use Rattle.grammar.specs.declared.stop.Reason.TheVariants as reason
use Rattle.grammar.specs.declared.stop.Stop.{Stop}

abbrev pub error_at : Reason → ℕ → AmlError
error_at reason.UnexpectedEndOfStream p = UnexpectedEndOfStream p
error_at reason.InvalidPkgLength p = InvalidPkgLength p
error_at reason.BadOpcode p = BadOpcode p
error_at reason.TooDeep p = TooDeep p
error_at reason.PackageEndsEarly p = PackageEndsEarly p

-- by the reason's number and the place
abbrev pub numbered : ℕ → ℕ → AmlError
numbered n p =
    cond (eqb n 0) (UnexpectedEndOfStream p)
    (cond (eqb n 1) (InvalidPkgLength p)
    (cond (eqb n 2) (BadOpcode p)
    (cond (eqb n 3) (TooDeep p)
    (PackageEndsEarly p))))

-- the place times 8, and the number
abbrev pub error_of : ℕ → AmlError
error_of w = numbered (w % 8) (w / 8)

-- what a reader's answer says
abbrev pub stopped : {A : Type 0} → Result A Stop → Answer A
stopped (Ok a) = gives a
stopped (Err s) = refused (error_of s.0)
