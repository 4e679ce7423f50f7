-- What stands last, by the height and by the last byte in memory.
use Rattle.pkg_length.proofs.Answers.{never}
use Rattle.name_object.specs.Component.{component_limit}
use Rattle.path.proofs.Climbs.{last_none, last-over, last_byte}
use native.Mathlib.Omega.{arith}
use Rattle.path.proofs.climb.has_segment.Goals as goal

pub returns-then-high-eq0 : goal.returns-then-high-eq0
returns-then-high-eq0 c =
    record { some = λ t. never t; is = λ done s. last_none component_limit c.args.out.now c.args.high done s (omega arith) }

pub returns-then-high-gt-COMPONENTS : goal.returns-then-high-gt-COMPONENTS
returns-then-high-gt-COMPONENTS c =
    record { some = λ t. omega arith; is = λ done s. last-over component_limit c.args.out.now c.args.high done s (omega arith) }

pub returns : goal.returns
returns c =
    record { some = λ t. omega arith; is = λ done s. last_byte component_limit c.args.out.now c.args.high done s (omega arith) (omega arith) }
