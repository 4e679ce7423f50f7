-- Each number has its type, and any other the last.
use native.Mathlib.Omega.{arith}
use Rattle.namespace.specs.Levels.{type_of_level}
use Rattle.namespace.proofs.LevelType.numbered.Goals as goal

pub returns-in-0 : goal.returns-in-0
unfolding type_of_level
returns-in-0 c = rw c.in-0.is

pub returns-in-1 : goal.returns-in-1
unfolding type_of_level
returns-in-1 c = rw c.in-1.is

pub returns-in-2 : goal.returns-in-2
unfolding type_of_level
returns-in-2 c = rw c.in-2.is

pub returns-in-3 : goal.returns-in-3
unfolding type_of_level
returns-in-3 c = rw c.in-3.is

pub returns-in-4 : goal.returns-in-4
unfolding type_of_level
returns-in-4 c = rw c.in-4.is

pub returns-in_default : goal.returns-in_default
unfolding type_of_level
returns-in_default c =
    grind arith
