-- Where the else ends that stands there, or where it would stand.
use Rattle.statement.proofs.Runs.{ends-none, ends-some}
use Rattle.statement.proofs.part.Part.else_end.Goals as goal

pub returns-in-Some : goal.returns-in-Some
returns-in-Some c =
    let a = c.args in
    let e = c.in-Some.ensures in
    ends-some a.at a.self.bytes.now e.0 e.1 e.2

pub returns-in-None : goal.returns-in-None
returns-in-None c =
    let a = c.args in
    ends-none a.at a.self.bytes.now c.in-None.ensures c.requires.0
