-- A package that was read is not refused, and holds its own bytes.
use Rattle.statement.proofs.Evals.{package-ok, package-spans}
use Rattle.statement.proofs.part.Part.pkg.Goals as goal

pub unwrap-p-requires : goal.unwrap-p-requires
unwrap-p-requires c =
    let a = c.args in
    package-ok a.self.bytes.now a.at a.self.short c.requires.1 _ c.pkg_length.ensures

pub returns : goal.returns
returns c =
    let a = c.args in
    package-spans a.self.bytes.now a.at a.self.short c.requires.1 _ c.pkg_length.ensures _ c.unwrap-p.ensures c.requires.0
