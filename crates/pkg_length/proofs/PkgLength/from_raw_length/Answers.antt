-- One test, as in the definition: the length is over what the stream has, or not.
use borrow.Author.Tests.{le-leb, lt-leb}
use Rattle.pkg_length.specs.Pkg.{from_raw}
use Rattle.pkg_length.proofs.PkgLength.from_raw_length.Goals as goal

pub returns-then-stream-raw_length : goal.returns-then-stream-raw_length
unfolding from_raw
returns-then-stream-raw_length c = simp (lt-leb _ _ c.if-stream-raw_length.true)

pub returns : goal.returns
unfolding from_raw
returns c = simp (le-leb _ _ c.if-stream-raw_length.false)
