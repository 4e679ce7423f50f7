-- What the layer below promises of the part from the length on, with its place moved: a refusal is 1 or 2, and a length that was read fits the part.
use Rattle.std.proofs.Common.{◌≡◌, ap, arith}
use Rattle.pkg_length.specs.Refusal.{paper}
use Rattle.pkg_length.specs.declared.AmlError.{AmlError}
use Rattle.grammar.proofs.Packages.{package-no, package-other, package-early, package-yes}
use Rattle.grammar.proofs.unread.Unread.pkg.Goals as goal

pub returns-then-raw-used : goal.returns-then-raw-used
returns-then-raw-used c = let u = c.args.self.now in rw c.new.ensures (package-early u.bytes.now (omega (arith, u.short)) u.place _ c.in-Ok.ensures c.if-raw-used.true)

pub returns-else-raw-used : goal.returns-else-raw-used
returns-else-raw-used c = let u = c.args.self.now in package-yes u.bytes.now (omega (arith, u.short)) u.place _ c.in-Ok.ensures c.if-raw-used.false

-- its place, moved, is one of the block
pub overflow_add-self : goal.overflow_add-self
overflow_add-self c =
    let u = c.args.self.now in
    let k = package-no u.bytes.now (omega (arith, u.short)) u.place _ c.in-Err.ensures in
    let i : (paper c.in-Err.e).1 ≡ c.in-UnexpectedEndOfStream.end = ap (λ (x : AmlError). (paper x).1) c.in-UnexpectedEndOfStream.is in
    omega (arith, k.1, i, u.short)

pub new-requires-in-UnexpectedEndOfStream : goal.new-requires-in-UnexpectedEndOfStream
new-requires-in-UnexpectedEndOfStream c =
    let u = c.args.self.now in
    let k = package-no u.bytes.now (omega (arith, u.short)) u.place _ c.in-Err.ensures in
    let i : (paper c.in-Err.e).1 ≡ c.in-UnexpectedEndOfStream.end = ap (λ (x : AmlError). (paper x).1) c.in-UnexpectedEndOfStream.is in
    omega (arith, k.1, i, u.short)

pub overflow_add-self-in-InvalidPkgLength : goal.overflow_add-self-in-InvalidPkgLength
overflow_add-self-in-InvalidPkgLength c =
    let u = c.args.self.now in
    let k = package-no u.bytes.now (omega (arith, u.short)) u.place _ c.in-Err.ensures in
    let i : (paper c.in-Err.e).1 ≡ c.in-InvalidPkgLength.lead = ap (λ (x : AmlError). (paper x).1) c.in-InvalidPkgLength.is in
    omega (arith, k.1, i, u.short)

pub new-requires-in-InvalidPkgLength : goal.new-requires-in-InvalidPkgLength
new-requires-in-InvalidPkgLength c =
    let u = c.args.self.now in
    let k = package-no u.bytes.now (omega (arith, u.short)) u.place _ c.in-Err.ensures in
    let i : (paper c.in-Err.e).1 ≡ c.in-InvalidPkgLength.lead = ap (λ (x : AmlError). (paper x).1) c.in-InvalidPkgLength.is in
    omega (arith, k.1, i, u.short)

pub returns-in-UnexpectedEndOfStream : goal.returns-in-UnexpectedEndOfStream
returns-in-UnexpectedEndOfStream c =
    let u = c.args.self.now in
    rw c.new-in-UnexpectedEndOfStream.ensures
    (rw c.in-UnexpectedEndOfStream.is at (package-no u.bytes.now (omega (arith, u.short)) u.place _ c.in-Err.ensures).0)

pub returns-in-InvalidPkgLength : goal.returns-in-InvalidPkgLength
returns-in-InvalidPkgLength c =
    let u = c.args.self.now in
    rw c.new-in-InvalidPkgLength.ensures
    (rw c.in-InvalidPkgLength.is at (package-no u.bytes.now (omega (arith, u.short)) u.place _ c.in-Err.ensures).0)

pub unreachable-requires : goal.unreachable-requires
unreachable-requires c =
    let u = c.args.self.now in
    package-other u.bytes.now (omega (arith, u.short)) u.place _ c.in-Err.ensures c.in_default.not-UnexpectedEndOfStream c.in_default.not-InvalidPkgLength
