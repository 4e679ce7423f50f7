-- Each sum stays below the prime, as `stirred` ensures, so that the last number fits.
use Rattle.std.proofs.Common.{◌<◌}
use Rattle.klem.proofs.looks.digest.Given as goal

abbrev pub invariant-loop-word : goal.invariant-loop-word
invariant-loop-word l = (l.first < 2147483647) × (l.second < 2147483647)
