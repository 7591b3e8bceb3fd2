use Rattle.std.proofs.Common.{◌≡◌, None}
use Rattle.library_tests.proofs.tests.heads.read.Given as goal

abbrev pub invariant-loop-piece : goal.invariant-loop-piece
invariant-loop-piece l = l.meta.end ≡ None
