use Rattle.std.proofs.Common.{◌-◌}
use Rattle.router.specs.Descents.{Descends}
use Rattle.router.proofs.descent.descents.Given as goal

abbrev pub invariant-loop-k : goal.invariant-loop-k
invariant-loop-k l = Descends l.grid l.least (l.end - l.k)
