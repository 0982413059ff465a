use Rattle.std.proofs.Common.{ℕ, ◌+◌, ◌<◌, ◌≤◌, get_or}
use Rattle.plans.specs.Tolls.{worth}
use Rattle.router.proofs.descent.cheapest.Given as goal

abbrev pub invariant-loop-u : goal.invariant-loop-u
invariant-loop-u l = record {
  limit : l.cost ≤ worth;
  cheapest : (k : ℕ) → k < l.u → l.cost ≤ get_or l.grid.entries k 0 + get_or l.least k 0;
}
