use Rattle.std.proofs.Common.{◌≡◌, ℕ, ◌<◌, cond, length, get_or}
use Rattle.plans.specs.Tolls.{worth}
use Rattle.route.specs.Grids.{has_pe}
use Rattle.route.proofs.grid.tops.Given as goal

abbrev pub invariant-loop-u : goal.invariant-loop-u
invariant-loop-u l = record {
  long : length l.tops ≡ 4290;
  done : (k : ℕ) → k < l.u → get_or l.tops k 0 ≡ cond (has_pe l.rows k) worth 0;
}
