use Rattle.std.proofs.Common.{◌≡◌, ℕ, ◌-◌, ◌<◌, length, get_or}
use Rattle.route.proofs.grid.entries.Given as goal

abbrev pub invariant-loop-u : goal.invariant-loop-u
invariant-loop-u g l = record {
  long : length l.entries ≡ 66;
  done : (k : ℕ) → k < l.u → get_or l.entries k 0 ≡ (g.T.Tariff.meaning l.tariff).entry l.row (k - 1);
}
