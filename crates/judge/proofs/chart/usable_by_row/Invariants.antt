use Rattle.std.proofs.Common.{◌≡◌, ℕ, ◌<◌, length, get_or}
use Rattle.masks.specs.Masks.{mask}
use Rattle.host.specs.Maps.{usable}
use Rattle.judge.proofs.chart.usable_by_row.Given as goal

abbrev pub invariant-loop-row : goal.invariant-loop-row
invariant-loop-row l = record {
  long : length l.usable ≡ 64;
  each : (r : ℕ) → r < l.row → get_or l.usable r 0 ≡ mask (usable l.host r);
}
