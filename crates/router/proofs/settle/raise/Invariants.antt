use Rattle.std.proofs.Common.{◌≡◌, ℕ, ◌<◌, ◌+◌, ◌≤◌, min, length, slice_index}
use Rattle.router.specs.declared.board.TheConstants.{CELLS}
use Rattle.router.proofs.settle.raise.Given as goal

abbrev pub invariant-loop-u : goal.invariant-loop-u
invariant-loop-u l = record {
  exit : l.labels.exit ≡ l.initial.labels.exit;
  long : length l.labels.into ≡ CELLS;
  raised : (k : ℕ) → k < l.u → slice_index l.labels.into k ≡ min (slice_index l.search.label k) (slice_index l.initial.labels.into k + l.search.rise);
  others : (k : ℕ) → l.u ≤ k → slice_index l.labels.into k ≡ slice_index l.initial.labels.into k;
}
