use Rattle.std.proofs.Common.{◌≡◌, ℕ, ◌-◌, ◌<◌, ◌≤◌, length, get_or}
use Rattle.route.proofs.columns.in_row.Given as goal

abbrev pub invariant-loop-n : goal.invariant-loop-n
invariant-loop-n l = record {
  long : length l.columns ≡ 64;
  done : (k : ℕ) → k < l.n → get_or l.columns k 0 ≡ get_or l.cells k l.first - l.first;
  rest : (k : ℕ) → l.n ≤ k → get_or l.columns k 0 ≡ 0;
}
