use Rattle.std.proofs.Common.{◌≡◌, ℕ, ◌<◌, ◌≤◌, get_or}
use Rattle.route.proofs.columns.go_on.Given as goal

abbrev pub invariant-loop-cell : goal.invariant-loop-cell
invariant-loop-cell l = record {
  done : (k : ℕ) → k < l.cell-index → get_or l.cells k 0 ≡ get_or l.board.ways.next (get_or l.initial.cells k 0) 0;
  rest : (k : ℕ) → l.cell-index ≤ k → get_or l.cells k 0 ≡ get_or l.initial.cells k 0;
}
