use Rattle.std.proofs.Common.{◌≡◌, ℕ, ◌<◌, ◌≤◌, length, get_or, replicate}
use Rattle.plans.specs.Held.{held_row, no_row}
use Rattle.route.specs.Told.{columns}
use Rattle.route.proofs.Ways.{front}
use Rattle.route.proofs.columns.by_row.Given as goal

abbrev pub invariant-loop-s : goal.invariant-loop-s
invariant-loop-s l = record {
  long : length l.held ≡ 64;
  here : l.s < l.rows → l.cells ≡ front l.board l.s;
  done : (k : ℕ) → k < l.s → get_or l.held k no_row ≡ held_row (columns l.board l.rows) k;
  rest : (k : ℕ) → l.s ≤ k → k < 64 → get_or l.held k no_row ≡ record { columns = replicate 64 0 };
}
