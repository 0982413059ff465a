use Rattle.std.proofs.Common.{◌≡◌, ℕ, ◌-◌, ◌<◌, ◌≤◌, false, get_or}
use Rattle.router.proofs.board.Board.clear.Given as goal

abbrev pub invariant-loop-u : goal.invariant-loop-u
invariant-loop-u l = record {
  grid : l.self.grid ≡ l.initial.self.grid;
  unused : (u : ℕ) → get_or l.self.ways.used u false ≡ false;
  charge : (u : ℕ) → get_or l.self.ways.charge u 0 ≡ 0;
  prev : (u : ℕ) → u < l.u → get_or l.self.ways.prev u 0 ≡ u;
  exit : l.self.labels.exit ≡ l.exit;
  into : (u : ℕ) → u < l.u → get_or l.self.labels.into u 0 ≡ l.exit - get_or l.least u 0;
  rest : (u : ℕ) → l.u ≤ u → get_or l.self.labels.into u 0 ≡ 0;
}
