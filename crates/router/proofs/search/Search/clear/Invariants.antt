use Rattle.std.proofs.Common.{◌≡◌, ℕ, ◌<◌, ◌≤◌, false, ◌⊎◌, length, get_or}
use Rattle.router.specs.declared.board.TheConstants.{CELLS}
use Rattle.router.specs.Boards.{Used}
use Rattle.router.specs.Searches.{label_of}
use Rattle.router.proofs.search.Search.clear.Given as goal

abbrev pub invariant-loop-u : goal.invariant-loop-u
invariant-loop-u l = record {
  long : length l.self.label ≡ CELLS;
  plain : (k : ℕ) → (l.u ≤ k) ⊎ (get_or l.board.ways.used k false ≡ false) → label_of l.self k ≡ get_or l.board.grid.tops k 0;
  pinned : (k : ℕ) → k < l.u → Used l.board.ways k → label_of l.self k ≡ get_or l.board.grid.entries k 0;
}
