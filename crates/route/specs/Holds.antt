-- What a board says of a card, by rows and columns. Assumes nothing.
use Rattle.std.specs.Prelude.{◌≡◌, ℕ, ◌+◌, ◌-◌, ◌*◌, ◌<◌, ◌↔◌, false, cond, ◌&&◌, [], nat_lt, slice_index, slice_index_or}
use Rattle.tariff.specs.Meaning.{Meaning}
use Rattle.plans.specs.Columns.{Card, Near, standing, row}
use Rattle.plans.specs.Columns as Columns
use Rattle.plans.specs.Potentials.{Flow, Labels}
use Rattle.router.specs.declared.board.TheConstants.{ROW}
use Rattle.router.specs.declared.board.Grid.{Grid}
use Rattle.router.specs.declared.board.Ways.{Ways}
use Rattle.router.specs.declared.board.Board.{Board}
use Rattle.router.specs.Boards.{Usable}
use Rattle.router.specs.Tolls.{out_of}

-- the cell in the standing row s and the physical column j
abbrev pub cell : ℕ → ℕ → ℕ
cell s j = s * ROW + j + 1

-- the cell u has a usable PE of a standing row
abbrev pub HasPe : Card → ℕ → Type 0
HasPe c u = (s : ℕ) × (j : ℕ) × (s < standing c) × Columns.Usable c (row c s) j × (u ≡ cell s j)

-- the grid holds the usable PEs of the standing rows, at least one row, and their charges
pub record Holds (c : Card) (m : Meaning) (g : Grid) : Type 0 where
  pub some : 0 < standing c
  pub rows : g.last + ROW ≡ standing c * ROW
  pub usable : (u : ℕ) → Usable g u ↔ HasPe c u
  pub entry : (j : ℕ) → j < 64 → slice_index g.entries (cell 0 j) ≡ m.entry (row c 0) j
  pub link : (s j k : ℕ) → s + 1 < standing c → j < 64 → k < 64 → Near j k →
      slice_index (slice_index_or g.links (cell s j) []) (k + 1 - j) ≡ m.link (row c s) j (row c (s + 1)) k

-- the ways by rows and columns
abbrev pub flow_by : Ways → Flow
flow_by w = record {
  used = λ s j. nat_lt j 64 && slice_index_or w.used (cell s j) false;
  next = λ s j. slice_index w.next (cell s j) - cell (s + 1) 0;
}

-- the labels by rows and columns
abbrev pub labels_by : Board → Labels
labels_by b = record {
  into = λ s j. slice_index b.labels.into (cell s j);
  out = λ s j. cond (slice_index_or b.ways.used (cell s j) false) (out_of b (cell s j)) (slice_index b.labels.into (cell s j));
  exit = b.labels.exit;
}
