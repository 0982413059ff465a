-- What it costs to come down a grid. Assumes nothing.
use Rattle.std.specs.Prelude.{◌≡◌, ℕ, ◌+◌, ◌-◌, ◌<◌, ◌≤◌, cond, min, List, [], length, ◌==◌, nat_le, slice_index, slice_index_or}
use Rattle.plans.specs.Tolls.{worth}
use Rattle.router.specs.declared.board.TheConstants.{CELLS, ROW}
use Rattle.router.specs.declared.board.Grid.{Grid}
use Rattle.router.specs.Boards.{Usable, Down}

-- the charge of the link from the cell u to the left, straight or to the right
abbrev pub link : Grid → ℕ → ℕ → ℕ
link g u e = slice_index (slice_index_or g.links u []) e

-- what links from the cell u down to the last row cost, by what they cost from the cells below it; at most the worth
abbrev pub descent : Grid → List ℕ → ℕ → ℕ
descent g least u =
    cond (slice_index g.tops u == 0) worth
    (cond (nat_le g.last u) 0
    (min (min (min worth (slice_index least (u + ROW - 1) + link g u 0)) (slice_index least (u + ROW) + link g u 1)) (slice_index least (u + ROW + 1) + link g u 2)))

-- no cell from `start` on costs more than a link from it and what the cell costs to which the link goes
pub record Descends (g : Grid) (least : List ℕ) (start : ℕ) : Type 0 where
  pub long : length least ≡ CELLS
  pub limit : (u : ℕ) → slice_index least u ≤ worth
  pub unusable : (u : ℕ) → u < CELLS → (Usable g u → ⊥) → slice_index least u ≡ worth
  pub last : (u : ℕ) → start ≤ u → Usable g u → g.last ≤ u → slice_index least u ≡ 0
  pub below : (u w : ℕ) → start ≤ u → Down g u w → slice_index least u ≤ slice_index least w + link g u (w + 1 - (u + ROW))
