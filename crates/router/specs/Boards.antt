-- What a board stands for: a network of cells, a flow through it, and labels. Assumes nothing.
use Rattle.std.specs.Prelude.{◌≡◌, ℕ, ◌+◌, ◌-◌, ◌*◌, ◌%◌, ◌<◌, ◌≤◌, true, false, cond, [], slice_index, slice_index_or}
use Rattle.flow.specs.Nets.{Net, Flow}
use Rattle.flow.specs.Fits.{Labels as Potential, Fits, NoHole}
use Rattle.plans.specs.Tolls.{worth}
use Rattle.router.specs.declared.board.TheConstants.{ROW}
use Rattle.router.specs.declared.board.Grid.{Grid}
use Rattle.router.specs.declared.board.Ways.{Ways}
use Rattle.router.specs.declared.board.Labels.{Labels}
use Rattle.router.specs.declared.board.Board.{Board}

abbrev pub Usable : Grid → ℕ → Type 0
Usable g u = 0 < slice_index g.tops u

abbrev pub Used : Ways → ℕ → Type 0
Used w u = slice_index_or w.used u false ≡ true

-- a link goes from a usable cell to a usable cell of the next row, at most one column aside
pub record Down (g : Grid) (u w : ℕ) : Type 0 where
  pub from : Usable g u
  pub to : Usable g w
  pub left : u + ROW ≤ w + 1
  pub right : w ≤ u + ROW + 1

abbrev pub net_of : Grid → Net ℕ
net_of g = record {
  Usable = Usable g;
  First = λ u. u < ROW;
  Last = λ u. g.last ≤ u;
  Link = Down g;
  entry = λ u. slice_index g.entries u;
  cost = λ u w. slice_index (slice_index_or g.links u []) (w + 1 - (u + ROW));
}

abbrev pub flow_of : Ways → Flow ℕ
flow_of w = record {
  used = λ u. slice_index_or w.used u false;
  next = λ u. slice_index w.next u;
  prev = λ u. slice_index w.prev u;
  charge = λ u. slice_index w.charge u;
}

abbrev pub labels_of : Labels → Potential ℕ
labels_of l = record { into = λ u. slice_index l.into u; exit = l.exit }

-- what a grid has to be: at most 64 rows, usable cells in them but for their ends, and charges of at most 1,000
pub record Shape (g : Grid) : Type 0 where
  pub whole : g.last % ROW ≡ 0
  pub rows : g.last ≤ 63 * ROW
  pub inside : (u : ℕ) → Usable g u → u < g.last + ROW
  pub sides : (u : ℕ) → Usable g u → (1 ≤ u % ROW) × (u % ROW ≤ 64)
  pub tops : (u : ℕ) → Usable g u → slice_index g.tops u ≡ worth
  pub entries : (u : ℕ) → slice_index g.entries u ≤ 1000
  pub links : (u e : ℕ) → slice_index (slice_index_or g.links u []) e ≤ 1000

-- the ways are whole, and the labels fit them, up to the worth
pub record Standing (b : Board) : Type 0 where
  pub shape : Shape b.grid
  pub fits : Fits (net_of b.grid) (flow_of b.ways) (labels_of b.labels) NoHole
  pub top : b.labels.exit ≤ worth

-- the cell that bears the label below a
abbrev pub onward : Ways → ℕ → ℕ
onward w a = cond (slice_index_or w.used a false) (slice_index w.next a) a
