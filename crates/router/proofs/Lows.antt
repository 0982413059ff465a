-- What the labels of a used cell are, on arrays. Assumes nothing.
use Rattle.std.proofs.Common.{ℕ, ◌+◌, ◌<◌, ◌≤◌, get_or, refl, arith}
use Rattle.flow.specs.Nets.{Goes, Bears}
use Rattle.flow.specs.Fits.{Comes, NoHole}
use Rattle.flow.proofs.Bearing as Bearing
use Rattle.router.specs.declared.board.TheConstants.{CELLS}
use Rattle.router.specs.declared.board.Board.{Board}
use Rattle.router.specs.Boards.{Used, net_of, flow_of, Standing}
use Rattle.router.proofs.Cells.{within, lawful}

-- a used cell above the last row goes on to a cell whose label pays for the link and for its own label
module _ (b : Board) (h : Standing b) (u : ℕ) (used : Used b.ways u) (above : u < b.grid.last) where
  abbrev pub next : ℕ
  next = get_or b.ways.next u 0

  goes : Goes (net_of b.grid) (flow_of b.ways) u next
  goes = record { usable = h.fits.flow.usable u used; used = used; not_last = λ l. omega (arith, l); to = refl }

  pub comes : Comes (net_of b.grid) (flow_of b.ways) NoHole u next
  comes = h.fits.flow.goes u next goes

  pub bears : Bears (net_of b.grid) (flow_of b.ways) u next ((net_of b.grid).cost u next)
  bears = Bearing.bears-goes (lawful h.shape) h.fits.flow goes

  pub next_inside : next < CELLS
  next_inside = omega (arith, within h.shape comes.link.to)

  pub next_high : get_or b.labels.into u 0 + get_or b.ways.charge next 0 ≤ get_or b.labels.into next 0
  next_high = omega (arith, Bearing.bears_low h.fits.labels bears, comes.charge)
