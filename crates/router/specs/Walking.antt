-- What a walk keeps. Assumes nothing.
use Rattle.std.specs.Prelude.{◌≡◌, ℕ, ◌<◌, false, cond, Option, MatchOption, nat_lt, slice_index_or}
use Rattle.flow.specs.Nets.{Flow}
use Rattle.flow.specs.Walks.{Settled, Walk}
use Rattle.plans.specs.Tolls.{worth, sum_below}
use Rattle.router.specs.declared.search.Search.{Search}
use Rattle.router.specs.declared.board.TheConstants.{CELLS}
use Rattle.router.specs.declared.board.Board.{Board}
use Rattle.router.specs.Boards.{net_of, flow_of, labels_of, Shape, Standing}
use Rattle.router.specs.Searches.{marks_of}

-- how many cells were lowered before w
abbrev pub earlier : (ℕ → ℕ) → ℕ → ℕ
earlier stamp w = sum_below CELLS (λ u. cond (nat_lt (stamp u) (stamp w)) 1 0)

-- there is a hole at w, and less than n moves are still to come
pub record Walks (b : Board) (s : Search) (w n : ℕ) : Type 0 where
  pub shape : Shape b.grid
  pub room : b.labels.exit < worth
  pub before : Flow ℕ
  pub stamp : ℕ → ℕ
  pub clock : ℕ
  pub settled : Settled (net_of b.grid) before (labels_of b.labels) worth (marks_of s stamp clock)
  pub walk : Walk (net_of b.grid) before (labels_of b.labels) (marks_of s stamp clock) (flow_of b.ways) w
  pub few : earlier stamp w < n

-- after a move: the walk is done, or it goes on
abbrev pub Stepped : Board → Search → ℕ → Option ℕ → Type 0
Stepped b s n next = MatchOption next (Standing b) (λ x. Walks b s x n)

-- how many cells of the last row are not used
abbrev pub spare : Board → ℕ
spare b = sum_below CELLS (λ u. cond (nat_lt u b.grid.last) 0 (cond (slice_index_or b.ways.used u false) 0 1))

-- only ways are changed, and as few cells of the last row are used
pub record Rerouted (b z : Board) : Type 0 where
  pub spare : spare z ≡ spare b
  pub others : z ≡ record b { ways = z.ways }
