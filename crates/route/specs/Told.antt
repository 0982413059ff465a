-- What a board tells: the columns of its ways, and tolls. Assumes nothing.
use Rattle.std.specs.Prelude.{ℕ, cond, List, map, position, nat_lt, ◌==◌}
use Rattle.std.specs.Option.{option_map_or}
use Rattle.masks.specs.Members.{passing}
use Rattle.plans.specs.Potentials.{follow}
use Rattle.plans.specs.Tolls.{Tolls}
use Rattle.router.specs.declared.board.Board.{Board}
use Rattle.router.specs.Tolls.{toll_of}
use Rattle.route.specs.Holds.{cell, flow_by}

-- the physical columns where ways start, left to right
abbrev pub first_columns : Board → List ℕ
first_columns b = passing ((flow_by b.ways).used 0) 64

-- their cells
abbrev pub first_cells : Board → List ℕ
first_cells b = map (cell 0) (first_columns b)

-- the columns of the ways through the first rows, so many of them
abbrev pub columns : Board → ℕ → List (List ℕ)
columns b rows = map (follow (flow_by b.ways) rows 0) (first_columns b)

-- the toll of a PE: that of its cell, by the place of its row among the standing rows; 0 where its row does not stand
abbrev pub told : List ℕ → Board → Tolls
told rows b r j = cond (nat_lt j 64) (option_map_or (λ s. toll_of b (cell s j)) (position (λ q. q == r) rows) 0) 0
