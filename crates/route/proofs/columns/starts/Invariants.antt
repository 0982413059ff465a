use Rattle.std.proofs.Common.{◌≡◌, ◌-◌, map}
use Rattle.masks.specs.Members.{passing}
use Rattle.route.specs.Holds.{cell, flow_by}
use Rattle.route.proofs.columns.starts.Given as goal

abbrev pub invariant-loop-u : goal.invariant-loop-u
invariant-loop-u l = l.cells.items ≡ map (cell 0) (passing ((flow_by l.board.ways).used 0) (l.u - 1))
