use Rattle.std.proofs.Common.{◌≡◌}
use Rattle.router.specs.Searches.{Settled}
use Rattle.router.specs.Walking.{spare}
use Rattle.router.proofs.solve.Given as goal

abbrev pub invariant-loop-board : goal.invariant-loop-board
invariant-loop-board l = record { settled : Settled l.board l.search; grid : l.board.grid ≡ l.fn.board.grid }

abbrev pub decreases-loop-board : goal.decreases-loop-board
decreases-loop-board l = spare l.board
