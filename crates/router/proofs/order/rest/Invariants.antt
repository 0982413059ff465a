use Rattle.router.specs.Searches.{Begun, work}
use Rattle.router.proofs.order.rest.Given as goal

abbrev pub invariant-loop-search : goal.invariant-loop-search
invariant-loop-search l = Begun l.board l.search

abbrev pub decreases-loop-search : goal.decreases-loop-search
decreases-loop-search l = work l.search
