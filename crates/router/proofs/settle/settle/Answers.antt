use Rattle.std.proofs.Common.{sym, subst}
use Rattle.router.specs.Searches.{Begun}
use Rattle.router.proofs.Queues.{begun}
use Rattle.router.proofs.Raises.{settled}
use Rattle.router.proofs.settle.settle.Goals as goal

pub returns-clause-settled : goal.returns-clause-settled
returns-clause-settled c = settled c.rest.ensures.begun c.rest.ensures.rests _ c.raise.ensures.into c.raise.ensures.exit

pub rest-requires : goal.rest-requires
rest-requires c = subst (Begun c.args.board.now) (sym c.begin_beside.ensures) (begun _ c.begin.ensures)
