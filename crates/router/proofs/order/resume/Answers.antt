use Rattle.std.proofs.Common.{sym, subst}
use Rattle.router.specs.Searches.{Begun}
use Rattle.router.proofs.Queues.{begun}
use Rattle.router.proofs.order.resume.Goals as goal

pub follow-requires : goal.follow-requires
follow-requires c = subst (Begun c.args.board.now) (sym c.suggest.ensures) (begun _ c.requires)
