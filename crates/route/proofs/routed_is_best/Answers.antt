use Rattle.route.proofs.Makings as Makings
use Rattle.route.proofs.routed_is_best.Goals as goal

pub returns : goal.returns
returns c = Makings.best
