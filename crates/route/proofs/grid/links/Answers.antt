use Rattle.route.proofs.Links.{begins}
use Rattle.route.proofs.grid.links.Goals as goal

pub loop-s-init : goal.loop-s-init
loop-s-init g c = begins (g.T.Tariff.meaning c.args.tariff.now) c.args.rows.now
