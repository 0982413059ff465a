use Rattle.std.proofs.Common.{◌+◌, ◌-◌, ◌*◌}
use Rattle.route.proofs.Links.{LaidTo}
use Rattle.route.proofs.grid.links.Given as goal

abbrev pub invariant-loop-s : goal.invariant-loop-s
invariant-loop-s g l = LaidTo (g.T.Tariff.meaning l.tariff) l.rows l.links ((l.s - 1) * 66)

abbrev pub invariant-loop-place : goal.invariant-loop-place
invariant-loop-place g l = LaidTo (g.T.Tariff.meaning l.tariff) l.rows l.links ((l.s - 1) * 66 + l.place)
