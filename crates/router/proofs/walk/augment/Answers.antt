use Rattle.std.proofs.Common.{arith}
use Rattle.router.proofs.Moves as Moves
use Rattle.router.proofs.walk.augment.Goals as goal

pub finish-requires : goal.finish-requires
finish-requires c = Moves.begins c.requires.settled c.requires.room _ c.open.ensures

pub returns-clause-fewer : goal.returns-clause-fewer
returns-clause-fewer c = omega (arith, Moves.one_less c.requires.settled c.requires.room _ c.open.ensures, c.finish.ensures.others.spare)
