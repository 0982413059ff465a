use Rattle.std.proofs.Common.{arith}
use Rattle.router.proofs.Descents.{begins, goes_on}
use Rattle.router.proofs.descent.descents.Goals as goal

pub loop-k-init : goal.loop-k-init
loop-k-init c = begins c.requires

pub loop-k-preserved : goal.loop-k-preserved
loop-k-preserved c = goes_on c.requires c.loop-k.least _ c.loop-k.k _ (omega arith) (omega (arith, c.requires.rows, c.loop-k.invariant.long)) c.descent.ensures c.loop-k.invariant
