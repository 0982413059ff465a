use Rattle.std.proofs.Common.{◌-◌, subst, arith}
use Rattle.router.specs.declared.board.TheConstants.{CELLS}
use Rattle.router.specs.Walking.{Walks}
use Rattle.router.proofs.Moves.{rerouted_on}
use Rattle.router.proofs.walk.finish.Goals as goal

pub loop-preserved : goal.loop-preserved
loop-preserved c = record {
  walks = subst (Walks c.step.new.board c.args.search.now c.in-Some.next) (omega arith) (c.in-Some.ensures.steps (CELLS - c.loop.counter) c.loop.invariant.walks);
  others = rerouted_on c.loop.invariant.others c.in-Some.ensures.others;
}

pub returns-in-None : goal.returns-in-None
returns-in-None c = record {
  standing = c.in-None.ensures.steps (CELLS - c.loop.counter) c.loop.invariant.walks;
  others = rerouted_on c.loop.invariant.others c.in-None.ensures.others;
}
