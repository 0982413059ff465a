use Rattle.std.proofs.Common.{◌-◌}
use Rattle.router.specs.declared.board.TheConstants.{CELLS}
use Rattle.router.specs.Walking.{Walks, Rerouted}
use Rattle.router.proofs.walk.finish.Given as goal

abbrev pub invariant-loop : goal.invariant-loop
invariant-loop l = record {
  walks : Walks l.board l.search l.hole (CELLS - l.counter);
  others : Rerouted l.initial.board l.board;
}
