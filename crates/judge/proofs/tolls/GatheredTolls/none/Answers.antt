use Rattle.std.proofs.Common.{None, sym, ap, ◌∙◌}
use Rattle.plans.specs.Held.{at_each}
use Rattle.plans.proofs.Holding.{at_each_same}
use Rattle.judge.proofs.tolls.GatheredTolls.none.Goals as goal

pub returns : goal.returns
returns c = λ i. record {
  amounts = sym (ap (λ row. at_each (λ r. row)) (at_each_same 0) ∙ at_each_same _) i;
  last = None;
  sum = 0;
}
