use Rattle.std.proofs.Common.{arith}
use Rattle.std.proofs.lemmas.List.FromFn.{fill_by_all}
use Rattle.masks.specs.Masks.{mask}
use Rattle.host.specs.Maps.{usable}
use Rattle.plans.specs.Held.{at_each}
use Rattle.judge.proofs.chart.usable_by_row.Goals as goal

pub returns : goal.returns
unfolding at_each
returns c = fill_by_all (λ r. mask (usable c.args.host.now r)) c.loop-row.usable 64 0 c.loop-row.invariant.long (λ r l. c.loop-row.invariant.each r (omega arith))
