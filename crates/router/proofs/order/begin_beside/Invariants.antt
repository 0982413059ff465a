use Rattle.std.proofs.Common.{◌≡◌}
use Rattle.router.proofs.order.begin_beside.Given as goal

abbrev pub invariant-loop-k : goal.invariant-loop-k
invariant-loop-k l = record { same : l.search ≡ record l.fn.search { queue = l.search.queue } }
