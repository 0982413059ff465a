use Rattle.std.proofs.Common.{◌≡◌}
use Rattle.router.proofs.order.suggest.Given as goal

abbrev pub invariant-loop-u : goal.invariant-loop-u
invariant-loop-u l = record { same : l.search ≡ record l.fn.search { queue = l.search.queue } }
