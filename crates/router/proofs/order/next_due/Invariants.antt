use Rattle.std.proofs.Common.{ℕ, ◌<◌, ◌≤◌}
use Rattle.router.specs.Searches.{due_of}
use Rattle.router.proofs.order.next_due.Given as goal

abbrev pub invariant-loop-u : goal.invariant-loop-u
invariant-loop-u l = record { soonest : (k : ℕ) → k < l.u → l.soonest ≤ due_of l.search k }
