use Rattle.std.proofs.Common.{◌≡◌, ◌++◌}
use Rattle.plans.specs.Held.{held_tolls}
use Rattle.plan_sheet.proofs.Parts.{up_to}
use Rattle.plan_sheet.proofs.put_tolls.Given as goal

abbrev pub invariant-loop-column : goal.invariant-loop-column
invariant-loop-column l = l.sheet.items ≡ l.initial.sheet.items ++ up_to (held_tolls l.plan) l.row l.column
