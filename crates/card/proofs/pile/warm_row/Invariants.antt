use Rattle.std.proofs.Common.{◌≡◌}
use Rattle.card.specs.Piles.{warm_row}
use Rattle.card.proofs.pile.warm_row.Given as goal

abbrev pub invariant-loop-column : goal.invariant-loop-column
invariant-loop-column l = (l.heat.below ≡ l.fn.heat.below) × (l.heat.heats ≡ warm_row l.fn.heat.heats l.row l.line l.column)
