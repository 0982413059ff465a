use Rattle.std.proofs.Common.{◌≡◌, map}
use Rattle.card.specs.Piles.{warm_rows}
use Rattle.card.proofs.pile.pile.Given as goal

abbrev pub invariant-loop-row : goal.invariant-loop-row
invariant-loop-row l = (l.heat.below ≡ l.initial.heat.below) × (l.heat.heats ≡ warm_rows (map (λ line. line.now) l.lines) l.row)
