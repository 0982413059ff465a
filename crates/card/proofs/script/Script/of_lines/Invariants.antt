use Rattle.std.proofs.Common.{◌≡◌, ◌≤◌, take}
use Rattle.card.specs.Scripts.{pictures}
use Rattle.card.proofs.script.Script.of_lines.Given as goal

abbrev pub invariant-loop-row : goal.invariant-loop-row
invariant-loop-row l = (l.script.1.0 ≤ 72) × (take l.script.1.0 l.script.0 ≡ pictures (take l.row l.lines))
