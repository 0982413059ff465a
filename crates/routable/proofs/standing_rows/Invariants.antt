use Rattle.std.proofs.Common.{◌≡◌, ◌++◌}
use Rattle.masks.specs.Masks.{bit}
use Rattle.masks.specs.Members.{members}
use Rattle.routable.specs.Cards.{card_of}
use Rattle.routable.proofs.standing_rows.Given as goal

abbrev pub invariant-loop-row : goal.invariant-loop-row
invariant-loop-row l = record {
  can_go_on : (goal.iterator-loop-row).can_next l.row-iterator;
  ends : (goal.iterator-loop-row).is_finite l.row-iterator;
  made : l.rows.items ++ members (bit l.row-iterator.left) ≡ (card_of l.host).rows;
}
