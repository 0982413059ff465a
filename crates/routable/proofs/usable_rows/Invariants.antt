use Rattle.std.proofs.Common.{◌≡◌, ◌++◌, map}
use Rattle.masks.specs.Masks.{bit, mask}
use Rattle.masks.specs.Members.{members}
use Rattle.host.specs.Maps.{usable}
use Rattle.plans.specs.Masked.{usable_rows}
use Rattle.routable.specs.Cards.{card_of}
use Rattle.routable.proofs.usable_rows.Given as goal

abbrev pub invariant-loop-row : goal.invariant-loop-row
invariant-loop-row l = record {
  can_go_on : (goal.iterator-loop-row).can_next l.row-iterator;
  ends : (goal.iterator-loop-row).is_finite l.row-iterator;
  made : l.rows.items ++ map (λ r. mask (usable l.host r)) (members (bit l.row-iterator.left)) ≡ usable_rows (card_of l.host);
}
