use Rattle.std.proofs.Common.{◌≡◌, ◌++◌}
use Rattle.masks.specs.Masks.{bit}
use Rattle.masks.specs.Members.{members}
use Rattle.plan_sheet.specs.Parts.{held_sheet}
use Rattle.plan_sheet.proofs.Parts.{columns_left, tolls_left}
use Rattle.plan_sheet.proofs.sheet_of.Given as goal

abbrev pub invariant-loop-n : goal.invariant-loop-n
invariant-loop-n l = l.sheet.items ++ columns_left l.host l.plan l.columns l.n ≡ held_sheet l.host l.plan l.columns

abbrev pub invariant-loop-row : goal.invariant-loop-row
invariant-loop-row l = record {
  can_go_on : (goal.iterator-loop-row).can_next l.row-iterator;
  ends : (goal.iterator-loop-row).is_finite l.row-iterator;
  put : l.sheet.items ++ tolls_left l.plan (members (bit l.row-iterator.left)) ≡ held_sheet l.host l.plan l.columns;
}
