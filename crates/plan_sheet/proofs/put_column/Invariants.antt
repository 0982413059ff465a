use Rattle.std.proofs.Common.{◌≡◌, ◌++◌}
use Rattle.plan_sheet.specs.Parts.{column_bytes}
use Rattle.plan_sheet.proofs.Parts.{left}
use Rattle.plan_sheet.proofs.put_column.Given as goal

-- with the PEs that are left the column is put
abbrev pub invariant-loop-s : goal.invariant-loop-s
invariant-loop-s l = l.sheet.items ++ left l.plan l.standing l.n l.above l.s ≡ l.initial.sheet.items ++ column_bytes l.plan l.standing l.n
