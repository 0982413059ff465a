use Rattle.std.proofs.Common.{◌≡◌, ◌≤◌, ◌+◌, length}
use Rattle.sheet.specs.Extents.{extent}
use Rattle.sheet.proofs.extent.extent.Given as goal

-- a sheet reaches as far as what was passed and a sheet at the front of what is left
abbrev pub invariant-loop-kind : goal.invariant-loop-kind
invariant-loop-kind l =
    (length l.left ≤ length l.bytes) × (extent l.bytes + length l.left ≡ length l.bytes + extent l.left)

abbrev pub decreases-loop-kind : goal.decreases-loop-kind
decreases-loop-kind l = length l.left
