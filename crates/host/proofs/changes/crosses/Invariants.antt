use Rattle.std.proofs.Common.{◌≡◌, true, take}
use Rattle.masks.specs.Masks.{mask_below}
use Rattle.host.specs.Changes.{crossed, drawn}
use Rattle.host.proofs.changes.crosses.Given as goal

abbrev pub invariant-loop-i : goal.invariant-loop-i
invariant-loop-i l = (l.bits ≡ mask_below (crossed l.text) l.i) × (drawn (take l.i l.text) ≡ true)
