use Rattle.std.proofs.Common.{◌≡◌}
use Rattle.masks.specs.Masks.{mask_below}
use Rattle.host.specs.Maps.{stands}
use Rattle.host.proofs.Host.standing.Given as goal

abbrev pub invariant-loop-i : goal.invariant-loop-i
invariant-loop-i l = l.rows ≡ mask_below (stands l.self) l.i
