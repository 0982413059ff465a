-- What of a map a judge has at hand. Assumes nothing.
use Rattle.std.specs.Prelude.{ℕ, List}
use Rattle.masks.specs.Masks.{mask}
use Rattle.host.specs.declared.Host.{Host}
use Rattle.host.specs.Maps.{usable}
use Rattle.plans.specs.Held.{at_each}

-- the usable PEs of each row, as masks
abbrev pub usable_table : Host → List ℕ
usable_table h = at_each (λ r. mask (usable h r))
