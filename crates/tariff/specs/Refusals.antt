-- The numbers under which a call on a tariff is refused. Assumes nothing.
use Rattle.std.specs.Prelude.{ℕ}
use Rattle.tariff.specs.declared.Refusal.{Refusal}
use Rattle.tariff.specs.declared.Refusal.TheVariants.{OutsideGrid, WireOutOfRange}

-- a PE outside rows and columns 0 to 63 has number 2, a wire length out of its range 23
abbrev pub number : Refusal → ℕ
number OutsideGrid = 2
number WireOutOfRange = 23
