use Rattle.tariff.specs.HeatsLemmas.{no_heat_range}
use Rattle.tariff.proofs.heat.Heat.new.Goals as goal

pub invariant_of-result : goal.invariant_of-result
invariant_of-result g c = record { in_range = no_heat_range 64 64 }
