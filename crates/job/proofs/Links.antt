-- The tariff of jobs is lawful. Assumes nothing.
use Rattle.std.proofs.Common.{arith}
use Rattle.tariff.specs.Meaning.{Lawful}
use Rattle.tariff.specs.Kinds.{links}
use Rattle.tariff.specs.KindLaws.{by_kind_lawful}

pub lawful : Lawful links
lawful = by_kind_lawful 0 1 (omega arith) (omega arith)
