use Rattle.std.proofs.Common.{◌≡◌, rules, arith}
use Rattle.plans.specs.Least.{last}
use Rattle.judge.proofs.Limits.{low_last}
use Rattle.judge.proofs.columns.GatheredColumns.step.Goals as goal

pub stepped-requires : goal.stepped-requires
stepped-requires g c =
    let from : c.map_or-from.result ≡ last c.requires.0.column = search rules in
    omega (arith, low_last _ _ c.requires.1.valid)
