use Rattle.std.proofs.Common.{Err, sym, ap, ◌∙◌, arith}
use Rattle.std.proofs.lemmas.Result.{err_from_is_err_and}
use Rattle.judge.specs.declared.tolls.GatheredTolls.{GatheredTolls}
use Rattle.judge.proofs.Outcomes.{answers_err, refused_so}
use Rattle.judge.proofs.TollTables.{small_sum, added}
use Rattle.judge.proofs.tolls.GatheredTolls.add.Goals as goal

pub returns-in_err-check : goal.returns-in_err-check
returns-in_err-check c = λ g holds.
    let p = err_from_is_err_and c.from_residual.result c.from_residual.ensures.1 in
    answers_err _ _ _ _ p.0 (refused_so _ _ _ _ (c.in_err-check.ensures g holds.is) ∙ ap Err (sym p.2)) p.1

pub overflow_add-self : goal.overflow_add-self
overflow_add-self c =
    let holds = c.requires.1 in
    omega (arith, ap (λ (s : GatheredTolls). s.sum) holds.is, small_sum c.args.chart.now.host.now c.requires.0 holds.valid)

pub returns : goal.returns
returns c = λ g holds.
    added _ _ g holds c.args.pe c.args.amount (c.in_ok-check.ensures g holds.is) _ _ _ c.from.ensures c.from-2.ensures c.from-3.ensures
