use Rattle.std.proofs.Common.{arith}
use Rattle.judge.proofs.Judgings.{refused_answer, refused_plan, accepted_answer, accepted_plan, few_full}
use Rattle.judge.proofs.judge.Goals as goal

pub returns-in-Err-clause-answer : goal.returns-in-Err-clause-answer
returns-in-Err-clause-answer g c = refused_answer _ _ c.of-chart.ensures _ _ _ _ c.in_ok-at.ensures c.in-Err.fault c.in-Err.ensures

pub returns-in-Err-clause-plan : goal.returns-in-Err-clause-plan
returns-in-Err-clause-plan g c = refused_plan _ _ c.of-chart.ensures _ _ _ _ c.in_ok-at.ensures c.in-Err.fault c.in-Err.ensures c.args.plan.now

pub overflow_cast-result : goal.overflow_cast-result
overflow_cast-result g c = omega (arith, few_full _ _ c.of-chart.ensures _ _ _ _ c.in_ok-at.ensures)

pub returns-clause-answer : goal.returns-clause-answer
returns-clause-answer g c = accepted_answer _ _ c.of-chart.ensures _ _ _ _ c.in_ok-at.ensures c.in_default.ensures

pub returns-clause-plan : goal.returns-clause-plan
returns-clause-plan g c = accepted_plan _ _ c.of-chart.ensures _ _ _ _ c.in_ok-at.ensures c.in_default.ensures c.args.plan.now
