use Rattle.std.proofs.Common.{ap}
use Rattle.verdict.specs.Judging.{checked}
use Rattle.judge.proofs.Outcomes.{answers_as}
use Rattle.judge.proofs.Parts.{its_columns, its_tolls, put_changes, step_changes, toll_changes}
use Rattle.judge.proofs.gathering.Gathering.take.Goals as goal

pub returns-in-Start : goal.returns-in-Start
returns-in-Start g c = λ g' holds.
    answers_as _ _ _ _ _ (ap (checked c.args.chart.now.host.now g') c.in-Start.is)
    (put_changes _ _ _ g' holds _ _ _ (c.put.ensures g' (its_columns _ _ _ g' holds)))

pub returns-in-Step : goal.returns-in-Step
returns-in-Step g c = λ g' holds.
    answers_as _ _ _ _ _ (ap (checked c.args.chart.now.host.now g') c.in-Step.is)
    (step_changes _ _ _ g' holds _ _ _ (c.step.ensures g' (its_columns _ _ _ g' holds)))

pub returns-in-Toll : goal.returns-in-Toll
returns-in-Toll g c = λ g' holds.
    answers_as _ _ _ _ _ (ap (checked c.args.chart.now.host.now g') c.in-Toll.is)
    (toll_changes _ _ _ g' holds _ _ _ (c.add.ensures g' (its_tolls _ _ _ g' holds)))
