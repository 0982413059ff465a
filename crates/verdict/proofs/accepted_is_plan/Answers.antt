use Rattle.verdict.proofs.Laws.{is_plan}
use Rattle.verdict.proofs.accepted_is_plan.Goals as goal

pub returns : goal.returns
returns c = is_plan
