use Rattle.verdict.proofs.Laws.{is_run}
use Rattle.verdict.proofs.plan_is_run.Goals as goal

pub returns : goal.returns
returns c = is_run
