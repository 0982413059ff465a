use Rattle.verdict.proofs.Laws.{best}
use Rattle.verdict.proofs.accepted_best.Goals as goal

pub returns : goal.returns
returns c = best
