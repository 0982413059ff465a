use Rattle.verdict.proofs.Laws.{again}
use Rattle.verdict.proofs.accepted_again.Goals as goal

pub returns : goal.returns
returns c = again
