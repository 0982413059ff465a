use Rattle.verdict.proofs.Laws.{of_best}
use Rattle.verdict.proofs.sheets_of_best.Goals as goal

pub returns : goal.returns
returns c = of_best
