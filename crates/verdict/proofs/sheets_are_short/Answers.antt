use Rattle.verdict.proofs.Written.{short}
use Rattle.verdict.proofs.sheets_are_short.Goals as goal

pub returns : goal.returns
returns c = short
