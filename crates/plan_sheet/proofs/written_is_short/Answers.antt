use Rattle.plan_sheet.proofs.Theorems.{is_short}
use Rattle.plan_sheet.proofs.written_is_short.Goals as goal

pub returns : goal.returns
returns c = is_short
