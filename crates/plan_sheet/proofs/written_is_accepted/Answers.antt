use Rattle.plan_sheet.proofs.Theorems.{accepted}
use Rattle.plan_sheet.proofs.written_is_accepted.Goals as goal

pub returns : goal.returns
returns c = accepted
