-- What the judge answers, and the plan that it leaves. Assumes nothing.
use Rattle.std.specs.Prelude.{ℕ, List, length, Ok, Err, Result}
use Rattle.host.specs.declared.Host.{Host}
use Rattle.tariff.specs.Meaning.{Meaning}
use Rattle.plans.specs.Columns.{Card}
use Rattle.plans.specs.Families.{total_charge}
use Rattle.plans.specs.Held.{held}
use Rattle.plans.specs.declared.held.HeldPlan.{HeldPlan}
use Rattle.routable.specs.Cards.{card_of}
use Rattle.verdict.specs.declared.fault.JudgeFault.{JudgeFault}
use Rattle.verdict.specs.Judging.{Accepted, judged, toll_of}

-- of an accepted sheet the number of columns and the total charge
abbrev pub number_and_total : Card → Meaning → Result Accepted JudgeFault → Result (ℕ × ℕ) JudgeFault
number_and_total c m (Err x) = Err x
number_and_total c m (Ok a) = Ok (length a.columns, total_charge c m a.columns)

-- its columns and tolls are the plan; a refused sheet leaves the plan that was there
abbrev pub plan_of : HeldPlan → Result Accepted JudgeFault → HeldPlan
plan_of before (Err x) = before
plan_of before (Ok a) = held a.columns (toll_of a.tolls)

abbrev pub judge_answer : Host → Meaning → List ℕ → Result (ℕ × ℕ) JudgeFault
judge_answer h m sheet = number_and_total (card_of h) m (judged h m sheet)

abbrev pub plan_after : Host → Meaning → List ℕ → HeldPlan → HeldPlan
plan_after h m sheet before = plan_of before (judged h m sheet)
