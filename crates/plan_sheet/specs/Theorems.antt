-- The laws of the sheets of plans that are held. Assumes nothing.
use Rattle.std.specs.Prelude.{◌≡◌, ℕ, ◌≤◌, List, length, Ok}
use Rattle.host.specs.declared.Host.{Host}
use Rattle.tariff.specs.Meaning.{Meaning}
use Rattle.plans.specs.declared.held.HeldPlan.{HeldPlan}
use Rattle.plans.specs.Held.{held}
use Rattle.plans.specs.Tolls.{Tolls, Plan}
use Rattle.routable.specs.Cards.{card_of}
use Rattle.verdict.specs.Judging.{judged}
use Rattle.verdict.specs.Sheets.{toll_list}
use Rattle.verdict.specs.Theorems.{LeftToRight}
use Rattle.plan_sheet.specs.Writing.{plan_sheet}

-- the sheet of a plan that is held is accepted, with the plan's columns and tolls
abbrev pub WrittenIsAccepted : Type 0
WrittenIsAccepted =
    (h : Host) (m : Meaning) (toll : Tolls) (f : List (List ℕ)) → Plan (card_of h) m toll f → LeftToRight f →
    judged h m (plan_sheet h (held f toll) (length f)) ≡ Ok (record { columns = f; tolls = toll_list h toll })

-- whatever is held, its sheet has at most 32,844 bytes
abbrev pub WrittenIsShort : Type 0
WrittenIsShort = (h : Host) (p : HeldPlan) (columns : ℕ) → length (plan_sheet h p columns) ≤ 32844
