-- What is judged, by what the code has at its end. Assumes nothing.
use Rattle.std.proofs.Common.{◌≡◌, ℕ, ◌^◌, ◌<◌, List, [], ◌∷◌, ◌++◌, length, Ok, Err, sym, ap, ◌∙◌, arith}
use Rattle.host.specs.declared.Host.{Host}
use Rattle.host.specs.Refusals.{answered}
use Rattle.tariff.specs.Meaning.{Meaning}
use Rattle.plans.specs.Families.{total_charge}
use Rattle.plans.specs.Held.{at_each, held_row}
use Rattle.plans.specs.declared.held.HeldPlan.{HeldPlan}
use Rattle.routable.specs.Cards.{card_of}
use Rattle.sheet.specs.Readings.{reading}
use Rattle.verdict.specs.declared.fault.CardFault.{CardFault}
use Rattle.verdict.specs.declared.fault.JudgeFault.TheVariants.{Card}
use Rattle.verdict.specs.Judging.{Gathered, Accepted, blank, gathered, verdict_fault, at_place, settled, judged}
use Rattle.judge.specs.declared.gathering.Gathering.{Gathering}
use Rattle.judge.specs.Gathering.{Holds, AnswersAs}
use Rattle.judge.specs.Judge.{number_and_total, plan_of, judge_answer, plan_after}
use Rattle.judge.proofs.Outcomes.{Given, given, refused_so, allowed_so}
use Rattle.judge.proofs.Cells.{trailing}
use Rattle.judge.proofs.Limits.{few}
use Rattle.judge.proofs.Settlings.{all_charged, full_columns}

module _ (host h : Host) (same : h ≡ host) (m : Meaning) (sheet : List ℕ) (s : Gathering) (at : ℕ)
    (read : AnswersAs (λ p. p.1) (λ p. Holds h m s p.0 × (p.0.column ≡ [])) (Ok at) (gathered h blank (reading sheet))) where
  all : Given (λ p. p.1) (λ p. Holds h m s p.0 × (p.0.column ≡ [])) at (gathered h blank (reading sheet))
  all = given _ _ at (gathered h blank (reading sheet)) read

  abbrev g : Gathered
  g = all.what.0

  abbrev accepted : Accepted
  accepted = record { columns = g.columns; tolls = g.tolls }

  judged_so : judged host m sheet ≡ at_place at (answered (verdict_fault (card_of h) m g) accepted)
  judged_so =
      ap (λ (x : Host). judged x m sheet) (sym same) ∙ ap (settled (card_of h) m) all.is
      ∙ ap (λ (n : ℕ). at_place n (answered (verdict_fault (card_of h) m g) accepted)) (sym all.told)

  -- a fault of the whole
  module _ (f : CardFault) (e : (g' : Gathered) → Holds h m s g' → g'.column ≡ [] → Err f ≡ answered (verdict_fault (card_of h) m g') (tt {0})) where
    is_fault : judged host m sheet ≡ Err (Card f at)
    is_fault = judged_so ∙ ap (at_place at) (refused_so _ _ accepted f (e g all.holds.0 all.holds.1))

    pub refused_answer : Err (Card f at) ≡ judge_answer host m sheet
    refused_answer = sym (ap (number_and_total (card_of host) m) is_fault)

    pub refused_plan : (plan : HeldPlan) → plan ≡ plan_after host m sheet plan
    refused_plan plan = sym (ap (plan_of plan) is_fault)

  -- no fault
  module _ (e : (g' : Gathered) → Holds h m s g' → g'.column ≡ [] → Ok (tt {0}) ≡ answered (verdict_fault (card_of h) m g') (tt {0})) where
    is_accepted : judged host m sheet ≡ Ok accepted
    is_accepted = judged_so ∙ ap (λ o. at_place at (answered o accepted)) (allowed_so (verdict_fault (card_of h) m g) _ _ (e g all.holds.0 all.holds.1)).0

    pub accepted_answer : Ok (s.columns.full, s.columns.charge) ≡ judge_answer host m sheet
    accepted_answer =
        (λ i. Ok (full_columns h m s g all.holds.0 all.holds.1 i, all_charged h m s g all.holds.0 all.holds.1 i))
        ∙ ap (λ (x : Host). Ok (length g.columns, total_charge (card_of x) m g.columns)) same ∙ sym (ap (number_and_total (card_of host) m) is_accepted)

    pub accepted_plan : (plan : HeldPlan) → record { rows = s.columns.rows; tolls = s.tolls.amounts } ≡ plan_after host m sheet plan
    accepted_plan plan =
        (λ i. record {
          rows = (ap (λ (x : Gathering). x.columns.rows) all.holds.0.is ∙ ap (λ (a : List ℕ). at_each (held_row (g.columns ++ a ∷ []))) all.holds.1 ∙ trailing g.columns) i;
          tolls = (ap (λ (x : Gathering). x.tolls.amounts) all.holds.0.is) i;
        })
        ∙ sym (ap (plan_of plan) is_accepted)

  pub few_full : s.columns.full < 2 ^ 32
  few_full = omega (arith, full_columns h m s g all.holds.0 all.holds.1, few h g all.holds.0.valid)
