-- A record changes the columns or the tolls. Assumes nothing.
use Rattle.std.proofs.Common.{◌≡◌, ℕ, eqb, [], ◌∷◌, ◌++◌, length, Some, None, Ok, Option, Result, sym, refl, ap, ◌∙◌}
use Rattle.std.proofs.lemmas.Bool.{cond_both}
use Rattle.host.specs.declared.Host.{Host}
use Rattle.host.specs.Refusals.{answered}
use Rattle.tariff.specs.Meaning.{Meaning}
use Rattle.plans.specs.Columns.{standing}
use Rattle.routable.specs.Cards.{card_of}
use Rattle.sheet.specs.declared.record.Toll.{Toll}
use Rattle.verdict.specs.declared.fault.CardFault.{CardFault}
use Rattle.verdict.specs.Judging.{Gathered, with_pe, pe_fault, pe_checked, step_checked, with_toll, toll_fault}
use Rattle.judge.specs.declared.columns.GatheredColumns.{GatheredColumns}
use Rattle.judge.specs.declared.gathering.Gathering.{Gathering}
use Rattle.judge.specs.declared.tolls.GatheredTolls.{GatheredTolls}
use Rattle.judge.specs.Gathering.{columns_of, tolls_of, gathering_of, Holds, HoldsColumns, HoldsTolls, AnswersAs}
use Rattle.judge.proofs.Outcomes.{answers_more, given_so}

same-tolls : (h : Host) (g : Gathered) (j : ℕ) (g' : Gathered) → pe_checked h g j ≡ Ok g' → g'.tolls ≡ g.tolls
same-tolls h g j g' e =
    let is : with_pe h g j ≡ g' = given_so (pe_fault h g j) (with_pe h g j) g' e in
    ap (λ (x : Gathered). x.tolls) (sym is)
    ∙ cond_both (eqb (length (g.column ++ j ∷ [])) (standing (card_of h))) _ _ (λ (x : Gathered). x.tolls ≡ g.tolls) (λ t. refl) (λ t. refl)

same-tolls_step : (h : Host) (g : Gathered) (o : Option ℕ) (g' : Gathered) → step_checked h g o ≡ Ok g' → g'.tolls ≡ g.tolls
same-tolls_step h g None g' e = absurd (cc)
same-tolls_step h g (Some j) g' e = same-tolls h g j g' e

module _ (h : Host) (m : Meaning) (s : Gathering) (g : Gathered) (holds : Holds h m s g) where
  pub its_columns : HoldsColumns h m s.columns g
  its_columns = record { valid = holds.valid; is = ap (λ (x : Gathering). x.columns) holds.is }

  pub its_tolls : HoldsTolls h s.tolls g
  its_tolls = record { valid = holds.valid; is = ap (λ (x : Gathering). x.tolls) holds.is }

  module _ (r : Result (Unit {0}) CardFault) where
    columns_change : (columns : GatheredColumns) (d : Result Gathered CardFault) → ((g' : Gathered) → d ≡ Ok g' → g'.tolls ≡ g.tolls) →
        AnswersAs (λ g'. tt {0}) (λ g'. columns ≡ columns_of h m g') r d → AnswersAs (λ g'. tt {0}) (λ g'. record { columns = columns; tolls = s.tolls } ≡ gathering_of h m g') r d
    columns_change columns d same a =
        answers_more (λ g'. tt {0}) _ _ r d (λ g' e is i. record { columns = is i; tolls = (its_tolls.is ∙ ap tolls_of (sym (same g' e))) i }) a

    pub put_changes : (columns : GatheredColumns) (j : ℕ) →
        AnswersAs (λ g'. tt {0}) (λ g'. columns ≡ columns_of h m g') r (pe_checked h g j) →
        AnswersAs (λ g'. tt {0}) (λ g'. record { columns = columns; tolls = s.tolls } ≡ gathering_of h m g') r (pe_checked h g j)
    put_changes columns j = columns_change columns (pe_checked h g j) (same-tolls h g j)

    pub step_changes : (columns : GatheredColumns) (o : Option ℕ) →
        AnswersAs (λ g'. tt {0}) (λ g'. columns ≡ columns_of h m g') r (step_checked h g o) →
        AnswersAs (λ g'. tt {0}) (λ g'. record { columns = columns; tolls = s.tolls } ≡ gathering_of h m g') r (step_checked h g o)
    step_changes columns o = columns_change columns (step_checked h g o) (same-tolls_step h g o)

    pub toll_changes : (tolls : GatheredTolls) (t : Toll) →
        AnswersAs (λ g'. tt {0}) (λ g'. tolls ≡ tolls_of g'.tolls) r (answered (toll_fault h g t) (with_toll g t)) →
        AnswersAs (λ g'. tt {0}) (λ g'. record { columns = s.columns; tolls = tolls } ≡ gathering_of h m g') r (answered (toll_fault h g t) (with_toll g t))
    toll_changes tolls t =
        answers_more (λ g'. tt {0}) _ _ r _
        (λ g' e is i. record { columns = (its_columns.is ∙ ap (columns_of h m) (given_so (toll_fault h g t) (with_toll g t) g' e)) i; tolls = is i })
