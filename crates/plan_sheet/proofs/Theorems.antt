-- The laws of the sheets of plans that are held. Assumes nothing.
use Rattle.std.proofs.Common.{◌≡◌, ℕ, zero, suc, ◌<◌, min, cond, ltb, List, [], ◌∷◌, ◌++◌, length, refl, ap, ap₂, ◌∙◌, arith}
use Rattle.std.specs.List.{AllByRecursion}
use Rattle.host.specs.declared.Host.{Host}
use Rattle.plans.specs.Columns.{standing}
use Rattle.plans.specs.Families.{Family}
use Rattle.plans.specs.Held.{held, held_columns, held_tolls}
use Rattle.plans.specs.Tolls.{Tolls}
use Rattle.plans.proofs.ByRows.{few_columns}
use Rattle.plans.proofs.Holding as Holding
use Rattle.routable.specs.Cards.{card_of}
use Rattle.routable.proofs.Cards.{within}
use Rattle.verdict.specs.Judging.{judged}
use Rattle.verdict.specs.Sheets.{tolls_across, tolls_down, records, sheet_of}
use Rattle.verdict.proofs.Complete.{complete}
use Rattle.plan_sheet.specs.Parts.{held_sheet}
use Rattle.plan_sheet.specs.Writing.{plan_sheet}
use Rattle.plan_sheet.specs.Theorems.{WrittenIsAccepted, WrittenIsShort}
use Rattle.plan_sheet.proofs.Parts.{short}
use Rattle.sheet.specs.Records.{all_bytes}

-- tolls that are the same where a card can have PEs are listed alike
module _ (toll other : Tolls) (same : (r j : ℕ) → r < 64 → j < 64 → toll r j ≡ other r j) where
  across_same : (r n : ℕ) → r < 64 → n < 65 → tolls_across toll r n ≡ tolls_across other r n
  unfolding tolls_across
  across_same r zero l few = refl
  across_same r (suc n) l few =
      ap₂ (λ ts a. ts ++ cond (ltb 0 a) (record { row = r; column = n; amount = a } ∷ []) []) (across_same r n l (omega arith)) (same r n l (omega arith))

  down_same : (rows : List ℕ) → AllByRecursion (λ r. r < 64) rows → tolls_down toll rows ≡ tolls_down other rows
  down_same [] low = refl
  down_same (r ∷ rows) low = ap₂ (λ a b. a ++ b) (across_same r 64 low.0 (omega arith)) (down_same rows low.1)

-- what is held of a family with tolls has the family's sheet
held_is_theirs : (h : Host) (toll : Tolls) (f : List (List ℕ)) → Family (card_of h) f → plan_sheet h (held f toll) (length f) ≡ sheet_of h f toll
unfolding held_sheet
held_is_theirs h toll f family =
    let c = card_of h in
    let limits = within h in
    let told = Holding.theorem c toll f limits family in
    let few : min (length f) 64 ≡ length f = omega (arith, few_columns c limits f family.each family.apart) in
    ap₂ (λ g ts. all_bytes (records h g ts))
    (ap (held_columns (held f toll) (standing c)) few ∙ told.0)
    (down_same (held_tolls (held f toll)) toll told.1 c.rows limits.rows_limit)

pub accepted : WrittenIsAccepted
accepted h m toll f plan ordered = ap (judged h m) (held_is_theirs h toll f plan.family) ∙ complete h m toll f plan ordered

pub is_short : WrittenIsShort
is_short h p columns = short h p (min columns 64) (omega arith)
