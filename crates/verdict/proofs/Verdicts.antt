-- The two tests of a verdict, and what they say of tolls. Assumes nothing.
use Rattle.std.proofs.Common.{◌≡◌, ℕ, Bool, false, ltb, ⊎_elim, arith}
use Rattle.std.proofs.lemmas.Bool.{cases_lt, not-false, not_from_true, ltb-false, le-ltb}
use Rattle.masks.specs.Masks.{none}
use Rattle.masks.proofs.Masks.{mask_empty}
use Rattle.tariff.specs.Meaning.{Meaning}
use Rattle.plans.specs.Columns.{Card, Within}
use Rattle.plans.specs.Least.{least}
use Rattle.plans.specs.Tolls.{Tolls, Underpriced, worth}
use Rattle.plans.proofs.Leasts.{tells}
use Rattle.verdict.specs.Judging.{some_below_worth}

-- some least price is below the worth exactly where some column is
module _ (c : Card) (m : Meaning) (toll : Tolls) (within : Within c) where
  abbrev cheap : ℕ → Bool
  cheap j = ltb (least c m toll j) worth

  pub none-cheap : some_below_worth c m toll ≡ false → Underpriced c m toll → ⊥
  none-cheap e u =
      let j = (tells c m toll within).0 u in
      omega (arith, j.2, ltb-false (least c m toll j.0) worth ((mask_empty cheap).0 (not-false (none cheap) e) j.0 j.1))

  pub all_dear : (Underpriced c m toll → ⊥) → some_below_worth c m toll ≡ false
  all_dear dear =
      not_from_true (none cheap) ((mask_empty cheap).1 (λ j l.
      ⊎_elim (λ low. absurd (dear ((tells c m toll within).1 (j, l, low)))) (λ high. le-ltb (least c m toll j) worth high) (cases_lt (least c m toll j) worth)))
