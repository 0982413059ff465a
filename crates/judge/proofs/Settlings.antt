-- The verdict on a sheet that was read whole. Assumes nothing.
use Rattle.std.proofs.Common.{◌≡◌, ℕ, ◌+◌, ◌*◌, ◌<◌, ◌≤◌, Bool, true, false, ◌↔◌, List, [], ◌∷◌, ◌++◌, length, get_or, Ok, Err, Result, sym, ap, ◌∙◌, subst₂, inl, inr, arith}
use Rattle.std.specs.Bool.{IsTrue}
use Rattle.std.proofs.lemmas.Bool.{cases_Bool, cases_lt, both_ways, eq-eqb, ne_eqb}
use Rattle.std.proofs.lemmas.Bool.Decides.{nat_tests}
use Rattle.std.proofs.lemmas.List.{get_or_past}
use Rattle.masks.specs.Masks.{mask}
use Rattle.host.specs.declared.Host.{Host}
use Rattle.host.specs.Maps.{usable, stands}
use Rattle.host.specs.Refusals.{answered}
use Rattle.host.proofs.Rows.{no_row, no_column}
use Rattle.tariff.specs.Meaning.{Meaning, in_grid}
use Rattle.plans.specs.Columns.{Card}
use Rattle.plans.specs.Families.{total, total_charge}
use Rattle.plans.specs.Held.{at_each}
use Rattle.plans.specs.Masked.{masked, toll_table}
use Rattle.plans.specs.Tolls.{Tolls, Underpriced, worth}
use Rattle.plans.proofs.Cards.{is_card}
use Rattle.plans.proofs.Holding.{length_at_each, at_each_at}
use Rattle.routable.specs.Cards.{card_of}
use Rattle.routable.proofs.Cards.{within}
use Rattle.sheet.specs.declared.record.Toll.{Toll}
use Rattle.verdict.specs.declared.fault.CardFault.{CardFault}
use Rattle.verdict.specs.declared.fault.CardFault.TheVariants.{Underpriced as TooCheap, WrongSum}
use Rattle.verdict.specs.Judging.{Gathered, toll_of, some_below_worth, adds_up, verdict_fault}
use Rattle.verdict.proofs.Hosts.{low_rows, narrow}
use Rattle.verdict.proofs.Lists.{all_in}
use Rattle.verdict.proofs.TollLists.{Payable, Listed, at_in}
use Rattle.verdict.proofs.Verdicts.{none-cheap, all_dear}
use Rattle.judge.specs.declared.gathering.Gathering.{Gathering}
use Rattle.judge.specs.Charts.{usable_table}
use Rattle.judge.specs.Gathering.{Holds}
use Rattle.judge.proofs.Charges.{charged_trailing}

-- a map's tables are its card
pub table_card : (h : Host) (standing : ℕ) (masks : List ℕ) → standing ≡ mask (stands h) → masks ≡ usable_table h → masked standing masks ≡ card_of h
table_card h standing masks stand drawn =
    ap (λ (m : ℕ). masked m masks) stand ∙ ap (masked (mask (stands h))) drawn
    ∙ is_card (stands h) (usable h) (usable_table h) (length_at_each (λ r. mask (usable h r))) (λ r l. at_each_at (λ r. mask (usable h r)) 0 r l) outside
  where
    outside : (r j : ℕ) → in_grid r j ≡ false → usable h r j ≡ false
    outside r j off = elim (cases_lt r 64) [
      | inl low ↦
          let right : 64 ≤ j = grind (arith, nat_tests) in
          no_column h r j (omega (arith, h.size.sized.3))
      | inr high ↦ no_row h r (omega (arith, h.size.sized.1)) j
    ]

-- and its table of tolls has each of them
module _ (h : Host) (ts : List Toll) (listed : Listed (card_of h) ts) where
  within_grid : (r j : ℕ) → 0 < toll_of ts r j → (r < 64) × (j < 64)
  within_grid r j some =
      let p = all_in (Payable (card_of h)) _ ts listed.each (at_in ts r j some) in
      (all_in (λ q. q < 64) r (card_of h).rows (low_rows h) p.in_row, narrow h r j p.usable)

  same_toll : (r j : ℕ) → toll_table (at_each (λ q. at_each (toll_of ts q))) r j ≡ toll_of ts r j
  same_toll r j = elim (cases_lt r 64) [
    | inl low ↦ ap (λ (xs : List ℕ). get_or xs j 0) (at_each_at (λ q. at_each (toll_of ts q)) [] r low) ∙ elim (cases_lt j 64) [
      | inl left ↦ at_each_at (toll_of ts r) 0 j left
      | inr right ↦
          get_or_past (at_each (toll_of ts r)) j 0 (omega (arith, length_at_each (toll_of ts r)))
          ∙ none (toll_of ts r j) (λ some. omega (arith, (within_grid r j some).1))
    ]
    | inr high ↦
        ap (λ (xs : List ℕ). get_or xs j 0) (get_or_past (at_each (λ q. at_each (toll_of ts q))) r [] (omega (arith, length_at_each (λ q. at_each (toll_of ts q)))))
        ∙ none (toll_of ts r j) (λ some. omega (arith, (within_grid r j some).0))
  ]
    where
      none : (n : ℕ) → (0 < n → ⊥) → 0 ≡ n
      none n never = grind arith

  pub same_tolls : toll_table (at_each (λ q. at_each (toll_of ts q))) ≡ toll_of ts
  same_tolls = λ i r j. same_toll r j i

module _ (h : Host) (m : Meaning) (s : Gathering) (g : Gathered) (holds : Holds h m s g) (empty : g.column ≡ []) where
  abbrev c : Card
  c = card_of h

  -- of what code tells of its tables
  module _ (standing : ℕ) (masks : List ℕ) (stand : standing ≡ mask (stands h)) (drawn : masks ≡ usable_table h) (b : Bool)
      (told : IsTrue b ↔ Underpriced (masked standing masks) m (toll_table s.tolls.amounts)) where
    told_of_card : IsTrue b ↔ Underpriced c m (toll_of g.tolls)
    told_of_card =
        subst₂ (λ (x : Card) (y : Tolls). IsTrue b ↔ Underpriced x m y) (table_card h standing masks stand drawn)
        (ap (λ (x : Gathering). toll_table x.tolls.amounts) holds.is ∙ same_tolls h g.tolls holds.valid.listed) told

    pub cheap_is : some_below_worth c m (toll_of g.tolls) ≡ b
    cheap_is = elim (cases_Bool b) [
      | inl below ↦ elim (cases_Bool (some_below_worth c m (toll_of g.tolls))) [
        | inl cheap ↦ cheap ∙ sym below
        | inr dear ↦ absurd (none-cheap c m (toll_of g.tolls) (within h) dear (told_of_card.0 below))
      ]
      | inr off ↦ all_dear c m (toll_of g.tolls) (within h) (λ u. both_ways b off (told_of_card.1 u)) ∙ sym off
    ]

  pub all_charged : s.columns.charge ≡ total_charge c m g.columns
  all_charged =
      ap (λ (x : Gathering). x.columns.charge) holds.is ∙ ap (λ (a : List ℕ). total_charge c m (g.columns ++ a ∷ [])) empty ∙ charged_trailing m c g.columns

  sum_is : s.tolls.sum + s.columns.charge ≡ total (λ t. t.amount) g.tolls + total_charge c m g.columns
  sum_is = omega (arith, all_charged, ap (λ (x : Gathering). x.tolls.sum) holds.is)

  pub full_columns : s.columns.full ≡ length g.columns
  full_columns = ap (λ (x : Gathering). x.columns.full) holds.is

  abbrev answer : Result (Unit {0}) CardFault
  answer = answered (verdict_fault c m g) (tt {0})

  pub too_cheap : some_below_worth c m (toll_of g.tolls) ≡ true → Err TooCheap ≡ answer
  too_cheap cheap = grind (arith, nat_tests)

  pub wrong_sum : some_below_worth c m (toll_of g.tolls) ≡ false → (s.tolls.sum + s.columns.charge ≡ worth * s.columns.full → ⊥) → Err WrongSum ≡ answer
  wrong_sum dear ne =
      let off : adds_up c m g ≡ false = ne_eqb _ _ (λ e. ne (omega (arith, sum_is, full_columns))) in
      grind (arith, nat_tests)

  pub all_right : some_below_worth c m (toll_of g.tolls) ≡ false → s.tolls.sum + s.columns.charge ≡ worth * s.columns.full → Ok (tt {0}) ≡ answer
  all_right dear e =
      let on : adds_up c m g ≡ true = eq-eqb _ _ (omega (arith, sum_is, full_columns)) in
      grind (arith, nat_tests)
