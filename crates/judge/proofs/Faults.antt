-- The faults of a PE, by what the code holds. Assumes nothing.
use Rattle.std.proofs.Common.{◌≡◌, ℕ, ◌-◌, ◌<◌, ◌≤◌, Bool, true, false, ltb, List, [], ◌∷◌, length, get_or, Ok, Err, Result, sym, ap, ◌∙◌, ap₂, arith}
use Rattle.std.proofs.lemmas.Bool.Decides.{nat_tests}
use Rattle.std.proofs.lemmas.List.{get_or_read, get_or_append_left}
use Rattle.host.specs.declared.Host.{Host}
use Rattle.host.specs.Maps.{usable}
use Rattle.host.specs.Refusals.{answered}
use Rattle.plans.specs.Columns.{standing, row}
use Rattle.plans.specs.Held.{no_row}
use Rattle.routable.specs.Cards.{card_of}
use Rattle.tariff.specs.declared.pe.Pe.{Pe}
use Rattle.tariff.specs.Meaning.{Meaning}
use Rattle.verdict.specs.declared.fault.CardFault.{CardFault}
use Rattle.verdict.specs.declared.fault.CardFault.TheVariants.{NotRight}
use Rattle.verdict.specs.Judging.{Gathered, right_of_last, pe_fault}
use Rattle.judge.specs.declared.columns.GatheredColumns.{GatheredColumns}
use Rattle.judge.specs.Gathering.{so_far, HoldsColumns}
use Rattle.judge.proofs.Cells.{cell}
use Rattle.judge.proofs.Lasts.{follow-none, follow-last}
use Rattle.judge.proofs.Limits.{few, few_standing}

-- a row that is looked up by its place
pub row_found : (h : Host) (xs ys : List ℕ) (s k : ℕ) → xs ≡ ys → ys ≡ (card_of h).rows → s < length xs → k ≡ get_or xs s k →
    (s < standing (card_of h)) × (k ≡ row (card_of h) s)
row_found h xs ys s k e d l is = (
  omega (arith, ap (length {A = ℕ}) (e ∙ d)),
  get_or_read xs s k l is 0 ∙ ap (λ (zs : List ℕ). get_or zs s 0) (e ∙ d),
)

-- a PE by its place is that PE by its row
pub usable_there : (h : Host) (s j : ℕ) (pe : Pe) (b : Bool) → b ≡ usable h pe.row pe.column → b ≡ true → pe.row ≡ row (card_of h) s → pe.column ≡ j →
    usable h (row (card_of h) s) j ≡ true
usable_there h s j pe b e on r k = ap₂ (usable h) (sym r) (sym k) ∙ sym e ∙ on

module _ (h : Host) (m : Meaning) (s : GatheredColumns) (g : Gathered) (holds : HoldsColumns h m s g) where
  pub full_is : s.full ≡ length g.columns
  full_is = ap (λ (x : GatheredColumns). x.full) holds.is

  pub place_is : s.place ≡ length g.column
  place_is = ap (λ (x : GatheredColumns). x.place) holds.is

  pub few_full : s.full ≤ 64
  few_full = omega (arith, full_is, few h g holds.valid)

  module _ (j : ℕ) where
    pub right_first : s.full ≡ 0 → right_of_last g j ≡ true
    right_first e = follow-none (λ a k. ltb (get_or a (length g.column) 0) k) g.columns j (sym full_is ∙ e)

    -- right of the last column is right of the PE that is held for it
    pub right_next : 0 < s.full → s.place < standing (card_of h) →
        right_of_last g j ≡ ltb (get_or (get_or s.rows s.place no_row).columns (s.full - 1) 0) j
    right_next some l =
        let n = s.full - 1 in
        let p = length g.column in
        let low : n < 64 = omega (arith, few_full) in
        let row_in : p < 64 = omega (arith, place_is, few_standing h) in
        let there : get_or (get_or (so_far g) n []) p 0 ≡ get_or (get_or g.columns n []) p 0 =
        ap (λ (a : List ℕ). get_or a p 0) (get_or_append_left g.columns (g.column ∷ []) [] n (omega (arith, full_is))) in
        let same : get_or (get_or s.rows s.place no_row).columns n 0 ≡ get_or (get_or g.columns n []) p 0 =
        ap (λ (x : GatheredColumns). get_or (get_or x.rows x.place no_row).columns n 0) holds.is ∙ cell (so_far g) p n row_in low ∙ there in
        follow-last (λ a k. ltb (get_or a p 0) k) g.columns j n [] (omega (arith, full_is)) ∙ ap (λ (k : ℕ). ltb k j) (sym same)

    -- what a usable PE meets, which would be put
    module _ (pe : Pe) (here : s.place < standing (card_of h)) (inside : j < h.size.columns) (use' : usable h (row (card_of h) s.place) j ≡ true) where
      abbrev next : Pe
      next = record { row = row (card_of h) (length g.column); column = j }

      usable_next : usable h (row (card_of h) (length g.column)) j ≡ true
      usable_next = ap (λ (i : ℕ). usable h (row (card_of h) i) j) (sym place_is) ∙ use'

      pub not_right : right_of_last g j ≡ false → ◌≡◌ {A = Result Pe CardFault} (Err NotRight) (answered (pe_fault h g j) next)
      not_right e = let p = place_is in let u = usable_next in grind (arith, nat_tests)

      pub put_next : right_of_last g j ≡ true → pe.row ≡ row (card_of h) s.place → pe.column ≡ j → ◌≡◌ {A = Result Pe CardFault} (Ok pe) (answered (pe_fault h g j) next)
      put_next e r k =
          let p = place_is in
          let u = usable_next in
          let same : pe ≡ next = λ i. record { row = (r ∙ ap (row (card_of h)) p) i; column = k i } in
          let passes : answered (pe_fault h g j) next ≡ Ok next = grind (arith, nat_tests) in
          ap Ok same ∙ sym passes
