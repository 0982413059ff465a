-- A PE that is put. Assumes nothing.
use Rattle.std.proofs.Common.{◌≡◌, ℕ, ◌+◌, ◌<◌, true, eqb, List, [], ◌∷◌, ◌++◌, length, get_or, set, Some, None, Ok, Result, sym, refl, ap, ◌∙◌, arith}
use Rattle.std.proofs.lemmas.Bool.{cond-true, cond-false, eq-eqb, ne_eqb}
use Rattle.std.proofs.lemmas.Bool.Decides.{nat_tests}
use Rattle.std.proofs.lemmas.List.{length_push}
use Rattle.host.specs.declared.Host.{Host}
use Rattle.host.specs.Refusals.{answered}
use Rattle.tariff.specs.declared.pe.Pe.{Pe}
use Rattle.tariff.specs.Meaning.{Meaning}
use Rattle.plans.specs.Columns.{Card, standing, row}
use Rattle.plans.specs.Families.{total_charge}
use Rattle.plans.specs.declared.held.HeldRow.{HeldRow}
use Rattle.plans.specs.Held.{held_row, at_each, no_row}
use Rattle.routable.specs.Cards.{card_of}
use Rattle.verdict.specs.declared.fault.CardFault.{CardFault}
use Rattle.verdict.specs.Judging.{Gathered, with_pe, right_of_last, pe_fault, pe_checked}
use Rattle.verdict.proofs.Placing.{last_push}
use Rattle.judge.specs.declared.columns.GatheredColumns.{GatheredColumns}
use Rattle.judge.specs.Gathering.{so_far, last_pe, charge_below, columns_of, HoldsColumns, AnswersAs}
use Rattle.judge.proofs.Outcomes.{answers_ok, allowed_so}
use Rattle.judge.proofs.Cells.{put_cell, trailing}
use Rattle.judge.proofs.Charges.{charged_push, charged_trailing}
use Rattle.judge.proofs.Faults.{full_is, place_is}
use Rattle.judge.proofs.Limits.{room, few_standing}

last_pe-push : (c : Card) (a : List ℕ) (j : ℕ) → last_pe c (a ++ j ∷ []) ≡ Some (record { row = row c (length a); column = j })
last_pe-push c [] j = refl
last_pe-push c (k ∷ ks) j =
    let long : length (ks ++ j ∷ []) ≡ length (k ∷ ks) = omega (arith, length_push ks j) in
    λ i. Some (record { row = row c (long i); column = last_push (k ∷ ks) j i })

-- what was seen to of a PE that is put
record Seen (h : Host) (g : Gathered) (j : ℕ) : Type 0 where
  here : length g.column < standing (card_of h)
  inside : j < h.size.columns
  right : right_of_last g j ≡ true

seen : (h : Host) (g : Gathered) (j : ℕ) → pe_fault h g j ≡ None → Seen h g j
seen h g j e = record { here = grind (arith, nat_tests); inside = grind (arith, nat_tests); right = grind (arith, nat_tests) }

module _ (h : Host) (m : Meaning) (s : GatheredColumns) (g : Gathered) (holds : HoldsColumns h m s g) (j : ℕ) (pe : Pe)
    (e : ◌≡◌ {A = Result Pe CardFault} (Ok pe) (answered (pe_fault h g j) (record { row = row (card_of h) (length g.column); column = j }))) where
  abbrev more : List ℕ
  more = g.column ++ j ∷ []

  so : (pe_fault h g j ≡ None) × (pe ≡ record { row = row (card_of h) (length g.column); column = j })
  so = allowed_so (pe_fault h g j) _ pe e

  v : Seen h g j
  v = seen h g j so.0

  checked : pe_checked h g j ≡ Ok (with_pe h g j)
  checked = ap (λ o. answered o (with_pe h g j)) so.0

  pub row_in : s.place < 64
  row_in = omega (arith, place_is h m s g holds, v.here, few_standing h)

  pub column_in : s.full < 64
  column_in = omega (arith, full_is h m s g holds, room h g holds.valid j v.here (omega (arith, v.inside, h.size.sized.3)) v.right)

  last_is : last_pe (card_of h) more ≡ Some pe
  last_is = last_pe-push (card_of h) g.column j ∙ ap Some (sym so.1)

  rows_put : set s.rows s.place (record { columns = set (get_or s.rows s.place no_row).columns s.full j }) ≡ at_each (held_row (g.columns ++ more ∷ []))
  rows_put =
      ap (λ (x : GatheredColumns). set x.rows x.place (record { columns = set (get_or x.rows x.place no_row).columns x.full j })) holds.is
      ∙ put_cell g.columns g.column j (omega (arith, row_in, place_is h m s g holds)) (omega (arith, column_in, full_is h m s g holds))

  abbrev longer : Gathered
  longer = record { columns = g.columns; column = more; tolls = g.tolls }

  abbrev fuller : Gathered
  fuller = record { columns = g.columns ++ more ∷ []; column = []; tolls = g.tolls }

  -- so many PEs are charged x more
  module _ (x : ℕ) (paid : x ≡ charge_below m s.above pe) where
    charge_put : s.charge + x ≡ total_charge (card_of h) m (g.columns ++ more ∷ [])
    charge_put =
        let before : s.charge ≡ total_charge (card_of h) m (so_far g) = ap (λ (y : GatheredColumns). y.charge) holds.is in
        let same : x ≡ charge_below m (last_pe (card_of h) g.column) (record { row = row (card_of h) (length g.column); column = j }) =
        paid ∙ ap (λ (y : GatheredColumns). charge_below m y.above pe) holds.is ∙ ap (charge_below m (last_pe (card_of h) g.column)) so.1 in
        omega (arith, before, same, charged_push m (card_of h) g.columns g.column j v.here)

    abbrev rows_now : List HeldRow
    rows_now = set s.rows s.place (record { columns = set (get_or s.rows s.place no_row).columns s.full j })

    -- where rows are left, and where none is
    pub goes_on : (s.place + 1 ≡ standing (card_of h) → ⊥) →
        AnswersAs (λ g'. tt {0}) (λ g'. record { rows = rows_now; full = s.full; place = s.place + 1; above = Some pe; charge = s.charge + x } ≡ columns_of h m g') (Ok tt) (pe_checked h g j)
    goes_on ne =
        let len = length_push g.column j in
        let place : s.place + 1 ≡ length more = omega (arith, place_is h m s g holds) in
        let is : with_pe h g j ≡ longer = cond-false (eqb (length more) (standing (card_of h))) fuller longer (ne_eqb _ _ (λ q. ne (place ∙ q))) in
        answers_ok _ _ _ _ longer (checked ∙ ap Ok is) refl
        (λ i. record { rows = rows_put i; full = full_is h m s g holds i; place = place i; above = sym last_is i; charge = charge_put i })

    pub fills : s.place + 1 ≡ standing (card_of h) →
        AnswersAs (λ g'. tt {0}) (λ g'. record { rows = rows_now; full = s.full + 1; place = 0; above = None; charge = s.charge + x } ≡ columns_of h m g') (Ok tt) (pe_checked h g j)
    fills all =
        let len = length_push g.column j in
        let full : s.full + 1 ≡ length fuller.columns = omega (arith, full_is h m s g holds, length_push g.columns more) in
        let place : s.place + 1 ≡ length more = omega (arith, place_is h m s g holds) in
        let is : with_pe h g j ≡ fuller = cond-true (eqb (length more) (standing (card_of h))) fuller longer (eq-eqb _ _ (sym place ∙ all)) in
        answers_ok _ _ _ _ fuller (checked ∙ ap Ok is) refl
        (λ i. record {
          rows = (rows_put ∙ sym (trailing (g.columns ++ more ∷ []))) i;
          full = full i;
          place = 0;
          above = None;
          charge = (charge_put ∙ sym (charged_trailing m (card_of h) (g.columns ++ more ∷ []))) i;
        })
