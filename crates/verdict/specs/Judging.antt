-- The judge of a sheet: whether it is a plan for a map, under a tariff. Assumes nothing.
use Rattle.std.specs.Prelude.{ℕ, ◌+◌, ◌-◌, ◌*◌, Bool, true, cond, not, ◌&&◌, ◌||◌, List, [], ◌∷◌, ◌++◌, length, Some, None, Ok, Err, Option, Result, ◌==◌, nat_le, nat_lt, slice_index}
use Rattle.masks.specs.Masks.{mask, none}
use Rattle.host.specs.declared.Host.{Host}
use Rattle.host.specs.Maps.{usable, stands}
use Rattle.host.specs.Refusals.{refuse, answered}
use Rattle.tariff.specs.Meaning.{Meaning}
use Rattle.plans.specs.Columns.{Card, standing, row}
use Rattle.plans.specs.Families.{total, total_charge}
use Rattle.plans.specs.Least.{least, last}
use Rattle.plans.specs.Tolls.{Tolls, worth}
use Rattle.routable.specs.Cards.{card_of}
use Rattle.sheet.specs.declared.record.Head.{Head}
use Rattle.sheet.specs.declared.record.Record.{Record}
use Rattle.sheet.specs.declared.record.Record.TheVariants as r
use Rattle.sheet.specs.declared.record.Step.{Step}
use Rattle.sheet.specs.declared.record.Step.TheVariants.{Left, Straight, Right}
use Rattle.sheet.specs.declared.record.Toll.{Toll}
use Rattle.sheet.specs.Readings.{Reading, stops, ends, then, reading}
use Rattle.verdict.specs.declared.fault.CardFault.{CardFault}
use Rattle.verdict.specs.declared.fault.CardFault.TheVariants.{OtherCard, OutsideHost, NotUsable, NotRight, TollPlace, TollOrder, TollAmount, Underpriced, WrongSum}
use Rattle.verdict.specs.declared.fault.JudgeFault.{JudgeFault}
use Rattle.verdict.specs.declared.fault.JudgeFault.TheVariants.{Sheet, Card as OfCard}

-- what is gathered of a sheet so far: the full columns, the PEs of a column that is not full, and the tolls
pub record Gathered : Type 0 where
  pub columns : List (List ℕ)
  pub column : List ℕ
  pub tolls : List Toll

abbrev pub blank : Gathered
blank = record { columns = []; column = []; tolls = [] }

-- y may come after the last of a list
abbrev pub may_follow : {X Y : Type 0} → (X → Y → Bool) → List X → Y → Bool
may_follow test [] y = true
may_follow test (x ∷ []) y = test x y
may_follow test (x ∷ x' ∷ xs) y = may_follow test (x' ∷ xs) y

-- the head is the map's
abbrev pub same_head : Host → Head → Bool
same_head h x = x.rows == h.size.rows && (x.columns == h.size.columns && x.standing == mask (stands h))

-- one PE more, in physical column j of the next standing row
abbrev pub with_pe : Host → Gathered → ℕ → Gathered
with_pe h g j =
    cond (length (g.column ++ j ∷ []) == standing (card_of h))
    (record g { columns = g.columns ++ (g.column ++ j ∷ []) ∷ []; column = [] })
    (record g { column = g.column ++ j ∷ [] })

-- it is right of the preceding column's PE in that row
abbrev pub right_of_last : Gathered → ℕ → Bool
right_of_last g j = may_follow (λ a k. nat_lt (slice_index a (length g.column)) k) g.columns j

abbrev pub pe_fault : Host → Gathered → ℕ → Option CardFault
pe_fault h g j =
    refuse (not (nat_lt (length g.column) (standing (card_of h)) && nat_lt j h.size.columns)) OutsideHost
    (refuse (not (usable h (row (card_of h) (length g.column)) j)) NotUsable
    (refuse (not (right_of_last g j)) NotRight None))

abbrev pub pe_checked : Host → Gathered → ℕ → Result Gathered CardFault
pe_checked h g j = answered (pe_fault h g j) (with_pe h g j)

-- where a step leads from physical column j: left of column 0 there is nothing
abbrev pub stepped : Step → ℕ → Option ℕ
stepped Left j = cond (j == 0) None (Some (j - 1))
stepped Straight j = Some j
stepped Right j = Some (j + 1)

abbrev pub step_checked : Host → Gathered → Option ℕ → Result Gathered CardFault
step_checked h g None = Err OutsideHost
step_checked h g (Some j) = pe_checked h g j

-- one toll before another, by row, then column
abbrev pub before : Toll → Toll → Bool
before d e = nat_lt d.row e.row || (d.row == e.row && nat_lt d.column e.column)

abbrev pub with_toll : Gathered → Toll → Gathered
with_toll g t = record g { tolls = g.tolls ++ t ∷ [] }

-- a toll is on a usable PE of a standing row, and is 1 to the worth
abbrev pub tollable : Host → Toll → Bool
tollable h t = stands h t.row && usable h t.row t.column

abbrev pub payable : Toll → Bool
payable t = nat_le 1 t.amount && nat_le t.amount worth

abbrev pub toll_fault : Host → Gathered → Toll → Option CardFault
toll_fault h g t =
    refuse (not (tollable h t)) TollPlace
    (refuse (not (may_follow before g.tolls t)) TollOrder
    (refuse (not (payable t)) TollAmount None))

-- one record
abbrev pub checked : Host → Gathered → Record → Result Gathered CardFault
checked h g (r.Head x) = answered (refuse (not (same_head h x)) OtherCard None) g
checked h g (r.Start j) = pe_checked h g j
checked h g (r.Step s) = step_checked h g (stepped s (last g.column))
checked h g (r.Toll t) = answered (toll_fault h g t) (with_toll g t)
checked h g r.End = Ok g

-- a fault has the place of the record that is at fault
abbrev pub at_place : {A : Type 0} → ℕ → Result A CardFault → Result A JudgeFault
at_place at (Ok a) = Ok a
at_place at (Err x) = Err (OfCard x at)

-- what a reading gives in the end, with the place of the end record; reading stops at the first fault
abbrev pub onward : (Gathered → Result (Gathered × ℕ) JudgeFault) → Result Gathered JudgeFault → Result (Gathered × ℕ) JudgeFault
onward more (Err x) = Err x
onward more (Ok g) = more g

abbrev pub gathered : Host → Gathered → Reading → Result (Gathered × ℕ) JudgeFault
gathered h g (stops x) = Err (Sheet x)
gathered h g (ends at) = Ok (g, at)
gathered h g (then at x more) = onward (λ g'. gathered h g' more) (at_place at (checked h g x))

-- the toll of each PE: 0 where it is given none
abbrev pub toll_of : List Toll → Tolls
toll_of [] r j = 0
toll_of (t ∷ ts) r j = cond (t.row == r && t.column == j) t.amount (toll_of ts r j)

-- some least price of the last row is below the worth
abbrev pub some_below_worth : Card → Meaning → Tolls → Bool
some_below_worth c m toll = not (none (λ j. nat_lt (least c m toll j) worth))

-- the tolls add up to the worth × the number of columns, less the total charge
abbrev pub adds_up : Card → Meaning → Gathered → Bool
adds_up c m g = total (λ t. t.amount) g.tolls + total_charge c m g.columns == worth * length g.columns

-- what a sheet says that is accepted
pub record Accepted : Type 0 where
  pub columns : List (List ℕ)
  pub tolls : List Toll

abbrev pub verdict_fault : Card → Meaning → Gathered → Option CardFault
verdict_fault c m g = refuse (some_below_worth c m (toll_of g.tolls)) Underpriced (refuse (not (adds_up c m g)) WrongSum None)

abbrev pub settled : Card → Meaning → Result (Gathered × ℕ) JudgeFault → Result Accepted JudgeFault
settled c m (Err x) = Err x
settled c m (Ok p) = at_place p.1 (answered (verdict_fault c m p.0) (record { columns = p.0.columns; tolls = p.0.tolls }))

-- what comes of the bytes of a sheet
abbrev pub judged : Host → Meaning → List ℕ → Result Accepted JudgeFault
judged h m bs = settled (card_of h) m (gathered h blank (reading bs))
