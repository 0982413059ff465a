-- What the code holds of a sheet while it is read: only the contracts of private functions cite it. Assumes nothing.
use Rattle.std.specs.Prelude.{◌≡◌, ℕ, Bool, true, ◌&&◌, ◌||◌, ◌==◌, nat_lt, List, [], ◌∷◌, ◌++◌, length, Some, None, Ok, Err, Option, Result}
use Rattle.host.specs.declared.Host.{Host}
use Rattle.tariff.specs.declared.pe.Pe.{Pe}
use Rattle.tariff.specs.Meaning.{Meaning}
use Rattle.plans.specs.Columns.{Card, row}
use Rattle.plans.specs.Families.{total, total_charge}
use Rattle.plans.specs.Held.{at_each, held_row}
use Rattle.plans.specs.Least.{last}
use Rattle.routable.specs.Cards.{card_of}
use Rattle.sheet.specs.declared.fault.SheetFault.{SheetFault}
use Rattle.sheet.specs.declared.record.Record.{Record}
use Rattle.sheet.specs.declared.record.Record.TheVariants as r
use Rattle.sheet.specs.declared.record.Toll.{Toll}
use Rattle.sheet.specs.declared.state.State.{State}
use Rattle.verdict.specs.declared.fault.CardFault.{CardFault}
use Rattle.verdict.specs.declared.fault.JudgeFault.{JudgeFault}
use Rattle.verdict.specs.declared.fault.JudgeFault.TheVariants.{Sheet}
use Rattle.verdict.specs.Judging.{Gathered, toll_of, checked, at_place}
use Rattle.verdict.proofs.Advancing.{Valid}
use Rattle.judge.specs.declared.columns.GatheredColumns.{GatheredColumns}
use Rattle.judge.specs.declared.gathering.Gathering.{Gathering}
use Rattle.judge.specs.declared.tolls.GatheredTolls.{GatheredTolls}

-- the full columns, and behind them the one that has begun
abbrev pub so_far : Gathered → List (List ℕ)
so_far g = g.columns ++ g.column ∷ []

-- the last PE of a column that has begun, if it has any
abbrev pub last_pe : Card → List ℕ → Option Pe
last_pe c [] = None
last_pe c (j ∷ js) = Some (record { row = row c (length js); column = last (j ∷ js) })

-- a toll by its PE and its amount
abbrev pub toll_on : Pe → ℕ → Toll
toll_on pe amount = record { row = pe.row; column = pe.column; amount = amount }

-- the PE of the last of some tolls, if there is any
abbrev pub last_toll : List Toll → Option Pe
last_toll [] = None
last_toll (t ∷ []) = Some (record { row = t.row; column = t.column })
last_toll (t ∷ t' ∷ ts) = last_toll (t' ∷ ts)

-- a PE comes after the last one that has a toll, by row, then column
abbrev pub after_last : Option Pe → Pe → Bool
after_last None pe = true
after_last (Some last) pe = nat_lt last.row pe.row || (last.row == pe.row && nat_lt last.column pe.column)

-- what a PE is charged below the last one of its column
abbrev pub charge_below : Meaning → Option Pe → Pe → ℕ
charge_below m None pe = m.entry pe.row pe.column
charge_below m (Some upper) pe = m.link upper.row upper.column pe.row pe.column

-- the columns as the code holds them
abbrev pub columns_of : Host → Meaning → Gathered → GatheredColumns
columns_of h m g = record {
  rows = at_each (held_row (so_far g));
  full = length g.columns;
  place = length g.column;
  above = last_pe (card_of h) g.column;
  charge = total_charge (card_of h) m (so_far g);
}

-- the tolls as the code holds them
abbrev pub tolls_of : List Toll → GatheredTolls
tolls_of ts = record {
  amounts = at_each (λ r. at_each (toll_of ts r));
  last = last_toll ts;
  sum = total (λ t. t.amount) ts;
}

-- columns and tolls as the code holds them
abbrev pub gathering_of : Host → Meaning → Gathered → Gathering
gathering_of h m g = record { columns = columns_of h m g; tolls = tolls_of g.tolls }

-- what is gathered is sound, and the code holds its columns
pub record HoldsColumns (h : Host) (m : Meaning) (s : GatheredColumns) (g : Gathered) : Type 0 where
  pub valid : Valid h g
  pub is : s ≡ columns_of h m g

-- or its tolls
pub record HoldsTolls (h : Host) (s : GatheredTolls) (g : Gathered) : Type 0 where
  pub valid : Valid h g
  pub is : s ≡ tolls_of g.tolls

-- or both
pub record Holds (h : Host) (m : Meaning) (s : Gathering) (g : Gathered) : Type 0 where
  pub valid : Valid h g
  pub is : s ≡ gathering_of h m g

-- the place of a record, if it is the end
abbrev pub end_at : ℕ → Record → Option ℕ
end_at at r.End = Some at
end_at at _ = None

-- a record with what is gathered then, or its fault
abbrev pub with_next : Record → Result Gathered JudgeFault → Result (Record × Gathered) JudgeFault
with_next x (Err y) = Err y
with_next x (Ok g) = Ok (x, g)

-- what comes of the next record of a sheet, found at a place
abbrev pub next_gathered : Host → Gathered → ℕ → Result (Record × State) SheetFault → Result (Record × Gathered) JudgeFault
next_gathered h g at (Err x) = Err (Sheet x)
next_gathered h g at (Ok p) = with_next p.0 (at_place at (checked h g p.0))

-- code answers as a definition does; where that gives something, f of it is answered and P holds of it
abbrev pub AnswersAs : {A B X : Type 0} → (B → A) → (B → Type 0) → Result A X → Result B X → Type 0
AnswersAs f P r (Err x) = r ≡ Err x
AnswersAs f P r (Ok b) = (r ≡ Ok (f b)) × P b

-- the same for a check that answers no more than whether it found a fault
abbrev pub ChecksAs : (Gathered → Type 0) → Result (Unit {0}) CardFault → Result Gathered CardFault → Type 0
ChecksAs P r d = AnswersAs (λ g. tt) P r d
