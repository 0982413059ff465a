-- A sheet, whatever the card: records, each in its turn, up to the end record or the first fault. Assumes nothing.
use Rattle.std.specs.Prelude.{ℕ, zero, suc, ◌+◌, cond, ◌&&◌, List, [], ◌∷◌, length, drop, Some, None, unwrap_or, Ok, Err, Option, Result, nat_lt}
use Rattle.records.specs.declared.RecordFault.{RecordFault}
use Rattle.sheet.specs.declared.fault.SheetFault.{SheetFault}
use Rattle.sheet.specs.declared.fault.SheetFault.TheVariants.{Record as InRecord, OutOfTurn, NoEnd, AfterEnd}
use Rattle.sheet.specs.declared.reader.Reader.{Reader}
use Rattle.sheet.specs.declared.record.Kind.{Kind}
use Rattle.sheet.specs.declared.record.Record.{Record}
use Rattle.sheet.specs.declared.state.State.{State}
use Rattle.sheet.specs.declared.state.State.TheVariants.{Opening}
use Rattle.sheet.specs.Records.{record_from, made, size, is_end}
use Rattle.sheet.specs.Turns.{turn}

-- a record that was found at a place, with the state behind it; so many bytes are left from the record on
abbrev pub in_turn : ℕ → ℕ → Record → Option State → Result (Record × State) SheetFault
in_turn at left x None = Err (OutOfTurn at)
in_turn at left x (Some s) = cond (is_end x && nat_lt (size x) left) (Err (AfterEnd (at + size x))) (Ok (x, s))

abbrev pub found : State → ℕ → ℕ → Result (Kind × List ℕ) RecordFault → Result (Record × State) SheetFault
found s at left (Err x) = Err (InRecord x)
found s at left (Ok p) = in_turn at left (made p.0 p.1) (turn s (made p.0 p.1))

-- what comes next, in a state and at a place, in the bytes that are left
abbrev pub next : State → ℕ → List ℕ → Result (Record × State) SheetFault
next s at [] = Err (NoEnd at)
next s at (b ∷ bs) = found s at (length (b ∷ bs)) (record_from at (b ∷ bs))

abbrev pub new_reader : Reader
new_reader = record { state = Opening; at = 0 }

-- a record that may not come here changes nothing
abbrev pub turned : Reader → Record → Reader
turned r x = record r { state = unwrap_or (turn r.state x) r.state }

-- what a reader takes from a sheet
abbrev pub taken : Reader → List ℕ → Result (Record × State) SheetFault
taken r sheet = next r.state r.at (drop r.at sheet)

abbrev pub answer_of : Result (Record × State) SheetFault → Result Record SheetFault
answer_of (Ok p) = Ok p.0
answer_of (Err x) = Err x

-- a fault leaves the reader where it was
abbrev pub reader_after : Reader → Result (Record × State) SheetFault → Reader
reader_after r (Ok p) = record { state = p.1; at = r.at + size p.0 }
reader_after r (Err x) = r

-- the records of a sheet, each with the place of its kind, up to the place of the end record or a fault
pub data Reading : Type 0 where
  stops : SheetFault → Reading
  ends : ℕ → Reading
  then : ℕ → Record → Reading → Reading

-- what a record is followed by
abbrev pub read_on : ℕ → (State → ℕ → List ℕ → Reading) → List ℕ → Result (Record × State) SheetFault → Reading
read_on at more bs (Err x) = stops x
read_on at more bs (Ok p) = cond (is_end p.0) (ends at) (then at p.0 (more p.1 (at + size p.0) (drop (size p.0) bs)))

-- at most n records (each takes one byte or more)
unfoldable pub reading_by : ℕ → State → ℕ → List ℕ → Reading
reading_by zero s at bs = stops (NoEnd at)
reading_by (suc n) s at bs = read_on at (reading_by n) bs (next s at bs)

abbrev pub reading_from : State → ℕ → List ℕ → Reading
reading_from s at bs = reading_by (suc (length bs)) s at bs

abbrev pub reading : List ℕ → Reading
reading bs = reading_from Opening 0 bs
