-- The records of a sheet as bytes. Assumes nothing.
use Rattle.std.specs.Prelude.{ℕ, ◌+◌, Bool, true, false, List, [], ◌∷◌, drop, find, Option, Result, ◌==◌, slice_index}
use Rattle.std.specs.List.{flat_map}
use Rattle.std.specs.Int.{from_be_bytes, to_be_bytes, w32, w64}
use Rattle.records.specs.declared.RecordFault.{RecordFault}
use Rattle.records.specs.Records.{record_from as of_format}
use Rattle.sheet.specs.declared.record.Kind.{Kind}
use Rattle.sheet.specs.declared.record.Kind.TheVariants as k
use Rattle.sheet.specs.declared.record.Step.TheVariants.{Left, Straight, Right}
use Rattle.sheet.specs.declared.record.Record.{Record}
use Rattle.sheet.specs.declared.record.Record.TheVariants as r

-- the byte of a kind
abbrev pub code : Kind → ℕ
code k.Head = 1
code k.Start = 2
code k.Left = 3
code k.Straight = 4
code k.Right = 5
code k.Toll = 6
code k.End = 7

-- the kind of a byte, if it is one
abbrev pub kind_of : ℕ → Option Kind
kind_of b = find (λ kind. code kind == b) (k.Head ∷ k.Start ∷ k.Left ∷ k.Straight ∷ k.Right ∷ k.Toll ∷ k.End ∷ [])

-- how many bytes follow a kind
abbrev pub body_length : Kind → ℕ
body_length k.Head = 10
body_length k.Start = 1
body_length k.Toll = 6
body_length _ = 0

-- the record that bytes begin with, at a place: its kind and its body
abbrev pub record_from : ℕ → List ℕ → Result (Kind × List ℕ) RecordFault
record_from = of_format kind_of body_length

-- what a kind and a body say; numbers have their high byte first
abbrev pub made : Kind → List ℕ → Record
made k.Head bs = r.Head (record { rows = slice_index bs 0; columns = slice_index bs 1; standing = from_be_bytes w64 (drop 2 bs) })
made k.Start bs = r.Start (slice_index bs 0)
made k.Left bs = r.Step Left
made k.Straight bs = r.Step Straight
made k.Right bs = r.Step Right
made k.Toll bs = r.Toll (record { row = slice_index bs 0; column = slice_index bs 1; amount = from_be_bytes w32 (drop 2 bs) })
made k.End bs = r.End

abbrev pub kind_in : Record → Kind
kind_in (r.Head h) = k.Head
kind_in (r.Start j) = k.Start
kind_in (r.Step Left) = k.Left
kind_in (r.Step Straight) = k.Straight
kind_in (r.Step Right) = k.Right
kind_in (r.Toll t) = k.Toll
kind_in r.End = k.End

abbrev pub body : Record → List ℕ
body (r.Head h) = h.rows ∷ h.columns ∷ to_be_bytes w64 h.standing
body (r.Start j) = j ∷ []
body (r.Toll t) = t.row ∷ t.column ∷ to_be_bytes w32 t.amount
body _ = []

-- the bytes of a record, and how many they are
abbrev pub bytes : Record → List ℕ
bytes x = code (kind_in x) ∷ body x

abbrev pub size : Record → ℕ
size x = 1 + body_length (kind_in x)

-- the bytes of records one behind the other
abbrev pub all_bytes : List Record → List ℕ
all_bytes xs = flat_map bytes xs

abbrev pub is_end : Record → Bool
is_end r.End = true
is_end _ = false
