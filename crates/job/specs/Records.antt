-- How the bytes of a job are read. Assumes nothing.
use Rattle.std.specs.Prelude.{ℕ, zero, suc, ◌+◌, List, [], ◌∷◌, length, take, drop, find, Ok, Err, Option, Result, ◌==◌, slice_index}
use Rattle.std.specs.Borrow.{Bor}
use Rattle.std.specs.Result.{result_map_both}
use Rattle.records.specs.declared.RecordFault.{RecordFault}
use Rattle.records.specs.Records.{record_from}
use Rattle.host.specs.declared.part.Part.TheVariants.{Pe, RowSwitch, ColumnSwitch}
use Rattle.sheet.specs.Extents.{extent}
use Rattle.job.specs.declared.record.Entry.{Entry}
use Rattle.job.specs.declared.record.Kind.{Kind}
use Rattle.job.specs.declared.record.Kind.TheVariants as k
use Rattle.job.specs.declared.record.Call as c
use Rattle.job.specs.declared.record.Call.TheVariants.{Mark, Choose, Route, Greedy, Judge}
use Rattle.job.specs.declared.record.Record.{Record}
use Rattle.job.specs.declared.record.Record.TheVariants.{Size, Call}
use Rattle.job.specs.declared.refusal.Refusal.{Refusal}
use Rattle.job.specs.Refusals.{of_record}

-- the byte of a kind
abbrev pub code : Kind → ℕ
code k.Size = 0x10
code k.MarkPe = 0x11
code k.MarkRowSwitch = 0x12
code k.MarkColumnSwitch = 0x13
code k.Choose = 0x14
code k.Route = 0x15
code k.Greedy = 0x16
code k.Judge = 0x17

abbrev pub kinds : List Kind
kinds = k.Size ∷ k.MarkPe ∷ k.MarkRowSwitch ∷ k.MarkColumnSwitch ∷ k.Choose ∷ k.Route ∷ k.Greedy ∷ k.Judge ∷ []

abbrev pub kind_of : ℕ → Option Kind
kind_of b = find (λ kind. code kind == b) kinds

-- how many bytes follow a kind
abbrev pub body_length : Kind → ℕ
body_length k.Size = 2
body_length k.MarkPe = 3
body_length k.MarkRowSwitch = 3
body_length k.MarkColumnSwitch = 3
body_length k.Choose = 2
body_length _ = 0

-- how many of the bytes behind its body are a sheet that is judged
abbrev pub sheet_length : Kind → List ℕ → ℕ
sheet_length k.Judge behind = extent behind
sheet_length _ behind = 0

-- a record, with the bytes of its sheet
abbrev pub Asked : Type 0
Asked = Record (List ℕ)

-- the record of a kind, from the bytes after it and from its sheet
abbrev pub record_of : Kind → List ℕ → List ℕ → Asked
record_of k.Size bs sheet = Size (slice_index bs 0) (slice_index bs 1)
record_of k.MarkPe bs sheet = Call (Mark (Pe (slice_index bs 0) (slice_index bs 1)) (slice_index bs 2))
record_of k.MarkRowSwitch bs sheet = Call (Mark (RowSwitch (slice_index bs 0) (slice_index bs 1)) (slice_index bs 2))
record_of k.MarkColumnSwitch bs sheet = Call (Mark (ColumnSwitch (slice_index bs 0) (slice_index bs 1)) (slice_index bs 2))
record_of k.Choose bs sheet = Call (Choose (slice_index bs 0) (slice_index bs 1))
record_of k.Route bs sheet = Call Route
record_of k.Greedy bs sheet = Call Greedy
record_of k.Judge bs sheet = Call (Judge sheet)

-- the record that was found in some bytes, and the bytes behind it
abbrev pub record_and_rest : List ℕ → Result (Kind × List ℕ) RecordFault → Result (Asked × List ℕ) Refusal
record_and_rest bs (Ok (kind, body)) =
    let behind = drop (1 + length body) bs in
    let n = sheet_length kind behind in Ok (record_of kind body (take n behind), drop n behind)
record_and_rest bs (Err x) = Err (of_record x)

-- the record that bytes begin with, and the bytes after it
abbrev pub reading : List ℕ → Result (Asked × List ℕ) Refusal
reading bs = record_and_rest bs (record_from kind_of body_length 0 bs)

-- what is read of a record
abbrev pub content : Result (Asked × List ℕ) Refusal → Result Asked Refusal
content (Ok p) = Ok p.0
content (Err x) = Err x

-- where to read on; a fault ends the reading
abbrev pub behind : Result (Asked × List ℕ) Refusal → List ℕ
behind (Ok p) = p.1
behind (Err x) = []

-- the entries of at most n bytes (each takes one byte or more)
unfoldable pub entries_by : ℕ → List ℕ → List (Entry (List ℕ))
entries_by zero bs = []
entries_by (suc n) [] = []
entries_by (suc n) (b ∷ bs) = let r = reading (b ∷ bs) in record { kind = b; content = content r } ∷ entries_by n (behind r)

abbrev pub entries : List ℕ → List (Entry (List ℕ))
entries job = entries_by (length job) job

-- a record with what the part of the job holds that is its sheet, in place of that part
abbrev pub bare_call : c.Call (Bor (List ℕ)) → c.Call (List ℕ)
bare_call (Mark part state) = Mark part state
bare_call (Choose row state) = Choose row state
bare_call Route = Route
bare_call Greedy = Greedy
bare_call (Judge sheet) = Judge sheet.now

abbrev pub bare : Record (Bor (List ℕ)) → Asked
bare (Size rows columns) = Size rows columns
bare (Call asked) = Call (bare_call asked)

abbrev pub bare_content : Result (Record (Bor (List ℕ))) Refusal → Result Asked Refusal
bare_content content = result_map_both bare (λ x. x) content

abbrev pub bare_entry : Entry (Bor (List ℕ)) → Entry (List ℕ)
bare_entry e = record { kind = e.kind; content = bare_content e.content }
