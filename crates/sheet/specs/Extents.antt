-- How far a sheet reaches in bytes that go on behind it. Assumes nothing.
use Rattle.std.specs.Prelude.{ℕ, zero, suc, ◌+◌, List, length, drop, Ok, Err, Result}
use Rattle.records.specs.declared.RecordFault.{RecordFault}
use Rattle.sheet.specs.declared.record.Kind.{Kind}
use Rattle.sheet.specs.declared.record.Kind.TheVariants.{End}
use Rattle.sheet.specs.Records.{record_from}

-- through the first end record; where none can be read any more, to the bytes' end
abbrev pub through : List ℕ → (List ℕ → ℕ) → Result (Kind × List ℕ) RecordFault → ℕ
through bs more (Err x) = length bs
through bs more (Ok (End, body)) = 1 + length body
through bs more (Ok (kind, body)) = let n = 1 + length body in n + more (drop n bs)

-- over at most n records (each takes one byte or more)
unfoldable pub extent_by : ℕ → List ℕ → ℕ
extent_by zero bs = 0
extent_by (suc n) bs = through bs (extent_by n) (record_from 0 bs)

-- how many bytes a sheet takes up at the front of others, by kinds and lengths alone
abbrev pub extent : List ℕ → ℕ
extent bs = extent_by (length bs) bs
