-- The sheet of a plan that is held, and its parts. Assumes nothing.
use Rattle.std.specs.Prelude.{ℕ, List, map, Some, None, Option}
use Rattle.host.specs.declared.Host.{Host}
use Rattle.plans.specs.declared.held.HeldPlan.{HeldPlan}
use Rattle.plans.specs.Columns.{standing}
use Rattle.plans.specs.Held.{held_column, held_columns, held_tolls}
use Rattle.routable.specs.Cards.{card_of}
use Rattle.sheet.specs.declared.record.Record.{Record}
use Rattle.sheet.specs.declared.record.Record.TheVariants as r
use Rattle.sheet.specs.Records.{all_bytes}
use Rattle.verdict.specs.Sheets.{step_to, column_records, tolls_across, sheet_of}

-- the sheet of a plan whose family is the first columns that are held, so many of them
unfoldable pub held_sheet : Host → HeldPlan → ℕ → List ℕ
held_sheet h p columns = sheet_of h (held_columns p (standing (card_of h)) columns) (held_tolls p)

-- the bytes of column n, where so many rows stand
abbrev pub column_bytes : HeldPlan → ℕ → ℕ → List ℕ
column_bytes p standing n = all_bytes (column_records (held_column p standing n))

-- the record of a PE in physical column j, below the one above it, if there is one
abbrev pub record_below : Option ℕ → ℕ → Record
record_below None j = r.Start j
record_below (Some i) j = r.Step (step_to i j)

-- the bytes of a row's tolls
abbrev pub toll_bytes : HeldPlan → ℕ → List ℕ
toll_bytes p row = all_bytes (map r.Toll (tolls_across (held_tolls p) row 64))
