-- Runs of records, as a writer makes them. Assumes nothing.
use Rattle.std.specs.Prelude.{◌≡◌, ℕ, ◌+◌, ◌^◌, ◌<◌, cond, List, [], ◌∷◌, length, Some, None, Option}
use Rattle.host.specs.Refusals.{unless}
use Rattle.sheet.specs.declared.fault.SheetFault.TheVariants.{NoEnd}
use Rattle.sheet.specs.declared.record.Record.{Record}
use Rattle.sheet.specs.declared.record.Record.TheVariants as r
use Rattle.sheet.specs.declared.state.State.{State}
use Rattle.sheet.specs.declared.state.State.TheVariants.{Opening}
use Rattle.sheet.specs.declared.writer.Writer.{Writer}
use Rattle.sheet.specs.Records.{size, is_end, all_bytes}
use Rattle.sheet.specs.Turns.{turn}
use Rattle.sheet.specs.Readings.{Reading, stops, ends, then}
use Rattle.sheet.specs.Writers.{laid, new_writer, put_refusal, put_buffer, writer_after}

-- the state after records, if each is in turn
abbrev pub run_from : Option State → List Record → Option State
run_from o [] = o
run_from None (x ∷ xs) = None
run_from (Some s) (x ∷ xs) = run_from (turn s x) xs

abbrev pub run : State → List Record → Option State
run s xs = run_from (Some s) xs

-- the reading of records that stand one behind the other, from a place on, and of nothing else
abbrev pub placed : ℕ → List Record → Reading
placed at [] = stops (NoEnd at)
placed at (x ∷ xs) = cond (is_end x) (ends at) (then at x (placed (at + size x) xs))

-- the numbers of a record fit its bytes
abbrev pub Fits : Record → Type 0
Fits (r.Head h) = (h.rows < 256) × (h.columns < 256) × (h.standing < 2 ^ 64)
Fits (r.Start j) = j < 256
Fits (r.Toll t) = (t.row < 256) × (t.column < 256) × (t.amount < 2 ^ 32)
Fits _ = Unit {0}

-- a writer and the buffer that each of its calls is given
pub record Desk : Type 0 where
  pub writer : Writer
  pub buffer : List ℕ

abbrev pub put_on : Desk → Record → Desk
put_on d x = record { writer = writer_after d.writer x (length d.buffer); buffer = put_buffer d.writer x d.buffer }

-- what is left after a list of calls
abbrev pub after_puts : Desk → List Record → Desk
after_puts d [] = d
after_puts d (x ∷ xs) = after_puts (put_on d x) xs

-- the records whose calls were done
abbrev pub done_of : Desk → List Record → List Record
done_of d [] = []
done_of d (x ∷ xs) = unless (put_refusal d.writer x (length d.buffer)) (done_of (put_on d x) xs) (x ∷ done_of (put_on d x) xs)

abbrev pub new_desk : List ℕ → Desk
new_desk buffer = record { writer = new_writer; buffer = buffer }

-- the records ys were written at the front of a buffer, which leaves a writer and what was behind them
pub record Wrote (buffer : List ℕ) (ys : List Record) (d : Desk) : Type 0 where
  pub bytes : d.buffer ≡ laid 0 (all_bytes ys) buffer
  pub place : d.writer.reader.at ≡ length (all_bytes ys)
  pub legal : run Opening ys ≡ Some d.writer.reader.state
