-- What is written reads back, and what is read was so written. Assumes nothing.
use Rattle.std.specs.Prelude.{◌≡◌, ℕ, ◌<◌, ◌↔◌, List, Some}
use Rattle.std.specs.List.{AllByRecursion}
use Rattle.sheet.specs.declared.record.Kind.{Kind}
use Rattle.sheet.specs.declared.record.Record.{Record}
use Rattle.sheet.specs.declared.state.State.{State}
use Rattle.sheet.specs.declared.state.State.TheVariants.{Opening}
use Rattle.sheet.specs.Records.{code, kind_of, all_bytes}
use Rattle.sheet.specs.Readings.{reading}
use Rattle.sheet.specs.Runs.{run, placed, Fits, after_puts, done_of, new_desk, Wrote}

pub record Laws : Type 0 where
  -- a byte is read as a kind exactly where it is that kind's
  pub one_byte : (b : ℕ) (kind : Kind) → (kind_of b ≡ Some kind) ↔ (code kind ≡ b)
  -- records in turn, written one behind the other, are read as those records
  pub reads_back : (xs : List Record) (s : State) → AllByRecursion Fits xs → run Opening xs ≡ Some s → reading (all_bytes xs) ≡ placed 0 xs
  -- bytes that are read as those records are their bytes and nothing else
  pub nothing_lost : (bs : List ℕ) (xs : List Record) (s : State) → AllByRecursion (λ b. b < 256) bs → run Opening xs ≡ Some s → reading bs ≡ placed 0 xs → bs ≡ all_bytes xs
  -- whatever is asked of a writer, the buffer holds the records whose calls were done, and they are in turn
  pub writes : (buffer : List ℕ) (xs : List Record) → Wrote buffer (done_of (new_desk buffer) xs) (after_puts (new_desk buffer) xs)
