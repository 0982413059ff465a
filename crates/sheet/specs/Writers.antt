-- What the calls on a writer answer, and what they leave. Assumes nothing.
use Rattle.std.specs.Prelude.{ℕ, ◌+◌, Bool, not, ◌&&◌, List, ◌++◌, length, take, drop, None, is_none, Option, Result, ◌==◌, nat_lt}
use Rattle.std.specs.Option.{option_or}
use Rattle.masks.specs.Masks.{bit, none}
use Rattle.host.specs.Refusals.{refuse, answered, unless, number as card_number}
use Rattle.host.specs.Sizes.{fits}
use Rattle.host.specs.declared.refusal.Refusal.TheVariants.{BadSize, Outside}
use Rattle.sheet.specs.declared.record.Record.{Record}
use Rattle.sheet.specs.declared.record.Record.TheVariants.{Head}
use Rattle.sheet.specs.declared.writer.Refusal.{Refusal}
use Rattle.sheet.specs.declared.writer.Refusal.TheVariants.{Card, NoRow, OutOfTurn, ShortBuffer}
use Rattle.sheet.specs.declared.writer.Writer.{Writer}
use Rattle.sheet.specs.Records.{bytes, size}
use Rattle.sheet.specs.Turns.{turn}
use Rattle.sheet.specs.Readings.{new_reader, turned}

abbrev pub number : Refusal → ℕ
number (Card x) = card_number x
number NoRow = 6
number OutOfTurn = 9
number ShortBuffer = 21

-- text in a buffer from a place on; the bytes before and behind it are kept
abbrev pub laid : ℕ → List ℕ → List ℕ → List ℕ
laid at text buffer = take at buffer ++ (text ++ drop (at + length text) buffer)

-- a record is refused where it is out of turn, and then where there is no room for it
abbrev pub put_refusal : Writer → Record → ℕ → Option Refusal
put_refusal w x room = refuse (is_none (turn w.reader.state x)) OutOfTurn (refuse (nat_lt room (w.reader.at + size x)) ShortBuffer None)

-- the length of the sheet so far
abbrev pub put_answer : Writer → Record → ℕ → Result ℕ Refusal
put_answer w x room = answered (put_refusal w x room) (w.reader.at + size x)

abbrev pub put_done : Writer → Record → Writer
put_done w x = record { reader = record (turned w.reader x) { at = w.reader.at + size x } }

abbrev pub writer_after : Writer → Record → ℕ → Writer
writer_after w x room = unless (put_refusal w x room) w (put_done w x)

abbrev pub put_buffer : Writer → Record → List ℕ → List ℕ
put_buffer w x buffer = unless (put_refusal w x (length buffer)) buffer (laid w.reader.at (bytes x) buffer)

-- before the head
abbrev pub new_writer : Writer
new_writer = record { reader = new_reader }

abbrev pub head : ℕ → ℕ → ℕ → Record
head rows columns standing = Head (record { rows = rows; columns = columns; standing = standing })

-- a standing row that the card does not have
abbrev pub reaches_out : ℕ → ℕ → Bool
reaches_out rows standing = not (none (λ i. bit standing i && not (nat_lt i rows)))

-- what is wrong with a head, whatever the map
abbrev pub head_refusal : ℕ → ℕ → ℕ → Option Refusal
head_refusal rows columns standing =
    refuse (not (fits rows columns)) (Card BadSize)
    (refuse (reaches_out rows standing) (Card Outside)
    (refuse (standing == 0) NoRow None))

abbrev pub opening_refusal : ℕ → ℕ → ℕ → ℕ → Option Refusal
opening_refusal rows columns standing room = option_or (head_refusal rows columns standing) (put_refusal new_writer (head rows columns standing) room)

abbrev pub opening_answer : ℕ → ℕ → ℕ → ℕ → Result Writer Refusal
opening_answer rows columns standing room =
    answered (opening_refusal rows columns standing room) (put_done new_writer (head rows columns standing))

abbrev pub opening_buffer : ℕ → ℕ → ℕ → List ℕ → List ℕ
opening_buffer rows columns standing buffer =
    unless (opening_refusal rows columns standing (length buffer)) buffer (laid 0 (bytes (head rows columns standing)) buffer)
