-- What may come next depends on where the sheet is. Assumes nothing.
use Rattle.std.specs.Prelude.{ℕ, ◌-◌, cond, Some, None, Option, nat_lt}
use Rattle.masks.specs.Masks.{bit, how_many}
use Rattle.sheet.specs.declared.record.Record.{Record}
use Rattle.sheet.specs.declared.record.Record.TheVariants.{Head, Start, Step, Toll, End}
use Rattle.sheet.specs.declared.state.State.{State}
use Rattle.sheet.specs.declared.state.State.TheVariants.{Opening, Between, Column, Tolls, Ended}

-- a column that has still to go through so many standing rows; with none left it is full
abbrev pub with_left : ℕ → ℕ → State
with_left standing left = cond (nat_lt 0 left) (Column standing left) (Between standing)

-- the state after a record, if it may come: first the head; within a column only steps; after the head or a full column a start,
-- a toll or the end; after a toll a toll or the end
abbrev pub turn : State → Record → Option State
turn Opening (Head h) = Some (Between (how_many (bit h.standing)))
turn (Between n) (Start j) = Some (with_left n (n - 1))
turn (Column n left) (Step s) = Some (with_left n (left - 1))
turn (Between n) (Toll t) = Some Tolls
turn Tolls (Toll t) = Some Tolls
turn (Between n) End = Some Ended
turn Tolls End = Some Ended
turn _ _ = None
