-- How calls change a map, and which are refused. Assumes nothing.
use Rattle.std.specs.Prelude.{ℕ, Bool, false, cond, not, ◌||◌, List, length, replicate, None, Option, Result, ◌==◌, nat_lt, slice_index, slice_set}
use Rattle.std.specs.List.{list_all}
use Rattle.masks.specs.Masks.{bit, mask, none}
use Rattle.host.specs.declared.Host.{Host}
use Rattle.host.specs.declared.Row.{Row}
use Rattle.host.specs.declared.part.Part.{Part}
use Rattle.host.specs.declared.part.Part.TheVariants.{Pe, RowSwitch, ColumnSwitch}
use Rattle.host.specs.declared.refusal.Refusal.{Refusal}
use Rattle.host.specs.declared.refusal.Refusal.TheVariants.{Outside, BadState, BadLength, BadCharacter}
use Rattle.host.specs.declared.size.Size.{Size}
use Rattle.host.specs.Refusals.{refuse, answered, unless}
use Rattle.host.specs.Maps.{inside, healthy_row, row_at, faulty, chosen}

-- all is healthy, and every row is chosen
abbrev pub opened : Size → Host
opened z = record { size = z; rows = replicate 64 healthy_row; choice = mask (λ i. nat_lt i z.rows) }

-- what a call asks for
pub data Change : Type 0 where
  marking : Part → ℕ → Change  -- a part, and 0 for healthy or 1 for faulty
  picturing : ℕ → List ℕ → Change  -- a row, and a character for each of its PEs
  choosing : ℕ → ℕ → Change  -- a row, and 0 to leave it out or 1 to choose it

-- 'X' is a faulty PE, and '.' a healthy one
abbrev pub crossed : List ℕ → ℕ → Bool
crossed text j = slice_index text j == 88

abbrev pub drawn : List ℕ → Bool
drawn text = list_all (λ b. b == 46 || b == 88) text

-- the first refusal that a call meets
abbrev pub refusal : Size → Change → Option Refusal
refusal z (marking p s) = refuse (not (inside z p)) Outside (refuse (nat_lt 1 s) BadState None)
refusal z (picturing i text) =
    refuse (not (nat_lt i z.rows)) Outside
    (refuse (not (length text == z.columns)) BadLength
    (refuse (not (drawn text)) BadCharacter None))
refusal z (choosing i s) = refuse (not (nat_lt i z.rows)) Outside (refuse (nat_lt 1 s) BadState None)

-- a set with one member put in or taken out
abbrev pub put : ℕ → ℕ → Bool → ℕ
put m j b = mask (λ k. cond (k == j) b (bit m k))

-- a map with another row, or another choice of rows
abbrev pub with_row : Host → ℕ → Row → Host
with_row h i row = record h { rows = slice_set h.rows i row }

abbrev pub with_choice : Host → ℕ → Host
with_choice h rows = record h { choice = rows }

abbrev pub with_part : Host → Part → Bool → Host
with_part h (Pe i j) b = let row = row_at h i in with_row h i (record row { pes = put row.pes j b })
with_part h (RowSwitch i j) b = let row = row_at h i in with_row h i (record row { across = put row.across j b })
with_part h (ColumnSwitch i j) b = let row = row_at h i in with_row h i (record row { down = put row.down j b })

-- what a call sets, where it is done
abbrev pub set_by : Host → Change → Host
set_by h (marking p s) = with_part h p (s == 1)
set_by h (picturing i text) = with_row h i (record (row_at h i) { pes = mask (crossed text) })
set_by h (choosing i s) = with_choice h (put h.choice i (s == 1))

-- the map after a call: a refused one changes nothing
abbrev pub after : Host → Change → Host
after h c = unless (refusal h.size c) h (set_by h c)

-- two states differ
abbrev pub unlike : Bool → Bool → Bool
unlike a b = cond a (not b) b

-- whether what a call sets is another state than it was
abbrev pub turns : Host → Change → Bool
turns h (marking p s) = unlike (faulty h p) (s == 1)
turns h (picturing i text) = not (none (λ j. unlike (faulty h (Pe i j)) (crossed text j)))
turns h (choosing i s) = unlike (chosen h i) (s == 1)

-- whether a call alters a state: a refused one alters none
abbrev pub alters : Host → Change → Bool
alters h c = unless (refusal h.size c) false (turns h c)

-- what a call answers: whether it altered a state
abbrev pub answer : Host → Change → Result Bool Refusal
answer h c = answered (refusal h.size c) (alters h c)
