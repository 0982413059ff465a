-- What a map says of a card's parts and rows. Assumes nothing.
use Rattle.std.specs.Prelude.{ℕ, zero, suc, ◌+◌, Bool, false, not, ◌&&◌, nat_lt, slice_index_or}
use Rattle.masks.specs.Masks.{bit, none}
use Rattle.host.specs.declared.Host.{Host}
use Rattle.host.specs.declared.Row.{Row}
use Rattle.host.specs.declared.part.Part.{Part}
use Rattle.host.specs.declared.part.Part.TheVariants.{Pe, RowSwitch, ColumnSwitch}
use Rattle.host.specs.declared.size.Size.{Size}

-- the parts that a card of this size has
abbrev pub inside : Size → Part → Bool
inside z (Pe i j) = nat_lt i z.rows && nat_lt j z.columns
inside z (RowSwitch i j) = nat_lt i z.rows && nat_lt (j + 1) z.columns
inside z (ColumnSwitch i j) = nat_lt (i + 1) z.rows && nat_lt j z.columns

-- a row without a faulty part
abbrev pub healthy_row : Row
healthy_row = record { pes = 0; across = 0; down = 0 }

-- row i of a map; past the last row all is healthy
abbrev pub row_at : Host → ℕ → Row
row_at h i = slice_index_or h.rows i healthy_row

abbrev pub flag : Host → Part → Bool
flag h (Pe i j) = bit (row_at h i).pes j
flag h (RowSwitch i j) = bit (row_at h i).across j
flag h (ColumnSwitch i j) = bit (row_at h i).down j

-- a part of the card is faulty where its flag is set
abbrev pub faulty : Host → Part → Bool
faulty h p = inside h.size p && flag h p

abbrev pub chosen : Host → ℕ → Bool
chosen h i = nat_lt i h.size.rows && bit h.choice i

-- whether the column switch above PE (i, j) is faulty: above row 0 there is none
abbrev pub faulty_above : Host → ℕ → ℕ → Bool
faulty_above h zero j = false
faulty_above h (suc i) j = faulty h (ColumnSwitch i j)

-- a PE is usable when it is healthy and neither the column switch above it nor the one below it is faulty
abbrev pub usable : Host → ℕ → ℕ → Bool
usable h i j = inside h.size (Pe i j) && (not (faulty h (Pe i j)) && (not (faulty_above h i j) && not (faulty h (ColumnSwitch i j))))

-- a row stands when it is chosen and none of its row switches is faulty
abbrev pub stands : Host → ℕ → Bool
stands h i = chosen h i && none (λ j. faulty h (RowSwitch i j))
