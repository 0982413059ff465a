-- Columns by the rows of a card. Assumes nothing.
use Rattle.std.specs.Prelude.{ℕ, List, [], take, unwrap_or, if◌then◌else◌, ◌&&◌, nat_lt, slice_get}
use Rattle.masks.specs.Masks.{bit}
use Rattle.card.specs.declared.columns.Columns.{Columns}

-- the physical columns of a row's PEs; there are none where the row does not stand
abbrev pub pes_in : Columns → ℕ → List ℕ
pes_in c row = if nat_lt row 64 && bit c.standing row then take c.number (unwrap_or (slice_get c.rows row) []) else []
