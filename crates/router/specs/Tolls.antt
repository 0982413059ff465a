-- The tolls that labels tell. Assumes nothing.
use Rattle.std.specs.Prelude.{ℕ, ◌-◌, false, cond, nat_le, slice_index, slice_index_or}
use Rattle.router.specs.declared.board.Board.{Board}

-- the label below a used cell: the one at the exit, or the one above the next cell, less the charge of the link
abbrev pub out_of : Board → ℕ → ℕ
out_of b u =
    let next = slice_index b.ways.next u in
    cond (nat_le b.grid.last u) b.labels.exit (slice_index b.labels.into next - slice_index b.ways.charge next)

-- the toll of a cell: how far it raises its label, if it is used
abbrev pub toll_of : Board → ℕ → ℕ
toll_of b u = cond (slice_index_or b.ways.used u false) (out_of b u - slice_index b.labels.into u) 0
