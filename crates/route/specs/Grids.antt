-- How usable PEs and charges lie on a grid. Assumes nothing.
use Rattle.std.specs.Prelude.{ℕ, ◌+◌, ◌-◌, ◌/◌, ◌%◌, Bool, cond, ◌&&◌, List, [], ◌∷◌, length, nat_lt, slice_index}
use Rattle.masks.specs.Masks.{bit}
use Rattle.tariff.specs.Meaning.{Meaning}
use Rattle.tariff.specs.declared.pe.Pe.{Pe}
use Rattle.router.specs.declared.board.TheConstants.{ROW}

-- whether the cell u has a usable PE, by the usable PEs of each row
abbrev pub has_pe : List ℕ → ℕ → Bool
has_pe rows u = nat_lt 0 (u % ROW) && bit (slice_index rows (u / ROW)) (u % ROW - 1)

-- what the links from a PE to a row cost: left, straight, right
abbrev pub links_to : Meaning → Pe → ℕ → List ℕ
links_to m p q = m.link p.row p.column q (p.column - 1) ∷ m.link p.row p.column q p.column ∷ m.link p.row p.column q (p.column + 1) ∷ []

-- what the links from the cell u cost, by the standing rows; below the last there are none
abbrev pub links_from : Meaning → List ℕ → ℕ → List ℕ
links_from m rows u =
    let s = u / ROW in
    cond (nat_lt (s + 1) (length rows)) (links_to m (record { row = slice_index rows s; column = u % ROW - 1 }) (slice_index rows (s + 1))) (0 ∷ 0 ∷ 0 ∷ [])
