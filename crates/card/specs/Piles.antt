-- What columns of a drawn card cost: heat over wire length. Assumes nothing.
use Rattle.std.specs.Prelude.{◌≡◌, ℕ, zero, suc, ◌+◌, ◌-◌, Bool, ◌&&◌, ◌||◌, cond, List, [], length, ◌==◌, nat_lt, map, slice_index, slice_index_or}
use Rattle.std.specs.Borrow.{Bor}
use Rattle.tariff.specs.declared.heat.Heat.{Heat}
use Rattle.tariff.specs.declared.wire_length.WireLength.{WireLength}
use Rattle.tariff.specs.Meaning.{Meaning}
use Rattle.tariff.specs.Kinds.{wire_length}
use Rattle.tariff.specs.Heats.{heated, with_heat, no_heat}

abbrev pub Pile : Type 0
Pile = Heat WireLength

abbrev pub meaning : Pile → Meaning
meaning pile = heated (wire_length pile.below.d pile.below.w) pile.heats

-- whether there is an X, 88, in a place of a line
abbrev pub faulty : List ℕ → ℕ → Bool
faulty line place = slice_index line place == 88

abbrev pub beside_fault : List ℕ → ℕ → Bool
beside_fault line column = (nat_lt 0 column && faulty line (column - 1)) || faulty line (column + 1)

-- heat 2 for a PE that is beside a faulty one
abbrev pub warm_pe : List (List ℕ) → ℕ → List ℕ → ℕ → List (List ℕ)
warm_pe heats row line column = cond (beside_fault line column) (with_heat heats row column 2) heats

-- the same in the first n columns of a row
unfoldable pub warm_row : List (List ℕ) → ℕ → List ℕ → ℕ → List (List ℕ)
warm_row heats row line zero = heats
warm_row heats row line (suc n) = warm_pe (warm_row heats row line n) row line n

-- and in the first n rows
unfoldable pub warm_rows : List (List ℕ) → ℕ → List (List ℕ)
warm_rows lines zero = no_heat
warm_rows lines (suc n) = warm_row (warm_rows lines n) n (slice_index_or lines n []) 64

-- a short link takes wire of length 1, and a long one 3
pub record IsPileOf (lines : List (Bor (List ℕ))) (pile : Pile) : Type 0 where
  pub short : pile.below.d ≡ 1
  pub more_if_long : pile.below.w ≡ 1
  pub heats : pile.heats ≡ warm_rows (map (λ line. line.now) lines) (length lines)
