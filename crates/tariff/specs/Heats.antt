-- A layer of heat over a tariff: a table with the heat of each PE, by row and column. Assumes nothing.
use Rattle.std.specs.Prelude.{ℕ, ◌+◌, ◌-◌, ◌<◌, min, cond, List, [], replicate, slice_index, slice_index_or, slice_set}
use Rattle.tariff.specs.Meaning.{Meaning, in_grid, is_link}

abbrev pub heat_at : List (List ℕ) → ℕ → ℕ → ℕ
heat_at heats r j = slice_index (slice_index_or heats r []) j

-- the table with another heat of one PE
abbrev pub with_heat : List (List ℕ) → ℕ → ℕ → ℕ → List (List ℕ)
with_heat heats r j heat = slice_set heats r (slice_set (slice_index_or heats r []) j heat)

-- every PE of the grid has heat 0
abbrev pub no_heat : List (List ℕ)
no_heat = replicate 64 (replicate 64 0)

-- heats run from 0 to 255
abbrev pub HeatRange : List (List ℕ) → Type 0
HeatRange heats = (r j : ℕ) → heat_at heats r j < 256

-- what a heat adds over a ceiling: no charge passes 1,000
abbrev pub added : ℕ → ℕ → ℕ
added ceiling heat = min heat (1000 - ceiling)

-- heat adds to the entry charge of a PE, and to the charge of a link by its lower PE
abbrev pub heated : Meaning → List (List ℕ) → Meaning
heated m heats = record {
  entry = λ r j. cond (in_grid r j) (m.entry r j + added m.ceiling (heat_at heats r j)) 0;
  link = λ r j q k. cond (is_link r j q k) (m.link r j q k + added m.ceiling (heat_at heats q k)) 0;
  ceiling = min 1000 (m.ceiling + 255);
}
