-- The drawing of a row with columns. Assumes nothing.
use Rattle.std.specs.Prelude.{ℕ, List, position, slice_index, codes, ◌==◌}
use Rattle.std.specs.Option.{option_map_or}

-- the characters of 64 columns
abbrev pub characters : List ℕ
characters = codes "0123456789abcdefghijklmnopqrstuvwxyzABCDEFGHIJKLMNOPQRSTUVWYZ+*#"

-- a PE shows the number of the first column that is in its place, and else what is drawn there
abbrev pub shown : List ℕ → ℕ → ℕ → ℕ
shown pes place drawn = option_map_or (slice_index characters) (position (λ column. column == place) pes) drawn
