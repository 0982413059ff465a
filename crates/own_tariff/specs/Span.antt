-- A tariff that charges for the rows a link spans. Assumes nothing.
use Rattle.std.specs.Prelude.{◌+◌, ◌-◌, cond, ◌==◌}
use Rattle.tariff.specs.Meaning.{Meaning, in_grid, is_link}

-- entering costs the column's number, a link the rows it spans, and 8 more where it is long
abbrev pub span : Meaning
span = record {
  entry = λ r j. cond (in_grid r j) j 0;
  link = λ r j q k. cond (is_link r j q k) (cond (j == k) (q - r) (q - r + 8)) 0;
  ceiling = 71;
}
