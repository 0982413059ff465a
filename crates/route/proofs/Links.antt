-- The charges of links, laid out cell by cell. Assumes nothing.
use Rattle.std.proofs.Common.{◌≡◌, ℕ, ◌<◌, ◌≤◌, List, [], ◌∷◌, length, get_or, replicate, arith}
use Rattle.std.proofs.lemmas.List.{get_or-replicate, length-replicate}
use Rattle.tariff.specs.Meaning.{Meaning}
use Rattle.route.specs.Grids.{links_from}

-- where no charge is laid out
abbrev pub free : List ℕ
free = 0 ∷ 0 ∷ 0 ∷ []

-- those of the first n cells are laid out, and none is charged from the rest
pub record LaidTo (m : Meaning) (rows : List ℕ) (links : List (List ℕ)) (n : ℕ) : Type 0 where
  pub long : length links ≡ 4290
  pub done : (u : ℕ) → u < n → get_or links u [] ≡ links_from m rows u
  pub rest : (u : ℕ) → n ≤ u → u < 4290 → get_or links u [] ≡ free

-- at first none is laid out
pub begins : (m : Meaning) (rows : List ℕ) → LaidTo m rows (replicate 4290 free) 0
begins m rows = record {
  long = length-replicate 4290 free;
  done = λ u l. absurd (omega (arith, l));
  rest = λ u l in_grid. get_or-replicate 4290 u free [] in_grid;
}
