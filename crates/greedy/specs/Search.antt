-- Greedy column rerouting. A list of rows goes down, each row the mask of its PEs that are usable and untried. Assumes nothing.
use Rattle.std.specs.Prelude.{ℕ, zero, suc, ◌+◌, false, cond, ◌&&◌, List, [], ◌∷◌, ◌++◌, length, Some, None, Option, ◌==◌, nat_le}
use Rattle.masks.specs.Masks.{bit, mask, how_many, least}

-- a PE: how many rows are below it, and its physical column
pub record PE : Type 0 where
  pub below : ℕ
  pub column : ℕ

-- what a search leaves
pub record Outcome : Type 0 where
  -- the column that it found, if any, by its physical columns going down
  pub found : Option (List ℕ)
  -- the rows as they are untried then
  pub untried : List ℕ
  -- the PEs that it tried, in their order
  pub tried : List PE

abbrev pub nothing : List ℕ → Outcome
nothing rows = record { found = None; untried = rows; tried = [] }

-- the row once its PE in column j is tried
abbrev pub without : ℕ → ℕ → ℕ
without row j = mask (λ k. cond (k == j) false (bit row k))

-- the leftmost untried PE of the next row that is at most one column aside
abbrev pub neighbour : ℕ → ℕ → Option ℕ
neighbour row j = least (λ k. bit row k && (nat_le j (k + 1) && nat_le k (j + 1)))

-- the search goes on where no column is found yet
abbrev pub or_else : Outcome → (List ℕ → Outcome) → Outcome
or_else o next = elim o.found [
  | Some a ↦ o
  | None ↦ let p = next o.untried in record { found = p.found; untried = p.untried; tried = o.tried ++ p.tried }
]

-- the leftmost untried neighbour is reached in turn
abbrev pub try_leftmost : (ℕ → List ℕ → Outcome) → ℕ → List ℕ → Outcome
try_leftmost reach j [] = nothing []
try_leftmost reach j (row ∷ rows) = elim (neighbour row j) [ Some k ↦ reach k (row ∷ rows) | None ↦ nothing (row ∷ rows) ]

-- the lower neighbours are tried, left first; there are three at most
abbrev pub try_lower : (ℕ → List ℕ → Outcome) → ℕ → List ℕ → Outcome
try_lower reach j rows = or_else (or_else (try_leftmost reach j rows) (try_leftmost reach j)) (try_leftmost reach j)

-- a column that was found, with column j above it
abbrev pub from : ℕ → Option (List ℕ) → Option (List ℕ)
from j None = None
from j (Some a) = Some (j ∷ a)

-- a PE is tried now, and a column that was found below goes through it
abbrev pub through : PE → ℕ → Outcome → Outcome
through pe row o = record {
  found = from pe.column o.found;
  untried = without row pe.column ∷ o.untried;
  tried = pe ∷ o.tried;
}

-- the PE in column j of the first of the rows is reached: it tries its lower neighbours, or completes the column in the last row
unfoldable pub reach : ℕ → ℕ → List ℕ → Outcome
reach below j [] = nothing []
reach zero j (row ∷ rows) = through (record { below = zero; column = j }) row (record { found = Some []; untried = rows; tried = [] })
reach (suc below) j (row ∷ rows) = through (record { below = suc below; column = j }) row (try_lower (reach below) j rows)

-- what all starts leave: the columns found, in their order, the rows as they are untried then, and the PEs tried
pub record Ended : Type 0 where
  pub columns : List (List ℕ)
  pub untried : List ℕ
  pub tried : List PE

abbrev pub ended : List ℕ → Ended
ended rows = record { columns = []; untried = rows; tried = [] }

-- a column that was found, if any, and then others
abbrev pub before : Option (List ℕ) → List (List ℕ) → List (List ℕ)
before None others = others
before (Some a) others = a ∷ others

-- after a start comes the next
abbrev pub and_then : Outcome → (List ℕ → Ended) → Ended
and_then o next =
    let e = next o.untried in
    record { columns = before o.found e.columns; untried = e.untried; tried = o.tried ++ e.tried }

-- n starts, each at the leftmost untried PE of the first row, until none is left
unfoldable pub starts : ℕ → List ℕ → Ended
starts zero rows = ended rows
starts (suc n) [] = ended []
starts (suc n) (row ∷ rows) = elim (least (bit row)) [
  | Some j ↦ and_then (reach (length rows) j (row ∷ rows)) (starts n)
  | None ↦ ended (row ∷ rows)
]

-- as many starts as the first row has usable PEs
abbrev pub usable_starts : List ℕ → ℕ
usable_starts [] = 0
usable_starts (row ∷ rows) = how_many (bit row)

abbrev pub greedy : List ℕ → Ended
greedy rows = starts (usable_starts rows) rows
