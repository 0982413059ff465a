-- What a tariff charges for a column. A column is the list of its physical columns, one for each row going down. Assumes nothing.
use Rattle.std.specs.Prelude.{ℕ, ◌+◌, List, [], ◌∷◌}
use Rattle.tariff.specs.Meaning.{Meaning}

-- the charges of the links that go on from the PE in row r and column j
abbrev pub link_charges : Meaning → ℕ → ℕ → List ℕ → List ℕ → ℕ
link_charges m r j [] ks = 0
link_charges m r j (q ∷ rows) [] = 0
link_charges m r j (q ∷ rows) (k ∷ ks) = m.link r j q k + link_charges m q k rows ks

-- the charge of a column: the entry charge of its first PE and the charges of all its links
abbrev pub charge : Meaning → List ℕ → List ℕ → ℕ
charge m [] ks = 0
charge m (r ∷ rows) [] = 0
charge m (r ∷ rows) (k ∷ ks) = m.entry r k + link_charges m r k rows ks
