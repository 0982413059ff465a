-- The tariffs that charge by the kind of a link alone. Assumes nothing.
use Rattle.std.specs.Prelude.{ℕ, ◌+◌, ◌*◌, Bool, cond, ◌&&◌, ◌==◌, nat_le}
use Rattle.tariff.specs.Meaning.{Meaning, is_link}

-- nothing to enter, one charge for every short link and one for every long link, which is the ceiling
abbrev pub by_kind : ℕ → ℕ → Meaning
by_kind short long = record {
  entry = λ r j. 0;
  link = λ r j q k. cond (is_link r j q k) (cond (j == k) short long) 0;
  ceiling = long;
}

-- links: only long links are charged
abbrev pub links : Meaning
links = by_kind 0 1

-- wire length: rows lie d apart, and a long link takes 2d + w
abbrev pub wire_length : ℕ → ℕ → Meaning
wire_length d w = by_kind d (2 * d + w)

-- d runs from 1 to 250 and w from 1 to 500
abbrev pub wire_range : ℕ → ℕ → Bool
wire_range d w = nat_le 1 d && (nat_le d 250 && (nat_le 1 w && nat_le w 500))
