-- What a tariff answers, and what every tariff owes. Assumes nothing.
use Rattle.std.specs.Prelude.{◌≡◌, ℕ, ◌+◌, ◌<◌, ◌≤◌, Bool, false, ◌&&◌, nat_le, nat_lt}

-- the three answers: the entry charge of the PE in row r and column j, the charge of a link from it to the PE in row q and
-- column k, and the ceiling
pub record Meaning : Type 0 where
  pub entry : ℕ → ℕ → ℕ
  pub link : ℕ → ℕ → ℕ → ℕ → ℕ
  pub ceiling : ℕ

-- rows and columns run from 0 to 63
abbrev pub in_grid : ℕ → ℕ → Bool
in_grid r j = nat_lt r 64 && nat_lt j 64

-- a link goes from a PE to one in a later row, at most one column aside
abbrev pub is_link : ℕ → ℕ → ℕ → ℕ → Bool
is_link r j q k = nat_lt r q && (nat_lt q 64 && (nat_lt j 64 && (nat_lt k 64 && (nat_le j (k + 1) && nat_le k (j + 1)))))

pub record Lawful (m : Meaning) : Type 0 where
  -- the ceiling is at most 1,000, and charges run from 0 to it
  pub ceiling_limit : m.ceiling ≤ 1000
  pub entry_limit : (r j : ℕ) → m.entry r j ≤ m.ceiling
  pub link_limit : (r j q k : ℕ) → m.link r j q k ≤ m.ceiling
  -- a question about anything else gets 0
  pub entry_else : (r j : ℕ) → in_grid r j ≡ false → m.entry r j ≡ 0
  pub link_else : (r j q k : ℕ) → is_link r j q k ≡ false → m.link r j q k ≡ 0
  -- between columns j and j + 1, the two long links that cross cost together more than the two short ones
  pub crossing : (r q j : ℕ) → r < q → q < 64 → j + 1 < 64 →
      m.link r j q j + m.link r (j + 1) q (j + 1) < m.link r j q (j + 1) + m.link r (j + 1) q j
