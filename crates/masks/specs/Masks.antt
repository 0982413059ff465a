-- Sets of the numbers 0 to 63 as numbers of 64 bits. Assumes nothing.
use Rattle.std.specs.Prelude.{ℕ, zero, suc, ◌+◌, ◌/◌, ◌%◌, ◌^◌, Bool, cond, Some, None, Option, ◌==◌}

-- i is in the set m
abbrev pub bit : ℕ → ℕ → Bool
bit m i = m / 2 ^ i % 2 == 1

-- the set of the i below n that pass a test
unfoldable pub mask_below : (ℕ → Bool) → ℕ → ℕ
mask_below test zero = 0
mask_below test (suc n) = mask_below test n + cond (test n) (2 ^ n) 0

-- how many i below n pass a test
unfoldable pub how_many_below : (ℕ → Bool) → ℕ → ℕ
how_many_below test zero = 0
how_many_below test (suc n) = how_many_below test n + cond (test n) 1 0

abbrev pub or_else : Option ℕ → Option ℕ → Option ℕ
or_else (Some i) later = Some i
or_else None later = later

-- the least i below n that passes a test
unfoldable pub least_below : (ℕ → Bool) → ℕ → Option ℕ
least_below test zero = None
least_below test (suc n) = or_else (least_below test n) (cond (test n) (Some n) None)

-- the same for all 64 numbers
abbrev pub mask : (ℕ → Bool) → ℕ
mask test = mask_below test 64

abbrev pub how_many : (ℕ → Bool) → ℕ
how_many test = how_many_below test 64

abbrev pub least : (ℕ → Bool) → Option ℕ
least test = least_below test 64

-- no number passes a test
abbrev pub none : (ℕ → Bool) → Bool
none test = mask test == 0
