-- What a mask, a count and a least member tell of each other. Assumes nothing.
use Rattle.std.specs.Prelude.{◌≡◌, ℕ, ◌^◌, ◌<◌, ◌≤◌, Bool, true, false, ◌&&◌, Some, None, Decides, Option, nat_lt}
use Rattle.masks.specs.Masks.{bit, mask, how_many, least, none}

-- the least number below n that passes a test passes it, and none below it does
abbrev pub Least : (ℕ → Bool) → ℕ → Option ℕ → Type 0
Least test n None = (i : ℕ) → i < n → test i ≡ false
Least test n (Some i) = (i < n) × (test i ≡ true) × ((j : ℕ) → j < i → test j ≡ false)

pub record Laws : Type 0 where
  -- the members of a mask are the numbers below 64 that pass its test
  pub members : (test : ℕ → Bool) (i : ℕ) → bit (mask test) i ≡ (nat_lt i 64 && test i)
  -- a number of 64 bits is the mask of its members, so two with the same members are equal
  pub whole : (m : ℕ) → m < 2 ^ 64 → mask (bit m) ≡ m
  -- tests that agree below 64 have one mask
  pub agree : (f g : ℕ → Bool) → ((i : ℕ) → i < 64 → f i ≡ g i) → mask f ≡ mask g
  pub empty : (test : ℕ → Bool) → Decides (none test) ((i : ℕ) → i < 64 → test i ≡ false)
  -- a mask has as many members as numbers pass, and the same least
  pub counted : (test : ℕ → Bool) → how_many (bit (mask test)) ≡ how_many test
  pub at_most : (test : ℕ → Bool) → how_many test ≤ 64
  pub least_kept : (test : ℕ → Bool) → least (bit (mask test)) ≡ least test
  pub lowest : (test : ℕ → Bool) → Least test 64 (least test)
