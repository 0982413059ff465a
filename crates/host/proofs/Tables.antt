-- A map with one row set, and a row with one bit put. Assumes nothing.
use Rattle.std.proofs.Common.{◌≡◌, ℕ, ◌<◌, Bool, cond, ◌&&◌, eqb, length, arith}
use Rattle.std.proofs.lemmas.List.{get_or-set_same, set-set, set_past}
use Rattle.std.proofs.lemmas.Bool.Decides.{nat_tests}
use Rattle.std.proofs.lemmas.Grind.{common_steps}
use Rattle.masks.specs.Masks.{bit, mask}
use Rattle.masks.proofs.Masks.{bit-mask_below, mask-same}
use Rattle.host.specs.declared.Host.{Host}
use Rattle.host.specs.declared.Row.{Row}
use Rattle.host.specs.Maps.{row_at}
use Rattle.host.specs.Changes.{put, with_row}

pub bit-put : (m j : ℕ) (b : Bool) (k : ℕ) → k < 64 → bit (put m j b) k ≡ cond (eqb k j) b (bit m k)
bit-put m j b k l = bit-mask_below (λ k. cond (eqb k j) b (bit m k)) 64 k l

-- of two bits put in one place the later stays
pub put-put : (m j : ℕ) (a b : Bool) → put (put m j a) j b ≡ put m j b
put-put m j a b = mask-same _ _ 64 (λ k l. grind (arith, nat_tests, bit-put))

module _ (h : Host) (i : ℕ) (row : Row) where
  -- what a row set shares with the one before it stays in every row
  pub kept_in_rows : (f : Row → ℕ) (k : ℕ) → f row ≡ f (row_at h i) → f (row_at (with_row h i row) k) ≡ f (row_at h k)
  kept_in_rows f k same = grind (arith, nat_tests, common_steps)

  -- of two rows set in one place the later stays, if it says the same of both before it
  pub row_again : (f : Row → Row) → f row ≡ f (row_at h i) → with_row (with_row h i row) i (f (row_at (with_row h i row) i)) ≡ with_row h i (f (row_at h i))
  row_again f same = grind (arith, set-set, set_past, get_or-set_same)

  -- the bits of a row set, and of one with one bit put
  pub bit-with_row : (f : Row → ℕ) (test : ℕ → Bool) → f row ≡ mask test → i < length h.rows → (k l : ℕ) → l < 64 →
      bit (f (row_at (with_row h i row) k)) l ≡ cond (eqb k i) (test l) (bit (f (row_at h k)) l)
  bit-with_row f test e long k l low = grind (arith, nat_tests, common_steps, bit-mask_below)

  pub bit-put_in_row : (f : Row → ℕ) (j : ℕ) (b : Bool) → f row ≡ put (f (row_at h i)) j b → i < length h.rows → (k l : ℕ) → l < 64 →
      bit (f (row_at (with_row h i row) k)) l ≡ cond (eqb k i && eqb l j) b (bit (f (row_at h k)) l)
  bit-put_in_row f j b e long k l low = grind (arith, nat_tests, common_steps, bit-put)
