-- The masks by which a map answers. Assumes nothing.
use Rattle.std.proofs.Common.{◌≡◌, ℕ, ◌-◌, ◌<◌, ◌≤◌, true, false, not, ◌&&◌, eqb, ltb, ap, ◌∙◌, arith}
use lib.Bits.{bit_or}
use Rattle.std.proofs.lemmas.Bool.Decides.{nat_tests}
use Rattle.masks.specs.Masks.{bit, mask}
use Rattle.masks.proofs.Bits.{bit-bit_or}
use Rattle.masks.proofs.Masks.{bit-mask_below, bit-mask_all, mask-same}
use Rattle.host.specs.declared.Host.{Host}
use Rattle.host.specs.declared.part.Part.TheVariants.{RowSwitch, ColumnSwitch}
use Rattle.host.specs.Maps.{row_at, faulty, faulty_above, usable, stands}

module _ (h : Host) (i : ℕ) where
  -- outside the card nothing is usable and nothing stands
  pub no_row : h.size.rows ≤ i → (j : ℕ) → usable h i j ≡ false
  no_row l j = grind (arith, nat_tests)

  pub no_column : (j : ℕ) → h.size.columns ≤ j → usable h i j ≡ false
  no_column j l = grind (arith, nat_tests)

  pub no_standing : h.size.rows ≤ i → stands h i ≡ false
  no_standing l = grind (arith, nat_tests)

  pub bit-usable : (j : ℕ) → bit (mask (usable h i)) j ≡ usable h i j
  bit-usable = bit-mask_all (usable h i) (λ j l. no_column j (omega (arith, h.size.sized.3)))

  -- above and below are the column switches on either side of the row
  pub usable-mask : (all pes above below : ℕ) → i < h.size.rows → all ≡ mask (λ k. ltb k h.size.columns) → pes ≡ (row_at h i).pes →
      ((j : ℕ) → j < h.size.columns → bit above j ≡ faulty_above h i j) →
      ((j : ℕ) → j < h.size.columns → bit below j ≡ faulty h (ColumnSwitch i j)) →
      mask (λ j. bit all j && not (bit (bit_or (bit_or pes above) below) j)) ≡ mask (usable h i)
  usable-mask all pes above below l columns here up down = mask-same _ _ 64 (λ j k. grind (arith, nat_tests, bit-bit_or, column j k, up j, down j))
    where
      column : (j : ℕ) → j < 64 → bit all j ≡ ltb j h.size.columns
      column j k = ap (λ m. bit m j) columns ∙ bit-mask_below _ 64 j k

  -- across and switches are the row switches that are faulty, and all that there are
  pub stands_by_switches : (across switches common : ℕ) → i < h.size.rows → bit h.choice i ≡ true → across ≡ (row_at h i).across →
      switches ≡ mask (λ k. ltb k (h.size.columns - 1)) → common ≡ mask (λ j. bit across j && bit switches j) → eqb common 0 ≡ stands h i
  stands_by_switches across switches common l on here all each = let faults = same in grind (arith, nat_tests)
    where
      switch : (j : ℕ) → j < 64 → bit switches j ≡ ltb j (h.size.columns - 1)
      switch j k = ap (λ m. bit m j) all ∙ bit-mask_below _ 64 j k

      same : common ≡ mask (λ j. faulty h (RowSwitch i j))
      same = each ∙ mask-same _ _ 64 (λ j k. grind (arith, nat_tests, switch j k))
