-- The standing rows that a card does not have. Assumes nothing.
use Rattle.std.proofs.Common.{◌≡◌, ℕ, not, ◌&&◌, eqb, ltb, sym, ap}
use Rattle.masks.specs.Masks.{bit, mask, none}
use Rattle.masks.proofs.Masks.{bit-mask_below, mask-same}

pub outside_is : (rows standing : ℕ) → none (λ i. bit standing i && not (ltb i rows)) ≡ eqb (mask (λ j. bit standing j && not (bit (mask (λ k. ltb k rows)) j))) 0
outside_is rows standing = sym (ap (λ (m : ℕ). eqb m 0) (mask-same _ _ 64 (λ i l. ap (λ t. bit standing i && not t) (bit-mask_below (λ j. ltb j rows) 64 i l))))
