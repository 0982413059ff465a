use Rattle.masks.specs.Masks.{bit, mask}
use Rattle.masks.proofs.Masks.{bit-mask, bit-mask_below, mask_bits, mask-same, mask_empty}
use Rattle.masks.proofs.Counts.{how_many_le, how_many-same, least-found, least-same}
use Rattle.masks.proofs.laws.Goals as goal

pub returns : goal.returns
returns c = record {
  members = bit-mask;
  whole = mask_bits 64;
  agree = λ f g. mask-same f g 64;
  empty = mask_empty;
  counted = λ test. how_many-same (bit (mask test)) test 64 (bit-mask_below test 64);
  at_most = λ test. how_many_le test 64;
  least_kept = λ test. least-same (bit (mask test)) test 64 (bit-mask_below test 64);
  lowest = λ test. least-found test 64;
}
