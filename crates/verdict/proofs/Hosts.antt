-- What a judge needs to know of a map. Assumes nothing.
use Rattle.std.proofs.Common.{◌≡◌, ℕ, ◌<◌, true, sym, ◌∙◌, arith}
use Rattle.std.specs.List.{AllByRecursion}
use Rattle.std.proofs.ByRecursion.{All-weaker}
use Rattle.std.proofs.lemmas.Bool.Decides.{nat_tests}
use Rattle.masks.specs.Masks.{bit, mask, how_many}
use Rattle.masks.proofs.Counts.{how_many-same}
use Rattle.masks.proofs.Masks.{bit-mask_below}
use Rattle.masks.proofs.Members.{passing_count}
use Rattle.host.specs.declared.Host.{Host}
use Rattle.host.specs.Maps.{stands}
use Rattle.host.proofs.Meanings.{usable_when}
use Rattle.plans.specs.Columns.{Usable, standing}
use Rattle.plans.specs.Families.{Pairwise}
use Rattle.plans.proofs.Passing.{passing_each, passing_ascends}
use Rattle.routable.specs.Cards.{card_of}

module _ (h : Host) where
  pub ascending : Pairwise ◌<◌ (card_of h).rows
  ascending = passing_ascends (stands h) 64

  pub low_rows : AllByRecursion (λ r. r < 64) (card_of h).rows
  low_rows = All-weaker _ (λ r. r < 64) (λ r p. p.0) (card_of h).rows (passing_each (stands h) 64)

  -- as many rows stand as the mask has members
  pub counted : how_many (bit (mask (stands h))) ≡ standing (card_of h)
  counted = how_many-same _ (stands h) 64 (bit-mask_below (stands h) 64) ∙ sym (passing_count (stands h) 64)

  pub inside : (r j : ℕ) → Usable (card_of h) r j → j < h.size.columns
  inside r j u = ((usable_when h r j).0 u).column

  pub narrow : (r j : ℕ) → Usable (card_of h) r j → j < 64
  narrow r j u = omega (arith, inside r j u, h.size.sized.3)

  pub low : (r : ℕ) → stands h r ≡ true → r < 64
  low r on = grind (arith, nat_tests, h.size.sized)
