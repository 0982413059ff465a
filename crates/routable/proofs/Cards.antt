-- A map as routing sees it is within the limits. Assumes nothing.
use Rattle.std.proofs.Common.{◌≡◌, ℕ, ap, ◌∙◌, arith}
use Rattle.masks.specs.Masks.{bit, mask}
use Rattle.masks.specs.Members.{members}
use Rattle.masks.proofs.Masks.{bit-mask_below}
use Rattle.masks.proofs.Members.{passing-same}
use Rattle.host.specs.declared.Host.{Host}
use Rattle.host.specs.Maps.{usable, stands}
use Rattle.host.proofs.Meanings.{usable_when}
use Rattle.plans.specs.Columns.{Within}
use Rattle.plans.proofs.Cards.{members_within}
use Rattle.routable.specs.Cards.{card_of}

pub within : (h : Host) → Within (card_of h)
within h = members_within (stands h) (usable h) (λ r j on. omega (arith, ((usable_when h r j).0 on).column, h.size.sized.3))

-- the rows that a mask of standing rows names
pub rows_named : (h : Host) (m : ℕ) → m ≡ mask (stands h) → members (bit m) ≡ members (stands h)
rows_named h m e = ap (λ x. members (bit x)) e ∙ passing-same (bit (mask (stands h))) (stands h) 64 (bit-mask_below (stands h) 64)
