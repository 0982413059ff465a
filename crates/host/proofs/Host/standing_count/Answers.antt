use Rattle.std.proofs.Common.{ap, ◌∙◌}
use Rattle.masks.specs.Masks.{bit}
use Rattle.masks.proofs.Masks.{bit-mask_below}
use Rattle.masks.proofs.Counts.{how_many-same}
use Rattle.host.proofs.Host.standing_count.Goals as goal

pub returns : goal.returns
returns c = c.count.ensures ∙ how_many-same _ _ 64 (λ i l. ap (λ m. bit m i) c.standing.ensures ∙ bit-mask_below _ 64 i l)
