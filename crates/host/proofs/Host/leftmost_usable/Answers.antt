use Rattle.std.proofs.Common.{ap, ◌∙◌}
use Rattle.masks.specs.Masks.{bit}
use Rattle.masks.proofs.Counts.{least-same}
use Rattle.host.proofs.Rows.{bit-usable}
use Rattle.host.proofs.Host.leftmost_usable.Goals as goal

pub returns : goal.returns
returns c = c.lowest.ensures ∙ least-same _ _ 64 (λ j _. ap (λ m. bit m j) c.usable_in.ensures ∙ bit-usable c.args.self.now c.args.row j)
