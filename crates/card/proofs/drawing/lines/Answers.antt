use Rattle.std.proofs.Common.{rules, ◌==◌, ◌∙◌}
use Rattle.std.proofs.lemmas.Iterator.Consumers.{map_from_collect}
use Rattle.std.proofs.lemmas.Iterator.Splits.{YieldsList-from_slice_split}
use Rattle.card.specs.Drawings.{unended}
use Rattle.card.proofs.drawing.lines.Goals as goal

pub returns : goal.returns
returns c = map_from_collect _ c.collect.ensures.ran (YieldsList-from_slice_split _ (λ b. b == 10) (unended c.args.text.now) (c.split.ensures.rest ∙ c.unended.ensures) c.split.ensures.done c.split.ensures.closure (search rules))
