use Rattle.std.proofs.Common.{refl, sym, ap, ◌∙◌}
use Rattle.card.specs.Piles.{warm_pe, warm_row}
use Rattle.card.proofs.Warmth.{warm_row-more}
use Rattle.card.proofs.pile.warm_row.Goals as goal

pub loop-column-init : goal.loop-column-init
unfolding warm_row
loop-column-init c = (refl, refl)

pub loop-column-preserved : goal.loop-column-preserved
loop-column-preserved c = (
  c.warm_pe.ensures.below ∙ c.loop-column.invariant.0,
  c.warm_pe.ensures.heats
      ∙ ap (λ heats. warm_pe heats c.args.row c.args.line.now c.loop-column.column) c.loop-column.invariant.1
      ∙ sym (warm_row-more c.args.heat.now.heats c.args.row c.args.line.now c.loop-column.column),
)
