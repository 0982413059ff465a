use Rattle.std.proofs.Common.{[], refl, sym, ap, ◌∙◌, get_or}
use Rattle.card.specs.Piles.{warm_row, warm_rows}
use Rattle.card.proofs.Warmth.{warm_rows-more}
use Rattle.card.proofs.pile.pile.Goals as goal

pub loop-row-init : goal.loop-row-init
unfolding warm_rows
loop-row-init c = (refl, c.new-heat.ensures.heats)

pub loop-row-preserved : goal.loop-row-preserved
loop-row-preserved c = (
  c.warm_row.ensures.below ∙ c.loop-row.invariant.0,
  c.warm_row.ensures.heats
      ∙ ap (λ heats. warm_row heats c.loop-row.row (get_or c.args.lines.now c.loop-row.row (record { ref_ptr = (0, 0); now = [] })).now 64) c.loop-row.invariant.1
      ∙ sym (warm_rows-more c.args.lines.now c.loop-row.row),
)
