use Rattle.std.proofs.Common.{ap, ◌∙◌}
use Rattle.plans.specs.Least.{least_below}
use Rattle.plans.specs.Masked.{masked, toll_table}
use Rattle.prices.proofs.Rows.{tells_underpriced}
use Rattle.prices.proofs.some_column_underpriced.Goals as goal

pub returns : goal.returns
returns g c =
    let m = g.T.Tariff.meaning c.args.tariff.now in
    let toll = toll_table c.args.tolls.now in
    let told = c.is_some_below_worth.ensures in
    let last = c.loop-row.invariant.least ∙ ap (least_below (masked c.args.standing c.args.usable.now) m toll _ _) c.in-None.ensures.steps.0 in
    let tells = tells_underpriced c.args.standing c.args.usable.now m toll _ last in
    (λ e. tells.0 (told.0 e), λ u. told.1 (tells.1 u))
