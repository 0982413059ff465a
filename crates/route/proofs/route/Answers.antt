use Rattle.std.proofs.Common.{◌<◌, length, sym, ap, ◌∙◌, subst, arith}
use Rattle.std.specs.List.{AllByRecursion}
use Rattle.plans.specs.Columns.{GoingDown}
use Rattle.routable.proofs.Cards.{within}
use Rattle.route.proofs.Makings as Makings
use Rattle.route.proofs.route.Goals as goal

pub by_row-plan-requires-2-clause-down : goal.by_row-plan-requires-2-clause-down
by_row-plan-requires-2-clause-down g c = subst GoingDown (sym (c.as_slice-rows.ensures.value ∙ c.standing_rows-standing.ensures)) (within c.args.host.now).down

pub by_row-plan-requires-2-clause-limit : goal.by_row-plan-requires-2-clause-limit
by_row-plan-requires-2-clause-limit g c =
    subst (AllByRecursion (λ r. r < 64)) (sym (c.as_slice-rows.ensures.value ∙ c.standing_rows-standing.ensures)) (within c.args.host.now).rows_limit

pub sum-requires-clause-limit : goal.sum-requires-clause-limit
sum-requires-clause-limit g c =
    subst (AllByRecursion (λ r. r < 64)) (sym (c.as_slice-rows.ensures.value ∙ c.standing_rows-standing.ensures)) (within c.args.host.now).rows_limit

pub sum-requires-clause-fits : goal.sum-requires-clause-fits
sum-requires-clause-fits g c =
    let h = c.args.host.now in
    let rows = c.as_slice-rows.ensures.value ∙ c.standing_rows-standing.ensures in
    let s = Makings.solved _ _ _ _ _ (within h) (g.met.T.Tariff.lawful c.args.tariff.now) c.grid_of.ensures.holds c.new-board.ensures c.solve.ensures.grid c.solve.ensures.standing c.solve.ensures.top in
    omega (arith, Makings.sum_is _ _ _ s _ _ rows c.by_row-plan-2.ensures, Makings.tolls_low _ _ _ s, Makings.few _ _ _ s)

pub overflow_sub-charges : goal.overflow_sub-charges
overflow_sub-charges g c =
    let h = c.args.host.now in
    let rows = c.as_slice-rows.ensures.value ∙ c.standing_rows-standing.ensures in
    let s = Makings.solved _ _ _ _ _ (within h) (g.met.T.Tariff.lawful c.args.tariff.now) c.grid_of.ensures.holds c.new-board.ensures c.solve.ensures.grid c.solve.ensures.standing c.solve.ensures.top in
    let number = Makings.number_is _ _ _ s _ (c.len-number.ensures.value ∙ ap length c.starts-starts.ensures) in
    omega (arith, number, c.sum.ensures, Makings.sum_is _ _ _ s _ _ rows c.by_row-plan-2.ensures, Makings.tolls_low _ _ _ s)

pub returns : goal.returns
returns g c =
    let h = c.args.host.now in
    let rows = c.as_slice-rows.ensures.value ∙ c.standing_rows-standing.ensures in
    let s = Makings.solved _ _ _ _ _ (within h) (g.met.T.Tariff.lawful c.args.tariff.now) c.grid_of.ensures.holds c.new-board.ensures c.solve.ensures.grid c.solve.ensures.standing c.solve.ensures.top in
    let number = Makings.number_is _ _ _ s _ (c.len-number.ensures.value ∙ ap length c.starts-starts.ensures) in
    Makings.planned _ _ _ s _ _ _ _ rows c.by_row-plan.ensures c.by_row-plan-2.ensures number (c.sum.ensures ∙ Makings.sum_is _ _ _ s _ _ rows c.by_row-plan-2.ensures)
