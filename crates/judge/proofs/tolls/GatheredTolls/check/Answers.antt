use Rattle.std.proofs.Common.{sym, ◌∙◌}
use Rattle.judge.proofs.TollTables.{out_of_order, no_amount, addable}
use Rattle.judge.proofs.tolls.GatheredTolls.check.Goals as goal

pub returns-then-not-is_after : goal.returns-then-not-is_after
returns-then-not-is_after c = λ g is.
    let h = c.args.chart.now.host.now in
    out_of_order h c.args.self.now g is c.args.pe c.args.amount (sym c.is_standing.ensures ∙ c.if-not-is_standing.false)
    (sym c.is_usable.ensures ∙ c.if-not-is_usable.false)
    (sym c.is_after.ensures ∙ c.if-not-is_after.true)

pub returns-then-amount-eq0 : goal.returns-then-amount-eq0
returns-then-amount-eq0 c = λ g is.
    let h = c.args.chart.now.host.now in
    no_amount h c.args.self.now g is c.args.pe c.args.amount (sym c.is_standing.ensures ∙ c.if-not-is_standing.false)
    (sym c.is_usable.ensures ∙ c.if-not-is_usable.false)
    (sym c.is_after.ensures ∙ c.if-not-is_after.false) c.then-amount-eq0.either

pub returns : goal.returns
returns c = λ g is.
    let h = c.args.chart.now.host.now in
    addable h c.args.self.now g is c.args.pe c.args.amount (sym c.is_standing.ensures ∙ c.if-not-is_standing.false)
    (sym c.is_usable.ensures ∙ c.if-not-is_usable.false)
    (sym c.is_after.ensures ∙ c.if-not-is_after.false) c.if-amount-eq0.false c.if-amount-gt-WORTH.false
