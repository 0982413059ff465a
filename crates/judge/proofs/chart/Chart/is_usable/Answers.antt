use Rattle.std.proofs.Common.{◌≡◌, ℕ, List, get_or, ap, ◌∙◌}
use Rattle.masks.specs.Masks.{bit, mask}
use Rattle.host.specs.Maps.{usable}
use Rattle.host.proofs.Rows.{bit-usable}
use Rattle.plans.proofs.Holding.{at_each_at}
use Rattle.judge.proofs.chart.Chart.is_usable.Goals as goal

pub returns-then-pe-lt64 : goal.returns-then-pe-lt64
returns-then-pe-lt64 c =
    let chart = c.args.self.now in
    let h = chart.host.now in
    let pe = c.args.pe in
    let row : get_or chart.usable c.from.result 0 ≡ mask (usable h pe.row) =
    ap (λ (i : ℕ). get_or chart.usable i 0) c.from.ensures
    ∙ ap (λ (xs : List ℕ). get_or xs pe.row 0) chart.drawn ∙ at_each_at (λ r. mask (usable h r)) 0 pe.row c.if-pe-lt64.true in
    c.has.ensures ∙ ap (λ (m : ℕ). bit m pe.column) row ∙ bit-usable h pe.row pe.column
