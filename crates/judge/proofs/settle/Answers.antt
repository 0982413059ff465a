use Rattle.std.proofs.Common.{ℕ, ◌*◌, ap, ◌∙◌, arith}
use Rattle.judge.specs.declared.gathering.Gathering.{Gathering}
use Rattle.judge.proofs.Limits.{few}
use Rattle.judge.proofs.Settlings.{cheap_is, full_columns, too_cheap, wrong_sum, all_right}
use Rattle.judge.proofs.TollTables.{small_sum}
use Rattle.judge.proofs.settle.Goals as goal

pub returns-then-some_column_underpriced : goal.returns-then-some_column_underpriced
returns-then-some_column_underpriced g c = λ g' holds empty.
    let chart = c.args.chart.now in
    too_cheap _ _ _ g' holds empty
    (cheap_is _ _ _ g' holds empty chart.standing chart.usable chart.stand chart.drawn _ c.some_column_underpriced.ensures ∙ c.if-some_column_underpriced.true)

pub overflow_add-tolls : goal.overflow_add-tolls
overflow_add-tolls g c =
    let holds = c.requires.1 in
    omega (arith, ap (λ (s : Gathering). s.tolls.sum) holds.is, small_sum c.args.chart.now.host.now c.requires.0 holds.valid)

pub overflow_mul-from : goal.overflow_mul-from
overflow_mul-from g c =
    let holds = c.requires.1 in
    let full = c.args.gathering.now.columns.full in
    omega (arith, ap (λ (n : ℕ). n * full) c.from-2.ensures, full_columns _ _ _ c.requires.0 holds c.requires.2, few c.args.chart.now.host.now c.requires.0 holds.valid)

pub returns-then-tolls-from : goal.returns-then-tolls-from
returns-then-tolls-from g c = λ g' holds empty.
    let chart = c.args.chart.now in
    let full = c.args.gathering.now.columns.full in
    wrong_sum _ _ _ g' holds empty
    (cheap_is _ _ _ g' holds empty chart.standing chart.usable chart.stand chart.drawn _ c.some_column_underpriced.ensures ∙ c.if-some_column_underpriced.false)
    (λ e. omega (arith, c.if-tolls-from.true, ap (λ (n : ℕ). n * full) c.from-2.ensures))

pub returns : goal.returns
returns g c = λ g' holds empty.
    let chart = c.args.chart.now in
    let full = c.args.gathering.now.columns.full in
    all_right _ _ _ g' holds empty
    (cheap_is _ _ _ g' holds empty chart.standing chart.usable chart.stand chart.drawn _ c.some_column_underpriced.ensures ∙ c.if-some_column_underpriced.false)
    (omega (arith, c.if-tolls-from.false, ap (λ (n : ℕ). n * full) c.from-2.ensures))
