use Rattle.std.proofs.Common.{◌≡◌, sym, ◌∙◌}
use Rattle.judge.proofs.Nexts.{next_in, next_at_fault}
use Rattle.judge.specs.Gathering.{gathering_of}
use Rattle.judge.proofs.gathering.Gathering.take_next.Goals as goal

pub returns-in-Ok-clause-gathered : goal.returns-in-Ok-clause-gathered
returns-in-Ok-clause-gathered g c = λ g' holds.
    next_in c.args.chart.now.host.now g' c.args.reader.now.at
    (λ x. c.take-2.new.self ≡ gathering_of c.args.chart.now.host.now (g.T.Tariff.meaning c.args.tariff.now) x)
    _ c.in_ok-record.record c.in-Ok.field-0 c.place-at.result _ (sym c.take.ensures.answer ∙ c.in_ok-record.was) c.place-at.ensures c.end_at.ensures (c.in-Ok.ensures g' holds)

pub returns-in-Err-clause-gathered : goal.returns-in-Err-clause-gathered
returns-in-Err-clause-gathered g c = λ g' holds.
    next_at_fault c.args.chart.now.host.now g' c.args.reader.now.at
    (λ x. c.take-2.new.self ≡ gathering_of c.args.chart.now.host.now (g.T.Tariff.meaning c.args.tariff.now) x)
    _ c.in_ok-record.record c.in-Err.fault c.place-at.result (sym c.take.ensures.answer ∙ c.in_ok-record.was) c.place-at.ensures (c.in-Err.ensures g' holds)
