use Rattle.std.proofs.Common.{◌≡◌, refl}
use Rattle.judge.specs.Gathering.{gathering_of}
use Rattle.judge.proofs.Outcomes.{answers_err}
use Rattle.judge.proofs.Readings.{underway-first, holds, faulty, finished, fewer_left, underway-next}
use Rattle.judge.proofs.gathering.Gathering.read.Goals as goal

pub loop-end-init : goal.loop-end-init
loop-end-init g c = underway-first c.args.chart.now.host.now (g.T.Tariff.meaning c.args.tariff.now) c.args.sheet.now _ _ c.new-reader.ensures c.requires

pub take_next-requires : goal.take_next-requires
take_next-requires g c = (c.loop-end.invariant.so_far, holds _ _ _ _ _ c.loop-end.invariant)

pub loop-end-smaller : goal.loop-end-smaller
loop-end-smaller g c =
    let u = c.loop-end.invariant in
    fewer_left _ _ _ _ _ u c.take_next.new.reader c.take_next.new.self _ c.in-Ok-None.field-0-is c.take_next.ensures.reader (c.in-Ok-None.ensures.gathered u.so_far (holds _ _ _ _ _ u))

pub loop-end-preserved : goal.loop-end-preserved
loop-end-preserved g c =
    let u = c.loop-end.invariant in
    underway-next _ _ _ _ _ u c.take_next.new.reader c.take_next.new.self _ c.in-Ok-None.field-0-is c.take_next.ensures.reader (c.in-Ok-None.ensures.gathered u.so_far (holds _ _ _ _ _ u))

pub returns-in-Ok-Some : goal.returns-in-Ok-Some
returns-in-Ok-Some g c =
    let u = c.loop-end.invariant in
    finished _ _ _ _ _ u c.take_next.new.self c.in-Ok-Some.end _ c.in-Ok-Some.field-0-is (c.in-Ok-Some.ensures.gathered u.so_far (holds _ _ _ _ _ u))

pub returns-in-Err : goal.returns-in-Err
returns-in-Err g c =
    let u = c.loop-end.invariant in
    answers_err _ _ _ _ _ (faulty _ _ _ _ _ u (λ x. c.take_next.new.self ≡ gathering_of c.args.chart.now.host.now (g.T.Tariff.meaning c.args.tariff.now) x) c.in-Err.fault
    (c.in-Err.ensures.gathered u.so_far (holds _ _ _ _ _ u))) refl
