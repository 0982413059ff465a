use Rattle.promise.proofs.Replays.{opened, called, promised}
use Rattle.promise.proofs.replay.replay.Goals as goal

pub loop-call-init : goal.loop-call-init
loop-call-init g c = opened g.T.Tariff.meaning g.met.T.Tariff.lawful c.args.size c.args.tariff c.args.calls.now c.args.buffer.now c.open-book.result c.open-book.ensures

pub loop-call-preserved : goal.loop-call-preserved
loop-call-preserved g c =
    called g.T.Tariff.meaning g.met.T.Tariff.lawful c.args.size c.args.tariff c.args.calls.now c.args.buffer.now c.loop-call.call-index _ _ c.apply.result
    c.apply.new.book c.apply.new.buffer c.loop-call-test.true c.loop-call.invariant c.apply.ensures.called c.apply.ensures.buffer

pub returns : goal.returns
returns g c =
    promised g.T.Tariff.meaning g.met.T.Tariff.lawful c.args.size c.args.tariff c.args.calls.now c.args.buffer.now c.loop-call.call-index _
    c.loop-call-test.false c.loop-call.invariant
