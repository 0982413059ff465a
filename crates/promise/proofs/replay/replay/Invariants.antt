use Rattle.std.proofs.Common.{take}
use Rattle.promise.specs.Runs.{Run, start}
use Rattle.promise.proofs.replay.replay.Given as goal

-- the calls so far are a run
abbrev pub invariant-loop-call : goal.invariant-loop-call
invariant-loop-call g l =
    let m = g.T.Tariff.meaning l.fn.tariff in
    Run m (start l.fn.size l.fn.tariff l.initial.buffer) (take l.call-index l.calls) (record { book = l.book; buffer = l.buffer; reply = l.reply })
