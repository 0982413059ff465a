use Rattle.std.proofs.Common.{length, drop}
use Rattle.judge.proofs.Readings.{Underway}
use Rattle.judge.proofs.gathering.Gathering.read.Given as goal

abbrev pub invariant-loop-end : goal.invariant-loop-end
invariant-loop-end g l = Underway l.chart.host.now (g.T.Tariff.meaning l.tariff) l.sheet l.reader l.self

abbrev pub decreases-loop-end : goal.decreases-loop-end
decreases-loop-end g l = length (drop l.reader.at l.sheet)
