use Rattle.std.proofs.Common.{◌+◌, ◌*◌, ◌≤◌, length, IfSome}
use Rattle.std.specs.Option.{option_map}
use Rattle.tariff.specs.Kinds.{links}
use Rattle.book.specs.Plans.{HoldsBest}
use Rattle.job.specs.Lines.{map_of}
use Rattle.job.specs.Records.{entries}
use Rattle.job.proofs.Midway.{Midway}
use Rattle.job.proofs.listing.write.Given as goal

abbrev pub invariant-loop-kind : goal.invariant-loop-kind
invariant-loop-kind l =
    let left = entries l.kind-iterator.0.now in
    (l.used + 34 * length left ≤ 34 * length l.job) × Midway l.job l.initial.page l.page l.used (option_map map_of l.book) left
    × IfSome l.book (HoldsBest links)
