use Rattle.std.proofs.Common.{rules, arith}
use Rattle.job.proofs.Fitted.{in_place}
use Rattle.job.proofs.listing.list.Goals as goal

pub returns-then-job-out : goal.returns-then-job-out
returns-then-job-out c =
    in_place c.args.job.now c.args.out.now (search rules) c.write.new.page c.write.ensures.laid (omega (arith, c.write.ensures.short, c.if-job-out.true))
