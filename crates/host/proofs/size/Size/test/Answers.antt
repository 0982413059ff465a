use Rattle.std.proofs.Common.{arith}
use Rattle.std.proofs.lemmas.Bool.Decides.{nat_tests}
use Rattle.host.proofs.size.Size.test.Goals as goal
use Rattle.host.proofs.Sizes.{passed}

pub returns : goal.returns
returns c = passed c.args.rows c.args.columns _ (grind (arith, nat_tests))
