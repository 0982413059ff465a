use Rattle.std.proofs.Common.{arith}
use Rattle.host.proofs.Rows.{bit-usable}
use Rattle.host.proofs.Host.is_usable.Goals as goal

pub returns : goal.returns
returns c = grind (arith, bit-usable c.args.self.now c.args.row c.args.column)
