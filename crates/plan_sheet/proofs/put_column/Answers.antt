use Rattle.std.proofs.Common.{ℕ, length, ap, arith, length-append}
use Rattle.std.proofs.lemmas.Grind.{common_steps}
use Rattle.sheet.proofs.Bodies.{length_bytes}
use Rattle.plan_sheet.proofs.Parts.{left_next}
use Rattle.plan_sheet.proofs.put_column.Goals as goal

pub put-requires : goal.put-requires
put-requires c =
    let next = left_next c.args.plan.now c.args.standing c.args.n c.loop-s.above c.loop-s.s (omega arith) in
    grind (arith, common_steps, ap length next, length-append {A = ℕ}, length_bytes)
