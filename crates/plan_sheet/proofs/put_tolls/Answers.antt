use Rattle.std.proofs.Common.{ℕ, ◌<◌, rules, ◌-◌, ◌+◌, length, ap, arith, length-append}
use Rattle.std.proofs.lemmas.Grind.{common_steps}
use Rattle.plans.specs.Held.{held_tolls}
use Rattle.plan_sheet.proofs.Parts.{up_to_toll, up_to_grows, up_to_all}
use Rattle.plan_sheet.proofs.put_tolls.Goals as goal

pub put-requires : goal.put-requires
put-requires c =
    let p = c.args.plan.now in
    let j = c.loop-column.column in
    let some : 0 < held_tolls p c.args.row j = search rules in
    let next = up_to_toll (held_tolls p) c.args.row j some in
    let rest = up_to_grows (held_tolls p) c.args.row (64 - (j + 1)) (j + 1) 64 (omega arith) in
    grind (arith, common_steps, rest, ap length next, length-append {A = ℕ}, up_to_all p c.args.row 64)
