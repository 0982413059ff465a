use Rattle.std.proofs.Common.{◌≡◌, ◌++◌, length, ap, ◌∙◌, sym, arith, rules}
use Rattle.std.proofs.lemmas.Grind.{common_steps}
use Rattle.masks.specs.Masks.{bit, mask}
use Rattle.masks.proofs.Members.{passing_below}
use Rattle.host.specs.Maps.{stands}
use Rattle.routable.proofs.Cards.{rows_named}
use Rattle.sheet.specs.Records.{bytes}
use Rattle.verdict.specs.Sheets.{head_of}
use Rattle.plan_sheet.proofs.Parts.{short, rows_counted, few_rows, columns_left, columns_first, columns_next, columns_last, tolls_left, tolls_next, tolls_last}
use Rattle.plan_sheet.proofs.sheet_of.Goals as goal

pub loop-n-init : goal.loop-n-init
loop-n-init c =
    let head : c.put.new.sheet.items ≡ bytes (head_of c.args.host.now) = search rules in
    ap (λ xs. xs ++ columns_left c.args.host.now c.args.plan.now c.args.columns 0) head ∙ columns_first c.args.host.now c.args.plan.now c.args.columns

pub put_column-requires-clause-rows : goal.put_column-requires-clause-rows
put_column-requires-clause-rows c = omega (arith, few_rows c.args.host.now, rows_counted c.args.host.now, c.standing_count-rows.ensures)

pub put_column-requires-clause-room : goal.put_column-requires-clause-room
put_column-requires-clause-room c =
    let next = columns_next c.args.host.now c.args.plan.now c.args.columns c.loop-n.n (omega arith) in
    grind (arith, common_steps, short c.args.host.now c.args.plan.now c.args.columns c.requires, ap length next, rows_counted c.args.host.now)

pub loop-n-preserved : goal.loop-n-preserved
loop-n-preserved c =
    let next = columns_next c.args.host.now c.args.plan.now c.args.columns c.loop-n.n (omega arith) in
    grind (arith, common_steps, next, rows_counted c.args.host.now)

pub loop-row-init : goal.loop-row-init
loop-row-init c =
    let h = c.args.host.now in
    let begun : c.into_iter-row-iterator.result.left ≡ mask (stands h) =
    ap (λ s. s.left) c.into_iter-row-iterator.ensures.into_iter_gives ∙ c.of-row-items.ensures ∙ c.standing-standing.ensures in
    let last = columns_last h c.args.plan.now c.args.columns c.loop-n.n (omega arith) in
    record {
      can_go_on = tt;
      ends = tt;
      put = ap (λ rows. c.loop-n.sheet.items ++ tolls_left c.args.plan.now rows) (rows_named h _ begun) ∙ ap (λ xs. c.loop-n.sheet.items ++ xs) (sym last) ∙ c.loop-n.invariant;
    }

pub put_tolls-requires-clause-within : goal.put_tolls-requires-clause-within
put_tolls-requires-clause-within c = passing_below (bit c.loop-row.row-iterator.left) 64 c.in-Some.row _ c.in-Some.ensures.steps

pub put_tolls-requires-clause-room : goal.put_tolls-requires-clause-room
put_tolls-requires-clause-room c =
    let p = c.args.plan.now in
    let next = ap (tolls_left p) c.in-Some.ensures.steps ∙ tolls_next p c.in-Some.row _ in
    grind (arith, common_steps, short c.args.host.now p c.args.columns c.requires, ap length next)

pub loop-row-preserved : goal.loop-row-preserved
loop-row-preserved c =
    let p = c.args.plan.now in
    let next = ap (tolls_left p) c.in-Some.ensures.steps ∙ tolls_next p c.in-Some.row _ in
    record { can_go_on = tt; ends = tt; put = grind (arith, common_steps, next) }

pub put-requires-2 : goal.put-requires-2
put-requires-2 c =
    let p = c.args.plan.now in
    let last = ap (tolls_left p) c.in-None.ensures.steps.0 ∙ tolls_last p in
    grind (arith, common_steps, short c.args.host.now p c.args.columns c.requires, ap length last)

pub returns : goal.returns
returns c =
    let p = c.args.plan.now in
    let last = ap (tolls_left p) c.in-None.ensures.steps.0 ∙ tolls_last p in
    grind (arith, common_steps, last)
