use Rattle.std.proofs.Common.{◌≡◌, length, ap, ◌∙◌, arith, length-append}
use Rattle.masks.specs.Masks.{mask}
use Rattle.masks.proofs.Members.{length_passing}
use Rattle.host.specs.Maps.{stands}
use Rattle.routable.proofs.Cards.{rows_named}
use Rattle.routable.proofs.standing_rows.Goals as goal

pub loop-row-init : goal.loop-row-init
loop-row-init c =
    let h = c.args.host.now in
    let begun : c.into_iter-row-iterator.result.left ≡ mask (stands h) =
    ap (λ s. s.left) c.into_iter-row-iterator.ensures.into_iter_gives ∙ c.of-row-items.ensures ∙ c.standing.ensures in
    record { can_go_on = tt; ends = tt; made = rw c.new-rows.ensures (rows_named h _ begun) }

pub push-requires : goal.push-requires
push-requires c =
    let h = c.args.host.now in
    let all = simp length-append at (ap length c.loop-row.invariant.made) in
    let one_more = ap length c.in-Some.ensures.steps in
    (omega arith, omega (arith, all, one_more, length_passing (stands h) 64))
