use Rattle.std.proofs.Common.{◌≡◌, cond, eqb, refl, ◌∙◌, arith}
use Rattle.std.proofs.lemmas.Grind.{common_steps}
use Rattle.std.proofs.lemmas.Bool.Decides.{nat_tests}
use Rattle.masks.specs.Masks.{bit, mask}
use Rattle.masks.proofs.Masks.{mask-none, mask-more, mask_all}
use Rattle.host.specs.Changes.{crossed}
use Rattle.host.proofs.changes.crosses.Goals as goal
use Rattle.host.proofs.changes.crosses.Goals.{in-46, in-X}

pub loop-i-init : goal.loop-i-init
loop-i-init c = (mask-none (crossed c.args.text.now), refl)

pub loop-i-preserved : goal.loop-i-preserved
loop-i-preserved c =
    let text = c.args.text.now in
    let i = c.loop-i.i in
    let cross : c.match-from.faulty ≡ crossed text i =
    elim c.match-from.branch [ in-46 w ↦ grind (arith, nat_tests) | in-X w ↦ grind (arith, nat_tests) ]
    in (
      c.with-bits.ensures ∙ (λ p. mask (λ j. cond (eqb j i) (cross p) (bit (c.loop-i.invariant.0 p) j))) ∙ mask-more (crossed text) i (omega (arith, c.requires)),
      elim c.match-from.branch [ in-46 w ↦ grind (arith, common_steps, nat_tests) | in-X w ↦ grind (arith, common_steps, nat_tests) ],
    )

pub returns : goal.returns
returns c =
    let e = mask_all (crossed c.args.text.now) c.loop-i.i (omega arith) (λ j l. grind (arith, common_steps, nat_tests)) in
    grind (arith, common_steps, nat_tests)
