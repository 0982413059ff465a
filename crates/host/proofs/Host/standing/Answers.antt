use Rattle.std.proofs.Common.{cond, eqb, ◌∙◌, arith}
use Rattle.masks.specs.Masks.{bit, mask}
use Rattle.masks.proofs.Masks.{mask-none, mask-more, mask_all}
use Rattle.host.specs.Maps.{stands}
use Rattle.host.proofs.Rows.{no_standing}
use Rattle.host.proofs.Host.standing.Goals as goal

pub loop-i-init : goal.loop-i-init
loop-i-init c = mask-none (stands c.args.self.now)

pub loop-i-preserved : goal.loop-i-preserved
loop-i-preserved c =
    let h = c.args.self.now in
    let i = c.loop-i.i in
    c.with-rows.ensures
    ∙ (λ p. mask (λ j. cond (eqb j i) (c.is_standing.ensures p) (bit (c.loop-i.invariant p) j)))
    ∙ mask-more (stands h) i (omega (arith, h.size.sized))

pub returns : goal.returns
returns c =
    let h = c.args.self.now in
    c.loop-i.invariant ∙ mask_all (stands h) c.loop-i.i (omega (arith, h.size.sized))
    (λ i l. no_standing h i (omega arith))
