use Rattle.std.proofs.Common.{◌≡◌, ap, ◌∙◌, ltb, arith, ◌&&◌}
use Rattle.std.proofs.lemmas.Bool.{lt-ltb}
use Rattle.std.proofs.lemmas.Bool.Decides.{nat_tests}
use Rattle.std.proofs.lemmas.Grind.{common_steps}
use Rattle.masks.specs.Masks.{bit, mask}
use Rattle.host.specs.Changes.{crossed}
use Rattle.host.specs.Maps.{row_at}
use Rattle.host.proofs.Altering.{picture_turns}
use Rattle.host.proofs.Host.picture.Goals as goal

pub returns-clause-answer : goal.returns-clause-answer
returns-clause-answer c =
    let h = c.args.self.now in
    let i = c.args.row in
    let text = c.args.text.now in
    let card = c.below-on_card.ensures ∙ ap (λ n. mask (λ k. ltb k n)) c.columns-2.ensures in
    let new : c.in_ok-pes.pes ≡ mask (crossed text) = grind (arith, nat_tests, common_steps) in
    let old = c.common.ensures ∙ ap (λ k. mask (λ j. bit (row_at h k).pes j && bit c.below-on_card.result j)) c.from-2.ensures in
    let turned = picture_turns h i text _ _ _ (lt-ltb _ _ (omega arith)) card old new in
    grind (arith, nat_tests, common_steps)
