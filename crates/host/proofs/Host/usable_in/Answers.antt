use Rattle.std.proofs.Common.{ltb, ap, ◌∙◌, arith}
use Rattle.masks.specs.Masks.{mask}
use Rattle.masks.proofs.Masks.{mask-none, mask_all}
use Rattle.host.specs.Maps.{usable}
use Rattle.host.proofs.Rows.{no_row, usable-mask}
use Rattle.host.proofs.Host.usable_in.Goals as goal

pub returns-then-row-rows : goal.returns-then-row-rows
returns-then-row-rows c =
    let h = c.args.self.now in
    let i = c.args.row in
    mask-none (usable h i) ∙ mask_all (usable h i) 0 (omega arith) (λ j _. no_row h i (omega arith) j)

pub returns : goal.returns
returns c =
    c.without.ensures
    ∙ usable-mask c.args.self.now c.args.row _ _ _ _ (omega arith) (c.below.ensures ∙ ap (λ n. mask (λ k. ltb k n)) c.columns.ensures)
    (ap (λ row. row.pes) c.row_at.ensures) c.switches_above.ensures c.switches_below.ensures
