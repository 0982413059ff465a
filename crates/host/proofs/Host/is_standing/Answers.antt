use Rattle.std.proofs.Common.{◌-◌, ltb, sym, ap, ◌∙◌, arith}
use Rattle.masks.specs.Masks.{mask}
use Rattle.host.proofs.Rows.{stands_by_switches}
use Rattle.host.proofs.Host.is_standing.Goals as goal

pub returns-then-has : goal.returns-then-has
returns-then-has c =
    stands_by_switches c.args.self.now c.args.row _ _ _ (omega arith) (sym c.if-has.ensures) (ap (λ row. row.across) c.row_at.ensures)
    (c.below-switches.ensures ∙ ap (λ n. mask (λ k. ltb k (n - 1))) c.columns.ensures) c.common.ensures
