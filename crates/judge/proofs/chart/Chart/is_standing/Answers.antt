use Rattle.std.proofs.Common.{ℕ, ap, ◌∙◌, arith}
use Rattle.masks.specs.Masks.{bit}
use Rattle.masks.proofs.Masks.{bit-mask_all}
use Rattle.host.specs.Maps.{stands}
use Rattle.host.proofs.Rows.{no_standing}
use Rattle.judge.proofs.chart.Chart.is_standing.Goals as goal

pub returns : goal.returns
returns c =
    let h = c.args.self.now.host.now in
    c.has.ensures ∙ ap (λ (m : ℕ). bit m c.args.row) c.args.self.now.stand
    ∙ bit-mask_all (stands h) (λ i l. no_standing h i (omega (arith, h.size.sized.1))) c.args.row
