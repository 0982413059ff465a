use Rattle.std.proofs.Common.{ap, ◌∙◌, length}
use Rattle.host.specs.Sizes.{tested}
use Rattle.card.specs.Drawings.{side}
use Rattle.card.proofs.drawing.Drawing.of_lines.Goals as goal

pub returns-clause-size : goal.returns-clause-size
returns-clause-size c =
    c.in_ok-size.ensures
    ∙ ap (λ rows. tested rows c.side-2.result) c.side.ensures
    ∙ ap (λ columns. tested (side (length c.args.lines.now)) columns) (c.side-2.ensures ∙ ap side c.first_length.ensures)
