use Rattle.std.proofs.Common.{◌++◌, ◌∷◌, [], ap, sym, ◌∙◌, length, take, get_or, arith}
use Rattle.std.proofs.lemmas.List.{length-take}
use Rattle.promise.specs.declared.call.Call.TheVariants.{Picture}
use Rattle.card.proofs.Pictures.{length-pictures, pictures-more}
use Rattle.card.proofs.script.Script.of_lines.Goals as goal

pub with-script-requires : goal.with-script-requires
with-script-requires c = omega (arith, ap length c.loop-row.invariant.1, length-pictures (take c.loop-row.row c.args.lines.now), length-take c.loop-row.row c.args.lines.now, c.loop-row-test.true, c.requires)

pub loop-row-preserved : goal.loop-row-preserved
loop-row-preserved c = (
  c.with-script.result.in_room,
  c.with-script.ensures
      ∙ ap (λ calls. calls ++ Picture c.loop-row.row (get_or c.args.lines.now c.loop-row.row (record { ref_ptr = (0, 0); now = [] })) ∷ []) c.loop-row.invariant.1
      ∙ sym (pictures-more c.args.lines.now c.loop-row.row _ c.loop-row-test.true),
)

pub returns-clause-number : goal.returns-clause-number
returns-clause-number c = omega (arith, ap length c.loop-row.invariant.1, length-pictures (take c.loop-row.row c.args.lines.now), length-take c.loop-row.row c.args.lines.now, c.loop-row-test.false, c.loop-row.auto.row-end)
