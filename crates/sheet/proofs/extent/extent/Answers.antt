use Rattle.std.proofs.Common.{◌≡◌, Ok, sym, ap, ◌∙◌, rules, arith}
use Rattle.std.proofs.lemmas.Grind.{common_steps}
use Rattle.std.proofs.lemmas.List.{places}
use Rattle.records.specs.Records.{bare}
use Rattle.sheet.specs.declared.record.Kind.TheVariants.{End}
use Rattle.sheet.proofs.Extents.{extent_fault, extent_end, extent_more}
use Rattle.sheet.proofs.extent.extent.Goals as goal

pub returns-then-eq-clause-reach : goal.returns-then-eq-clause-reach
returns-then-eq-clause-reach c =
    let kind : c.in-Ok.kind ≡ End = grind (arith, common_steps) in
    let found = sym c.record_at.ensures ∙ ap bare c.in-Ok.is in
    let reach = extent_end c.loop-kind.left.now c.in-Ok.body.now (found ∙ ap (λ kind. Ok (kind, c.in-Ok.body.now)) kind) in
    grind (rules, arith, places, reach, c.loop-kind.invariant)

pub loop-kind-preserved : goal.loop-kind-preserved
loop-kind-preserved c =
    let go = λ (kind : c.in-Ok.kind ≡ End). absurd (grind (arith, common_steps)) in
    let found = sym c.record_at.ensures ∙ ap bare c.in-Ok.is in
    let reach = extent_more c.loop-kind.left.now c.in-Ok.kind c.in-Ok.body.now go found in
    grind (rules, arith, places, reach, c.loop-kind.invariant)

pub returns-clause-reach : goal.returns-clause-reach
returns-clause-reach c =
    let reach = extent_fault c.loop-kind.left.now c.in_default.field-0 (sym c.record_at.ensures ∙ ap bare c.in_default.is) in
    omega (arith, reach, c.loop-kind.invariant.1)
