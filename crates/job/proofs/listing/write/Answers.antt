use Rattle.std.proofs.Common.{◌≡◌, ap, sym, subst, length, None, arith}
use Rattle.std.specs.Option.{option_map}
use Rattle.job.specs.Lines.{map_of, line, text}
use Rattle.job.specs.Pages.{Laid}
use Rattle.job.specs.Records.{entries, bare_entry}
use Rattle.job.proofs.Midway.{Midway, begins, laid_more, laid_all}
use Rattle.job.proofs.Readings.{length_entries}
use Rattle.job.proofs.listing.write.Goals as goal

pub loop-kind-init : goal.loop-kind-init
loop-kind-init c =
    let same : c.args.job.now ≡ c.into_iter-kind-iterator.result.0.now = cc in (
      omega (arith, length_entries c.into_iter-kind-iterator.result.0.now, ap length same),
      subst (λ job. Midway c.args.job.now c.args.page.now c.args.page.now 0 None (entries job)) same (begins c.args.job.now c.args.page.now),
      tt,
    )

pub loop-kind-preserved : goal.loop-kind-preserved
loop-kind-preserved c =
    let map = option_map map_of c.loop-kind.book in
    let left = entries c.next.new.self.0.now in
    let e = bare_entry c.in-Some.field-0 in
    let step = c.in-Some.ensures.steps in
    let said : c.deref.result.now ≡ text (line e.kind c.apply-reply.result) = cc in
    let l : Laid c.loop-kind.page c.loop-kind.used (text (line e.kind c.apply-reply.result)) c.lay-used.new.page c.lay-used.result = subst (λ xs. Laid c.loop-kind.page c.loop-kind.used xs c.lay-used.new.page c.lay-used.result) said c.lay-used.ensures in (
      omega (arith, c.loop-kind.invariant.0, ap length step, c.lay-used.ensures.behind, c.deref.ensures.1),
      subst (λ map. Midway c.args.job.now c.args.page.now c.lay-used.new.page c.lay-used.result map left) (sym c.apply-reply.ensures.map)
          (laid_more e c.apply-reply.result left _ step c.apply-reply.ensures.answer l c.loop-kind.invariant.1),
      c.apply-reply.ensures.holds,
    )

pub returns-clause-laid : goal.returns-clause-laid
returns-clause-laid c = laid_all _ c.in-None.ensures.steps.0 c.loop-kind.invariant.1
