use Rattle.std.proofs.Common.{length, refl, inl, inr, arith}
use Rattle.std.proofs.lemmas.Bool.{cases_lt}
use Rattle.std.proofs.lemmas.List.{get_or_past}
use Rattle.plans.proofs.Holding.{at_each_filled}
use Rattle.router.proofs.Cells.{get_or-replicate_same}
use Rattle.route.proofs.columns.in_row.Goals as goal

pub loop-n-init : goal.loop-n-init
loop-n-init c = record { long = refl; done = λ k l. absurd (omega arith); rest = λ k l. get_or-replicate_same 64 k 0 }

pub returns : goal.returns
returns c =
    let i = c.loop-n.invariant in
    let cells = c.args.cells.now in
    at_each_filled _ 0 _ i.long (λ k l. elim (cases_lt k (length cells)) [
      | inl in' ↦ i.done k (omega arith)
      | inr out ↦ omega (arith, i.rest k (omega arith), get_or_past cells k c.args.first out)
    ])
