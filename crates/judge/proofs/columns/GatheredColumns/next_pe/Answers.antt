use Rattle.std.proofs.Common.{◌≡◌, true, ap, ◌∙◌, arith}
use Rattle.std.proofs.lemmas.Bool.{le-ltb, lt-ltb}
use Rattle.host.specs.declared.size.Size.{Size}
use Rattle.verdict.specs.Judging.{right_of_last}
use Rattle.judge.proofs.Faults.{few_full, right_first, right_next, row_found, usable_there, not_right, put_next}
use Rattle.judge.proofs.columns.GatheredColumns.next_pe.Goals as goal
use Rattle.judge.proofs.columns.GatheredColumns.next_pe.Goals.{else-self-gt0-via-then-self-gt0+else-column-self, else-self-gt0-via-else-self-gt0}

pub bounds-self-self-then-self-gt0 : goal.bounds-self-self-then-self-gt0
bounds-self-self-then-self-gt0 c = omega (arith, few_full c.args.chart.now.host.now c.requires.0 c.args.self.now c.requires.1 c.requires.2)

pub returns-then-column-self : goal.returns-then-column-self
returns-then-column-self c = λ m g holds.
    let h = c.args.chart.now.host.now in
    let s = c.args.self.now in
    let found = c.in-Some.ensures.lookup in
    let here = row_found h _ _ s.place c.in-Some.row.now c.deref.ensures.0 c.args.chart.now.listed found.3.0 found.1 in
    let usable = usable_there h s.place c.args.column c.at-pe.result _ c.is_usable.ensures c.if-not-is_usable.false (c.at-pe.ensures.row ∙ here.1) c.at-pe.ensures.column in
    let left = right_next h m s g holds c.args.column c.if-self-gt0.true here.0 ∙ le-ltb _ _ c.if-column-self.true in
    not_right h m s g holds c.args.column c.at-pe.result here.0 (omega (arith, ap (λ (z : Size). z.columns) c.size.ensures)) usable left

pub returns : goal.returns
returns c = λ m g holds.
    let h = c.args.chart.now.host.now in
    let s = c.args.self.now in
    let found = c.in-Some.ensures.lookup in
    let here = row_found h _ _ s.place c.in-Some.row.now c.deref.ensures.0 c.args.chart.now.listed found.3.0 found.1 in
    let usable = usable_there h s.place c.args.column c.at-pe.result _ c.is_usable.ensures c.if-not-is_usable.false (c.at-pe.ensures.row ∙ here.1) c.at-pe.ensures.column in
    let right : right_of_last g c.args.column ≡ true = elim c.else-self-gt0.branch [
      | else-self-gt0-via-then-self-gt0+else-column-self w ↦
          right_next h m s g holds c.args.column w.if-self-gt0.true here.0 ∙ lt-ltb _ _ w.if-column-self.false
      | else-self-gt0-via-else-self-gt0 w ↦ right_first h m s g holds c.args.column (omega arith)
    ] in
    put_next h m s g holds c.args.column c.at-pe.result here.0 (omega (arith, ap (λ (z : Size). z.columns) c.size.ensures)) usable right (c.at-pe.ensures.row ∙ here.1) c.at-pe.ensures.column
