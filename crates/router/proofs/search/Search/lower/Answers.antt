use Rattle.std.proofs.Common.{ap, arith}
use Rattle.router.specs.declared.search.Search.{Search}
use Rattle.router.proofs.Lowers as Lowers
use Rattle.router.proofs.search.Search.lower.Goals as goal

pub overflow_sub-due : goal.overflow_sub-due
overflow_sub-due c = Lowers.high c.requires.seeks c.args.why c.requires.offer c.if-v-self.true

pub returns-then-v-self : goal.returns-then-v-self
returns-then-v-self c =
    let told = c.tell.ensures in
    let label = ap (λ (s : Search). s.label) told.others in
    let due = ap (λ (s : Search). s.due) told.others in
    let why = ap (λ (s : Search). s.why) told.others in
    record {
      seeks = Lowers.seeks c.requires.seeks c.args.why c.requires.offer c.if-v-self.true (omega arith) (omega arith) (omega arith) _ label due why told.closer;
      lowered = Lowers.lowered c.requires.seeks c.args.why c.requires.offer c.if-v-self.true (omega arith) (omega arith) (omega arith) _ label due why told.closer;
    }
