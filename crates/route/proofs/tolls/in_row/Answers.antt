use Rattle.std.proofs.Common.{◌≡◌, ◌+◌, sym, ap, ◌∙◌, arith, length-set}
use Rattle.plans.proofs.Holding.{at_each_filled}
use Rattle.router.specs.Tolls.{toll_of}
use Rattle.router.proofs.Cells.{at_set}
use Rattle.route.proofs.tolls.in_row.Goals as goal

pub loop-j-preserved : goal.loop-j-preserved
loop-j-preserved c =
    let l = c.loop-j in
    record {
      long = length-set l.tolls l.j c.toll.result ∙ l.invariant.long;
      done = λ k m. at_set l.tolls l.j k c.toll.result 0 (omega (arith, l.invariant.long, c.loop-j-test.true)) (λ i. i ≡ toll_of c.args.board.now (c.args.first + k))
          (λ e. c.toll.ensures ∙ ap (λ n. toll_of c.args.board.now (c.args.first + n)) (sym e)) (λ n. l.invariant.done k (omega (arith, m, n)));
    }

pub returns : goal.returns
returns c = at_each_filled _ 0 _ c.loop-j.invariant.long (λ k l. c.loop-j.invariant.done k (omega arith))
