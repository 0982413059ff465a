use Rattle.std.proofs.Common.{◌≡◌, ◌+◌, ◌*◌, ◌<◌, ◌≤◌, map, get_or, inl, inr, sym, refl, ap, ◌∙◌, subst, arith, length-set}
use Rattle.std.specs.List.{AllByRecursion}
use Rattle.std.proofs.ByRecursion.{All-weaker}
use Rattle.std.proofs.lemmas.Bool.{cases_lt}
use Rattle.std.proofs.lemmas.List.{get_or-replicate, get_or-set_other}
use Rattle.plans.specs.Held.{held_row, no_row}
use Rattle.plans.proofs.Holding.{at_each_filled}
use Rattle.router.proofs.Cells.{at_set}
use Rattle.route.specs.Told.{columns}
use Rattle.route.proofs.Ways.{front-first, front_inside, front_next, row_shown, row_past}
use Rattle.route.proofs.columns.by_row.Goals as goal

pub loop-s-init : goal.loop-s-init
loop-s-init c = record {
  long = refl;
  here = λ l. c.as_mut_slice-cells.ensures.value ∙ c.requires.starts ∙ front-first c.args.board.now;
  done = λ k l. absurd (omega arith);
  rest = λ k l in'. get_or-replicate 64 k _ _ in';
}

pub in_row-requires-clause-inside : goal.in_row-requires-clause-inside
in_row-requires-clause-inside c =
    let s = c.loop-s.s in
    let all = front_inside c.args.board.now c.requires.standing s (omega (arith, c.requires.rows)) in
    subst (AllByRecursion (λ u. (s * 66 + 1 ≤ u) × (u < s * 66 + 1 + 64))) (sym (c.loop-s.invariant.here c.loop-s-test.true)) all

pub go_on-requires : goal.go_on-requires
go_on-requires c =
    let s = c.loop-s.s in
    let all = front_inside c.args.board.now c.requires.standing s (omega (arith, c.requires.rows)) in
    subst (AllByRecursion (λ u. u < 4290)) (sym (c.loop-s.invariant.here c.loop-s-test.true))
    (All-weaker (λ u. (s * 66 + 1 ≤ u) × (u < s * 66 + 1 + 64)) _ (λ u p. omega (arith, p.1, c.requires.rows, c.requires.standing.shape.rows)) _ all)

pub loop-s-preserved : goal.loop-s-preserved
loop-s-preserved c =
    let b = c.args.board.now in
    let s = c.loop-s.s in
    let i = c.loop-s.invariant in
    let here = i.here c.loop-s-test.true in
    let shown : c.in_row.result ≡ held_row (columns b c.args.rows) s =
    ap (λ xs. record { columns = xs }) (c.in_row.ensures ∙ row_shown b c.args.rows s c.loop-s-test.true _ here) in
    record {
      long = length-set c.loop-s.held s _ ∙ i.long;
      here = λ l. c.go_on.ensures ∙ ap (λ xs. map (λ u. get_or b.ways.next u 0) xs) here ∙ front_next b c.requires.standing s (omega (arith, c.requires.rows));
      done = λ k l. at_set c.loop-s.held s k _ no_row (omega (arith, i.long, c.requires.rows, c.requires.standing.shape.rows)) (λ x. x ≡ held_row (columns b c.args.rows) k)
          (λ e. shown ∙ ap (held_row (columns b c.args.rows)) (sym e)) (λ n. i.done k (omega arith));
      rest = λ k l in'. get_or-set_other c.loop-s.held s k _ no_row (λ e. omega arith) ∙ i.rest k (omega arith) in';
    }

pub returns : goal.returns
returns c =
    let i = c.loop-s.invariant in
    let b = c.args.board.now in
    at_each_filled _ no_row _ i.long (λ k l. elim (cases_lt k c.args.rows) [
      | inl in' ↦ i.done k (omega arith)
      | inr out ↦ i.rest k (omega arith) l ∙ ap (λ xs. record { columns = xs }) (row_past b c.args.rows k out)
    ])
