use Rattle.std.proofs.Common.{◌+◌, ◌≤◌, get_or, refl, sym, subst, false, arith}
use Rattle.router.specs.declared.board.TheConstants.{CELLS}
use Rattle.router.specs.Boards.{Shape}
use Rattle.router.specs.Descents.{Descends}
use Rattle.router.proofs.Cells.{get_or-replicate_same}
use Rattle.router.proofs.Starts as Starts
use Rattle.router.proofs.board.Board.clear.Goals as goal

pub loop-u-init : goal.loop-u-init
loop-u-init c = record {
  grid = refl;
  unused = λ u. get_or-replicate_same CELLS u false;
  charge = λ u. get_or-replicate_same CELLS u 0;
  prev = λ u l. absurd (omega arith);
  exit = refl;
  into = λ u l. absurd (omega arith);
  rest = λ u l. get_or-replicate_same CELLS u 0;
}

pub returns-clause-standing : goal.returns-clause-standing
returns-clause-standing c =
    let i = c.loop-u.invariant in
    Starts.starts _ (subst Shape (sym i.grid) c.requires) i.unused (λ u l. i.prev u (omega arith)) i.charge c.descents-least.result
    (subst (λ g. Descends g c.descents-least.result 0) (sym i.grid) c.descents-least.ensures) (omega (arith, i.exit, c.cheapest-exit.ensures.limit))
    (λ u l. subst (λ g. c.loop-u.self.labels.exit ≤ get_or g.entries u 0 + get_or c.descents-least.result u 0) (sym i.grid) (omega (arith, i.exit, c.cheapest-exit.ensures.cheapest u l)))
    (λ u l. omega (arith, i.exit, i.into u (omega arith))) (λ u l. i.rest u (omega (arith, l, c.loop-u.auto.u-end)))
