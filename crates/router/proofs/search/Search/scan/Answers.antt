use Rattle.std.proofs.Common.{sym, ap, subst, arith}
use Rattle.flow.specs.Seeks.{below}
use Rattle.router.proofs.Scans as Scans
use Rattle.router.proofs.search.Search.scan.Goals as goal
use Rattle.router.proofs.search.Search.scan.Goals.{then-a-board, else-a-board}

pub overflow_sub-base : goal.overflow_sub-base
overflow_sub-base c = Scans.enough c.requires.begun _ c.requires.waits

pub lower-requires-clause-offer : goal.lower-requires-clause-offer
lower-requires-clause-offer c = let h = c.requires.begun in let w = c.requires.waits in Scans.offer_itself h _ w (Scans.kept h _ w)

pub lower-requires-then-a-board-clause-offer : goal.lower-requires-then-a-board-clause-offer
lower-requires-then-a-board-clause-offer c =
    let h = c.requires.begun in
    let w = c.requires.waits in
    Scans.offer_below h _ w (Scans.kept1 h _ w c.lower.ensures.lowered) 2 (omega arith) (omega arith) (ap below (omega arith))

pub lower-requires-then-a-board-2-clause-offer : goal.lower-requires-then-a-board-2-clause-offer
lower-requires-then-a-board-2-clause-offer c =
    let h = c.requires.begun in
    let w = c.requires.waits in
    Scans.offer_below h _ w (Scans.kept2 h _ w c.lower.ensures.lowered c.lower-then-a-board.ensures.lowered) 0 (omega arith) (omega arith) (ap below (omega arith))

pub lower-requires-then-a-board-3-clause-offer : goal.lower-requires-then-a-board-3-clause-offer
lower-requires-then-a-board-3-clause-offer c =
    let h = c.requires.begun in
    let w = c.requires.waits in
    let k = Scans.kept3 h _ w c.lower.ensures.lowered c.lower-then-a-board.ensures.lowered c.lower-then-a-board-2.ensures.lowered in
    Scans.offer_below h _ w k 1 (omega arith) (omega arith) (ap below (omega arith))

pub returns : goal.returns
returns c =
    let h = c.requires.begun in
    let w = c.requires.waits in
    let l = c.lower.ensures in
    let passed : Scans.Passed h _ w c.if-a-board.self = elim c.if-a-board.branch [
      | then-a-board t ↦
          let l0 = t.lower-then-a-board.ensures in
          let l1 = t.lower-then-a-board-2.ensures in
          let l2 = t.lower-then-a-board-3.ensures in
          subst (Scans.Passed h _ w) (sym t.self-is) (Scans.passed_on h _ w l.lowered l0.lowered l1.lowered l2.lowered l2.seeks)
      | else-a-board t ↦ subst (Scans.Passed h _ w) (sym t.self-is) (Scans.passed_last h _ w l.lowered l.seeks t.if-a-board.false)
    ] in
    record { begun = Scans.scanned h _ w passed (omega arith); less = Scans.less h _ w passed (omega arith) }
