use Rattle.std.proofs.Common.{refl, arith}
use Rattle.router.specs.declared.board.TheConstants.{CELLS}
use Rattle.router.specs.declared.search.TheConstants.{NEVER}
use Rattle.router.proofs.Begins.{cleared}
use Rattle.router.proofs.Cells.{get_or-replicate_same}
use Rattle.router.proofs.search.Search.clear.Goals as goal

pub returns : goal.returns
returns c =
    let i = c.loop-u.invariant in
    let done = cleared c.requires _ _ (omega arith) i.plain i.pinned (λ k. get_or-replicate_same CELLS k NEVER) refl in
    record { seeks = done.0; entered = done.1 }
