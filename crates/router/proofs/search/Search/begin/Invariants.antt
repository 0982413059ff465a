use Rattle.router.specs.Searches.{Seeks, EnteredTo}
use Rattle.router.proofs.search.Search.begin.Given as goal

abbrev pub invariant-loop-u : goal.invariant-loop-u
invariant-loop-u l = record { seeks : Seeks l.board l.self; entered : EnteredTo l.board l.self l.u }
