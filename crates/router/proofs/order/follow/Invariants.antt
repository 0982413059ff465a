use Rattle.std.proofs.Common.{◌≡◌, ◌<◌, ◌≤◌, true}
use Rattle.router.specs.Searches.{Begun, work}
use Rattle.router.proofs.order.follow.Given as goal

abbrev pub invariant-loop : goal.invariant-loop
invariant-loop l = record {
  begun : Begun l.board l.search;
  no_more : work l.search ≤ work l.initial.search;
  less : l.any ≡ true → work l.search < work l.initial.search;
}
