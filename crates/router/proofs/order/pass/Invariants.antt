use Rattle.std.proofs.Common.{◌≡◌, ℕ, ◌<◌, ◌≤◌, true, false}
use Rattle.router.specs.Searches.{Begun, RestsAt, work}
use Rattle.router.proofs.order.pass.Given as goal

abbrev pub invariant-loop-u : goal.invariant-loop-u
invariant-loop-u l = record {
  begun : Begun l.board l.search;
  no_more : work l.search ≤ work l.initial.search;
  less : l.any ≡ true → work l.search < work l.initial.search;
  rests : l.any ≡ false → (k : ℕ) → k < l.u → RestsAt l.search k;
}
