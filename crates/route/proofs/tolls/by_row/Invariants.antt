use Rattle.std.proofs.Common.{◌≡◌, ℕ, ◌<◌, [], replicate, length, get_or}
use Rattle.plans.specs.Held.{at_each}
use Rattle.router.specs.Tolls.{toll_of}
use Rattle.route.specs.Holds.{cell}
use Rattle.route.proofs.tolls.by_row.Given as goal

abbrev pub invariant-loop-s : goal.invariant-loop-s
invariant-loop-s l = record {
  long : length l.tolls ≡ 64;
  done : (k : ℕ) → k < l.s → get_or l.tolls (get_or l.rows k 0) [] ≡ at_each (λ j. toll_of l.board (cell k j));
  none : (r : ℕ) → r < 64 → ((k : ℕ) → k < l.s → get_or l.rows k 0 ≡ r → ⊥) → get_or l.tolls r [] ≡ replicate 64 0;
}
