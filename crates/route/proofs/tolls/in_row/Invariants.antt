use Rattle.std.proofs.Common.{◌≡◌, ℕ, ◌+◌, ◌<◌, length, get_or}
use Rattle.router.specs.Tolls.{toll_of}
use Rattle.route.proofs.tolls.in_row.Given as goal

abbrev pub invariant-loop-j : goal.invariant-loop-j
invariant-loop-j l = record {
  long : length l.tolls ≡ 64;
  done : (k : ℕ) → k < l.j → get_or l.tolls k 0 ≡ toll_of l.board (l.first + k);
}
