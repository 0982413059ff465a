use Rattle.std.proofs.Common.{◌≡◌, [], take, sum, sum_by, get_or}
use Rattle.route.proofs.tolls.sum.Given as goal

abbrev pub invariant-loop-row : goal.invariant-loop-row
invariant-loop-row l = l.sum ≡ sum_by (λ r. sum (get_or l.tolls r [])) (take l.row-index l.rows)
