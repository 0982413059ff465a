use Rattle.std.proofs.Common.{◌≡◌, ℕ, ◌+◌, ◌*◌, ◌<◌, [], length, get_or, set, sym, refl, ap, ◌∙◌, inl, inr, arith, length-set}
use Rattle.std.proofs.lemmas.Bool.{cases_eq}
use Rattle.std.proofs.lemmas.List.{get_or-replicate, get_or-set_same, get_or-set_other}
use Rattle.plans.specs.Held.{at_each}
use Rattle.plans.proofs.Holding.{at_each_filled, all_at}
use Rattle.router.specs.Tolls.{toll_of}
use Rattle.route.specs.Holds.{cell}
use Rattle.route.proofs.Places.{descends, told_row}
use Rattle.route.proofs.tolls.by_row.Goals as goal

pub loop-s-init : goal.loop-s-init
loop-s-init c = record { long = refl; done = λ k l. absurd (omega arith); none = λ r l out. get_or-replicate 64 r _ _ l }

pub loop-s-preserved : goal.loop-s-preserved
loop-s-preserved c =
    let b = c.args.board.now in
    let rows = c.args.rows.now in
    let s = c.loop-s.s in
    let i = c.loop-s.invariant in
    let place : (j : ℕ) → s * 66 + 1 + j ≡ cell s j = λ j. omega arith in
    let here = c.in_row.ensures ∙ ap (λ (f : ℕ → ℕ). at_each f) (λ x j. toll_of b (place j x)) in
    let low : get_or rows s 0 < length c.loop-s.tolls = omega (arith, i.long, all_at (λ r. r < 64) 0 rows c.requires.limit s c.loop-s-test.true) in
    rw c.from.ensures (record {
      long = length-set c.loop-s.tolls _ _ ∙ i.long;
      done = λ k l. elim (cases_eq k s) [
        | inl e ↦
            ap (λ n. get_or (set c.loop-s.tolls (get_or rows s 0) c.in_row.result) (get_or rows n 0) []) e
            ∙ get_or-set_same c.loop-s.tolls (get_or rows s 0) c.in_row.result [] low ∙ here ∙ ap (λ n. at_each (λ j. toll_of b (cell n j))) (sym e)
        | inr n ↦
            get_or-set_other c.loop-s.tolls (get_or rows s 0) (get_or rows k 0) c.in_row.result []
            (λ e. omega (arith, e, descends rows c.requires.down k s (omega arith) c.loop-s-test.true))
            ∙ i.done k (omega arith)
      ];
      none = λ r l out.
          get_or-set_other c.loop-s.tolls (get_or rows s 0) r c.in_row.result [] (λ e. out s (omega arith) (sym e)) ∙ i.none r l (λ k in'. out k (omega arith));
    })

pub returns : goal.returns
returns c =
    let i = c.loop-s.invariant in
    at_each_filled _ [] _ i.long (λ r l.
    told_row c.args.board.now c.args.rows.now c.requires.down r _
    (λ k in' e. ap (λ q. get_or c.loop-s.tolls q []) (sym e) ∙ i.done k (omega arith))
    (λ out. i.none r l (λ k in'. out k (omega arith))))
