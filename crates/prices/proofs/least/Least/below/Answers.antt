use Rattle.std.proofs.Common.{◌≡◌, ℕ, ◌+◌, refl, ap, ◌∙◌, ap₂, arith, length-set}
use Rattle.plans.specs.Least.{coming_to, least_row}
use Rattle.plans.specs.Masked.{in_mask, price_row, toll_row}
use Rattle.prices.proofs.Rows.{MemberOf, members_each, first_and_rest, worth_outside, priced_inside, set_more}
use Rattle.prices.proofs.least.Least.below.Goals as goal

pub loop-column-init : goal.loop-column-init
loop-column-init g c =
    let m = g.T.Tariff.meaning c.args.tariff.now in
    let p : ℕ → ℕ = λ k. coming_to m c.args.self.now.row (price_row c.args.self.now.prices) c.args.row k + toll_row c.args.tolls.now k in
    let begun : c.into_iter-column-iterator.result.left ≡ c.args.usable =
    ap (λ s. s.left) c.into_iter-column-iterator.ensures.into_iter_gives ∙ c.of-column-items.ensures in
    record {
      can_go_on = tt;
      ends = tt;
      long = refl;
      inside = rw begun (members_each c.args.usable);
      right = λ k out. worth_outside c.args.usable p k (rw begun at out);
    }

pub loop-column-preserved : goal.loop-column-preserved
loop-column-preserved g c =
    let m = g.T.Tariff.meaning c.args.tariff.now in
    let f : ℕ → ℕ = least_row (in_mask c.args.usable) m (toll_row c.args.tolls.now) c.args.self.now.row (price_row c.args.self.now.prices) c.args.row in
    let column = c.in-Some.column in
    let here = first_and_rest (MemberOf c.args.usable) _ _ _ c.in-Some.ensures.steps c.loop-column.invariant.inside in
    let coming : ℕ = coming_to m c.args.self.now.row (price_row c.args.self.now.prices) c.args.row column in
    let comes : c.price_to.result ≡ coming =
    c.price_to.ensures.value
    ∙ ap₂ (λ q k. coming_to m c.args.self.now.row (price_row c.args.self.now.prices) q k) c.at.ensures.row c.at.ensures.column in
    let pays : c.from.result ≡ toll_row c.args.tolls.now column = c.from.ensures ∙ ap (toll_row c.args.tolls.now) c.from-j.ensures in
    let price : c.min.result ≡ f column = priced_inside c.args.usable column _ (coming + toll_row c.args.tolls.now column) here.0 (omega (arith, comes, pays, c.min.ensures, c.from-in-loop-column.ensures)) in
    record {
      can_go_on = tt;
      ends = tt;
      long = simp length-set c.loop-column.invariant.long;
      inside = here.1;
      right = rw c.from-j.ensures (set_more f c.loop-column.prices _ _ column c.min.result c.in-Some.ensures.steps (omega (arith, here.0.0, c.loop-column.invariant.long)) price c.loop-column.invariant.right);
    }

pub returns-clause-prices : goal.returns-clause-prices
returns-clause-prices g c = λ i k. c.loop-column.invariant.right k (rw c.in-None.ensures.steps.0 tt) i
