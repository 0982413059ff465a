-- What route makes of a card is a plan, its columns from left to right. Assumes nothing.
use Rattle.std.proofs.Common.{◌≡◌, ℕ, zero, suc, ◌-◌, ◌*◌, ◌<◌, ◌≤◌, List, [], ◌∷◌, length, map, get_or, sum, sum_by, sym, refl, ap, ap₂, ◌∙◌, subst, arith}
use Rattle.std.specs.List.{AllByRecursion}
use Rattle.std.proofs.lemmas.List.{length-map}
use Rattle.std.proofs.lemmas.List.Sums.{sum_by-cons}
use Rattle.tariff.specs.Meaning.{Meaning, Lawful}
use Rattle.plans.specs.Columns.{Card, Within, standing}
use Rattle.plans.specs.Families.{Best, Pairwise, LeftOf, total_charge}
use Rattle.plans.specs.Tolls.{Tolls, Plan, worth, tolls_on}
use Rattle.plans.specs.Potentials.{Flow, follow}
use Rattle.plans.specs.declared.held.HeldPlan.{HeldPlan}
use Rattle.plans.specs.Held.{at_each, held_row, held_columns}
use Rattle.plans.proofs.ByRows.{few_columns}
use Rattle.plans.proofs.Crossings as Crossings
use Rattle.plans.proofs.Holding.{at_each_at, sum_at_each}
use Rattle.plans.proofs.Holding as Holding
use Rattle.plans.proofs.Passing.{passing_ascends}
use Rattle.plans.proofs.Places.{by_first, sides}
use Rattle.router.specs.declared.board.Grid.{Grid}
use Rattle.router.specs.declared.board.Board.{Board}
use Rattle.router.specs.Boards.{Standing}
use Rattle.route.specs.Holds.{cell, Holds, flow_by}
use Rattle.route.specs.Told.{first_columns, first_cells, columns, told}
use Rattle.route.specs.Routed.{Planned, RoutedIsBest}
use Rattle.route.proofs.Places.{told_none}
use Rattle.route.proofs.Plans as Plans

pairwise_map : {X : Type 0} (R : ℕ → ℕ → Type 0) (Q : X → X → Type 0) (f : ℕ → X) (xs : List ℕ) → ((x y : ℕ) → R x y → Q (f x) (f y)) →
    Pairwise R xs → Pairwise Q (map f xs)
pairwise_map {X} R Q f [] to p = tt
pairwise_map {X} R Q f (x ∷ xs) to p = (all xs p.0, pairwise_map R Q f xs to p.1)
  where
    all : (ys : List ℕ) → AllByRecursion (R x) ys → AllByRecursion (Q (f x)) (map f ys)
    all [] rs = tt
    all (y ∷ ys) rs = (to x y rs.0, all ys rs.1)

first_of : (w : Flow) (j n : ℕ) → 0 < n → get_or (follow w n 0 j) 0 0 ≡ j
first_of w j zero l = absurd (omega arith)
first_of w j (suc n) l = refl

-- the sum of a table of tolls over some rows
pub sum_on : (toll : Tolls) (table : List (List ℕ)) (rows : List ℕ) → table ≡ at_each (λ r. at_each (toll r)) → AllByRecursion (λ r. r < 64) rows →
    sum_by (λ r. sum (get_or table r [])) rows ≡ tolls_on rows toll
sum_on toll table [] e all = refl
sum_on toll table (r ∷ rows) e all =
    sum_by-cons (λ r. sum (get_or table r [])) r rows
    ∙ (let here : sum (get_or table r []) ≡ _ = ap (λ (t : List (List ℕ)). sum (get_or t r [])) e ∙ ap sum (at_each_at (λ r. at_each (toll r)) [] r all.0) ∙ sum_at_each (toll r) in
    omega (arith, here, sum_on toll table rows e all.1))

-- a solved board that holds a card
pub record Solved (c : Card) (m : Meaning) (b : Board) : Type 0 where
  pub within : Within c
  pub lawful : Lawful m
  pub holds : Holds c m b.grid
  pub standing : Standing b
  pub top : b.labels.exit ≡ worth

pub solved : (c : Card) (m : Meaning) (b : Board) (x y : Grid) → Within c → Lawful m → Holds c m x → y ≡ x → b.grid ≡ y → Standing b → b.labels.exit ≡ worth → Solved c m b
solved c m b x y within lawful holds made kept standing top =
    record { within = within; lawful = lawful; holds = subst (Holds c m) (sym (kept ∙ made)) holds; standing = standing; top = top }

module _ (c : Card) (m : Meaning) (b : Board) (s : Solved c m b) where
  abbrev f : List (List ℕ)
  f = columns b (standing c)

  pub plan : Plan c m (told c.rows b) f
  plan = Plans.plan c m b s.within s.lawful s.holds s.standing s.top

  pub few : length f ≤ 64
  few = few_columns c s.within f plan.family.each plan.family.apart

  pub ordered : Pairwise LeftOf f
  ordered =
      by_first f
      (pairwise_map ◌<◌ (λ a b. get_or a 0 0 < get_or b 0 0) (follow (flow_by b.ways) (standing c) 0) (first_columns b)
      (λ x y l. omega (arith, first_of (flow_by b.ways) x (standing c) s.holds.some, first_of (flow_by b.ways) y (standing c) s.holds.some))
      (passing_ascends ((flow_by b.ways).used 0) 64))
      ((sides c f plan.family).0 plan.uncrossed)

  -- the tolls come to no more than the columns are worth
  pub tolls_low : tolls_on c.rows (told c.rows b) ≤ length f * 5000000
  tolls_low = omega (arith, plan.supports.add_up)

  pub number_is : (n : ℕ) → n ≡ length (first_cells b) → n ≡ length f
  number_is n e = e ∙ length-map (first_columns b) (cell 0) ∙ sym (length-map (first_columns b) (follow (flow_by b.ways) (standing c) 0))

  -- by the rows that the code gathered
  pub sum_is : (rows : List ℕ) (table : List (List ℕ)) → rows ≡ c.rows → table ≡ at_each (λ r. at_each (told rows b r)) →
      sum_by (λ r. sum (get_or table r [])) rows ≡ tolls_on c.rows (told c.rows b)
  sum_is rows table e is =
      ap (sum_by (λ r. sum (get_or table r []))) e
      ∙ sum_on (told c.rows b) table c.rows (is ∙ ap (λ rows. at_each (λ r. at_each (told rows b r))) e) s.within.rows_limit

  pub planned : (p : HeldPlan) (rows : List ℕ) (number tolls : ℕ) → rows ≡ c.rows →
      p.rows ≡ at_each (held_row (columns b (length rows))) → p.tolls ≡ at_each (λ r. at_each (told rows b r)) →
      number ≡ length f → tolls ≡ tolls_on c.rows (told c.rows b) → Planned c m p (number, number * 5000000 - tolls)
  planned p rows number tolls e columns_are tolls_are n sum = record {
    family = f;
    toll = told c.rows b;
    is_plan = plan;
    ordered = ordered;
    none_else = λ r j out. told_none b c.rows s.within.down r j out;
    is_held = ap₂ (λ xs ys. record { rows = xs; tolls = ys })
        (columns_are ∙ ap (λ rows. at_each (held_row (columns b (length rows)))) e) (tolls_are ∙ ap (λ rows. at_each (λ r. at_each (told rows b r))) e);
    counted = ap₂ (λ x y. (x, y)) n (omega (arith, n, sum, plan.supports.add_up));
  }

pub best : RoutedIsBest
best c m old new number total within lawful p =
    let told = Holding.theorem c p.toll p.family within p.is_plan.family in
    let same : number ≡ length p.family = ap (λ (x : ℕ × ℕ). x.0) p.counted in
    let columns : held_columns new (standing c) number ≡ p.family = ap₂ (λ x n. held_columns x (standing c) n) p.is_held same ∙ told.0 in (
      subst (Best c m) (sym columns) (Crossings.best c m p.toll p.family within lawful p.is_plan).0,
      ap (λ (x : ℕ × ℕ). x.1) p.counted ∙ ap (total_charge c m) (sym columns),
    )
