-- What is gathered stays within the limits. Assumes nothing.
use Rattle.std.proofs.Common.{◌≡◌, ℕ, ◌+◌, ◌<◌, ◌≤◌, true, ltb, List, [], ◌∷◌, length, get_or, sym, ◌∙◌, arith}
use Rattle.std.specs.List.{AllByRecursion}
use Rattle.std.proofs.lemmas.Bool.{ltb-true}
use Rattle.std.proofs.lemmas.List.{length_push}
use Rattle.masks.proofs.Members.{length_passing}
use Rattle.host.specs.declared.Host.{Host}
use Rattle.host.specs.Maps.{stands}
use Rattle.tariff.specs.Charges.{charge}
use Rattle.tariff.specs.Meaning.{Meaning, Lawful}
use Rattle.tariff.proofs.Charges.{charge_limit}
use Rattle.plans.specs.Columns.{Card, Column, standing, row}
use Rattle.plans.specs.Families.{LeftOf, Apart, Pairwise, total_charge}
use Rattle.plans.proofs.ByRows.{few_columns}
use Rattle.plans.proofs.Places as Places
use Rattle.plans.proofs.Sums.{total_under}
use Rattle.plans.specs.Least.{last}
use Rattle.routable.specs.Cards.{card_of}
use Rattle.routable.proofs.Cards.{within}
use Rattle.verdict.specs.Judging.{Gathered, right_of_last}
use Rattle.verdict.proofs.Advancing.{Valid}
use Rattle.verdict.proofs.Hosts.{narrow}
use Rattle.verdict.proofs.Lists.{After, after_true, all_from_in}
use Rattle.verdict.proofs.Placing.{RightIn, left_apart, last_at}
use Rattle.judge.specs.Gathering.{so_far}

pub few_standing : (h : Host) → standing (card_of h) ≤ 64
few_standing h = length_passing (stands h) 64

-- columns from left to right lie ever farther right
climbs : (c : Card) (p j : ℕ) → p < standing c → (a : List ℕ) (f : List (List ℕ)) (b : ℕ) → AllByRecursion (Column c) (a ∷ f) → Pairwise LeftOf (a ∷ f) →
    b ≤ get_or a p 0 → After (RightIn p) (a ∷ f) j → b + length (a ∷ f) ≤ j
climbs c p j l a [] b cs w low r = omega (arith, r)
climbs c p j l a (a' ∷ f) b cs w low r =
    let n = ((Places.column c a).0 cs.0).1 in
    let n' = ((Places.column c a').0 cs.1.0).1 in
    let up : get_or a p 0 < get_or a' p 0 = (Places.left a a' (n ∙ sym n')).0 w.0.0 p (omega (arith, n)) in
    omega (arith, climbs c p j l a' f (b + 1) cs.1 w.1 (omega arith) r)

module _ (h : Host) (g : Gathered) (valid : Valid h g) where
  pub few : length g.columns ≤ 64
  few = few_columns (card_of h) (within h) g.columns valid.each (Places.pairwise_weaker LeftOf Apart left_apart g.columns valid.ordered)

  -- so there is room for a PE that is right of the last column
  pub room : (j : ℕ) → length g.column < standing (card_of h) → j < 64 → right_of_last g j ≡ true → length g.columns < 64
  room j l low e = go g.columns valid.each valid.ordered (after_true (λ a i. ltb (get_or a p 0) i) (RightIn p) (λ a i. ltb-true (get_or a p 0) i) g.columns j e)
    where
      p : ℕ
      p = length g.column

      go : (f : List (List ℕ)) → AllByRecursion (Column (card_of h)) f → Pairwise LeftOf f → After (RightIn p) f j → length f < 64
      go [] cs w r = omega arith
      go (a ∷ f) cs w r = omega (arith, climbs (card_of h) p j l a f 0 cs w (omega arith) r)

  -- the last PE of a column is on the card
  pub low_last : last g.column < 64
  low_last = go g.column (λ s l. narrow h (row (card_of h) s) (get_or g.column s 0) (valid.part.usable s l))
    where
      go : (a : List ℕ) → ((s : ℕ) → s < length a → get_or a s 0 < 64) → last a < 64
      go [] low = omega arith
      go (j ∷ js) low = omega (arith, last_at (j ∷ js) (length js) (omega arith), low (length js) (omega arith))

  -- no more than 1,000 for each PE is charged
  pub small_charge : (m : Meaning) → Lawful m → total_charge (card_of h) m (so_far g) ≤ 4160000
  small_charge m law =
      let each = all_from_in (λ a. charge m (card_of h).rows a ≤ 64000) (so_far g) (λ a i. omega (arith, charge_limit m law (card_of h).rows a, few_standing h)) in
      omega (arith, total_under 64000 (charge m (card_of h).rows) (so_far g) each, length_push g.columns g.column, few)
