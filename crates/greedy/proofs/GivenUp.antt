-- A PE has three lower neighbours at most, so after three tries that failed none is untried. Assumes nothing.
use Rattle.std.proofs.Common.{◌≡◌, ℕ, suc, ◌+◌, ◌-◌, ◌<◌, ◌≤◌, true, List, [], ◌∷◌, get_or, Some, None, Option, sym, refl, ap, ◌∙◌, subst, ⊎_elim, arith, pow_pos}
use Rattle.std.proofs.lemmas.Bool.{both_ways, cases_lt}
use Rattle.masks.specs.Masks.{bit}
use Rattle.masks.proofs.Bits.{bit_low}
use Rattle.plans.specs.Columns.{Near}
use Rattle.greedy.specs.Search.{PE, Outcome, nothing, neighbour, or_else, try_leftmost, try_lower, from, reach}
use Rattle.greedy.proofs.Rows.{Neighbour, neighbour_is, without_is}
use Rattle.greedy.proofs.Columns.{reach_is}

module _ (j : ℕ) where
  -- the untried neighbours in the first of the rows are from column m on
  abbrev From : ℕ → List ℕ → Type 0
  From m rows = (k : ℕ) → k < 64 → Near j k → bit (get_or rows 0 0) k ≡ true → m ≤ k

  -- one more that failed
  module _ (n m row : ℕ) (rows : List ℕ) (f : From m (row ∷ rows)) where
    failed : (o : Option ℕ) → Neighbour row j o → From (m + 1) (elim o as (λ _. Outcome) [ Some k ↦ reach n k (row ∷ rows) | None ↦ nothing (row ∷ rows) ]).untried
    failed None is = λ k l near on. absurd (both_ways (bit row k) (is k l near) on)
    failed (Some i) is =
        subst (λ (o : Outcome). From (m + 1) o.untried) (sym (reach_is n i row rows))
        (λ k l near on.
        let w = without_is row i k on in
        let at_least = f i is.0 is.2 is.1 in
        ⊎_elim (λ less. absurd (both_ways (bit row k) (is.3 k less near) w.2))
        (λ more. omega (arith, at_least, λ (e : k ≡ i). w.1 e)) (cases_lt k i))

  raised : (n m : ℕ) (rows : List ℕ) → From m rows → From (m + 1) (try_leftmost (reach n) j rows).untried
  raised n m [] f = λ k l near on. absurd (both_ways (bit 0 k) (bit_low 0 k (pow_pos k)) on)
  raised n m (row ∷ rows) f = failed n m row rows f (neighbour row j) (neighbour_is row j)

  or_else-none : (next : List ℕ → Outcome) (found : Option (List ℕ)) (v : List ℕ) (t : List PE) →
      (or_else (record { found = found; untried = v; tried = t }) next).found ≡ None →
      (found ≡ None) × ((or_else (record { found = found; untried = v; tried = t }) next).untried ≡ (next v).untried)
  or_else-none next None v t e = (refl, refl)
  or_else-none next (Some a) v t e = cc

  -- the three tries
  all_tried : (n : ℕ) (rows : List ℕ) → (try_lower (reach n) j rows).found ≡ None → From (j - 1 + 1 + 1 + 1) (try_lower (reach n) j rows).untried
  all_tried n rows e =
      let try = try_leftmost (reach n) j in
      let one = try rows in
      let two = or_else one try in
      let last = or_else-none try two.found two.untried two.tried e in
      let mid = or_else-none try one.found one.untried one.tried last.0 in
      let begin : From (j - 1) rows = λ k l near on. omega (arith, near.0) in
      let second : From (j - 1 + 1 + 1) two.untried =
      subst (From (j - 1 + 1 + 1)) (sym mid.1) (raised n (j - 1 + 1) one.untried (raised n (j - 1) rows begin)) in
      subst (From (j - 1 + 1 + 1 + 1)) (sym last.1) (raised n (j - 1 + 1 + 1) two.untried second)

  none_is : (row : ℕ) (o : Option ℕ) → Neighbour row j o → ((k : ℕ) → k < 64 → Near j k → bit row k ≡ true → ⊥) → o ≡ None
  none_is row None is no_one = refl
  none_is row (Some k) is no_one = absurd (no_one k is.0 is.2 is.1)

  from-none : (i : ℕ) (found : Option (List ℕ)) → from i found ≡ None → found ≡ None
  from-none i None e = refl
  from-none i (Some a) e = cc

pub given_up : (below j row next : ℕ) (rows : List ℕ) → (reach (suc below) j (row ∷ next ∷ rows)).found ≡ None →
    neighbour (get_or (reach (suc below) j (row ∷ next ∷ rows)).untried 1 0) j ≡ None
given_up below j row next rows e =
    let o = try_lower (reach below) j (next ∷ rows) in
    let is = reach_is (suc below) j row (next ∷ rows) in
    let none = from-none j j o.found (sym (ap (λ p. p.found) is) ∙ e) in
    ap (λ p. neighbour (get_or p.untried 1 0) j) is
    ∙ none_is j (get_or o.untried 0 0) (neighbour (get_or o.untried 0 0) j) (neighbour_is (get_or o.untried 0 0) j)
    (λ k l near on. omega (arith, all_tried j below (next ∷ rows) none k l near on, near.1))
