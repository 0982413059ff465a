-- Sums over all cells. Assumes nothing.
use Rattle.std.proofs.Common.{◌≡◌, ℕ, zero, suc, ◌+◌, ◌<◌, ◌≤◌, ap, inl, inr, arith}
use Rattle.std.proofs.lemmas.Bool.{cases_eq}
use Rattle.plans.specs.Tolls.{sum_below}
use Rattle.plans.proofs.Sums.{sum_below-same}

-- f and g agree but at k
pub sum_below-set : (n : ℕ) (f g : ℕ → ℕ) (k : ℕ) → k < n → ((i : ℕ) → i < n → (i ≡ k → ⊥) → g i ≡ f i) → sum_below n g + f k ≡ sum_below n f + g k
unfolding sum_below
sum_below-set zero f g k l same = absurd (omega arith)
sum_below-set (suc n) f g k l same = elim (cases_eq n k) [
  | inl e ↦
      let rest = sum_below-same n g f (λ i h. same i (omega arith) (omega arith)) in
      omega (arith, ap f e, ap g e)
  | inr ne ↦
      let rest = sum_below-set n f g k (omega arith) (λ i h. same i (omega arith)) in
      omega (arith, same n (omega arith) ne)
]

sum_below-le : (n : ℕ) (f g : ℕ → ℕ) → ((i : ℕ) → i < n → f i ≤ g i) → sum_below n f ≤ sum_below n g
unfolding sum_below
sum_below-le zero f g low = omega arith
sum_below-le (suc n) f g low = let rest = sum_below-le n f g (λ i h. low i (omega arith)) in omega (arith, low n (omega arith))

-- f is never more than g, and less at k
pub sum_below-less : (n : ℕ) (f g : ℕ → ℕ) (k : ℕ) → k < n → ((i : ℕ) → i < n → f i ≤ g i) → f k < g k → sum_below n f < sum_below n g
unfolding sum_below
sum_below-less zero f g k l low less = absurd (omega arith)
sum_below-less (suc n) f g k l low less = elim (cases_eq n k) [
  | inl e ↦
      let rest = sum_below-le n f g (λ i h. low i (omega arith)) in
      omega (arith, ap f e, ap g e)
  | inr ne ↦
      let rest = sum_below-less n f g k (omega arith) (λ i h. low i (omega arith)) less in
      omega (arith, low n (omega arith))
]
