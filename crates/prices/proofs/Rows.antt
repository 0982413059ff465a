-- Rows of prices as lists of 64. Assumes nothing.
use Rattle.std.proofs.Common.{◌≡◌, ℕ, ◌<◌, true, ◌&&◌, ◌↔◌, List, ◌∷◌, length, set, replicate, min, sym, subst, ap, ◌∙◌, inl, inr, ⊎_elim, arith, get_or-set_other, get_or-set_same}
use Rattle.std.specs.List.{AllByRecursion}
use lib.ListN.{length-replicate, get_or-replicate}
use Rattle.std.proofs.lemmas.List.{get_or_past}
use Rattle.std.proofs.lemmas.Bool.{cases_lt, cases_eq, cases_Bool, lt-ltb, and_parts, ltb-true}
use Rattle.masks.specs.Masks.{bit}
use Rattle.masks.specs.Members.{members}
use Rattle.tariff.specs.Meaning.{Meaning}
use Rattle.plans.specs.Tolls.{Tolls, worth, Underpriced}
use Rattle.plans.specs.Least.{capped, least}
use Rattle.plans.specs.Masked.{in_mask, masked, price_row}
use Rattle.plans.proofs.Cards as Cards
use Rattle.plans.proofs.Leasts as Leasts
use Rattle.plans.proofs.Passing.{passing_each, passing-whole}

none_at : (n k : ℕ) → price_row (replicate n worth) k ≡ worth
none_at n k = ⊎_elim (get_or-replicate n k worth worth) (λ l. get_or_past (replicate n worth) k worth (rw length-replicate l)) (cases_lt k n)

pub none_yet : (n : ℕ) → price_row (replicate n worth) ≡ (λ k. worth)
none_yet n = λ i k. none_at n k i

-- x is a number of 0 to 63 whose bit is in a mask
abbrev pub MemberOf : ℕ → ℕ → Type 0
MemberOf mask x = (x < 64) × (bit mask x ≡ true)

pub members_each : (mask : ℕ) → AllByRecursion (MemberOf mask) (members (bit mask))
members_each mask = passing_each (bit mask) 64

pub first_and_rest : (P : ℕ → Type 0) (xs rest : List ℕ) (x : ℕ) → xs ≡ x ∷ rest → AllByRecursion P xs → P x × AllByRecursion P rest
first_and_rest P xs rest x e all = subst (AllByRecursion P) e all

pub first_inside : (mask : ℕ) (xs rest : List ℕ) (x : ℕ) → xs ≡ x ∷ rest → AllByRecursion (MemberOf mask) xs → x < 64
first_inside mask xs rest x e all = (first_and_rest (MemberOf mask) xs rest x e all).0.0

-- k is none of xs
abbrev pub NotIn : List ℕ → ℕ → Type 0
NotIn xs k = AllByRecursion (λ x. x ≡ k → ⊥) xs

-- what is no member of a mask has no price
pub worth_outside : (mask : ℕ) (p : ℕ → ℕ) (k : ℕ) → NotIn (members (bit mask)) k → price_row (replicate 64 worth) k ≡ capped (in_mask mask k) (p k)
worth_outside mask p k out = none_at 64 k ∙ elim (cases_Bool (in_mask mask k)) [
  | inl on ↦
      let parts = and_parts _ _ on in
      absurd (passing-whole (bit mask) 64 k (ltb-true k 64 parts.0) parts.1 out)
  | inr off ↦ ap (λ b. capped b (p k)) (sym off)
]

-- what is one has a price up to the worth
pub priced_inside : (mask j v p : ℕ) → MemberOf mask j → v ≡ min worth p → v ≡ capped (in_mask mask j) p
priced_inside mask j v p inside e = e ∙ ap (λ b. capped b p) (sym (ap (λ b. b && bit mask j) (lt-ltb j 64 inside.0) ∙ inside.1))

-- one price more is right
pub set_more : (f : ℕ → ℕ) (xs left rest : List ℕ) (j v : ℕ) → left ≡ j ∷ rest → j < length xs → v ≡ f j →
    ((k : ℕ) → NotIn left k → price_row xs k ≡ f k) → (k : ℕ) → NotIn rest k → price_row (set xs j v) k ≡ f k
set_more f xs left rest j v e h is right k out = elim (cases_eq k j) [
  | inl same ↦ rw same (rw get_or-set_same is)
  | inr other ↦ rw get_or-set_other (right k (rw e ((λ here. other (sym here)), out)))
]

-- some price of the last row is below the worth exactly where some logical column is
pub tells_underpriced : (stand : ℕ) (masks : List ℕ) (m : Meaning) (toll : Tolls) (prices : ℕ → ℕ) → least (masked stand masks) m toll ≡ prices →
    ((j : ℕ) × (j < 64) × (prices j < worth)) ↔ Underpriced (masked stand masks) m toll
tells_underpriced stand masks m toll prices e =
    let tells = Leasts.tells (masked stand masks) m toll (Cards.within stand masks) in
    let same : (k : ℕ) → least (masked stand masks) m toll k ≡ prices k = λ k. ap (λ f. f k) e in
    (λ s. tells.1 (s.0, s.1, omega (arith, same s.0, s.2)), λ u. let s = tells.0 u in (s.0, s.1, omega (arith, same s.0, s.2)))
