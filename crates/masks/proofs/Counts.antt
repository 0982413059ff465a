-- How many members a mask has, and its least. Assumes nothing.
use Rattle.std.proofs.Common.{◌≡◌, ℕ, zero, suc, ◌+◌, ◌*◌, ◌/◌, ◌%◌, ◌^◌, ◌<◌, ◌≤◌, Bool, true, false, cond, eqb, Some, None, Option, sym, refl, ap, ◌∙◌, ap₂, inl, inr, ⊎_elim, add-zero, one-mul, div-one, add-one, one-add, arith}
use lib.Count.{ones, ones_cat, count_trailing_zeros, under}
use Rattle.std.proofs.lemmas.Nat.{shr-shr, shr_below, mod_below}
use Rattle.std.proofs.lemmas.Bool.{both_ways, cases_lt, cases_eq, cases_Bool, cond-true, cond-false}
use Rattle.masks.specs.Masks.{bit, mask_below, how_many_below, or_else, least_below}
use Rattle.masks.specs.Laws.{Least}
use Rattle.masks.proofs.Masks.{mask_lt}

module _ (f : ℕ → Bool) where
  pub ones_mask : (n : ℕ) → ones (mask_below f n) ≡ how_many_below f n
  unfolding mask_below how_many_below ones
  ones_mask zero = refl
  ones_mask (suc n) =
      elim (f n) as (λ b. ones (mask_below f n + cond b (2 ^ n) 0) ≡ how_many_below f n + cond b 1 0) [
        | true ↦
            let swap : mask_below f n + 2 ^ n ≡ 1 * 2 ^ n + mask_below f n = omega (arith, one-mul (2 ^ n)) in
            ap ones swap ∙ ones_cat n 1 (mask_below f n) (mask_lt f n) ∙ omega (arith, ones_mask n)
        | false ↦ simp add-zero (ones_mask n)
      ]

  pub how_many_le : (n : ℕ) → how_many_below f n ≤ n
  unfolding how_many_below
  how_many_le zero = omega arith
  how_many_le (suc n) =
      elim (f n) as (λ b. how_many_below f n + cond b 1 0 ≤ suc n) [
        | true ↦ omega (arith, how_many_le n)
        | false ↦ omega (arith, how_many_le n)
      ]

  least-more : (n : ℕ) (o : Option ℕ) → Least f n o → Least f (suc n) (or_else o (cond (f n) (Some n) None))
  least-more n None none =
      elim (cases_Bool (f n)) [
        | inl on ↦ rw (cond-true (f n) (Some n) None on) (omega arith, on, none)
        | inr off ↦ rw (cond-false (f n) (Some n) None off) (λ i h. elim (cases_eq i n) [ inl same ↦ ap f same ∙ off | inr other ↦ none i (omega arith) ])
      ]
  least-more n (Some i) l = (omega (arith, l.0), l.1, l.2)

  pub least-found : (n : ℕ) → Least f n (least_below f n)
  unfolding least_below
  least-found zero = λ i h. absurd (omega arith)
  least-found (suc n) = least-more n (least_below f n) (least-found n)

  apart : (i : ℕ) → f i ≡ true → f i ≡ false → ⊥
  apart i on off = both_ways (f i) off on

  -- what passes is not below the least
  not_below : (i j : ℕ) → f i ≡ true → ((k : ℕ) → k < j → f k ≡ false) → j ≤ i
  not_below i j on none = ⊎_elim (λ l. absurd (apart i on (none i l))) (λ l. l) (cases_lt i j)

  -- two that are least are one
  pub least_unique : (n : ℕ) (o p : Option ℕ) → Least f n o → Least f n p → o ≡ p
  least_unique n None None a b = refl
  least_unique n None (Some j) a b = absurd (apart j b.1 (a j b.0))
  least_unique n (Some i) None a b = absurd (apart i a.1 (b i a.0))
  least_unique n (Some i) (Some j) a b = ap Some (omega (arith, not_below i j a.1 b.2, not_below j i b.1 a.2))

-- tests that agree below n have as many, and the same least
pub how_many-same : (f g : ℕ → Bool) (n : ℕ) → ((i : ℕ) → i < n → f i ≡ g i) → how_many_below f n ≡ how_many_below g n
unfolding how_many_below
how_many-same f g zero h = refl
how_many-same f g (suc n) h = ap₂ (λ x b. x + cond b 1 0) (how_many-same f g n (λ i l. h i (omega arith))) (h n (omega arith))

pub least-same : (f g : ℕ → Bool) (n : ℕ) → ((i : ℕ) → i < n → f i ≡ g i) → least_below f n ≡ least_below g n
unfolding least_below
least-same f g zero h = refl
least-same f g (suc n) h = ap₂ (λ o b. or_else o (cond b (Some n) None)) (least-same f g n (λ i l. h i (omega arith))) (h n (omega arith))

bit_half : (m j : ℕ) → bit m (suc j) ≡ bit (m / 2) j
bit_half m j = ap (λ x. eqb (m / 2 ^ x % 2) 1) (sym (one-add j)) ∙ ap (λ x. eqb (x % 2) 1) (sym (shr-shr m 1 j))

bit_zero : (m : ℕ) → bit m 0 ≡ eqb (m % 2) 1
bit_zero m = ap (λ x. eqb (x % 2) 1) (div-one m)

least_under : (k m d t : ℕ) → m % 2 ≡ d → (d ≡ 0 → Least (bit (m / 2)) k (Some t)) → Least (bit m) (suc k) (Some (under d t))
least_under k m zero t e low =
    let l = low refl in
    (omega (arith, l.0), bit_half m t ∙ l.1, below)
  where
    below : (j : ℕ) → j < suc t → bit m j ≡ false
    below zero h = bit_zero m ∙ ap (λ x. eqb x 1) e
    below (suc j) h = bit_half m j ∙ (low refl).2 j (omega arith)
least_under k m (suc d) t e low =
    let odd : m % 2 ≡ 1 = omega (arith, mod_below m 2 (omega arith)) in
    (omega arith, bit_zero m ∙ ap (λ x. eqb x 1) odd, λ j h. absurd (omega arith))

pub trailing_least : (k m : ℕ) → 0 < m → m < 2 ^ k → Least (bit m) k (Some (count_trailing_zeros k m))
unfolding count_trailing_zeros
trailing_least zero m p h = absurd (omega arith)
trailing_least (suc k) m p h =
    let g : m < 2 ^ (k + 1) = rw add-one h in
    least_under k m (m % 2) (count_trailing_zeros k (m / 2)) refl (λ e. trailing_least k (m / 2) (omega arith) (shr_below m k 1 g))
