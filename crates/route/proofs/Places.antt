-- Rows that go down, the place of a row among them, and its tolls. Assumes nothing.
use Rattle.std.proofs.Common.{◌≡◌, ℕ, zero, suc, ◌<◌, false, cond, not, eqb, ltb, List, [], ◌∷◌, length, get_or, replicate, Some, None, ◌⊎◌, ap, ◌∙◌, refl, sym, inl, inr, arith}
use Rattle.std.specs.List.{position}
use Rattle.std.specs.Option.{option_map_or}
use Rattle.std.proofs.lemmas.Bool.{cases_eq, eq-eqb, ne_eqb, lt-ltb, le-ltb, cond-true, cond-false, cond_both}
use Rattle.std.proofs.lemmas.List.Sums.{prefix_len_is}
use Rattle.plans.specs.Columns.{DownFrom, GoingDown}
use Rattle.plans.specs.Held.{at_each}
use Rattle.plans.proofs.Holding.{length_at_each, at_each_at, at_each_same, at_each_filled}
use Rattle.router.specs.declared.board.Board.{Board}
use Rattle.router.specs.Tolls.{toll_of}
use Rattle.route.specs.Holds.{cell}
use Rattle.route.specs.Told.{told}

below : (r : ℕ) (rows : List ℕ) → DownFrom r rows → (k : ℕ) → k < length rows → r < get_or rows k 0
below r [] down k l = absurd (omega arith)
below r (q ∷ rows) down zero l = down.0
below r (q ∷ rows) down (suc k) l = omega (arith, down.0, below q rows down.1 k (omega arith))

further : (r : ℕ) (rows : List ℕ) → DownFrom r rows → (i k : ℕ) → i < k → k < length rows → get_or rows i 0 < get_or rows k 0
further r [] down i k o l = absurd (omega arith)
further r (q ∷ rows) down zero zero o l = absurd (omega arith)
further r (q ∷ rows) down zero (suc k) o l = below q rows down.1 k (omega arith)
further r (q ∷ rows) down (suc i) zero o l = absurd (omega arith)
further r (q ∷ rows) down (suc i) (suc k) o l = further q rows down.1 i k (omega arith) (omega arith)

pub descends : (rows : List ℕ) → GoingDown rows → (i k : ℕ) → i < k → k < length rows → get_or rows i 0 < get_or rows k 0
descends [] down i k o l = absurd (omega arith)
descends (q ∷ rows) down zero zero o l = absurd (omega arith)
descends (q ∷ rows) down zero (suc k) o l = below q rows down k (omega arith)
descends (q ∷ rows) down (suc i) zero o l = absurd (omega arith)
descends (q ∷ rows) down (suc i) (suc k) o l = further q rows down i k (omega arith) (omega arith)

-- a row stands at some place or at none
among : (rows : List ℕ) (r : ℕ) → ((k : ℕ) × (k < length rows) × (get_or rows k 0 ≡ r)) ⊎ ((k : ℕ) → k < length rows → get_or rows k 0 ≡ r → ⊥)
among [] r = inr (λ k l e. omega arith)
among (q ∷ rows) r = elim (cases_eq q r) [
  | inl e ↦ inl (0, omega arith, e)
  | inr ne ↦ elim (among rows r) [
    | inl p ↦ inl (suc p.0, omega (arith, p.1), p.2)
    | inr none ↦ inr (λ k. elim k as (λ k. k < suc (length rows) → get_or (q ∷ rows) k 0 ≡ r → ⊥) [ zero ↦ λ l e. ne e | suc i ↦ λ l e. none i (omega arith) e ])
  ]
]

module _ (rows : List ℕ) where
  pub place_of : GoingDown rows → (s : ℕ) → s < length rows → position (λ q. eqb q (get_or rows s 0)) rows ≡ Some s
  place_of down s l =
      let others : (k : ℕ) → k < s → not (eqb (get_or rows k 0) (get_or rows s 0)) ≡ not false =
      λ k o. ap not (ne_eqb _ _ (λ e. omega (arith, descends rows down k s o l))) in
      let first = prefix_len_is (λ q. not (eqb q (get_or rows s 0))) rows s 0 (omega arith) others (λ _. ap not (eq-eqb _ _ refl)) in
      ap (λ n. cond (ltb n (length rows)) (Some n) None) first ∙ cond-true (ltb s (length rows)) (Some s) None (lt-ltb s (length rows) l)

  pub no_place : (r : ℕ) → ((k : ℕ) → k < length rows → get_or rows k 0 ≡ r → ⊥) → position (λ q. eqb q r) rows ≡ None
  no_place r none =
      let past = prefix_len_is (λ q. not (eqb q r)) rows (length rows) 0 (omega arith) (λ k l. ap not (ne_eqb _ _ (none k l))) (λ l. absurd (omega arith)) in
      ap (λ n. cond (ltb n (length rows)) (Some n) None) past ∙ cond-false (ltb (length rows) (length rows)) (Some (length rows)) None (le-ltb (length rows) (length rows) (omega arith))

module _ (b : Board) (rows : List ℕ) (down : GoingDown rows) where
  pub told_at : (s j : ℕ) → s < length rows → told rows b (get_or rows s 0) j ≡ cond (ltb j 64) (toll_of b (cell s j)) 0
  told_at s j l = ap (λ p. cond (ltb j 64) (option_map_or (λ s. toll_of b (cell s j)) p 0) 0) (place_of rows down s l)

  pub told_none : (r j : ℕ) → ((k : ℕ) → k < length rows → get_or rows k 0 ≡ r → ⊥) → told rows b r j ≡ 0
  told_none r j out =
      ap (λ p. cond (ltb j 64) (option_map_or (λ s. toll_of b (cell s j)) p 0) 0) (no_place rows r out) ∙ cond_both (ltb j 64) 0 0 (λ x. x ≡ 0) (λ _. refl) (λ _. refl)

  -- the tolls of a row of the table, where it stands at some place or at none
  pub told_row : (r : ℕ) (xs : List ℕ) →
      ((k : ℕ) → k < length rows → get_or rows k 0 ≡ r → xs ≡ at_each (λ j. toll_of b (cell k j))) →
      (((k : ℕ) → k < length rows → get_or rows k 0 ≡ r → ⊥) → xs ≡ replicate 64 0) → xs ≡ at_each (told rows b r)
  told_row r xs at none = elim (among rows r) [
    | inl p ↦ at p.0 p.1 p.2 ∙ at_each_filled (told rows b r) 0 (at_each (λ j. toll_of b (cell p.0 j))) (length_at_each _)
        (λ j l. at_each_at _ 0 j l ∙ sym (ap (λ q. told rows b q j) (sym p.2) ∙ told_at p.0 j p.1 ∙ cond-true (ltb j 64) (toll_of b (cell p.0 j)) 0 (lt-ltb j 64 l)))
    | inr out ↦ none out ∙ sym (at_each_same 0) ∙ ap (λ (f : ℕ → ℕ). at_each f) (λ i j. sym (told_none r j out) i)
  ]
