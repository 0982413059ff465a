-- Tolls as a list, by row, then column. Assumes nothing.
use Rattle.std.proofs.Common.{◌≡◌, ℕ, zero, suc, ◌<◌, ◌≤◌, true, cond, ◌&&◌, eqb, ltb, ◌⊎◌, List, [], ◌∷◌, sym, refl, ap, ◌∙◌, subst, inl, inr, arith}
use Rattle.std.specs.List.{AllByRecursion}
use Rattle.std.proofs.ByRecursion.{All-append, All-weaker}
use Rattle.std.proofs.lemmas.Bool.{cases_Bool, cases_eq, cond-true, cond-false, cond_both, eqb-true, eq-eqb, ltb-true, lt-ltb, ltb-false, and_parts, and_from, both_ways}
use Rattle.std.proofs.lemmas.Bool.Decides.{nat_tests}
use Rattle.tariff.specs.Meaning.{Meaning}
use Rattle.plans.specs.Columns.{Card, Usable, row}
use Rattle.plans.specs.Families.{Pairwise, total}
use Rattle.plans.specs.Tolls.{Tolls, Allowed, Supports, worth, sum_below, tolls_along, tolls_on}
use Rattle.plans.proofs.Passing.{pairwise_append}
use Rattle.plans.proofs.Sums.{sum_below-same}
use Rattle.sheet.specs.declared.record.Toll.{Toll}
use Rattle.verdict.specs.Judging.{before, toll_of}
use Rattle.verdict.specs.Sheets.{toll_at, tolls_across, tolls_down}
use Rattle.verdict.proofs.Lists.{In, in_left, in_right, all_in, all_from_in, total_append, same_sorted, in_place}

abbrev pub Before : Toll → Toll → Type 0
Before d e = (d.row < e.row) ⊎ ((d.row ≡ e.row) × (d.column < e.column))

pub before_true : (d e : Toll) → before d e ≡ true → Before d e
before_true d e t = grind (arith, nat_tests)

pub true_before : (d e : Toll) → Before d e → before d e ≡ true
true_before d e b = grind (arith, nat_tests)

pub before_trans : (x y z : Toll) → Before x y → Before y z → Before x z
before_trans x y z b c = grind arith

before_strict : (x y : Toll) → Before x y → Before y x → ⊥
before_strict x y b c = grind arith

-- a toll with the same row, column and amount
same-toll : (e : Toll) (r j v : ℕ) → e.row ≡ r → e.column ≡ j → e.amount ≡ v → e ≡ record { row = r; column = j; amount = v }
same-toll e r j v a b c = λ i. record { row = a i; column = b i; amount = c i }

-- the tolls that rows give
pub record Given (toll : Tolls) (n : ℕ) (rows : List ℕ) (e : Toll) : Type 0 where
  pub in_row : In e.row rows
  pub in_column : e.column < n
  pub some : 0 < e.amount
  pub is : e.amount ≡ toll e.row e.column

module _ (toll : Tolls) where
  -- the toll of one more column, if it has any
  abbrev next : ℕ → ℕ → List Toll
  next r n = cond (ltb 0 (toll r n)) (toll_at toll r n ∷ []) []

  across_given : (r n : ℕ) → AllByRecursion (Given toll n (r ∷ [])) (tolls_across toll r n)
  unfolding tolls_across
  across_given r zero = tt
  across_given r (suc n) =
      All-append (Given toll (suc n) (r ∷ [])) (tolls_across toll r n) (next r n)
      (All-weaker (Given toll n (r ∷ [])) (Given toll (suc n) (r ∷ []))
      (λ e g. record { in_row = g.in_row; in_column = omega (arith, g.in_column); some = g.some; is = g.is })
      (tolls_across toll r n) (across_given r n))
      (cond_both (ltb 0 (toll r n)) (toll_at toll r n ∷ []) [] (AllByRecursion (Given toll (suc n) (r ∷ [])))
      (λ t. (record { in_row = inl refl; in_column = omega arith; some = ltb-true 0 (toll r n) t; is = refl }, tt)) (λ t. tt))

  across_sorted : (r n : ℕ) → Pairwise Before (tolls_across toll r n)
  unfolding tolls_across
  across_sorted r zero = tt
  across_sorted r (suc n) =
      pairwise_append Before (tolls_across toll r n) (next r n) (across_sorted r n)
      (cond_both (ltb 0 (toll r n)) (toll_at toll r n ∷ []) [] (Pairwise Before) (λ t. (tt, tt)) (λ t. tt))
      (All-weaker (Given toll n (r ∷ [])) (λ d. AllByRecursion (Before d) (next r n))
      (λ d g. cond_both (ltb 0 (toll r n)) (toll_at toll r n ∷ []) [] (AllByRecursion (Before d))
      (λ t. (elim g.in_row [ inl e ↦ inr (e, g.in_column) | inr i ↦ absurd i ], tt)) (λ t. tt))
      (tolls_across toll r n) (across_given r n))

  across_in : (r n j : ℕ) → j < n → 0 < toll r j → In (toll_at toll r j) (tolls_across toll r n)
  unfolding tolls_across
  across_in r zero j l some = absurd (omega arith)
  across_in r (suc n) j l some = elim (cases_eq j n) [
    | inl e ↦
        let here : next r n ≡ toll_at toll r n ∷ [] = cond-true (ltb 0 (toll r n)) (toll_at toll r n ∷ []) [] (lt-ltb 0 (toll r n) (rw e at some)) in
        in_right (toll_at toll r j) (tolls_across toll r n) (next r n) (rw here (inl (ap (toll_at toll r) e)))
    | inr ne ↦ in_left (toll_at toll r j) (tolls_across toll r n) (next r n) (across_in r n j (omega arith) some)
  ]

  across_sum : (r n : ℕ) → total (λ e. e.amount) (tolls_across toll r n) ≡ sum_below n (toll r)
  unfolding tolls_across sum_below
  across_sum r zero = refl
  across_sum r (suc n) =
      let last : total (λ e. e.amount) (next r n) ≡ toll r n =
      cond_both (ltb 0 (toll r n)) (toll_at toll r n ∷ []) [] (λ es. total (λ e. e.amount) es ≡ toll r n) (λ t. omega arith) (λ t. omega (arith, ltb-false 0 (toll r n) t)) in
      omega (arith, across_sum r n, last, total_append (λ (e : Toll). e.amount) (tolls_across toll r n) (next r n))

  pub down_given : (rows : List ℕ) → AllByRecursion (Given toll 64 rows) (tolls_down toll rows)
  down_given [] = tt
  down_given (r ∷ rows) =
      All-append (Given toll 64 (r ∷ rows)) (tolls_across toll r 64) (tolls_down toll rows)
      (All-weaker (Given toll 64 (r ∷ [])) (Given toll 64 (r ∷ rows))
      (λ e g. record { in_row = elim g.in_row [ inl x ↦ inl x | inr x ↦ absurd x ]; in_column = g.in_column; some = g.some; is = g.is })
      (tolls_across toll r 64) (across_given r 64))
      (All-weaker (Given toll 64 rows) (Given toll 64 (r ∷ rows))
      (λ e g. record { in_row = inr g.in_row; in_column = g.in_column; some = g.some; is = g.is }) (tolls_down toll rows) (down_given rows))

  pub down_sorted : (rows : List ℕ) → Pairwise ◌<◌ rows → Pairwise Before (tolls_down toll rows)
  down_sorted [] d = tt
  down_sorted (r ∷ rows) d =
      pairwise_append Before (tolls_across toll r 64) (tolls_down toll rows) (across_sorted r 64) (down_sorted rows d.1)
      (All-weaker (Given toll 64 (r ∷ [])) (λ e. AllByRecursion (Before e) (tolls_down toll rows))
      (λ e g. All-weaker (Given toll 64 rows) (Before e)
      (λ e' g'. elim g.in_row [
        | inl x ↦ let low : r < e'.row = all_in (λ q. r < q) e'.row rows d.0 g'.in_row in inl (omega arith)
        | inr x ↦ absurd x
      ])
      (tolls_down toll rows) (down_given rows))
      (tolls_across toll r 64) (across_given r 64))

  pub down_in : (rows : List ℕ) (r j : ℕ) → In r rows → j < 64 → 0 < toll r j → In (toll_at toll r j) (tolls_down toll rows)
  down_in [] r j i l some = absurd i
  down_in (q ∷ rows) r j (inl e) l some =
      in_left (toll_at toll r j) (tolls_across toll q 64) (tolls_down toll rows) (rw e (across_in q 64 j l (rw e at some)))
  down_in (q ∷ rows) r j (inr i) l some =
      in_right (toll_at toll r j) (tolls_across toll q 64) (tolls_down toll rows) (down_in rows r j i l some)

  -- they add up to the tolls of the rows
  pub down_sum : (rows : List ℕ) → total (λ e. e.amount) (tolls_down toll rows) ≡ tolls_on rows toll
  down_sum [] = refl
  down_sum (r ∷ rows) =
      omega (arith, across_sum r 64, down_sum rows, total_append (λ (e : Toll). e.amount) (tolls_across toll r 64) (tolls_down toll rows))

-- a list's toll of a PE
pub at_in : (es : List Toll) (r j : ℕ) → 0 < toll_of es r j → In (toll_at (toll_of es) r j) es
at_in [] r j some = absurd (omega arith)
at_in (e ∷ es) r j some = elim (cases_Bool (eqb e.row r && eqb e.column j)) [
  | inl t ↦
      let p = and_parts (eqb e.row r) (eqb e.column j) t in
      inl (sym (same-toll e r j (toll_of (e ∷ es) r j) (eqb-true e.row r p.0) (eqb-true e.column j p.1)
      (sym (cond-true (eqb e.row r && eqb e.column j) e.amount (toll_of es r j) t))))
  | inr t ↦
      let is : toll_of (e ∷ es) r j ≡ toll_of es r j = cond-false (eqb e.row r && eqb e.column j) e.amount (toll_of es r j) t in
      inr (subst (λ (v : ℕ). In (record { row = r; column = j; amount = v }) es) (sym is) (at_in es r j (subst (λ (v : ℕ). 0 < v) is some)))
]

pub in_at : (es : List Toll) (e : Toll) → Pairwise Before es → In e es → toll_of es e.row e.column ≡ e.amount
in_at [] e p i = absurd i
in_at (d ∷ es) e p (inl x) =
    cond-true (eqb d.row e.row && eqb d.column e.column) d.amount (toll_of es e.row e.column)
    (and_from _ _ (eq-eqb d.row e.row (ap (λ (y : Toll). y.row) (sym x))) (eq-eqb d.column e.column (ap (λ (y : Toll). y.column) (sym x))))
    ∙ ap (λ (y : Toll). y.amount) (sym x)
in_at (d ∷ es) e p (inr i) = elim (cases_Bool (eqb d.row e.row && eqb d.column e.column)) [
  | inl t ↦
      let q = and_parts (eqb d.row e.row) (eqb d.column e.column) t in
      let a = eqb-true d.row e.row q.0 in
      let b = eqb-true d.column e.column q.1 in
      elim (all_in (Before d) e es p.0 i) [ inl l ↦ absurd (omega arith) | inr l ↦ absurd (omega (arith, l.1)) ]
  | inr t ↦ cond-false (eqb d.row e.row && eqb d.column e.column) d.amount (toll_of es e.row e.column) t ∙ in_at es e p.1 i
]

-- what a judge sees to of a toll
pub record Payable (c : Card) (e : Toll) : Type 0 where
  pub in_row : In e.row c.rows
  pub usable : Usable c e.row e.column
  pub some : 0 < e.amount
  pub limit : e.amount ≤ worth

pub record Listed (c : Card) (es : List Toll) : Type 0 where
  pub sorted : Pairwise Before es
  pub each : AllByRecursion (Payable c) es

some_or_none : (n : ℕ) → (0 < n) ⊎ (n ≡ 0)
some_or_none n = grind arith

module _ (c : Card) (down : Pairwise ◌<◌ c.rows) (narrow : (r j : ℕ) → Usable c r j → j < 64) where
  -- such a list is the list of its own tolls
  pub listed_again : (es : List Toll) → Listed c es → es ≡ tolls_down (toll_of es) c.rows
  listed_again es l =
      let again = tolls_down (toll_of es) c.rows in
      same_sorted Before before_strict es again l.sorted (down_sorted (toll_of es) c.rows down)
      (λ e i.
      let is : toll_of es e.row e.column ≡ e.amount = in_at es e l.sorted i in
      let p = all_in (Payable c) e es l.each i in
      let same : e ≡ toll_at (toll_of es) e.row e.column = same-toll e e.row e.column _ refl refl (sym is) in
      rw same (down_in (toll_of es) c.rows e.row e.column p.in_row (narrow e.row e.column p.usable) (omega (arith, p.some))))
      (λ e i.
      let g = all_in (Given (toll_of es) 64 c.rows) e again (down_given (toll_of es) c.rows) i in
      let same : e ≡ toll_at (toll_of es) e.row e.column = same-toll e e.row e.column _ refl refl g.is in
      rw same (at_in es e.row e.column (omega (arith, g.some, g.is))))

  -- a judge's tolls are allowed
  pub listed_allowed : (es : List Toll) → Listed c es → Allowed c (toll_of es)
  listed_allowed es l = record {
    limit = λ s j i. elim (some_or_none (toll_of es (row c s) j)) [
      | inl x ↦ (all_in (Payable c) (toll_at (toll_of es) (row c s) j) es l.each (at_in es (row c s) j x)).limit
      | inr x ↦ omega arith
    ];
    elsewhere = λ s j i un. elim (some_or_none (toll_of es (row c s) j)) [
      | inl x ↦ absurd (un (all_in (Payable c) (toll_at (toll_of es) (row c s) j) es l.each (at_in es (row c s) j x)).usable)
      | inr x ↦ x
    ];
  }

  -- and allowed tolls are as a judge has them
  module _ (toll : Tolls) (allowed : Allowed c toll) where
    allowed_limit : (r j : ℕ) → In r c.rows → toll r j ≤ worth
    allowed_limit r j i = let p = in_place r c.rows i in rw p.2 at (allowed.limit p.0 j p.1)

    allowed_usable : (r j : ℕ) → In r c.rows → 0 < toll r j → Usable c r j
    allowed_usable r j i some =
        let p = in_place r c.rows i in
        elim (cases_Bool (c.usable r j)) [
          | inl t ↦ t
          | inr t ↦
              let un : Usable c (row c p.0) j → ⊥ = λ u. let w : Usable c r j = rw p.2 at u in both_ways (c.usable r j) t w in
              let none : toll r j ≡ 0 = rw p.2 at (allowed.elsewhere p.0 j p.1 un) in
              absurd (omega arith)
        ]

    pub list_listed : Listed c (tolls_down toll c.rows)
    list_listed = record {
      sorted = down_sorted toll c.rows down;
      each = All-weaker (Given toll 64 c.rows) (Payable c)
          (λ e g. record {
            in_row = g.in_row;
            usable = allowed_usable e.row e.column g.in_row (omega (arith, g.some, g.is));
            some = g.some;
            limit = omega (arith, g.is, allowed_limit e.row e.column g.in_row);
          })
          (tolls_down toll c.rows) (down_given toll c.rows);
    }

    pub list_at : (r j : ℕ) → In r c.rows → toll_of (tolls_down toll c.rows) r j ≡ toll r j
    list_at r j i =
        let es = tolls_down toll c.rows in
        elim (some_or_none (toll r j)) [
          | inl x ↦
              in_at es (toll_at toll r j) (down_sorted toll c.rows down)
              (down_in toll c.rows r j i (narrow r j (allowed_usable r j i x)) x)
          | inr x ↦ elim (some_or_none (toll_of es r j)) [
            | inl y ↦ (all_in (Given toll 64 c.rows) (toll_at (toll_of es) r j) es (down_given toll c.rows) (at_in es r j y)).is
            | inr y ↦ y ∙ sym x
          ]
        ]

-- tolls that are the same on the standing rows
module _ (toll toll' : Tolls) where
  along_same : (rows a : List ℕ) → AllByRecursion (λ r. (j : ℕ) → toll r j ≡ toll' r j) rows → tolls_along toll rows a ≡ tolls_along toll' rows a
  along_same [] a same = refl
  along_same (r ∷ rows) [] same = refl
  along_same (r ∷ rows) (j ∷ a) same = omega (arith, same.0 j, along_same rows a same.1)

  on_same : (rows : List ℕ) → AllByRecursion (λ r. (j : ℕ) → toll r j ≡ toll' r j) rows → tolls_on rows toll ≡ tolls_on rows toll'
  on_same [] same = refl
  on_same (r ∷ rows) same = omega (arith, sum_below-same 64 (toll r) (toll' r) (λ j l. same.0 j), on_same rows same.1)

pub supports_same : (c : Card) (m : Meaning) (toll toll' : Tolls) (f : List (List ℕ)) → ((r j : ℕ) → In r c.rows → toll r j ≡ toll' r j) →
    Supports c m toll f → Supports c m toll' f
supports_same c m toll toll' f same s =
    let all = all_from_in (λ r. (j : ℕ) → toll r j ≡ toll' r j) c.rows (λ r i j. same r j i) in
    record {
      none_below = λ u. s.none_below (u.0, u.1, omega (arith, u.2, along_same toll toll' c.rows u.0 all));
      add_up = omega (arith, s.add_up, on_same toll toll' c.rows all);
    }
