-- Lists: what is in them, their order, and what comes last. Assumes nothing.
use Rattle.std.proofs.Common.{◌≡◌, ℕ, zero, suc, ◌+◌, ◌<◌, Bool, true, cond, ◌⊎◌, List, [], ◌∷◌, ◌++◌, length, get_or, sym, refl, ap, ◌∙◌, ap₂, inl, inr, arith}
use Rattle.std.specs.List.{AllByRecursion}
use Rattle.std.proofs.ByRecursion.{All-push}
use Rattle.std.proofs.lemmas.Bool.{cases_eq, cond-true}
use Rattle.masks.specs.Members.{passing}
use Rattle.plans.specs.Families.{Pairwise, total}
use Rattle.verdict.specs.Judging.{may_follow}

module _ {X : Type 0} where
  abbrev pub In : X → List X → Type 0
  In x [] = ⊥
  In x (y ∷ ys) = (x ≡ y) ⊎ In x ys

  pub in_left : (x : X) (xs ys : List X) → In x xs → In x (xs ++ ys)
  in_left x [] ys i = absurd i
  in_left x (y ∷ xs) ys (inl e) = inl e
  in_left x (y ∷ xs) ys (inr i) = inr (in_left x xs ys i)

  pub in_right : (x : X) (xs ys : List X) → In x ys → In x (xs ++ ys)
  in_right x [] ys i = i
  in_right x (y ∷ xs) ys i = inr (in_right x xs ys i)

  pub all_in : (P : X → Type 0) (x : X) (xs : List X) → AllByRecursion P xs → In x xs → P x
  all_in P x [] all i = absurd i
  all_in P x (y ∷ xs) all (inl e) = rw e all.0
  all_in P x (y ∷ xs) all (inr i) = all_in P x xs all.1 i

  pub all_from_in : (P : X → Type 0) (xs : List X) → ((x : X) → In x xs → P x) → AllByRecursion P xs
  all_from_in P [] each = tt
  all_from_in P (x ∷ xs) each = (each x (inl refl), all_from_in P xs (λ y i. each y (inr i)))

  pub total_append : (f : X → ℕ) (xs ys : List X) → total f (xs ++ ys) ≡ total f xs + total f ys
  total_append f [] ys = omega arith
  total_append f (x ∷ xs) ys = omega (arith, total_append f xs ys)

  -- lists in a strict order that have the same elements
  pub same_sorted : (R : X → X → Type 0) → ((x y : X) → R x y → R y x → ⊥) → (xs ys : List X) → Pairwise R xs → Pairwise R ys →
      ((x : X) → In x xs → In x ys) → ((x : X) → In x ys → In x xs) → xs ≡ ys
  same_sorted R strict [] [] p q to from = refl
  same_sorted R strict [] (y ∷ ys) p q to from = absurd (from y (inl refl))
  same_sorted R strict (x ∷ xs) [] p q to from = absurd (to x (inl refl))
  same_sorted R strict (x ∷ xs) (y ∷ ys) p q to from =
      let same : x ≡ y = elim (to x (inl refl)) [
        | inl e ↦ e
        | inr i ↦ elim (from y (inl refl)) [
          | inl e ↦ sym e
          | inr k ↦ absurd (strict x y (all_in (R x) y xs p.0 k) (all_in (R y) x ys q.0 i))
        ]
      ] in
      let no_x : (z : X) → In z xs → z ≡ y → ⊥ = λ z i e. let r : R x x = rw (e ∙ sym same) at (all_in (R x) z xs p.0 i) in strict x x r r in
      let no_y : (z : X) → In z ys → z ≡ x → ⊥ = λ z i e. let r : R y y = rw (e ∙ same) at (all_in (R y) z ys q.0 i) in strict y y r r in
      let to' : (z : X) → In z xs → In z ys = λ z i. elim (to z (inr i)) [ inl e ↦ absurd (no_x z i e) | inr k ↦ k ] in
      let from' : (z : X) → In z ys → In z xs = λ z i. elim (from z (inr i)) [ inl e ↦ absurd (no_y z i e) | inr k ↦ k ] in
      ap₂ (λ (z : X) (zs : List X). z ∷ zs) same (same_sorted R strict xs ys p.1 q.1 to' from')

  -- y after the last of xs
  abbrev pub After : {Y : Type 0} → (X → Y → Type 0) → List X → Y → Type 0
  After R [] y = Unit {0}
  After R (x ∷ []) y = R x y
  After R (x ∷ x' ∷ xs) y = After R (x' ∷ xs) y

  pub after_true : {Y : Type 0} (test : X → Y → Bool) (R : X → Y → Type 0) → ((x : X) (y : Y) → test x y ≡ true → R x y) →
      (xs : List X) (y : Y) → may_follow test xs y ≡ true → After R xs y
  after_true test R each [] y e = tt
  after_true test R each (x ∷ []) y e = each x y e
  after_true test R each (x ∷ x' ∷ xs) y e = after_true test R each (x' ∷ xs) y e

  pub true_after : {Y : Type 0} (test : X → Y → Bool) (R : X → Y → Type 0) → ((x : X) (y : Y) → R x y → test x y ≡ true) →
      (xs : List X) (y : Y) → After R xs y → may_follow test xs y ≡ true
  true_after test R each [] y a = refl
  true_after test R each (x ∷ []) y a = each x y a
  true_after test R each (x ∷ x' ∷ xs) y a = true_after test R each (x' ∷ xs) y a

  pub after_all : {Y : Type 0} (R : X → Y → Type 0) (xs : List X) (y : Y) → AllByRecursion (λ x. R x y) xs → After R xs y
  after_all R [] y all = tt
  after_all R (x ∷ []) y all = all.0
  after_all R (x ∷ x' ∷ xs) y all = after_all R (x' ∷ xs) y all.1

  -- in an order, what comes after the last comes after all
  pub all_after : (R : X → X → Type 0) → ((x y z : X) → R x y → R y z → R x z) → (xs : List X) (y : X) → Pairwise R xs → After R xs y → AllByRecursion (λ x. R x y) xs
  all_after R trans [] y p a = tt
  all_after R trans (x ∷ []) y p a = (a, tt)
  all_after R trans (x ∷ x' ∷ xs) y p a =
      let more = all_after R trans (x' ∷ xs) y p.1 a in
      (trans x x' y p.0.0 more.0, more)

  pub pairwise_push : (R : X → X → Type 0) (xs : List X) (y : X) → Pairwise R xs → AllByRecursion (λ x. R x y) xs → Pairwise R (xs ++ y ∷ [])
  pairwise_push R [] y p a = (tt, tt)
  pairwise_push R (x ∷ xs) y p a = (All-push (R x) xs y p.0 a.0, pairwise_push R xs y p.1 a.1)

  pub pairwise_before : (R : X → X → Type 0) (xs : List X) (y : X) (ys : List X) → Pairwise R (xs ++ y ∷ ys) → AllByRecursion (λ x. R x y) xs
  pairwise_before R [] y ys p = tt
  pairwise_before R (x ∷ xs) y ys p = (there xs p.0, pairwise_before R xs y ys p.1)
    where
      there : (zs : List X) → AllByRecursion (R x) (zs ++ y ∷ ys) → R x y
      there [] a = a.0
      there (z ∷ zs) a = there zs a.1

pub in_place : (r : ℕ) (rows : List ℕ) → In r rows → (s : ℕ) × (s < length rows) × (get_or rows s 0 ≡ r)
in_place r [] i = absurd i
in_place r (q ∷ rows) (inl e) = (0, omega arith, sym e)
in_place r (q ∷ rows) (inr i) = let p = in_place r rows i in (suc p.0, omega (arith, p.1), p.2)

-- the numbers below n that pass a test
pub in_passing : (test : ℕ → Bool) (n j : ℕ) → j < n → test j ≡ true → In j (passing test n)
unfolding passing
in_passing test zero j l on = absurd (omega arith)
in_passing test (suc n) j l on = elim (cases_eq j n) [
  | inl e ↦
      let here : cond (test n) (n ∷ []) [] ≡ n ∷ [] = cond-true (test n) (n ∷ []) [] (ap test (sym e) ∙ on) in
      in_right j (passing test n) (cond (test n) (n ∷ []) []) (rw here (inl e))
  | inr ne ↦ in_left j (passing test n) (cond (test n) (n ∷ []) []) (in_passing test n j (omega arith) on)
]
