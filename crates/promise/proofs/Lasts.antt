-- Lists by their last element. Assumes nothing.
use Rattle.std.proofs.Common.{◌≡◌, List, [], ◌∷◌, ◌++◌, ◌⊎◌, sym, refl, ap, inl, inr}

module _ {X : Type 0} where
  nothing : {Y : Type 0} (x : X) (xs : List X) → [] ≡ x ∷ xs → Y
  nothing x xs e = cc

  pub nothing_last : {Y : Type 0} (xs ys : List X) (x : X) → [] ≡ xs ++ x ∷ ys → Y
  nothing_last [] ys x e = nothing x ys e
  nothing_last (y ∷ xs) ys x e = nothing y (xs ++ x ∷ ys) e

  heads : (x y : X) (xs ys : List X) → x ∷ xs ≡ y ∷ ys → x ≡ y
  heads x y xs ys e = cc

  tails : (x y : X) (xs ys : List X) → x ∷ xs ≡ y ∷ ys → xs ≡ ys
  tails x y xs ys e = cc

  -- where a list with one more element falls apart at y: y is that element, or the one more is behind it
  abbrev pub Parts : List X → X → List X → X → List X → Type 0
  Parts xs x before y later = ((xs ≡ before) × (x ≡ y) × (later ≡ [])) ⊎ ((ys : List X) × (later ≡ ys ++ x ∷ []) × (xs ≡ before ++ y ∷ ys))

  pub parts : (xs : List X) (x : X) (before : List X) (y : X) (later : List X) → xs ++ x ∷ [] ≡ before ++ y ∷ later → Parts xs x before y later
  parts [] x [] y later e = inl (refl, heads x y [] later e, sym (tails x y [] later e))
  parts [] x (b ∷ before) y later e = nothing_last before later y (tails x b [] (before ++ y ∷ later) e)
  parts (z ∷ xs) x [] y later e = inr (xs, sym (tails z y (xs ++ x ∷ []) later e), ap (λ w. w ∷ xs) (heads z y (xs ++ x ∷ []) later e))
  parts (z ∷ xs) x (b ∷ before) y later e = further (parts xs x before y later (tails z b _ _ e))
    where
      same : z ≡ b
      same = heads z b (xs ++ x ∷ []) (before ++ y ∷ later) e

      further : Parts xs x before y later → Parts (z ∷ xs) x (b ∷ before) y later
      further (inl p) = inl ((λ t. same t ∷ p.0 t), p.1, p.2)
      further (inr p) = inr (p.0, p.1, (λ t. same t ∷ p.2 t))

  pub lasts : (xs ys : List X) (x y : X) → xs ++ x ∷ [] ≡ ys ++ y ∷ [] → (xs ≡ ys) × (x ≡ y)
  lasts xs ys x y e = only (parts xs x ys y [] e)
    where
      only : Parts xs x ys y [] → (xs ≡ ys) × (x ≡ y)
      only (inl p) = (p.0, p.1)
      only (inr p) = nothing_last p.0 [] x p.1
