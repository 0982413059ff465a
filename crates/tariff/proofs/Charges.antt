-- The charge of a column, one PE after another. Assumes nothing.
use Rattle.std.proofs.Common.{◌≡◌, ℕ, ◌*◌, ◌≤◌, List, [], ◌∷◌, length, Some, None, Option, refl, arith}
use Rattle.tariff.specs.declared.pe.Pe.{Pe}
use Rattle.tariff.specs.Meaning.{Meaning, Lawful}
use Rattle.tariff.specs.Charges.{link_charges, charge}

-- what the PEs to come cost, below the one above
abbrev pub onward : Meaning → Option Pe → List ℕ → List ℕ → ℕ
onward m None rows ks = charge m rows ks
onward m (Some pe) rows ks = link_charges m pe.row pe.column rows ks

module _ (m : Meaning) where
  pub onward_rowless : (above : Option Pe) (rows ks : List ℕ) → rows ≡ [] → onward m above rows ks ≡ 0
  onward_rowless None [] ks e = refl
  onward_rowless (Some pe) [] ks e = refl
  onward_rowless None (q ∷ rows) ks e = cc
  onward_rowless (Some pe) (q ∷ rows) ks e = cc

  pub onward_ended : (above : Option Pe) (rows ks : List ℕ) → length ks ≡ 0 → onward m above rows ks ≡ 0
  onward_ended None [] ks e = refl
  onward_ended (Some pe) [] ks e = refl
  onward_ended None (q ∷ rows) [] e = refl
  onward_ended (Some pe) (q ∷ rows) [] e = refl
  onward_ended None (q ∷ rows) (k ∷ ks) e = absurd (omega arith)
  onward_ended (Some pe) (q ∷ rows) (k ∷ ks) e = absurd (omega arith)

  links_limit : Lawful m → (r j : ℕ) (rows ks : List ℕ) → link_charges m r j rows ks ≤ 1000 * length rows
  links_limit law r j [] ks = omega arith
  links_limit law r j (q ∷ rows) [] = omega arith
  links_limit law r j (q ∷ rows) (k ∷ ks) =
      omega (arith, links_limit law q k rows ks, law.link_limit r j q k, law.ceiling_limit)

  -- no column costs more than 1,000 for each row
  pub charge_limit : Lawful m → (rows ks : List ℕ) → charge m rows ks ≤ 1000 * length rows
  charge_limit law [] ks = omega arith
  charge_limit law (r ∷ rows) [] = omega arith
  charge_limit law (r ∷ rows) (k ∷ ks) =
      omega (arith, links_limit law r k rows ks, law.entry_limit r k, law.ceiling_limit)
