-- What route makes, and what it answers. Assumes nothing.
use Rattle.std.specs.Prelude.{◌≡◌, ℕ, ◌<◌, List, length, Some, None, Option}
use Rattle.tariff.specs.Meaning.{Meaning, Lawful}
use Rattle.plans.specs.Columns.{Card, Within, standing, row}
use Rattle.plans.specs.Families.{Best, Pairwise, LeftOf, total_charge}
use Rattle.plans.specs.Tolls.{Tolls, Plan}
use Rattle.plans.specs.declared.held.HeldPlan.{HeldPlan}
use Rattle.plans.specs.Held.{held, held_columns}

-- some plan is held, its columns from left to right, and no toll in a row that does not stand; their number and total charge
pub record Planned (c : Card) (m : Meaning) (plan : HeldPlan) (counts : ℕ × ℕ) : Type 0 where
  pub family : List (List ℕ)
  pub toll : Tolls
  pub is_plan : Plan c m toll family
  pub ordered : Pairwise LeftOf family
  pub none_else : (r j : ℕ) → ((s : ℕ) → s < standing c → row c s ≡ r → ⊥) → toll r j ≡ 0
  pub is_held : plan ≡ held family toll
  pub counted : counts ≡ (length family, total_charge c m family)

-- where no row stands there is no answer, and what is held stays; else a plan is made
abbrev pub Routed : Card → Meaning → (old new : HeldPlan) → Option (ℕ × ℕ) → Type 0
Routed c m old new None = (standing c ≡ 0) × (new ≡ old)
Routed c m old new (Some counts) = Planned c m new counts

-- the columns that are held then are a best family, and the answer is their number and total charge
abbrev pub RoutedIsBest : Type 0
RoutedIsBest =
    (c : Card) (m : Meaning) (old new : HeldPlan) (number total : ℕ) → Within c → Lawful m → Routed c m old new (Some (number, total)) →
    let f = held_columns new (standing c) number in Best c m f × (total ≡ total_charge c m f)
