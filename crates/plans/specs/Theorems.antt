-- The laws of columns, families, tolls and plans. Assumes nothing.
use Rattle.std.specs.Prelude.{◌≡◌, ℕ, ◌+◌, ◌<◌, ◌≤◌, Bool, false, ◌⊎◌, ◌↔◌, List, length, ◌≢◌, slice_index}
use Rattle.masks.specs.Masks.{bit, mask, how_many}
use Rattle.tariff.specs.Meaning.{Meaning, Lawful, in_grid}
use Rattle.tariff.specs.Kinds.{links}
use Rattle.tariff.specs.Charges.{charge}
use Rattle.masks.specs.Members.{members}
use Rattle.plans.specs.Columns.{Card, Within, Column, Usable, Near, standing, row, long_links}
use Rattle.plans.specs.Families.{Family, Best, Uncrossed, Pairwise, Apart, LeftOf, total_charge}
use Rattle.plans.specs.Tolls.{Tolls, Supports, Plan, Underpriced, worth}
use Rattle.plans.specs.Potentials.{Labels, Flow, Routes, Feasible, Tight, TollsOf, columns_of}
use Rattle.plans.specs.Least.{least, LeastPrice}
use Rattle.plans.specs.Masked.{masked}
use Rattle.plans.specs.Held.{held, held_columns, held_tolls}

-- tolls that support a family prove it best
abbrev pub TollsProveBest : Type 0
TollsProveBest =
    (c : Card) (m : Meaning) (toll : Tolls) (f : List (List ℕ)) →
    Within c → Lawful m → Family c f → Supports c m toll f → Best c m f

-- where tolls support some family, every best family has no crossing, and the same tolls support it
abbrev pub BestIsUncrossed : Type 0
BestIsUncrossed =
    (c : Card) (m : Meaning) (toll : Tolls) (f g : List (List ℕ)) →
    Within c → Lawful m → Family c f → Supports c m toll f → Best c m g → Uncrossed g × Supports c m toll g

-- a plan's family is best, and with a plan's tolls every best family makes a plan
abbrev pub PlansAreBest : Type 0
PlansAreBest =
    (c : Card) (m : Meaning) (toll : Tolls) (f : List (List ℕ)) →
    Within c → Lawful m → Plan c m toll f → Best c m f × ((g : List (List ℕ)) → Best c m g → Plan c m toll g)

-- a family has at most 64 columns, and costs less than one column is worth
abbrev pub FamiliesAreSmall : Type 0
FamiliesAreSmall =
    (c : Card) (m : Meaning) (f : List (List ℕ)) →
    Within c → Lawful m → Family c f → (length f ≤ 64) × (total_charge c m f ≤ 4096000)

-- `least` has the least prices
abbrev pub LeastIsLeast : Type 0
LeastIsLeast = (c : Card) (m : Meaning) (toll : Tolls) (j : ℕ) → LeastPrice c m toll j (least c m toll j)

-- some logical column is priced below the worth exactly where some least price of the last row is
abbrev pub LeastTells : Type 0
LeastTells =
    (c : Card) (m : Meaning) (toll : Tolls) → Within c →
    Underpriced c m toll ↔ ((j : ℕ) × (j < 64) × (least c m toll j < worth))

-- labels that are feasible, and tight on a flow, with the worth at the exit, make a plan of the flow's columns and the tolls
-- that the labels tell
abbrev pub LabelsGivePlan : Type 0
LabelsGivePlan =
    (c : Card) (m : Meaning) (l : Labels) (w : Flow) (toll : Tolls) →
    Within c → Lawful m → 0 < standing c → Routes c w → Feasible c m l → Tight c m l w → l.exit ≡ worth → TollsOf c l w toll →
    Plan c m toll (columns_of c w)

-- a logical column, by places: as many PEs as rows stand, one at the least, each usable, and each near the next
abbrev pub ColumnByPlaces : Type 0
ColumnByPlaces =
    (c : Card) (a : List ℕ) →
    Column c a ↔
    ((0 < standing c) × (length a ≡ standing c) ×
    ((s : ℕ) → s < standing c → Usable c (row c s) (slice_index a s)) ×
    ((s : ℕ) → s + 1 < standing c → Near (slice_index a s) (slice_index a (s + 1))))

-- columns that share no PE, by places
abbrev pub ApartByPlaces : Type 0
ApartByPlaces =
    (a b : List ℕ) → length a ≡ length b → Apart a b ↔ ((s : ℕ) → s < length a → slice_index a s ≢ slice_index b s)

-- one column left of the other, by places
abbrev pub LeftOfByPlaces : Type 0
LeftOfByPlaces =
    (a b : List ℕ) → length a ≡ length b → LeftOf a b ↔ ((s : ℕ) → s < length a → slice_index a s < slice_index b s)

-- a family has no crossing exactly where of any two columns one lies left of the other in every standing row
abbrev pub UncrossedBySides : Type 0
UncrossedBySides =
    (c : Card) (f : List (List ℕ)) → Family c f → Uncrossed f ↔ Pairwise (λ a b. LeftOf a b ⊎ LeftOf b a) f

-- under the links tariff the charge of a column is the number of its long links
abbrev pub LinksCountLong : Type 0
LinksCountLong = (c : Card) (a : List ℕ) → Within c → Column c a → charge links c.rows a ≡ long_links a

-- a card held in the masks of its standing rows and usable PEs is that card
abbrev pub MaskedIsCard : Type 0
MaskedIsCard =
    (stands : ℕ → Bool) (usable : ℕ → ℕ → Bool) (masks : List ℕ) → length masks ≡ 64 →
    ((r : ℕ) → r < 64 → slice_index masks r ≡ mask (usable r)) → ((r j : ℕ) → in_grid r j ≡ false → usable r j ≡ false) →
    masked (mask stands) masks ≡ record { rows = members stands; usable = usable }

-- a card that is held in masks is within the limits
abbrev pub MaskedIsWithin : Type 0
MaskedIsWithin = (stand : ℕ) (masks : List ℕ) → Within (masked stand masks)

-- and as many of its rows stand as its mask has members
abbrev pub MaskedCountsRows : Type 0
MaskedCountsRows = (stand : ℕ) (masks : List ℕ) → standing (masked stand masks) ≡ how_many (bit stand)

-- a family and tolls that are held are told again
abbrev pub HeldIsTold : Type 0
HeldIsTold =
    (c : Card) (toll : Tolls) (f : List (List ℕ)) → Within c → Family c f →
    (held_columns (held f toll) (standing c) (length f) ≡ f) ×
    ((r j : ℕ) → r < 64 → j < 64 → held_tolls (held f toll) r j ≡ toll r j)
