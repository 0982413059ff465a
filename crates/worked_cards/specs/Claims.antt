-- What can be said of a card, and when it holds. Assumes nothing.
use Rattle.std.specs.Prelude.{◌≡◌, ℕ, List, fold, length, Err, IsOkAnd}
use Rattle.std.specs.List.{AllByRecursion}
use Rattle.host.specs.declared.Host.{Host}
use Rattle.host.specs.declared.part.Part.{Part}
use Rattle.host.specs.declared.size.Size.{Size}
use Rattle.host.specs.Changes.{opened, marking, after}
use Rattle.host.specs.Sizes.{tested}
use Rattle.tariff.specs.Meaning.{Meaning}
use Rattle.plans.specs.Families.{Best, total_charge}
use Rattle.plans.specs.Tolls.{Plan}
use Rattle.routable.specs.Cards.{card_of}
use Rattle.sheet.specs.declared.record.Toll.{Toll}
use Rattle.verdict.specs.declared.fault.JudgeFault.{JudgeFault}
use Rattle.verdict.specs.Faults.{number, place}
use Rattle.verdict.specs.Judging.{judged, toll_of}
use Rattle.verdict.specs.Theorems.{Accepts}
use Rattle.greedy.specs.Laws.{greedy_on}

-- what is said of a card
pub data Claim : Type 0 where
  standing : List ℕ → Claim  -- these rows stand
  greedy : List (List ℕ) → ℕ → Claim  -- greedy finds these columns, of this total charge
  best : ℕ → ℕ → Claim  -- a best family has so many columns, and this total charge
  supported : List Toll → Claim  -- these tolls support a best family: it is a plan with them
  accepted : List ℕ → Claim  -- the sheet of these bytes is accepted
  faulted : List ℕ → ℕ → ℕ → Claim  -- it has the fault of this number, at this byte

-- when it holds, on a map and under a tariff
abbrev pub Holds : Host → Meaning → Claim → Type 0
Holds h m (standing rows) = (card_of h).rows ≡ rows
Holds h m (greedy f charge) = ((greedy_on (card_of h)).columns ≡ f) × (total_charge (card_of h) m f ≡ charge)
Holds h m (best count charge) = (f : List (List ℕ)) × Best (card_of h) m f × (length f ≡ count) × (total_charge (card_of h) m f ≡ charge)
Holds h m (supported tolls) = (f : List (List ℕ)) × Best (card_of h) m f × Plan (card_of h) m (toll_of tolls) f
Holds h m (accepted sheet) = Accepts h m sheet
Holds h m (faulted sheet n at) = (x : JudgeFault) × (judged h m sheet ≡ Err x) × (number x ≡ n) × (place x ≡ at)

-- a card: its rows and columns, the parts that are faulty, the tariff, and what is said of it
pub data Worked : Type 0 where
  card : ℕ → ℕ → List Part → Meaning → List Claim → Worked

-- the map of a card that is opened, and has these parts marked as faulty
abbrev pub marked : Size → List Part → Host
marked z parts = fold (λ h part. after h (marking part 1)) (opened z) parts

-- the size passes the size test, and all that is said of the card holds
abbrev pub AllHold : Worked → Type 0
AllHold (card rows columns faulty tariff claims) = IsOkAnd (tested rows columns) (λ z. AllByRecursion (Holds (marked z faulty) tariff) claims)
