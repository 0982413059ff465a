-- Laws of maps in words of the subject. Assumes nothing.
use Rattle.std.specs.Prelude.{◌≡◌, ℕ, ◌+◌, ◌<◌, Bool, true, false, cond, ◌&&◌, length, Some, None, Decides, Option, ◌==◌, ◌≢◌, nat_lt}
use Rattle.std.specs.Option.{unwrap_or}
use Rattle.host.specs.declared.Host.{Host}
use Rattle.host.specs.declared.part.Part.{Part}
use Rattle.host.specs.declared.part.Part.TheVariants.{Pe, RowSwitch, ColumnSwitch}
use Rattle.host.specs.declared.refusal.Refusal.{Refusal}
use Rattle.host.specs.declared.size.Size.{Size}
use Rattle.host.specs.Maps.{inside, faulty, chosen, usable, stands}
use Rattle.host.specs.Changes.{Change, marking, picturing, choosing, opened, crossed, refusal, after, alters}

abbrev pub Healthy : Host → Part → Type 0
Healthy h p = faulty h p ≡ false

pub record Usable (h : Host) (i j : ℕ) : Type 0 where
  pub row : i < h.size.rows
  pub column : j < h.size.columns
  pub healthy : Healthy h (Pe i j)
  pub above : (k : ℕ) → k + 1 ≡ i → Healthy h (ColumnSwitch k j)
  pub below : Healthy h (ColumnSwitch i j)

pub record Stands (h : Host) (i : ℕ) : Type 0 where
  pub picked : chosen h i ≡ true
  pub joined : (j : ℕ) → Healthy h (RowSwitch i j)

-- what a call can set: a part of the card, or the choice of a row
pub data Place : Type 0 where
  part : Part → Place
  choice_of : ℕ → Place

abbrev pub on_card : Size → Place → Bool
on_card z (part p) = inside z p
on_card z (choice_of i) = nat_lt i z.rows

abbrev pub state : Host → Place → Bool
state h (part p) = faulty h p
state h (choice_of i) = chosen h i

-- the state of a place on a card that is opened
abbrev pub first_state : Place → Bool
first_state (part p) = false
first_state (choice_of i) = true

abbrev pub same : Part → Part → Bool
same (Pe i j) (Pe k l) = k == i && l == j
same (RowSwitch i j) (RowSwitch k l) = k == i && l == j
same (ColumnSwitch i j) (ColumnSwitch k l) = k == i && l == j
same _ _ = false

abbrev pub only : Bool → Bool → Option Bool
only named b = cond named (Some b) None

-- the state that a call names for a place
abbrev pub names : Change → Place → Option Bool
names (marking p s) (part q) = only (same p q) (s == 1)
names (picturing i text) (part (Pe k l)) = only (k == i) (crossed text l)
names (choosing i s) (choice_of k) = only (k == i) (s == 1)
names _ _ = None

-- a map has 64 rows, as every map of the code has
abbrev pub Whole : Host → Type 0
Whole h = length h.rows ≡ 64

-- two calls that name the same places
abbrev pub Alike : Change → Change → Type 0
Alike (marking p s) (marking q t) = p ≡ q
Alike (picturing i u) (picturing k v) = i ≡ k
Alike (choosing i s) (choosing k t) = i ≡ k
Alike _ _ = ⊥

-- a call after which the state of some place on the card is another one
pub record Alters (h : Host) (c : Change) : Type 0 where
  pub place : Place
  pub here : on_card h.size place ≡ true
  pub other : state (after h c) place ≢ state h place

pub record Laws : Type 0 where
  pub usable_when : (h : Host) (i j : ℕ) → Decides (usable h i j) (Usable h i j)
  pub stands_when : (h : Host) (i : ℕ) → Decides (stands h i) (Stands h i)
  pub opened_whole : (z : Size) → Whole (opened z)
  pub after_whole : (h : Host) (c : Change) → Whole h → Whole (after h c)
  pub opened_state : (z : Size) (q : Place) → on_card z q ≡ true → state (opened z) q ≡ first_state q
  -- a refused call changes nothing
  pub refused : (h : Host) (c : Change) (x : Refusal) → refusal h.size c ≡ Some x → after h c ≡ h
  -- a call that is done gives each place that it names its state, and leaves every other as it was
  pub done : (h : Host) (c : Change) (q : Place) → Whole h → on_card h.size q ≡ true → refusal h.size c ≡ None →
      state (after h c) q ≡ unwrap_or (names c q) (state h q)
  pub alters_when : (h : Host) (c : Change) → Whole h → Decides (alters h c) (Alters h c)
  -- of two calls for the same places the later one decides, and a call made twice is a call made once
  pub later : (h : Host) (c d : Change) → Alike c d → refusal h.size d ≡ None → after (after h c) d ≡ after h d
  pub twice : (h : Host) (c : Change) → after (after h c) c ≡ after h c
