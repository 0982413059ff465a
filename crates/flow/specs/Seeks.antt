-- How labels are settled: labels on trial fall from place to place, each for a reason, until none that counts can fall further.
-- Assumes nothing.
use Rattle.std.specs.Prelude.{◌≡◌, ℕ, ◌+◌, ◌<◌, ◌≤◌, min, Bool, true, false, ◌⊎◌}
use Rattle.flow.specs.Nets.{Net, Flow, Bears, Reaches}
use Rattle.flow.specs.Fits.{Labels}

-- why a label is what it is: by the entry, or by the label below a place
pub data Why (P : Type 0) : Type 0 where
  source : Why P
  below : P → Why P

-- labels on trial, when and why each was last lowered; how far the exit may rise, and the last place that says so
pub record Marks (P : Type 0) : Type 0 where
  pub label : P → ℕ
  pub stamp : P → ℕ
  pub why : P → Why P
  pub clock : ℕ
  pub rise : ℕ
  pub last : P

-- why the label on trial above w is no lower; what it comes from was lowered before it, where it is just that
pub data Cause {P : Type 0} (N : Net P) (F : Flow P) (M : Marks P) (w : P) : Type 0 where
  by_entry : M.why w ≡ source → N.First w → N.entry w ≤ M.label w → Cause N F M w
  by_place : (a u : P) (k c : ℕ) → M.why w ≡ below a → Bears N F a u k → Reaches N a w c → M.label u + c ≤ M.label w + k →
      (M.label u + c ≡ M.label w + k → M.stamp u < M.stamp w) → Cause N F M w

-- the place p says how far the exit may rise
pub record Tells {P : Type 0} (N : Net P) (F : Flow P) (L : Labels P) (M : Marks P) (p : P) : Type 0 where
  pub usable : N.Usable p
  pub last : N.Last p
  pub unused : F.used p ≡ false
  pub is : M.label p ≡ L.into p + M.rise

-- what holds while labels fall, and places wait to be scanned; W is the most that the exit may be
pub record Seeking {P : Type 0} (N : Net P) (F : Flow P) (L : Labels P) (W : ℕ) (waits : P → Bool) (M : Marks P) : Type 0 where
  pub above : (u : P) → L.into u ≤ M.label u
  pub high : (u : P) → M.label u ≤ W
  pub usable : (u : P) → 0 < M.label u → N.Usable u
  pub quiet : (a u : P) (k : ℕ) → Bears N F a u k → M.label u < W → waits u ≡ false →
      (w : P) (c : ℕ) → Reaches N a w c → M.label w + k ≤ M.label u + c
  pub caused : (a w : P) (k : ℕ) → Bears N F a w k → M.label w < W → Cause N F M w
  pub waiting : (u : P) → waits u ≡ true → N.Usable u × (N.First u → F.used u ≡ true → ⊥)
  pub clocked : (u : P) → M.stamp u ≤ M.clock
  pub cap : L.exit + M.rise ≤ W
  pub bound : (w : P) → N.Usable w → N.Last w → F.used w ≡ false → L.into w + M.rise ≤ M.label w
  pub last : L.exit + M.rise < W → Tells N F L M M.last

-- nothing is lowered yet: labels on trial are W, but those of used first places their entries
pub record Blank {P : Type 0} (N : Net P) (F : Flow P) (L : Labels P) (W : ℕ) (waits : P → Bool) (M : Marks P) : Type 0 where
  pub usable : (u : P) → 0 < M.label u → N.Usable u
  pub label : (u : P) → N.Usable u → (M.label u ≡ W) ⊎ (N.First u × (F.used u ≡ true) × (M.label u ≡ N.entry u))
  pub quiet : (u : P) → waits u ≡ false
  pub stamp : (u : P) → M.stamp u ≤ M.clock
  pub rise : L.exit + M.rise ≡ W

-- first places are entered: their labels on trial are no higher than their entries
abbrev pub Entered : {P : Type 0} → Net P → Marks P → Type 0
Entered N M = (u : _) → N.Usable u → N.First u → M.label u ≤ N.entry u

-- the label above w may be v, for the reason y
pub data Offer {P : Type 0} (N : Net P) (F : Flow P) (label : P → ℕ) (w : P) (v : ℕ) (y : Why P) : Type 0 where
  by_entry : y ≡ source → N.First w → F.used w ≡ false → v ≡ N.entry w → Offer N F label w v y
  by_place : (a u : P) (k c : ℕ) → y ≡ below a → Bears N F a u k → Reaches N a w c → v + k ≡ label u + c →
      (N.First w → label w ≤ N.entry w) → Offer N F label w v y

-- how far the exit may rise, and the place that says so, once the label above w is lowered to v: before, rise and last; then, to and at
abbrev pub Closer : {P : Type 0} → Net P → Flow P → Labels P → P → ℕ → (rise : ℕ) → P → (to : ℕ) → P → Type 0
Closer N F L w v rise last to at =
    (N.Last w × (F.used w ≡ false) × (v < L.into w + rise) × (L.into w + to ≡ v) × (at ≡ w)) ⊎
    ((N.Last w → F.used w ≡ false → L.into w + rise ≤ v) × (to ≡ rise) × (at ≡ last))

-- what is known of x is as it was
pub record Alike {P : Type 0} (waiting waits : P → Bool) (M K : Marks P) (x : P) : Type 0 where
  pub label : K.label x ≡ M.label x
  pub wait : waits x ≡ waiting x
  pub stamp : K.stamp x ≡ M.stamp x
  pub why : K.why x ≡ M.why x

-- the label on trial above w is lowered to v, for the reason y, and w waits
pub record Lowers {P : Type 0} (N : Net P) (F : Flow P) (L : Labels P) (waiting waits : P → Bool) (M K : Marks P) (w : P) (v : ℕ) (y : Why P) : Type 0 where
  pub label : K.label w ≡ v
  pub wait : waits w ≡ true
  pub stamp : K.stamp w ≡ M.clock + 1
  pub why : K.why w ≡ y
  pub clock : K.clock ≡ M.clock + 1
  pub closer : Closer N F L w v M.rise M.last K.rise K.last
  pub others : (x : P) → (x ≡ w → ⊥) → Alike waiting waits M K x

-- no place waits whose label on trial is less than the rise above its label
abbrev pub Resting : {P : Type 0} → Net P → Labels P → (P → Bool) → Marks P → Type 0
Resting N L waits M = (u : _) → N.Usable u → waits u ≡ true → L.into u + M.rise ≤ M.label u

-- the labels, raised as far as the rise, but where the label on trial is lower
abbrev pub raised : {P : Type 0} → Labels P → Marks P → Labels P
raised L M = record { into = λ p. min (M.label p) (L.into p + M.rise); exit = L.exit + M.rise }
