-- The walk that makes one way more: back along the reasons, from a last place to a first one. Assumes nothing.
use Rattle.std.specs.Prelude.{◌≡◌, ℕ, ◌<◌, ◌≤◌, true, false}
use Rattle.flow.specs.Nets.{Net, Flow, Bears}
use Rattle.flow.specs.Fits.{Labels, Fits, NoHole}
use Rattle.flow.specs.Seeks.{Marks, Cause}

-- the last place e is where a way can be made
pub record Ready {P : Type 0} (N : Net P) (F : Flow P) (L : Labels P) (M : Marks P) (e : P) : Type 0 where
  pub usable : N.Usable e
  pub last : N.Last e
  pub unused : F.used e ≡ false
  pub reached : M.label e ≤ L.into e

-- labels that are settled, and marks that tell the reasons; there is room for another way while the exit is below W
pub record Settled {P : Type 0} (N : Net P) (F : Flow P) (L : Labels P) (W : ℕ) (M : Marks P) : Type 0 where
  pub fits : Fits N F L NoHole
  pub above : (u : P) → L.into u ≤ M.label u
  pub caused : (a w : P) (k : ℕ) → Bears N F a w k → M.label w < W → Cause N F M w
  pub ready : L.exit < W → Ready N F L M M.last

-- on the walk the flow was F and is G, with a hole at w, which bore a label; what bears a label of an earlier stamp is as it was
pub record Walk {P : Type 0} (N : Net P) (F : Flow P) (L : Labels P) (M : Marks P) (G : Flow P) (w : P) : Type 0 where
  pub bearer : P
  pub gap : ℕ
  pub bears : Bears N F bearer w gap
  pub used : G.used w ≡ true
  pub fits : Fits N G L (λ p. p ≡ w)
  pub reached : M.label w ≤ L.into w
  pub same : (a u : P) (k : ℕ) → Bears N F a u k → M.stamp u < M.stamp w → (G.used a ≡ F.used a) × (G.next a ≡ F.next a)
