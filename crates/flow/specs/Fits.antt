-- Flows that are whole, and labels that fit them. A hole is a place that the flow does not come to, though it may go on from it.
-- Assumes nothing.
use Rattle.std.specs.Prelude.{◌≡◌, ℕ, ◌+◌, ◌<◌, ◌≤◌, true, false}
use Rattle.flow.specs.Nets.{Net, Flow, Goes, Bears, Reaches}

-- the label above each place, and the one at the exit, below the last places
pub record Labels (P : Type 0) : Type 0 where
  pub into : P → ℕ
  pub exit : ℕ

-- where the flow goes from p on to q, q is a used place below that has p above it, and is no hole
pub record Comes {P : Type 0} (N : Net P) (F : Flow P) (Hole : P → Type 0) (p q : P) : Type 0 where
  pub link : N.Link p q
  pub used : F.used q ≡ true
  pub prev : F.prev q ≡ p
  pub charge : F.charge q ≡ N.cost p q
  pub whole : Hole q → ⊥

-- the used places make up ways from a first place, or from a hole, to a last place; no two ways share a place
pub record Conserved {P : Type 0} (N : Net P) (F : Flow P) (Hole : P → Type 0) : Type 0 where
  pub usable : (p : P) → F.used p ≡ true → N.Usable p
  pub goes : (p q : P) → Goes N F p q → Comes N F Hole p q
  pub comes : (q : P) → F.used q ≡ true → (N.First q → ⊥) → (Hole q → ⊥) → Goes N F (F.prev q) q
  pub idle : (q : P) → N.Usable q → F.used q ≡ false → (F.prev q ≡ q) × (F.charge q ≡ 0)

-- no label is above what the entry, or another label, would make it; along the flow it is just that; what cannot be used has label 0
pub record Labelled {P : Type 0} (N : Net P) (F : Flow P) (L : Labels P) (Hole : P → Type 0) : Type 0 where
  pub entry : (p : P) → N.Usable p → N.First p → L.into p ≤ N.entry p
  pub entered : (p : P) → F.used p ≡ true → N.First p → (Hole p → ⊥) → L.into p ≡ N.entry p
  pub along : (a u : P) (k : ℕ) → Bears N F a u k → (w : P) (c : ℕ) → Reaches N a w c → L.into w + k ≤ L.into u + c
  pub last : (p : P) → N.Usable p → N.Last p → F.used p ≡ false → L.exit ≤ L.into p
  pub low : (p : P) → L.into p ≤ L.exit
  pub usable : (p : P) → 0 < L.into p → N.Usable p

pub record Fits {P : Type 0} (N : Net P) (F : Flow P) (L : Labels P) (Hole : P → Type 0) : Type 0 where
  pub flow : Conserved N F Hole
  pub labels : Labelled N F L Hole

abbrev pub NoHole : {P : Type 0} → P → Type 0
NoHole p = ⊥
