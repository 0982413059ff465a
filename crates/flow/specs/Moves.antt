-- Changes of a flow F to G. Assumes nothing.
use Rattle.std.specs.Prelude.{◌≡◌, ℕ, true, false}
use Rattle.flow.specs.Nets.{Flow}

-- the place e is used from now on
pub record Opened {P : Type 0} (F G : Flow P) (e : P) : Type 0 where
  pub used : G.used e ≡ true
  pub used_else : (p : P) → (p ≡ e → ⊥) → G.used p ≡ F.used p
  pub next : (p : P) → G.next p ≡ F.next p
  pub prev : (p : P) → G.prev p ≡ F.prev p
  pub charge : (p : P) → G.charge p ≡ F.charge p

-- the place a is used from now on, and goes on to w by a link of the cost c
pub record Linked {P : Type 0} (F G : Flow P) (a w : P) (c : ℕ) : Type 0 where
  pub used : G.used a ≡ true
  pub next : G.next a ≡ w
  pub prev : G.prev w ≡ a
  pub charge : G.charge w ≡ c
  pub used_else : (p : P) → (p ≡ a → ⊥) → G.used p ≡ F.used p
  pub next_else : (p : P) → (p ≡ a → ⊥) → G.next p ≡ F.next p
  pub prev_else : (p : P) → (p ≡ w → ⊥) → G.prev p ≡ F.prev p
  pub charge_else : (p : P) → (p ≡ w → ⊥) → G.charge p ≡ F.charge p

-- the place w is used no more
pub record Dropped {P : Type 0} (F G : Flow P) (w : P) : Type 0 where
  pub used : G.used w ≡ false
  pub prev : G.prev w ≡ w
  pub charge : G.charge w ≡ 0
  pub used_else : (p : P) → (p ≡ w → ⊥) → G.used p ≡ F.used p
  pub prev_else : (p : P) → (p ≡ w → ⊥) → G.prev p ≡ F.prev p
  pub charge_else : (p : P) → (p ≡ w → ⊥) → G.charge p ≡ F.charge p
  pub next : (p : P) → G.next p ≡ F.next p
