-- A network of places, and a flow through it. P is the type of its places. Assumes nothing.
use Rattle.std.specs.Prelude.{◌≡◌, ℕ, Bool, true, false, ◌⊎◌}

-- which places can be used, which are first and last, how places are linked, and what it costs to enter at one and to take a link
pub record Net (P : Type 0) : Type 1 where
  pub Usable : P → Type 0
  pub First : P → Type 0
  pub Last : P → Type 0
  pub Link : P → P → Type 0
  pub entry : P → ℕ
  pub cost : P → P → ℕ

-- links join usable places, from one that is not last to another that is not first
pub record Lawful {P : Type 0} (N : Net P) : Type 0 where
  pub same_or_not : (p q : P) → (p ≡ q) ⊎ (p ≡ q → ⊥)
  pub from : {p q : P} → N.Link p q → N.Usable p
  pub to : {p q : P} → N.Link p q → N.Usable q
  pub apart : {p q : P} → N.Link p q → p ≡ q → ⊥
  pub not_last : {p q : P} → N.Link p q → N.Last p → ⊥
  pub not_first : {p q : P} → N.Link p q → N.First q → ⊥

-- which places are used, where each goes on, where each comes from, and what the link costs by which it comes
pub record Flow (P : Type 0) : Type 0 where
  pub used : P → Bool
  pub next : P → P
  pub prev : P → P
  pub charge : P → ℕ

-- the flow goes from p on to q
pub record Goes {P : Type 0} (N : Net P) (F : Flow P) (p q : P) : Type 0 where
  pub usable : N.Usable p
  pub used : F.used p ≡ true
  pub not_last : N.Last p → ⊥
  pub to : F.next p ≡ q

-- the label below a is k less than the label above u: a is not used and is u, or the flow goes from a on to u at the cost k
pub record Bears {P : Type 0} (N : Net P) (F : Flow P) (a u : P) (k : ℕ) : Type 0 where
  pub from : N.Usable a
  pub to : N.Usable u
  pub how : ((F.used a ≡ false) × (u ≡ a) × (k ≡ 0)) ⊎ (Goes N F a u × (k ≡ N.cost a u))

-- the label below a, and c, bound the label above w: by a link of the cost c, or since w is a
abbrev pub Reaches : {P : Type 0} → Net P → P → P → ℕ → Type 0
Reaches N a w c = (N.Link a w × (c ≡ N.cost a w)) ⊎ ((w ≡ a) × (c ≡ 0))
