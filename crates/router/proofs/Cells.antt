-- Arrays of cells, and the network that they stand for. Assumes nothing.
use Rattle.std.proofs.Common.{◌≡◌, ℕ, ◌+◌, ◌<◌, ◌≤◌, List, length, get_or, set, replicate, sym, subst, inl, inr, arith, get_or-set_other, get_or-set_same}
use Rattle.std.proofs.lemmas.Bool.{cases_eq, cases_lt}
use Rattle.std.proofs.lemmas.List.{get_or-replicate, get_or_past, length-replicate}
use Rattle.flow.specs.Nets.{Lawful}
use Rattle.router.specs.declared.board.TheConstants.{CELLS, ROW}
use Rattle.router.specs.declared.board.Grid.{Grid}
use Rattle.router.specs.Boards.{Usable, net_of, Shape}

module _ {g : Grid} (h : Shape g) where
  -- where usable cells are
  pub within : {u : ℕ} → Usable g u → (1 ≤ u) × (u + 1 < g.last + ROW) × (u + ROW + 1 < CELLS)
  within {u = u} ok =
      let sides = h.sides u ok in
      let low = h.inside u ok in
      (omega (arith, sides.0), omega (arith, sides.1, h.whole), omega (arith, sides.1, h.whole, h.rows))

  pub lawful : Lawful (net_of g)
  lawful = record {
    same_or_not = cases_eq;
    from = λ a. a.from;
    to = λ a. a.to;
    apart = λ a e. omega (arith, a.left);
    not_last = λ a l. omega (arith, within a.to, a.left);
    not_first = λ a f. omega (arith, within a.from, a.left);
  }

-- what is set at u holds there, and elsewhere what held
pub at_set : {A : Type 0} (xs : List A) (u x : ℕ) (v d : A) → u < length xs → (P : A → Type 0) →
    (x ≡ u → P v) → ((x ≡ u → ⊥) → P (get_or xs x d)) → P (get_or (set xs u v) x d)
at_set xs u x v d l P here other = elim (cases_eq x u) [
  | inl e ↦ subst (λ z. P (get_or (set xs u v) z d)) (sym e) (subst P (sym (get_or-set_same xs u v d l)) (here e))
  | inr n ↦ subst P (sym (get_or-set_other xs u x v d n)) (other n)
]

-- an array of one value reads as that value everywhere
pub get_or-replicate_same : {A : Type 0} (n k : ℕ) (d : A) → get_or (replicate n d) k d ≡ d
get_or-replicate_same n k d = elim (cases_lt k n) [
  | inl l ↦ get_or-replicate n k d d l
  | inr l ↦ get_or_past (replicate n d) k d (rw length-replicate l)
]
