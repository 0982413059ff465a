-- How what it costs to come down is found, cell by cell. Assumes nothing.
use Rattle.std.proofs.Common.{◌≡◌, ℕ, ◌+◌, ◌-◌, ◌<◌, ◌≤◌, List, length, get_or, set, replicate, sym, ◌∙◌, subst, inl, inr, arith, get_or-set_other, length-set}
use Rattle.std.proofs.lemmas.Bool.{cases_lt}
use Rattle.std.proofs.lemmas.List.{get_or-replicate, get_or_past, length-replicate}
use Rattle.plans.specs.Tolls.{worth}
use Rattle.router.specs.declared.board.TheConstants.{CELLS, ROW}
use Rattle.router.specs.declared.board.Grid.{Grid}
use Rattle.router.specs.Boards.{Usable, Down, Shape}
use Rattle.router.specs.Descents.{Descends, descent, link}
use Rattle.router.proofs.Cells.{within, at_set}

module _ (g : Grid) (least : List ℕ) (u : ℕ) where
  pub limited : descent g least u ≤ worth
  limited = grind arith

  pub none : (Usable g u → ⊥) → descent g least u ≡ worth
  none out = grind (arith, out)

  pub ended : Usable g u → g.last ≤ u → descent g least u ≡ 0
  ended ok l = grind (arith, ok, l)

  pub along : (w : ℕ) → Down g u w → u < g.last → descent g least u ≤ get_or least w 0 + link g u (w + 1 - (u + ROW))
  along w d l = grind (arith, d.from, d.left, d.right, l)

pub step : {g : Grid} → Shape g → (least : List ℕ) (u : ℕ) → u < length least → Descends g least (u + 1) → Descends g (set least u (descent g least u)) u
step {g = g} h least u inside d =
    let v = descent g least u in record {
      long = length-set least u v ∙ d.long;
      limit = λ x. at_set least u x v 0 inside (λ z. z ≤ worth) (λ e. limited g least u) (λ n. d.limit x);
      unusable = λ x l out. at_set least u x v 0 inside (λ z. z ≡ worth) (λ e. none g least u (subst (λ y. Usable g y → ⊥) e out)) (λ n. d.unusable x l out);
      last = λ x l ok end. at_set least u x v 0 inside (λ z. z ≡ 0) (λ e. ended g least u (subst (Usable g) e ok) (omega arith)) (λ n. d.last x (omega arith) ok end);
      below = λ x w l down.
          subst (λ z. get_or (set least u v) x 0 ≤ z + link g x (w + 1 - (x + ROW))) (sym (get_or-set_other least u w v 0 (λ e. omega (arith, down.left))))
          (at_set least u x v 0 inside (λ z. z ≤ get_or least w 0 + link g x (w + 1 - (x + ROW)))
          (λ e. subst (λ y. v ≤ get_or least w 0 + link g y (w + 1 - (y + ROW))) (sym e) (along g least u w (subst (λ y. Down g y w) e down) (omega (arith, within h down.to, down.left))))
          (λ n. d.below x w (omega arith) down));
    }

-- at first none of them is known
pub begins : {g : Grid} → Shape g → Descends g (replicate CELLS worth) (g.last + ROW - 0)
begins h = record {
  long = length-replicate CELLS worth;
  limit = λ u. elim (cases_lt u CELLS) [
    | inl l ↦ omega (arith, get_or-replicate CELLS u worth 0 l)
    | inr l ↦ omega (arith, get_or_past (replicate CELLS worth) u 0 (rw length-replicate l))
  ];
  unusable = λ u l out. get_or-replicate CELLS u worth 0 l;
  last = λ u l ok end. absurd (omega (arith, h.inside u ok));
  below = λ u w l down. absurd (omega (arith, h.inside u down.from));
}

-- one more is known
pub goes_on : {g : Grid} → Shape g → (least : List ℕ) (end k v : ℕ) → k < end → end ≤ length least → v ≡ descent g least (end - 1 - k) →
    Descends g least (end - k) → Descends g (set least (end - 1 - k) v) (end - (k + 1))
goes_on {g = g} h least end k v some inside is d =
    subst (λ x. Descends g (set least (end - 1 - k) x) (end - (k + 1))) (sym is)
    (subst (Descends g (set least (end - 1 - k) (descent g least (end - 1 - k)))) (omega arith)
    (step h least (end - 1 - k) (omega arith) (subst (Descends g least) (omega arith) d)))
