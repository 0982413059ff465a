-- Where no cell is used, labels fit that are as much below the exit's as it costs at least to come down. Assumes nothing.
use Rattle.std.proofs.Common.{◌≡◌, ℕ, ◌+◌, ◌-◌, ◌<◌, ◌≤◌, false, List, get_or, sym, subst, inl, inr, arith}
use Rattle.std.proofs.lemmas.Bool.{both_ways, cases_lt}
use Rattle.plans.specs.Tolls.{worth}
use Rattle.router.specs.declared.board.TheConstants.{CELLS, ROW}
use Rattle.router.specs.declared.board.Board.{Board}
use Rattle.router.specs.Boards.{Usable, Used, Shape, Standing}
use Rattle.router.specs.Descents.{Descends}
use Rattle.router.proofs.Cells.{within}

module _ (b : Board) (h : Shape b.grid) (unused : (u : ℕ) → get_or b.ways.used u false ≡ false) (prev : (u : ℕ) → u < CELLS → get_or b.ways.prev u 0 ≡ u)
    (charge : (u : ℕ) → get_or b.ways.charge u 0 ≡ 0) (least : List ℕ) (d : Descends b.grid least 0)
    (limit : b.labels.exit ≤ worth) (cheapest : (u : ℕ) → u < ROW → b.labels.exit ≤ get_or b.grid.entries u 0 + get_or least u 0)
    (into : (u : ℕ) → u < CELLS → get_or b.labels.into u 0 ≡ b.labels.exit - get_or least u 0) (past : (u : ℕ) → CELLS ≤ u → get_or b.labels.into u 0 ≡ 0) where
  into_of : (u : ℕ) → Usable b.grid u → get_or b.labels.into u 0 ≡ b.labels.exit - get_or least u 0
  into_of u ok = into u (omega (arith, within h ok))

  never : (u : ℕ) → Used b.ways u → ⊥
  never u t = both_ways (get_or b.ways.used u false) (unused u) t

  pub starts : Standing b
  starts = record {
    shape = h;
    fits = record {
      flow = record {
        usable = λ u t. absurd (never u t);
        goes = λ p q g. absurd (never p g.used);
        comes = λ q t first hole. absurd (never q t);
        idle = λ q o f. (prev q (omega (arith, within h o)), charge q);
      };
      labels = record {
        entry = λ p o f. omega (arith, into_of p o, cheapest p f);
        entered = λ p t f hole. absurd (never p t);
        along = λ a u k bears w c reach. elim bears.how [
          | inl i ↦ subst (λ u. get_or b.labels.into w 0 + k ≤ get_or b.labels.into u 0 + c) (sym i.1) (elim reach [
            | inl l ↦ omega (arith, i.2, l.1, into_of a l.0.from, into_of w l.0.to, d.below a w (omega arith) l.0)
            | inr l ↦ subst (λ w. get_or b.labels.into w 0 + k ≤ get_or b.labels.into a 0 + c) (sym l.0) (omega (arith, i.2))
          ])
          | inr g ↦ absurd (never a g.0.used)
        ];
        last = λ p o l f. omega (arith, into_of p o, d.last p (omega arith) o l);
        low = λ p. elim (cases_lt p CELLS) [ inl l ↦ omega (arith, into p l) | inr l ↦ omega (arith, past p l) ];
        usable = λ p l. elim (cases_lt 0 (get_or b.grid.tops p 0)) [
          | inl ok ↦ ok
          | inr none ↦ elim (cases_lt p CELLS) [
            | inl i ↦ absurd (omega (arith, l, limit, into p i, d.unusable p i (λ ok. omega (arith, ok, none))))
            | inr i ↦ absurd (omega (arith, l, past p i))
          ]
        ];
      };
    };
    top = limit;
  }
