-- Labels are raised, on arrays. Assumes nothing.
use Rattle.std.proofs.Common.{◌≡◌, ℕ, ◌+◌, ◌<◌, min, List, length, get_or, sym, subst, inl, inr, arith}
use Rattle.std.proofs.lemmas.Bool.{cases_lt}
use Rattle.std.proofs.lemmas.List.{get_or_past}
use Rattle.flow.specs.Seeks.{Marks, raised}
use Rattle.flow.specs.Walks.{Settled as SettledLabels}
use Rattle.flow.proofs.Closing as Closing
use Rattle.plans.specs.Tolls.{worth}
use Rattle.router.specs.declared.board.TheConstants.{CELLS}
use Rattle.router.specs.declared.search.Search.{Search}
use Rattle.router.specs.declared.board.Labels.{Labels}
use Rattle.router.specs.declared.board.Board.{Board}
use Rattle.router.specs.Boards.{net_of, flow_of, labels_of}
use Rattle.router.specs.Searches.{Begun, RestsAt, Settled, label_of, marks_of}
use Rattle.router.proofs.Cells.{within}

-- what holds of each cell holds past the last one too
pub everywhere : (into label old : List ℕ) (rise : ℕ) → length into ≡ CELLS → length label ≡ CELLS →
    ((k : ℕ) → k < CELLS → get_or into k 0 ≡ min (get_or label k 0) (get_or old k 0 + rise)) →
    (k : ℕ) → get_or into k 0 ≡ min (get_or label k 0) (get_or old k 0 + rise)
everywhere into label old rise long label_long is k = elim (cases_lt k CELLS) [
  | inl m ↦ is k m
  | inr m ↦ omega (arith, get_or_past into k 0 (omega arith), get_or_past label k 0 (omega arith))
]

module _ {b : Board} {s : Search} (h : Begun b s) (rests : (u : ℕ) → u < CELLS → RestsAt s u) (l : Labels)
    (into : (k : ℕ) → get_or l.into k 0 ≡ min (label_of s k) (get_or b.labels.into k 0 + s.rise)) (exit : l.exit ≡ b.labels.exit + s.rise) where
  abbrev M : Marks ℕ
  M = marks_of s h.seeks.stamp h.seeks.clock

  as_arrays : raised (labels_of b.labels) M ≡ labels_of l
  as_arrays = λ i. record { into = λ k. sym (into k) i; exit = sym exit i }

  closed : SettledLabels (net_of b.grid) (flow_of b.ways) (labels_of l) worth M
  closed = subst (λ x. SettledLabels (net_of b.grid) (flow_of b.ways) x worth M) as_arrays
      (Closing.closed h.seeks.standing.fits h.seeks.seeking
      (λ u ok first. h.entered u ok first (λ unused. first))
      (λ u ok waits. omega (arith, h.seeks.due u waits, rests u (omega (arith, within h.seeks.standing.shape ok)))))

  pub settled : Settled (record b { labels = l }) s
  settled = record {
    standing = record { shape = h.seeks.standing.shape; fits = closed.fits; top = omega (arith, h.seeks.seeking.cap) };
    stamp = h.seeks.stamp;
    clock = h.seeks.clock;
    settled = closed;
  }
