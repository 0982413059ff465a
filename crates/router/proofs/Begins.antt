-- How a search begins, on arrays. Assumes nothing.
use Rattle.std.proofs.Common.{◌≡◌, ℕ, ◌-◌, ◌<◌, ◌≤◌, false, ◌⊎◌, get_or, ◌∙◌, inl, inr, arith}
use Rattle.std.proofs.lemmas.Bool.{cases_lt, cases_Bool, both_ways, le-ltb}
use Rattle.flow.proofs.Starting as Starting
use Rattle.plans.specs.Tolls.{worth}
use Rattle.router.specs.declared.board.TheConstants.{ROW}
use Rattle.router.specs.declared.search.TheConstants.{NEVER}
use Rattle.router.specs.declared.search.Search.{Search}
use Rattle.router.specs.declared.board.Board.{Board}
use Rattle.router.specs.Boards.{Used, Standing}
use Rattle.router.specs.Searches.{Seeks, EnteredTo, label_of, due_of, waits_of}
use Rattle.router.proofs.Cells.{lawful}

-- Nothing is lowered yet, and the used cells of the first n, which is the first row, have their entry charges.
module _ {b : Board} (h : Standing b) (s : Search) (n : ℕ) (all : n ≡ ROW)
    (plain : (k : ℕ) → (n ≤ k) ⊎ (get_or b.ways.used k false ≡ false) → label_of s k ≡ get_or b.grid.tops k 0)
    (pinned : (k : ℕ) → k < n → Used b.ways k → label_of s k ≡ get_or b.grid.entries k 0)
    (never : (k : ℕ) → due_of s k ≡ NEVER) (rise : s.rise ≡ worth - b.labels.exit) where
  either : (k : ℕ) → (label_of s k ≡ get_or b.grid.tops k 0) ⊎ ((k < ROW) × Used b.ways k × (label_of s k ≡ get_or b.grid.entries k 0))
  either k = elim (cases_lt k n) [
    | inl m ↦ elim (cases_Bool (get_or b.ways.used k false)) [ inl t ↦ inr (omega arith, t, pinned k m t) | inr f ↦ inl (plain k (inr f)) ]
    | inr m ↦ inl (plain k (inl m))
  ]

  quiet : (k : ℕ) → waits_of s k ≡ false
  quiet k = le-ltb (due_of s k) NEVER (omega (arith, never k))

  seeks : Seeks b s
  seeks = record {
    standing = h;
    stamp = λ u. 0;
    clock = 0;
    seeking = Starting.blank (lawful h.shape) h.fits (record {
      usable = λ u p. elim (either u) [ inl e ↦ omega arith | inr i ↦ h.fits.flow.usable u i.1 ];
      label = λ u ok. elim (either u) [ inl e ↦ inl (e ∙ h.shape.tops u ok) | inr i ↦ inr i ];
      quiet = quiet;
      stamp = λ u. omega arith;
      rise = omega (arith, h.top);
    });
    due = λ u t. absurd (both_ways (waits_of s u) (quiet u) t);
  }

  entered : EnteredTo b s 0
  entered u ok first used = elim (cases_Bool (get_or b.ways.used u false)) [
    | inl t ↦ omega (arith, pinned u (omega arith) t)
    | inr f ↦ absurd (omega (arith, used f))
  ]

  pub cleared : Seeks b s × EnteredTo b s 0
  cleared = (seeks, entered)
