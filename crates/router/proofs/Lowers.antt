-- A label on trial is lowered, on arrays. Assumes nothing.
use Rattle.std.proofs.Common.{◌≡◌, ℕ, ◌+◌, ◌-◌, ◌*◌, ◌<◌, ◌≤◌, true, cond, eqb, ltb, length, get_or, set, sym, refl, ap, ap₂, ◌∙◌, subst, inl, inr, arith, get_or-set_other, get_or-set_same}
use Rattle.std.proofs.lemmas.Bool.{cases_eq, cond-true, cond-false, eq-eqb, ne_eqb, lt-ltb}
use Rattle.flow.specs.Seeks.{Offer, Closer, Lowers}
use Rattle.flow.proofs.Lowering as Lowering
use Rattle.router.specs.declared.board.TheConstants.{CELLS}
use Rattle.router.specs.declared.search.TheConstants.{NEVER}
use Rattle.router.specs.declared.search.Why.{Why}
use Rattle.router.specs.declared.search.Why.TheVariants.{Entry}
use Rattle.router.specs.declared.search.Search.{Search}
use Rattle.router.specs.declared.board.Board.{Board}
use Rattle.router.specs.Boards.{Usable, net_of, flow_of, labels_of}
use Rattle.router.specs.Searches.{Seeks, Lowered, marks_of, label_of, due_of, waits_of, reason}
use Rattle.router.proofs.Sums.{sum_below-set}
use Rattle.router.proofs.Cells.{within, lawful}

module _ {b : Board} {s : Search} (h : Seeks b s) {w v : ℕ} (y : Why)
    (offer : Usable b.grid w → Offer (net_of b.grid) (flow_of b.ways) (label_of s) w v (reason w y)) (low : v < label_of s w) where
  pub high : get_or b.labels.into w 0 ≤ v
  high = Lowering.high (lawful h.standing.shape) h.standing.fits h.seeking offer low

  inside : w < CELLS
  inside = omega (arith, within h.standing.shape (h.seeking.usable w (omega arith)))

  module _ (long : length s.label ≡ CELLS) (due_long : length s.due ≡ CELLS) (why_long : length s.why ≡ CELLS)
      (z : Search) (label : z.label ≡ set s.label w v) (due : z.due ≡ set s.due w (v - get_or b.labels.into w 0)) (why : z.why ≡ set s.why w y)
      (closer : Closer (net_of b.grid) (flow_of b.ways) (labels_of b.labels) w (get_or b.labels.into w 0 + (v - get_or b.labels.into w 0)) s.rise s.last z.rise z.last) where
    label_here : label_of z w ≡ v
    label_here = ap (λ xs. get_or xs w 0) label ∙ get_or-set_same s.label w v 0 (omega (arith, inside))

    label_else : (x : ℕ) → (x ≡ w → ⊥) → label_of z x ≡ label_of s x
    label_else x n = ap (λ xs. get_or xs x 0) label ∙ get_or-set_other s.label w x v 0 n

    due_here : due_of z w + get_or b.labels.into w 0 ≡ v
    due_here =
        let is = ap (λ xs. get_or xs w NEVER) due ∙ get_or-set_same s.due w (v - get_or b.labels.into w 0) NEVER (omega (arith, inside)) in
        omega (arith, is, high)

    due_else : (x : ℕ) → (x ≡ w → ⊥) → due_of z x ≡ due_of s x
    due_else x n = ap (λ xs. get_or xs x NEVER) due ∙ get_or-set_other s.due w x _ NEVER n

    waits_here : waits_of z w ≡ true
    waits_here = lt-ltb (due_of z w) NEVER (omega (arith, due_here, h.seeking.high w))

    -- w was lowered last
    stamp : ℕ → ℕ
    stamp x = cond (eqb x w) (h.clock + 1) (h.stamp x)

    lowers : Lowers (net_of b.grid) (flow_of b.ways) (labels_of b.labels) (waits_of s) (waits_of z) (marks_of s h.stamp h.clock) (marks_of z stamp (h.clock + 1))
        w v (reason w y)
    unfolding stamp
    lowers = record {
      label = label_here;
      wait = waits_here;
      stamp = cond-true (eqb w w) (h.clock + 1) (h.stamp w) (eq-eqb w w refl);
      why = ap (λ xs. reason w (get_or xs w Entry)) why ∙ ap (reason w) (get_or-set_same s.why w y Entry (omega (arith, inside)));
      clock = refl;
      closer = subst (λ x. Closer (net_of b.grid) (flow_of b.ways) (labels_of b.labels) w x s.rise s.last z.rise z.last) (omega (arith, high)) closer;
      others = λ x n. record {
        label = label_else x n;
        wait = ap (λ d. ltb d NEVER) (due_else x n);
        stamp = cond-false (eqb x w) (h.clock + 1) (h.stamp x) (ne_eqb x w n);
        why = ap (λ xs. reason x (get_or xs x Entry)) why ∙ ap (reason x) (get_or-set_other s.why w x y Entry n);
      };
    }

    pub lowered : Lowered s z w v
    lowered = record {
      low = omega (arith, label_here);
      falls = record {
        labels = λ x. elim (cases_eq x w) [
          | inl e ↦ omega (arith, ap (label_of z) e, ap (label_of s) e, label_here)
          | inr n ↦ omega (arith, label_else x n)
        ];
        work =
            let changed = sum_below-set CELLS (λ u. 2 * label_of s u + cond (waits_of s u) 1 0) (λ u. 2 * label_of z u + cond (waits_of z u) 1 0) w inside
            (λ i l n. ap₂ (λ j c. 2 * j + cond c 1 0) (lowers.others i n).label (lowers.others i n).wait) in
            let now : 2 * label_of z w + cond (waits_of z w) 1 0 ≡ 2 * v + 1 = ap₂ (λ j c. 2 * j + cond c 1 0) label_here waits_here in
            omega (arith, changed, now);
      };
      same = λ x g. elim (cases_eq x w) [
        | inl e ↦ absurd (omega (arith, g e, ap (label_of s) e))
        | inr n ↦ label_else x n
      ];
      waits = λ x t. elim (cases_eq x w) [ inl e ↦ ap (waits_of z) e ∙ waits_here | inr n ↦ (lowers.others x n).wait ∙ t ];
    }

    pub seeks : Seeks b z
    seeks = record {
      standing = h.standing;
      stamp = stamp;
      clock = h.clock + 1;
      seeking = Lowering.lowered (lawful h.standing.shape) h.standing.fits h.seeking offer low lowers;
      due = λ x t. elim (cases_eq x w) [
        | inl e ↦ omega (arith, ap (due_of z) e, ap (label_of z) e, ap (λ u. get_or b.labels.into u 0) e, label_here, due_here)
        | inr n ↦ omega (arith, due_else x n, label_else x n, h.due x (sym (lowers.others x n).wait ∙ t))
      ];
    }
