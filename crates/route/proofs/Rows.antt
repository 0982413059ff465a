-- The ways and labels of a board by rows and columns: where it holds a card they are routes, feasible and tight. Assumes nothing.
use Rattle.std.proofs.Common.{◌≡◌, ℕ, ◌+◌, ◌-◌, ◌*◌, ◌<◌, ◌≤◌, true, false, ◌&&◌, ltb, leb, [], get_or, refl, sym, ap, ◌∙◌, subst, inl, inr, arith}
use Rattle.std.proofs.lemmas.Bool.{cases_Bool, cases_lt, and_parts, and_from, cond-true, cond-false, ltb-true, lt-ltb, lt-leb, le-leb}
use Rattle.flow.specs.Nets as Nets
use Rattle.flow.specs.Fits.{Comes, NoHole}
use Rattle.flow.proofs.Bearing as Bearing
use Rattle.tariff.specs.Meaning.{Meaning}
use Rattle.plans.specs.Columns.{Card, Within, Near, standing, row}
use Rattle.plans.specs.Columns as Columns
use Rattle.plans.specs.Potentials.{Routes, Feasible, Tight, Labels, Flow}
use Rattle.router.specs.declared.board.TheConstants.{ROW}
use Rattle.router.specs.declared.board.Board.{Board}
use Rattle.router.specs.Boards.{Usable, Used, Down, net_of, flow_of, Standing}
use Rattle.router.specs.Tolls.{out_of}
use Rattle.router.proofs.Lows as Lows
use Rattle.route.specs.Holds.{cell, Holds, flow_by, labels_by}

module _ (b : Board) (h : Standing b) where
  abbrev N : Nets.Net ℕ
  N = net_of b.grid

  abbrev F : Nets.Flow ℕ
  F = flow_of b.ways

  abbrev W : Flow
  W = flow_by b.ways

  abbrev L : Labels
  L = labels_by b

  pub used_at : (s j : ℕ) → W.used s j ≡ true → (j < 64) × Used b.ways (cell s j)
  used_at s j u = let both = and_parts (ltb j 64) (get_or b.ways.used (cell s j) false) u in (ltb-true j 64 both.0, both.1)

  at_used : (s j : ℕ) → j < 64 → Used b.ways (cell s j) → W.used s j ≡ true
  at_used s j l u = and_from (ltb j 64) (get_or b.ways.used (cell s j) false) (lt-ltb j 64 l) u

  inner : (s j : ℕ) → s * ROW < b.grid.last → j < 64 → cell s j < b.grid.last
  inner s j a l = omega (arith, h.shape.whole)

  outer : (s j : ℕ) → s * ROW ≡ b.grid.last → b.grid.last ≤ cell s j
  outer s j a = omega arith

  -- the cell below, and the one above, by row and column
  below : (s j n : ℕ) → j < 64 → Down b.grid (cell s j) n → (i : ℕ) × (i < 64) × (n ≡ cell (s + 1) i) × Near j i
  below s j n l d =
      let sides = h.shape.sides n d.to in
      let i = n - cell (s + 1) 0 in
      let low : cell (s + 1) 0 ≤ n = omega (arith, d.left, d.right, sides.0, sides.1) in
      (i, omega (arith, d.right, sides.1), omega arith, (omega (arith, d.left), omega (arith, d.right)))

  above : (s i n : ℕ) → i < 64 → Down b.grid n (cell (s + 1) i) → (j : ℕ) × (j < 64) × (n ≡ cell s j)
  above s i n l d =
      let sides = h.shape.sides n d.from in
      let low : cell s 0 ≤ n = omega (arith, d.left, d.right, sides.0, sides.1) in
      (n - cell s 0, omega (arith, d.left, sides.1), omega arith)

  -- the labels below PEs
  out_used : (s j : ℕ) → Used b.ways (cell s j) → L.out s j ≡ out_of b (cell s j)
  out_used s j u = cond-true (get_or b.ways.used (cell s j) false) (out_of b (cell s j)) (get_or b.labels.into (cell s j) 0) u

  out_unused : (s j : ℕ) → get_or b.ways.used (cell s j) false ≡ false → L.out s j ≡ L.into s j
  out_unused s j f = cond-false (get_or b.ways.used (cell s j) false) (out_of b (cell s j)) (get_or b.labels.into (cell s j) 0) f

  out_last : (s j : ℕ) → s * ROW ≡ b.grid.last → Used b.ways (cell s j) → L.out s j ≡ b.labels.exit
  out_last s j a u = out_used s j u ∙ cond-true {A = ℕ} (leb b.grid.last (cell s j)) _ _ (le-leb b.grid.last (cell s j) (outer s j a))

  module _ (s j : ℕ) (a : s * ROW < b.grid.last) (l : j < 64) (u : Used b.ways (cell s j)) where
    abbrev next : ℕ
    next = get_or b.ways.next (cell s j) 0

    comes : Comes N F NoHole (cell s j) next
    comes = Lows.comes b h (cell s j) u (inner s j a l)

    pub to : (W.next s j < 64) × (next ≡ cell (s + 1) (W.next s j)) × Near j (W.next s j)
    to =
        let d = below s j next l comes.link in
        let e : W.next s j ≡ d.0 = omega (arith, d.2) in
        (omega (arith, d.1), omega (arith, d.2), (omega (arith, d.3), omega (arith, d.3)))

    bears : Nets.Bears N F (cell s j) next (N.cost (cell s j) next)
    bears = Lows.bears b h (cell s j) u (inner s j a l)

    -- the label below pays for the link
    out_inner : L.out s j + N.cost (cell s j) next ≡ get_or b.labels.into next 0
    out_inner =
        let low = Lows.next_high b h (cell s j) u (inner s j a l) in
        let out : out_of b (cell s j) ≡ get_or b.labels.into next 0 - get_or b.ways.charge next 0 =
        cond-false {A = ℕ} (leb b.grid.last (cell s j)) _ _ (lt-leb b.grid.last (cell s j) (inner s j a l)) in
        omega (arith, out_used s j u, out, comes.charge, low)

    rises : L.into s j ≤ L.out s j
    rises = omega (arith, out_inner, comes.charge, Lows.next_high b h (cell s j) u (inner s j a l))

    -- and it goes on to a used PE
    pub on : W.used (s + 1) (W.next s j) ≡ true
    on = at_used (s + 1) (W.next s j) to.0 (subst (Used b.ways) to.1 comes.used)

  module _ (c : Card) (m : Meaning) (within : Within c) (k : Holds c m b.grid) where
    above_last : (s : ℕ) → s + 1 < standing c → s * ROW < b.grid.last
    above_last s a = omega (arith, k.rows)

    the_last : (s : ℕ) → s + 1 ≡ standing c → s * ROW ≡ b.grid.last
    the_last s a = omega (arith, k.rows)

    usable : (s j : ℕ) → s < standing c → Columns.Usable c (row c s) j → Usable b.grid (cell s j)
    usable s j a u = (k.usable (cell s j)).1 (s, j, a, u, refl)

    only : (s j : ℕ) → j < 64 → Usable b.grid (cell s j) → Columns.Usable c (row c s) j
    only s j l u =
        let p = (k.usable (cell s j)).0 u in
        let narrow = within.columns_limit (row c p.0) p.1 p.3 in
        let e : p.0 ≡ s = omega (arith, p.4) in
        let i : p.1 ≡ j = omega (arith, p.4) in
        subst (λ x. Columns.Usable c (row c x) j) e (subst (Columns.Usable c (row c p.0)) i p.3)

    cost_is : (s j i : ℕ) → s + 1 < standing c → j < 64 → i < 64 → Near j i → N.cost (cell s j) (cell (s + 1) i) ≡ m.link (row c s) j (row c (s + 1)) i
    cost_is s j i a upper lower near =
        let at : cell (s + 1) i + 1 - (cell s j + ROW) ≡ i + 1 - j = omega (arith, near.0, near.1) in
        ap (λ n. get_or (get_or b.grid.links (cell s j) []) n 0) at ∙ k.link s j i a upper lower near

    pub routes : Routes c W
    routes = record {
      usable = λ s j a u. let at = used_at s j u in only s j at.0 (h.fits.flow.usable (cell s j) at.1);
      goes = λ s j a u.
          let at = used_at s j u in
          on s j (above_last s a) at.0 at.1;
      near = λ s j a u. let at = used_at s j u in (to s j (above_last s a) at.0 at.1).2;
      apart = λ s j i a u v e.
          let at = used_at s j u in
          let other = used_at s i v in
          let same : next s i (above_last s a) other.0 other.1 ≡ next s j (above_last s a) at.0 at.1 = omega (arith, (to s j (above_last s a) at.0 at.1).1, (to s i (above_last s a) other.0 other.1).1) in
          omega (arith, (comes s j (above_last s a) at.0 at.1).prev, (comes s i (above_last s a) other.0 other.1).prev, ap (λ n. get_or b.ways.prev n 0) same);
      comes = λ s i a u.
          let at = used_at (s + 1) i u in
          let g = h.fits.flow.comes (cell (s + 1) i) at.1 (λ first. omega arith) (λ x. x) in
          let p = get_or b.ways.prev (cell (s + 1) i) 0 in
          let q = above s i p at.0 (h.fits.flow.goes p (cell (s + 1) i) g).link in
          (q.0, at_used s q.0 q.1 (subst (Used b.ways) q.2 g.used), omega (arith, subst (λ x. get_or b.ways.next x 0 ≡ cell (s + 1) i) q.2 g.to));
    }

    narrow : (s j : ℕ) → Columns.Usable c (row c s) j → j < 64
    narrow s j u = within.columns_limit (row c s) j u

    pub feasible : Feasible c m L
    feasible = record {
      first = λ j u.
          let l = narrow 0 j u in
          omega (arith, h.fits.labels.entry (cell 0 j) (usable 0 j k.some u) (omega arith), k.entry j l);
      link = λ s j i a u v near.
          let l = narrow s j u in
          let lower = narrow (s + 1) i v in
          let link : Down b.grid (cell s j) (cell (s + 1) i) = record {
            from = usable s j (omega arith) u;
            to = usable (s + 1) i a v;
            left = omega (arith, near.0);
            right = omega (arith, near.1);
          } in
          elim (cases_Bool (get_or b.ways.used (cell s j) false)) [
            | inl t ↦ omega (
              arith,
              h.fits.labels.along (cell s j) (next s j (above_last s a) l t) (N.cost (cell s j) (next s j (above_last s a) l t)) (bears s j (above_last s a) l t) (cell (s + 1) i) _ (inl (link, refl)),
              out_inner s j (above_last s a) l t,
              cost_is s j i a l lower near,
            )
            | inr f ↦ omega (
              arith,
              h.fits.labels.along (cell s j) (cell s j) 0 (Bearing.bears_idle link.from f) (cell (s + 1) i) _ (inl (link, refl)),
              out_unused s j f,
              cost_is s j i a l lower near,
            )
          ];
      last = λ s j a u. elim (cases_Bool (get_or b.ways.used (cell s j) false)) [
        | inl t ↦ omega (arith, out_last s j (the_last s a) t)
        | inr f ↦ omega (arith, out_unused s j f, h.fits.labels.last (cell s j) (usable s j (omega arith) u) (outer s j (the_last s a)) f)
      ];
    }

    pub tight : Tight c m L W
    tight = record {
      first = λ j u.
          let at = used_at 0 j u in
          h.fits.labels.entered (cell 0 j) at.1 (omega (arith, at.0)) (λ x. x) ∙ k.entry j at.0;
      link = λ s j a u.
          let at = used_at s j u in
          let t = to s j (above_last s a) at.0 at.1 in
          omega (
            arith,
            ap (λ n. get_or b.labels.into n 0) t.1,
            ap (N.cost (cell s j)) t.1,
            out_inner s j (above_last s a) at.0 at.1,
            cost_is s j (W.next s j) a at.0 t.0 t.2,
          );
      last = λ s j a u. out_last s j (the_last s a) (used_at s j u).1;
      used = λ s j a u.
          let at = used_at s j u in
          elim (cases_lt (s + 1) (standing c)) [
            | inl i ↦ rises s j (above_last s i) at.0 at.1
            | inr i ↦ omega (arith, out_last s j (the_last s (omega arith)) at.1, h.fits.labels.low (cell s j))
          ];
      unused = λ s j a v f.
          let l = narrow s j v in
          omega (arith, out_unused s j (sym (ap (λ t. t && get_or b.ways.used (cell s j) false) (lt-ltb j 64 l)) ∙ f));
    }
