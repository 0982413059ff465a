-- The moves of the walk, on arrays. Assumes nothing.
use Rattle.std.proofs.Common.{◌≡◌, ℕ, ◌+◌, ◌-◌, ◌<◌, ◌≤◌, false, cond, ltb, get_or, sym, refl, ap, ◌∙◌, subst, inl, inr, arith}
use Rattle.std.proofs.lemmas.Bool.{cases_eq, cases_lt, cond-true, cond-false, lt-ltb, le-ltb}
use Rattle.flow.specs.Nets.{Net, Lawful}
use Rattle.flow.specs.Fits.{Labels}
use Rattle.flow.specs.Moves.{Opened, Linked, Dropped}
use Rattle.flow.specs.Seeks.{Marks, below}
use Rattle.flow.specs.Walks.{Ready, Walk}
use Rattle.flow.proofs.Walking as Walking
use Rattle.plans.specs.Tolls.{worth}
use Rattle.plans.proofs.Sums.{sum_below-same, sum_below_ones}
use Rattle.router.specs.declared.board.TheConstants.{CELLS, ROW}
use Rattle.router.specs.declared.search.Why.TheVariants.{Entry}
use Rattle.router.specs.declared.search.Search.{Search}
use Rattle.router.specs.declared.board.Ways.{Ways}
use Rattle.router.specs.declared.board.Board.{Board}
use Rattle.router.specs.Boards.{Down, net_of, flow_of, labels_of, Standing, onward}
use Rattle.router.specs.Searches.{Settled, marks_of, reason}
use Rattle.router.specs.Walking.{Walks, Rerouted, earlier, spare}
use Rattle.router.proofs.Sums.{sum_below-set, sum_below-less}
use Rattle.router.proofs.Cells.{within, lawful}

-- whether u was lowered before w, as a number
abbrev before : (ℕ → ℕ) → ℕ → ℕ → ℕ
before stamp w u = cond (ltb (stamp u) (stamp w)) 1 0

before_yes : (stamp : ℕ → ℕ) (w u : ℕ) → stamp u < stamp w → before stamp w u ≡ 1
before_yes stamp w u l = cond-true {A = ℕ} (ltb (stamp u) (stamp w)) 1 0 (lt-ltb (stamp u) (stamp w) l)

before_no : (stamp : ℕ → ℕ) (w u : ℕ) → stamp w ≤ stamp u → before stamp w u ≡ 0
before_no stamp w u l = cond-false {A = ℕ} (ltb (stamp u) (stamp w)) 1 0 (le-ltb (stamp u) (stamp w) l)

-- fewer cells are earlier than one that is earlier
fewer : (stamp : ℕ → ℕ) (x w : ℕ) → x < CELLS → stamp x < stamp w → earlier stamp x < earlier stamp w
fewer stamp x w inside less =
    sum_below-less CELLS (before stamp x) (before stamp w) x inside
    (λ u l. elim (cases_lt (stamp u) (stamp x)) [
      | inl m ↦ omega (arith, before_yes stamp x u m, before_yes stamp w u (omega arith))
      | inr m ↦ omega (arith, before_no stamp x u m)
    ])
    (omega (arith, before_no stamp x x (omega arith), before_yes stamp w x less))

not_all : (stamp : ℕ → ℕ) (x : ℕ) → x < CELLS → earlier stamp x < CELLS
not_all stamp x inside =
    let less = sum_below-less CELLS (before stamp x) (λ u. 1) x inside
    (λ u l. elim (cases_lt (stamp u) (stamp x)) [ inl m ↦ omega (arith, before_yes stamp x u m) | inr m ↦ omega (arith, before_no stamp x u m) ])
    (omega (arith, before_no stamp x x (omega arith))) in
    omega (arith, sum_below_ones CELLS)

pub rerouted_on : {b y z : Board} → Rerouted b y → Rerouted y z → Rerouted b z
rerouted_on {z = z} m n = record {
  spare = n.spare ∙ m.spare;
  others = n.others ∙ ap (λ (x : Board). record x { ways = z.ways }) m.others;
}

-- how much a cell counts as spare
abbrev spare_at : Board → ℕ → ℕ
spare_at b u = cond (ltb u b.grid.last) 0 (cond (get_or b.ways.used u false) 0 1)

inner : (b : Board) (u : ℕ) → u < b.grid.last → spare_at b u ≡ 0
inner b u l = cond-true {A = ℕ} (ltb u b.grid.last) 0 (cond (get_or b.ways.used u false) 0 1) (lt-ltb u b.grid.last l)

module _ {b : Board} {s : Search} {w n : ℕ} (h : Walks b s w n) where
  abbrev N : Net ℕ
  N = net_of b.grid

  abbrev law : Lawful N
  law = lawful h.shape

  abbrev L : Labels ℕ
  L = labels_of b.labels

  abbrev M : Marks ℕ
  M = marks_of s h.stamp h.clock

  pub inside : w < CELLS
  inside = omega (arith, within h.shape h.walk.bears.to)

  -- the walk goes on at x
  on : (f : Ways) {x : ℕ} → Walk N h.before L M (flow_of f) x × (h.stamp x < h.stamp w) → Walks (record b { ways = f }) s x (n - 1)
  on f {x = x} walk = record {
    shape = h.shape;
    room = h.room;
    before = h.before;
    stamp = h.stamp;
    clock = h.clock;
    settled = h.settled;
    walk = walk.0;
    few = omega (arith, fewer h.stamp x w (omega (arith, within h.shape walk.0.bears.to)) walk.1, h.few);
  }

  -- a change above the last row
  still : (f : Ways) (a : ℕ) → a < b.grid.last → ((p : ℕ) → (p ≡ a → ⊥) → get_or f.used p false ≡ get_or b.ways.used p false) → Rerouted b (record b { ways = f })
  still f a low other = record {
    spare = sum_below-same CELLS (spare_at (record b { ways = f })) (spare_at b) (λ j m. elim (cases_eq j a) [
      | inl e ↦ inner (record b { ways = f }) j (omega arith) ∙ sym (inner b j (omega arith))
      | inr n ↦ ap (λ c. cond (ltb j b.grid.last) 0 (cond c 0 1)) (other j n)
    ]);
    others = refl;
  }

  -- The walk ends.
  pub ended : get_or s.why w Entry ≡ Entry → Standing b
  ended says = record { shape = h.shape; fits = Walking.ends law h.settled h.room h.walk (ap (reason w) says); top = omega (arith, h.room) }

  module _ {a : ℕ} (says : reason w (get_or s.why w Entry) ≡ below a) where
    -- A cell a is linked to the hole.
    module _ (apart : a ≡ w → ⊥) where
      by_link : Down b.grid a w
      by_link = (Walking.by_link law h.settled h.room h.walk a says apart).0

      pub link_inside : (a + ROW + 1 < CELLS) × (a + ROW ≤ w + 1) × (w ≤ a + ROW + 1)
      link_inside = (omega (arith, within h.shape by_link.from), by_link.left, by_link.right)

      module _ (f : Ways) (m : Linked (flow_of b.ways) (flow_of f) a w (N.cost a w)) where
        pub links : {x : ℕ} → x ≡ onward b.ways a → Walks (record b { ways = f }) s x (n - 1)
        links e = subst (λ y. Walks (record b { ways = f }) s y (n - 1)) (sym e) (on f (Walking.links law h.settled h.room h.walk a says apart m))

        pub link_others : Rerouted b (record b { ways = f })
        link_others = still f a (omega (arith, within h.shape by_link.to, by_link.left)) m.used_else

    -- The hole is dropped.
    module _ (same : a ≡ w) where
      at : M.why w ≡ below w
      at = says ∙ ap below same

      module _ (f : Ways) (m : Dropped (flow_of b.ways) (flow_of f) w) where
        pub drops : {x : ℕ} → x ≡ get_or b.ways.next w 0 → Walks (record b { ways = f }) s x (n - 1)
        drops e = subst (λ y. Walks (record b { ways = f }) s y (n - 1)) (sym e) (on f (Walking.drops law h.settled h.room h.walk at m))

        pub drop_others : Rerouted b (record b { ways = f })
        drop_others =
            let goes = (Walking.goes_on law h.settled h.room h.walk at).0 in
            still f w (elim (cases_lt w b.grid.last) [ inl l ↦ l | inr l ↦ absurd (goes.not_last l) ]) m.used_else

-- The walk begins at the last cell.
module _ {b : Board} {s : Search} (h : Settled b s) (room : b.labels.exit < worth) where
  ready : Ready (net_of b.grid) (flow_of b.ways) (labels_of b.labels) (marks_of s h.stamp h.clock) s.last
  ready = h.settled.ready room

  pub last_inside : s.last < CELLS
  last_inside = omega (arith, within h.standing.shape ready.usable)

  module _ (f : Ways) (m : Opened (flow_of b.ways) (flow_of f) s.last) where
    pub begins : Walks (record b { ways = f }) s s.last CELLS
    begins = record {
      shape = h.standing.shape;
      room = room;
      before = flow_of b.ways;
      stamp = h.stamp;
      clock = h.clock;
      settled = h.settled;
      walk = Walking.opens (lawful h.standing.shape) h.settled room ready m;
      few = not_all h.stamp s.last last_inside;
    }

    pub one_less : spare (record b { ways = f }) < spare b
    one_less =
        let z = record b { ways = f } in
        let changed = sum_below-set CELLS (spare_at b) (spare_at z) s.last last_inside (λ i l n. ap (λ c. cond (ltb i b.grid.last) 0 (cond c 0 1)) (m.used_else i n)) in
        let low = le-ltb s.last b.grid.last ready.last in
        let was : spare_at b s.last ≡ 1 = cond-false {A = ℕ} (ltb s.last b.grid.last) 0 (cond (get_or b.ways.used s.last false) 0 1) low ∙
        cond-false {A = ℕ} (get_or b.ways.used s.last false) 0 1 ready.unused in
        let now : spare_at z s.last ≡ 0 = cond-false {A = ℕ} (ltb s.last b.grid.last) 0 (cond (get_or f.used s.last false) 0 1) low ∙
        cond-true {A = ℕ} (get_or f.used s.last false) 0 1 m.used in
        omega arith
