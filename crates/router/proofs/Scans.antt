-- A cell is scanned, on arrays. Assumes nothing.
use Rattle.std.proofs.Common.{◌≡◌, ℕ, ◌+◌, ◌-◌, ◌*◌, ◌<◌, ◌≤◌, true, false, cond, ltb, [], length, get_or, set, sym, refl, ap, ◌∙◌, subst, inl, inr, arith, get_or-set_other, get_or-set_same}
use Rattle.std.proofs.lemmas.Bool.{cases_eq, both_ways, le-ltb}
use Rattle.flow.specs.Nets.{Net, Flow, Bears, Reaches, Lawful}
use Rattle.flow.specs.Seeks.{Why as Reason, below, Offer}
use Rattle.flow.proofs.Bearing as Bearing
use Rattle.flow.proofs.Scanning as Scanning
use Rattle.router.specs.declared.board.TheConstants.{CELLS, ROW}
use Rattle.router.specs.declared.search.TheConstants.{NEVER}
use Rattle.router.specs.declared.search.Search.{Search}
use Rattle.router.specs.declared.board.Board.{Board}
use Rattle.router.specs.Boards.{Down, Usable, net_of, flow_of}
use Rattle.router.specs.Searches.{Seeks, Begun, Falls, Lowered, label_of, due_of, waits_of, work}
use Rattle.router.proofs.Sums.{sum_below-set}
use Rattle.router.proofs.Cells.{within, lawful}

module _ {b : Board} {s : Search} (h : Begun b s) (u : ℕ) (waits : waits_of s u ≡ true) where
  abbrev N : Net ℕ
  N = net_of b.grid

  abbrev F : Flow ℕ
  F = flow_of b.ways

  abbrev law : Lawful N
  law = lawful h.seeks.standing.shape

  abbrev a : ℕ
  a = get_or b.ways.prev u 0

  abbrev gap : ℕ
  gap = get_or b.ways.charge u 0

  abbrev link : ℕ → ℕ
  link e = get_or (get_or b.grid.links a []) e 0

  usable : Usable b.grid u
  usable = (h.seeks.seeking.waiting u waits).0

  pub inside : u < CELLS
  inside = omega (arith, within h.seeks.standing.shape usable)

  bears : Bears N F a u gap
  bears = Bearing.bears_prev law h.seeks.standing.fits.flow u usable (h.seeks.seeking.waiting u waits).1 (λ x. x)

  -- the label below a is not negative
  pub enough : gap ≤ label_of s u
  enough = omega (arith, h.seeks.seeking.above u, Bearing.bears_low h.seeks.standing.fits.labels bears)

  abbrev base : ℕ
  base = label_of s u - gap

  -- the cell's label is as it was, and it still waits
  pub record Kept (z : Search) : Type 0 where
    pub falls : Falls s z
    pub same : label_of z u ≡ label_of s u
    pub still : waits_of z u ≡ true

  pub kept : Kept s
  kept = record { falls = record { labels = λ x. omega arith; work = omega arith }; same = refl; still = waits }

  module _ {z : Search} (k : Kept z) where
    not_itself : (w c : ℕ) → Reaches N a w c → u ≡ w → label_of z u ≤ base + c
    not_itself w c reach e =
        omega (arith, k.same, enough, Bearing.bears_itself law h.seeks.standing.fits.flow c bears (subst (λ x. Reaches N a x c) (sym e) reach))

    more : {y : Search} {w : ℕ} (c : ℕ) → Lowered z y w (base + c) → (u ≡ w → label_of z u ≤ base + c) → Kept y
    more c l n = record {
      falls = record { labels = λ x. omega (arith, k.falls.labels x, l.falls.labels x); work = omega (arith, k.falls.work, l.falls.work) };
      same = l.same u n ∙ k.same;
      still = l.waits u k.still;
    }

    -- a itself is lowered, where it is used
    pub offer_itself : Usable b.grid a → Offer N F (label_of z) a base (below a)
    offer_itself ok = Offer.by_place a u gap 0 refl bears (inr (refl, refl)) (omega (arith, k.same, enough))
        (λ first. omega (arith, h.entered a ok first (λ unused. first), k.falls.labels a))

    pub itself : {y : Search} → Lowered z y a base → Kept y
    itself {y = y} l = more 0 (subst (Lowered z y a) (omega arith) l) (not_itself a 0 (inr (refl, refl)))

    -- the cell w at e of the three below a is lowered
    module _ {w : ℕ} (e : ℕ) (at : w + 1 ≡ a + ROW + e) (three : e < 3) where
      reaches : Usable b.grid w → Reaches N a w (link e)
      reaches ok =
          let place : w + 1 - (a + ROW) ≡ e = omega arith in
          inl (record { from = bears.from; to = ok; left = omega arith; right = omega arith }, ap link (sym place))

      pub offer_below : {y : Reason ℕ} → y ≡ below a → Usable b.grid w → Offer N F (label_of z) w (base + link e) y
      offer_below says ok = Offer.by_place a u gap (link e) says bears (reaches ok) (omega (arith, k.same, enough))
          (λ first. absurd (omega (arith, within h.seeks.standing.shape bears.from)))

      pub kept_below : {y : Search} → Lowered z y w (base + link e) → Kept y
      kept_below l = more (link e) l (λ i. not_itself w (link e) (reaches (subst (Usable b.grid) i usable)) i)

  -- all that the label below a bounds is lowered
  pub record Passed (z : Search) : Type 0 where
    pub kept : Kept z
    pub seeks : Seeks b z
    pub itself : label_of z a ≤ base
    pub below : (w : ℕ) → Down b.grid a w → label_of z w ≤ base + link (w + 1 - (a + ROW))

  -- in the last row that is a itself
  pub passed_last : {z : Search} → Lowered s z a base → Seeks b z → b.grid.last ≤ a → Passed z
  passed_last l seeks last = record {
    kept = itself kept l;
    seeks = seeks;
    itself = l.low;
    below = λ w d. absurd (omega (arith, within h.seeks.standing.shape d.to, d.left));
  }

  -- else a, and one after another the three below it
  module _ {s1 : Search} (l : Lowered s s1 a base) where
    pub kept1 : Kept s1
    kept1 = itself kept l

    module _ {s2 : Search} (l0 : Lowered s1 s2 (a + ROW + 1) (base + link 2)) where
      pub kept2 : Kept s2
      kept2 = kept_below kept1 2 (omega arith) (omega arith) l0

      module _ {s3 : Search} (l1 : Lowered s2 s3 (a + ROW - 1) (base + link 0)) where
        pub kept3 : Kept s3
        kept3 = kept_below kept2 0 (omega arith) (omega arith) l1

        module _ {z : Search} (l2 : Lowered s3 z (a + ROW) (base + link 1)) where
          all_low : (w e : ℕ) → w + 1 ≡ a + ROW + e → e < 3 → label_of z w ≤ base + link e
          all_low w e at three = elim (cases_eq e 0) [
            | inl i ↦
                let is : w ≡ a + ROW - 1 = omega arith in
                omega (arith, ap (label_of z) is, ap link i, l1.low, l2.falls.labels (a + ROW - 1))
            | inr n ↦ elim (cases_eq e 1) [
              | inl i ↦
                  let is : w ≡ a + ROW = omega arith in
                  omega (arith, ap (label_of z) is, ap link i, l2.low)
              | inr m ↦
                  let i : e ≡ 2 = omega arith in
                  let is : w ≡ a + ROW + 1 = omega arith in
                  omega (arith, ap (label_of z) is, ap link i, l0.low, l1.falls.labels (a + ROW + 1), l2.falls.labels (a + ROW + 1))
            ]
          ]

          pub passed_on : Seeks b z → Passed z
          passed_on seeks = record {
            kept = kept_below kept3 1 (omega arith) (omega arith) l2;
            seeks = seeks;
            itself = omega (arith, l.low, l0.falls.labels a, l1.falls.labels a, l2.falls.labels a);
            below = λ w d. all_low w (w + 1 - (a + ROW)) (omega (arith, d.left)) (omega (arith, d.right));
          }

  -- the cell is scanned
  module _ {z : Search} (p : Passed z) (long : length z.due ≡ CELLS) where
    abbrev done : Search
    done = record z { due = set z.due u NEVER }

    never : due_of done u ≡ NEVER
    never = get_or-set_same z.due u NEVER NEVER (omega (arith, inside))

    off : waits_of done u ≡ false
    off = le-ltb (due_of done u) NEVER (omega (arith, never))

    due_else : (x : ℕ) → (x ≡ u → ⊥) → due_of done x ≡ due_of z x
    due_else x n = get_or-set_other z.due u x NEVER NEVER n

    others : (x : ℕ) → (x ≡ u → ⊥) → waits_of done x ≡ waits_of z x
    others x n = ap (λ d. ltb d NEVER) (due_else x n)

    pub less : work done < work s
    less =
        let changed = sum_below-set CELLS (λ x. 2 * label_of z x + cond (waits_of z x) 1 0) (λ x. 2 * label_of z x + cond (waits_of done x) 1 0) u inside
        (λ i l n. ap (λ c. 2 * label_of z i + cond c 1 0) (others i n)) in
        let was = ap (λ c. 2 * label_of z u + cond c 1 0) p.kept.still in
        let now = ap (λ c. 2 * label_of z u + cond c 1 0) off in
        omega (arith, changed, was, now, p.kept.falls.work)

    heard : (w c : ℕ) → Reaches N a w c → label_of z w + gap ≤ label_of z u + c
    heard w c reach = elim reach [
      | inl l ↦ omega (arith, p.below w l.0, l.1, p.kept.same, enough)
      | inr r ↦ omega (arith, ap (label_of z) r.0, p.itself, p.kept.same, enough)
    ]

    pub scanned : Begun b done
    scanned = record {
      seeks = record {
        standing = p.seeks.standing;
        stamp = p.seeks.stamp;
        clock = p.seeks.clock;
        seeking = Scanning.scanned law p.seeks.seeking u off others (λ d g bear w c reach.
            let one = Bearing.bears_only law h.seeks.standing.fits.flow bear in
            omega (arith, one.1, heard w c (subst (λ x. Reaches N x w c) one.0 reach)));
        due = λ x t. elim (cases_eq x u) [
          | inl e ↦ absurd (both_ways (waits_of done u) off (ap (waits_of done) (sym e) ∙ t))
          | inr n ↦ omega (arith, due_else x n, p.seeks.due x (sym (others x n) ∙ t))
        ];
      };
      entered = λ x ok first used. omega (arith, p.kept.falls.labels x, h.entered x ok first used);
    }
