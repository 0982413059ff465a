-- A grid that is laid out from a card holds it, and has a grid's shape. Assumes nothing.
use Rattle.std.proofs.Common.{◌≡◌, ℕ, zero, suc, ◌+◌, ◌-◌, ◌*◌, ◌/◌, ◌%◌, ◌<◌, ◌≤◌, true, false, cond, ◌&&◌, ltb, ◌↔◌, [], ◌∷◌, length, get_or, sym, ap, ◌∙◌, ap₂, inl, inr, arith, pow_pos}
use Rattle.std.proofs.lemmas.Bool.{cases_Bool, cases_lt, cases_eq, both_ways, and_parts, and_from, lt-ltb, ltb-true, cond-true, cond-false, cond_both}
use Rattle.std.proofs.lemmas.List.{get_or_past, get_or-map, length-map}
use Rattle.masks.specs.Masks.{bit, mask}
use Rattle.masks.proofs.Bits.{bit_low}
use Rattle.masks.proofs.Masks.{bit-mask}
use Rattle.tariff.specs.Meaning.{Meaning, Lawful}
use Rattle.tariff.specs.declared.pe.Pe.{Pe}
use Rattle.plans.specs.Columns.{Card, Within, Near, standing, row}
use Rattle.plans.specs.Tolls.{worth}
use Rattle.plans.specs.Masked.{usable_rows}
use Rattle.plans.proofs.ByRows.{few_rows}
use Rattle.router.specs.declared.board.TheConstants.{ROW, CELLS}
use Rattle.router.specs.declared.board.Grid.{Grid}
use Rattle.router.specs.Boards.{Usable, Shape}
use Rattle.route.specs.Holds.{cell, HasPe, Holds}
use Rattle.route.specs.Grids.{has_pe, links_to, links_from}

-- the arrays of a grid are laid out from a card, of which some row stands
pub record Laid (c : Card) (m : Meaning) (g : Grid) : Type 0 where
  pub some : 0 < standing c
  pub tops : (u : ℕ) → u < CELLS → get_or g.tops u 0 ≡ cond (has_pe (usable_rows c) u) worth 0
  pub entries : (u : ℕ) → u < ROW → get_or g.entries u 0 ≡ m.entry (row c 0) (u - 1)
  pub links : (u : ℕ) → u < CELLS → get_or g.links u [] ≡ links_from m c.rows u
  pub last : g.last ≡ (standing c - 1) * ROW
  pub cells : length g.tops ≡ CELLS
  pub starts : length g.entries ≡ ROW
  pub linked : length g.links ≡ CELLS

module _ (c : Card) (m : Meaning) (g : Grid) (within : Within c) (lawful : Lawful m) (k : Laid c m g) where
  few : standing c ≤ 64
  few = few_rows c.rows within.down within.rows_limit

  -- the usable PEs of a standing row
  in_row : (s j : ℕ) → s < standing c → bit (get_or (usable_rows c) s 0) j ≡ (ltb j 64 && c.usable (row c s) j)
  in_row s j l =
      ap (λ m. bit m j) (get_or-map (λ r. mask (c.usable r)) c.rows s 0 0 l) ∙ bit-mask (c.usable (row c s)) j

  past_rows : (s j : ℕ) → standing c ≤ s → bit (get_or (usable_rows c) s 0) j ≡ false
  past_rows s j l = ap (λ m. bit m j) (get_or_past (usable_rows c) s 0 (rw length-map l)) ∙ bit_low 0 j (pow_pos j)

  has : (u : ℕ) → has_pe (usable_rows c) u ≡ true → HasPe c u
  has u on =
      let both = and_parts (ltb 0 (u % ROW)) (bit (get_or (usable_rows c) (u / ROW) 0) (u % ROW - 1)) on in
      let low = ltb-true 0 (u % ROW) both.0 in
      elim (cases_lt (u / ROW) (standing c)) [
        | inl l ↦ (u / ROW, u % ROW - 1, l, (and_parts _ _ (sym (in_row (u / ROW) (u % ROW - 1) l) ∙ both.1)).1, omega arith)
        | inr l ↦ absurd (both_ways _ (past_rows (u / ROW) (u % ROW - 1) l) both.1)
      ]

  at : (u s j : ℕ) → u / ROW ≡ s → u % ROW ≡ j + 1 → has_pe (usable_rows c) u ≡ bit (get_or (usable_rows c) s 0) j
  at u s j e i =
      ap₂ (λ n p. ltb 0 n && bit (get_or (usable_rows c) p 0) (n - 1)) i e
      ∙ ap₂ (λ a n. a && bit (get_or (usable_rows c) s 0) n) (lt-ltb 0 (j + 1) (omega arith)) (omega arith)

  -- a cell that can be used has a PE, and the worth on top
  pub top : (u : ℕ) → Usable g u → (has_pe (usable_rows c) u ≡ true) × (get_or g.tops u 0 ≡ worth)
  top u on = elim (cases_lt u CELLS) [
    | inl l ↦ elim (cases_Bool (has_pe (usable_rows c) u)) [
      | inl on ↦ (on, k.tops u l ∙ cond-true _ worth 0 on)
      | inr off ↦ absurd (omega (arith, on, k.tops u l, cond-false (has_pe (usable_rows c) u) worth 0 off))
    ]
    | inr l ↦ absurd (omega (arith, on, get_or_past g.tops u 0 (omega (arith, k.cells))))
  ]

  pub usable : (u : ℕ) → Usable g u ↔ HasPe c u
  usable u = (
    λ on. has u (top u on).0,
    λ p.
        let narrow = within.columns_limit (row c p.0) p.1 p.3 in
        let has_one = at u p.0 p.1 (omega (arith, p.4)) (omega (arith, p.4)) ∙ in_row p.0 p.1 p.2 ∙ and_from _ _ (lt-ltb p.1 64 narrow) p.3 in
        omega (arith, k.tops u (omega (arith, p.2, p.4, few)), cond-true (has_pe (usable_rows c) u) worth 0 has_one),
  )

  pub entry : (j : ℕ) → j < 64 → get_or g.entries (cell 0 j) 0 ≡ m.entry (row c 0) j
  entry j l = k.entries (cell 0 j) (omega arith) ∙ ap (m.entry (row c 0)) (omega arith)

  -- what links cost, by their places
  links_at : (u s j : ℕ) → u / ROW ≡ s → u % ROW ≡ j + 1 → s + 1 < standing c →
      links_from m c.rows u ≡ links_to m (record { row = row c s; column = j }) (row c (s + 1))
  links_at u s j e i l =
      cond-true (ltb (u / ROW + 1) (standing c)) _ _ (lt-ltb (u / ROW + 1) (standing c) (omega arith))
      ∙ ap₂ (λ p n. links_to m (record { row = row c p; column = n }) (row c (p + 1))) e (omega arith)

  pub link : (s j i : ℕ) → s + 1 < standing c → j < 64 → i < 64 → Near j i →
      get_or (get_or g.links (cell s j) []) (i + 1 - j) 0 ≡ m.link (row c s) j (row c (s + 1)) i
  link s j i l in' in'' near =
      let q = row c (s + 1) in
      let laid = k.links (cell s j) (omega (arith, few)) ∙ links_at (cell s j) s j (omega arith) (omega arith) l in
      ap (λ xs. get_or xs (i + 1 - j) 0) laid
      ∙ elim (cases_eq (i + 1 - j) 1) [
        | inl e ↦ ap (λ n. get_or (links_to m (record { row = row c s; column = j }) q) n 0) e ∙ ap (m.link (row c s) j q) (omega arith)
        | inr n ↦ elim (cases_eq (i + 1 - j) 0) [
          | inl e ↦ ap (λ n. get_or (links_to m (record { row = row c s; column = j }) q) n 0) e ∙ ap (m.link (row c s) j q) (omega arith)
          | inr n' ↦
              let e : i + 1 - j ≡ 2 = omega (arith, near.1) in
              ap (λ n. get_or (links_to m (record { row = row c s; column = j }) q) n 0) e ∙ ap (m.link (row c s) j q) (omega arith)
        ]
      ]

  pub holds : Holds c m g
  holds = record { some = k.some; rows = omega (arith, k.last, k.some); usable = usable; entry = entry; link = link }

  -- no charge is large
  small_link : (r j q i : ℕ) → m.link r j q i ≤ 1000
  small_link r j q i = omega (arith, lawful.link_limit r j q i, lawful.ceiling_limit)

  small_links : (p : Pe) (q e : ℕ) → get_or (links_to m p q) e 0 ≤ 1000
  small_links p q zero = small_link p.row p.column q (p.column - 1)
  small_links p q (suc zero) = small_link p.row p.column q p.column
  small_links p q (suc (suc zero)) = small_link p.row p.column q (p.column + 1)
  small_links p q (suc (suc (suc e))) = omega arith

  no_links : (e : ℕ) → get_or (0 ∷ 0 ∷ 0 ∷ []) e 0 ≤ 1000
  no_links zero = omega arith
  no_links (suc zero) = omega arith
  no_links (suc (suc zero)) = omega arith
  no_links (suc (suc (suc e))) = omega arith

  small_from : (u e : ℕ) → get_or (links_from m c.rows u) e 0 ≤ 1000
  small_from u e = cond_both (ltb (u / ROW + 1) (standing c)) (links_to m (record { row = row c (u / ROW); column = u % ROW - 1 }) (row c (u / ROW + 1))) (0 ∷ 0 ∷ 0 ∷ [])
      (λ xs. get_or xs e 0 ≤ 1000) (λ _. small_links (record { row = row c (u / ROW); column = u % ROW - 1 }) (row c (u / ROW + 1)) e) (λ _. no_links e)

  pub shape : Shape g
  shape = record {
    whole = omega (arith, k.last);
    rows = omega (arith, k.last, few);
    inside = λ u on. let p = (usable u).0 on in omega (arith, p.4, p.2, k.last, within.columns_limit (row c p.0) p.1 p.3);
    sides = λ u on. let p = (usable u).0 on in let l = within.columns_limit (row c p.0) p.1 p.3 in (omega (arith, p.4), omega (arith, p.4));
    tops = λ u on. (top u on).1;
    entries = λ u. elim (cases_lt u ROW) [
      | inl l ↦ omega (arith, k.entries u l, lawful.entry_limit (row c 0) (u - 1), lawful.ceiling_limit)
      | inr l ↦ omega (arith, get_or_past g.entries u 0 (omega (arith, k.starts)))
    ];
    links = λ u e. elim (cases_lt u CELLS) [
      | inl l ↦ omega (arith, ap (λ xs. get_or xs e 0) (k.links u l), small_from u e)
      | inr l ↦ omega (arith, ap (λ xs. get_or xs e 0) (get_or_past g.links u [] (omega (arith, k.linked))))
    ];
  }
