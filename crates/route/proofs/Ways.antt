-- The ways of a board, from row to row. Assumes nothing.
use Rattle.std.proofs.Common.{◌≡◌, ℕ, zero, suc, ◌+◌, ◌-◌, ◌*◌, ◌<◌, ◌≤◌, Bool, true, false, cond, ◌&&◌, List, [], ◌∷◌, ◌++◌, length, map, get_or, replicate, refl, sym, ap, ap₂, ◌∙◌, subst, inl, inr, arith, add-one}
use Rattle.std.specs.List.{AllByRecursion}
use Rattle.std.proofs.ByRecursion.{All-weaker, All-map}
use Rattle.std.proofs.lemmas.Bool.{cases_lt, lt-ltb}
use Rattle.std.proofs.lemmas.List.{map-append, get_or-map, get_or_past, length-map}
use Rattle.std.proofs.lemmas.Simd.{map-map}
use Rattle.masks.specs.Members.{passing}
use Rattle.plans.specs.Potentials.{Flow, follow}
use Rattle.plans.specs.Held.{at_each, held_row}
use Rattle.plans.proofs.Holding.{at_each_same}
use Rattle.plans.proofs.Passing.{passing_each}
use Rattle.router.specs.declared.board.TheConstants.{ROW}
use Rattle.router.specs.declared.board.Board.{Board}
use Rattle.router.specs.declared.board.Ways.{Ways}
use Rattle.router.specs.Boards.{Standing}
use Rattle.route.specs.Holds.{cell, flow_by}
use Rattle.route.specs.Told.{first_columns, first_cells, columns}
use Rattle.route.proofs.Rows as Rows

-- where the way from column j of the first row is in row s
unfoldable pub along : Flow → ℕ → ℕ → ℕ
along w j zero = j
along w j (suc s) = w.next s (along w j s)

along_next : (w : Flow) (j s : ℕ) → along w j (s + 1) ≡ w.next s (along w j s)
unfolding along
along_next w j s = ap (along w j) (add-one s)

pub along-zero : (w : Flow) (j : ℕ) → along w j 0 ≡ j
unfolding along
along-zero w j = refl

-- what follows from row s on is where the way is
follow_at : (w : Flow) (j n s i : ℕ) → i < n → get_or (follow w n s (along w j s)) i 0 ≡ along w j (s + i)
follow_at w j zero s i l = absurd (omega arith)
follow_at w j (suc n) s zero l = ap (along w j) (omega arith)
follow_at w j (suc n) s (suc i) l =
    ap (λ x. get_or (follow w n (s + 1) x) i 0) (sym (along_next w j s)) ∙ follow_at w j n (s + 1) i (omega arith) ∙ ap (along w j) (omega arith)

pub follow_along : (w : Flow) (j n s : ℕ) → s < n → get_or (follow w n 0 j) s 0 ≡ along w j s
follow_along w j n s l = ap (λ x. get_or (follow w n 0 x) s 0) (sym (along-zero w j)) ∙ follow_at w j n 0 s l ∙ ap (along w j) (omega arith)

-- one column more in which a way may start
pub starts_next : (w : Ways) (u : ℕ) → 1 ≤ u → u < 65 →
    map (cell 0) (passing ((flow_by w).used 0) (u + 1 - 1)) ≡ map (cell 0) (passing ((flow_by w).used 0) (u - 1)) ++ cond (get_or w.used u false) (u ∷ []) []
unfolding passing
starts_next w u low high =
    ap (λ k. map (cell 0) (passing test k)) more ∙ map-append (cell 0) (passing test (u - 1)) (cond (test (u - 1)) ((u - 1) ∷ []) [])
    ∙ ap (λ b. map (cell 0) (passing test (u - 1)) ++ map (cell 0) (cond b ((u - 1) ∷ []) [])) tested
    ∙ ap (λ xs. map (cell 0) (passing test (u - 1)) ++ xs) (alone (get_or w.used u false))
  where
    test : ℕ → Bool
    test = (flow_by w).used 0

    more : u + 1 - 1 ≡ suc (u - 1)
    more = omega arith

    tested : test (u - 1) ≡ get_or w.used u false
    tested = ap (λ b. b && get_or w.used (cell 0 (u - 1)) false) (lt-ltb (u - 1) 64 (omega arith)) ∙ ap (λ k. get_or w.used k false) (omega arith)

    alone : (b : Bool) → map (cell 0) (cond b ((u - 1) ∷ []) []) ≡ cond b (u ∷ []) []
    alone true = ap (λ k. k ∷ []) (omega arith)
    alone false = refl

length_follow : (w : Flow) (n s j : ℕ) → length (follow w n s j) ≡ n
length_follow w zero s j = refl
length_follow w (suc n) s j = ap suc (length_follow w n (s + 1) (w.next s j))

map_same : (P : ℕ → Type 0) (f g : ℕ → ℕ) (xs : List ℕ) → ((x : ℕ) → P x → f x ≡ g x) → AllByRecursion P xs → map f xs ≡ map g xs
map_same P f g [] same all = refl
map_same P f g (x ∷ xs) same all = ap₂ (λ y ys. y ∷ ys) (same x all.0) (map_same P f g xs same all.1)

module _ (b : Board) (h : Standing b) (j : ℕ) (u : (flow_by b.ways).used 0 j ≡ true) where
  -- in each row it is at a used PE
  pub stays : (s : ℕ) → s * ROW ≤ b.grid.last → (flow_by b.ways).used s (along (flow_by b.ways) j s) ≡ true
  unfolding along
  stays zero l = u
  stays (suc s) l =
      let was = stays s (omega arith) in
      let at = Rows.used_at b h s (along (flow_by b.ways) j s) was in
      subst (λ x. (flow_by b.ways).used x ((flow_by b.ways).next s (along (flow_by b.ways) j s)) ≡ true) (add-one s)
      (Rows.on b h s (along (flow_by b.ways) j s) (omega arith) at.0 at.1)

  pub narrow : (s : ℕ) → s * ROW ≤ b.grid.last → along (flow_by b.ways) j s < 64
  narrow s l = (Rows.used_at b h s (along (flow_by b.ways) j s) (stays s l)).0

  -- and goes on by cells as by columns
  pub next_is : (s : ℕ) → s * ROW < b.grid.last →
      get_or b.ways.next (cell s (along (flow_by b.ways) j s)) 0 ≡ cell (s + 1) (along (flow_by b.ways) j (s + 1))
  next_is s l =
      let at = Rows.used_at b h s (along (flow_by b.ways) j s) (stays s (omega arith)) in
      (Rows.to b h s (along (flow_by b.ways) j s) l at.0 at.1).1 ∙ ap (cell (s + 1)) (sym (along_next (flow_by b.ways) j s))

-- the cells of the ways in row s, left to right
abbrev pub front : Board → ℕ → List ℕ
front b s = map (λ j. cell s (along (flow_by b.ways) j s)) (first_columns b)

pub front-first : (b : Board) → first_cells b ≡ front b 0
front-first b = ap (λ (f : ℕ → ℕ). map f (first_columns b)) (λ i j. cell 0 (sym (along-zero (flow_by b.ways) j) i))

first_used : (b : Board) → AllByRecursion (λ j. (flow_by b.ways).used 0 j ≡ true) (first_columns b)
first_used b = All-weaker (λ j. (j < 64) × ((flow_by b.ways).used 0 j ≡ true)) _ (λ j p. p.1) (first_columns b) (passing_each ((flow_by b.ways).used 0) 64)

module _ (b : Board) (h : Standing b) (s : ℕ) where
  pub front_inside : s * ROW ≤ b.grid.last → AllByRecursion (λ u. (s * ROW + 1 ≤ u) × (u < s * ROW + 1 + 64)) (front b s)
  front_inside l =
      All-map (λ u. (s * ROW + 1 ≤ u) × (u < s * ROW + 1 + 64)) (λ j. cell s (along (flow_by b.ways) j s)) (first_columns b)
      (All-weaker (λ j. (flow_by b.ways).used 0 j ≡ true) _ (λ j u. let n = narrow b h j u s l in (omega arith, omega arith)) (first_columns b) (first_used b))

  pub front_next : s * ROW < b.grid.last → map (λ u. get_or b.ways.next u 0) (front b s) ≡ front b (s + 1)
  front_next l =
      map-map (λ u. get_or b.ways.next u 0) (λ j. cell s (along (flow_by b.ways) j s)) (first_columns b)
      ∙ map_same (λ j. (flow_by b.ways).used 0 j ≡ true) _ (λ j. cell (s + 1) (along (flow_by b.ways) j (s + 1))) (first_columns b) (λ j u. next_is b h j u s l) (first_used b)

-- the physical columns of a row of the ways
module _ (b : Board) (rows k : ℕ) where
  pub row_shown : k < rows → (cells : List ℕ) → cells ≡ front b k → at_each (λ n. get_or cells n (k * ROW + 1) - (k * ROW + 1)) ≡ (held_row (columns b rows) k).columns
  row_shown l cells e = ap (λ (f : ℕ → ℕ). at_each f) (λ i n. at n i)
    where
      at : (n : ℕ) → get_or cells n (k * ROW + 1) - (k * ROW + 1) ≡ get_or (get_or (columns b rows) n []) k 0
      at n = elim (cases_lt n (length (first_columns b))) [
        | inl in' ↦
            let j = get_or (first_columns b) n 0 in
            omega (
              arith,
              ap (λ xs. get_or xs n (k * ROW + 1)) e,
              get_or-map (λ j. cell k (along (flow_by b.ways) j k)) (first_columns b) n 0 (k * ROW + 1) in',
              ap (λ xs. get_or xs k 0) (get_or-map (follow (flow_by b.ways) rows 0) (first_columns b) n 0 [] in'),
              follow_along (flow_by b.ways) j rows k l,
            )
        | inr out ↦
            omega (
              arith,
              ap (λ xs. get_or xs n (k * ROW + 1)) e,
              get_or_past (front b k) n (k * ROW + 1) (rw length-map out),
              ap (λ xs. get_or xs k 0) (get_or_past (columns b rows) n [] (rw length-map out)),
              get_or_past {X = ℕ} [] k 0 (omega arith),
            )
      ]

  pub row_past : rows ≤ k → replicate 64 0 ≡ (held_row (columns b rows) k).columns
  row_past l = sym (at_each_same 0) ∙ ap (λ (f : ℕ → ℕ). at_each f) (λ i n. at n i)
    where
      at : (n : ℕ) → 0 ≡ get_or (get_or (columns b rows) n []) k 0
      at n = elim (cases_lt n (length (first_columns b))) [
        | inl in' ↦
            let j = get_or (first_columns b) n 0 in
            sym (ap (λ xs. get_or xs k 0) (get_or-map (follow (flow_by b.ways) rows 0) (first_columns b) n 0 [] in')
            ∙ get_or_past (follow (flow_by b.ways) rows 0 j) k 0 (omega (arith, length_follow (flow_by b.ways) rows 0 j)))
        | inr out ↦
            sym (ap (λ xs. get_or xs k 0) (get_or_past (columns b rows) n [] (rw length-map out)) ∙ get_or_past {X = ℕ} [] k 0 (omega arith))
      ]
