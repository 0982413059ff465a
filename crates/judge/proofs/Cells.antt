-- The cells of a family that is held. Assumes nothing.
use Rattle.std.proofs.Common.{◌≡◌, ℕ, ◌<◌, List, [], ◌∷◌, ◌++◌, length, get_or, set, sym, refl, ap, ◌∙◌, inl, inr, arith, length-set, get_or-set_other, get_or-set_same}
use Rattle.std.proofs.lemmas.Bool.{cases_eq}
use Rattle.std.proofs.lemmas.List.{ext_get_or, get_or_push}
use Rattle.std.proofs.lemmas.Grind.{common_steps}
use Rattle.plans.specs.declared.held.HeldRow.{HeldRow}
use Rattle.plans.specs.Held.{at_each, held_row, no_row}
use Rattle.plans.proofs.Holding.{length_at_each, at_each_at}

-- tables are the same where their entries are, and an entry that is written is the only one that differs
pub table_same : {X : Type 0} (F G : ℕ → X) (d : X) → ((k : ℕ) → k < 64 → F k ≡ G k) → at_each F ≡ at_each G
table_same F G d each =
    ext_get_or d (at_each F) (at_each G) (length_at_each F ∙ sym (length_at_each G))
    (λ k l. let low : k < 64 = omega (arith, l, length_at_each F) in at_each_at F d k low ∙ each k low ∙ sym (at_each_at G d k low))

pub table_set : {X : Type 0} (F G : ℕ → X) (i : ℕ) → ((k : ℕ) → k < 64 → (k ≡ i → ⊥) → F k ≡ G k) → set (at_each F) i (G i) ≡ at_each G
table_set F G i others =
    ext_get_or (G i) (set (at_each F) i (G i)) (at_each G) (length-set (at_each F) i (G i) ∙ length_at_each F ∙ sym (length_at_each G))
    (λ k l.
    let low : k < 64 = omega (arith, l, length-set (at_each F) i (G i), length_at_each F) in
    let there : k < length (at_each F) = omega (arith, length_at_each F) in
    elim (cases_eq k i) [
      | inl e ↦
          ap (λ (n : ℕ). get_or (set (at_each F) i (G i)) n (G i)) e ∙ get_or-set_same (at_each F) i (G i) (G i) (omega arith)
          ∙ ap G (sym e) ∙ sym (at_each_at G (G i) k low)
      | inr ne ↦ get_or-set_other (at_each F) i k (G i) (G i) ne ∙ at_each_at F (G i) k low ∙ others k low ne ∙ sym (at_each_at G (G i) k low)
    ])

-- what a cell has
pub cell : (f : List (List ℕ)) (s n : ℕ) → s < 64 → n < 64 → get_or (get_or (at_each (held_row f)) s no_row).columns n 0 ≡ get_or (get_or f n []) s 0
cell f s n row_in cell_in =
    ap (λ (r : HeldRow). get_or r.columns n 0) (at_each_at (held_row f) no_row s row_in) ∙ at_each_at (λ m. get_or (get_or f m []) s 0) 0 n cell_in

-- behind a list one more
push_other : {X : Type 0} (xs : List X) (x d : X) (n : ℕ) → (n ≡ length xs → ⊥) → get_or (xs ++ x ∷ []) n d ≡ get_or xs n d
push_other xs x d n ne = grind (arith, common_steps)

-- a column without a PE leaves no trace
pub trailing : (f : List (List ℕ)) → at_each (held_row (f ++ [] ∷ [])) ≡ at_each (held_row f)
trailing f = table_same _ _ no_row (λ s l. ap (λ (xs : List ℕ). record { columns = xs }) (table_same _ _ 0 (λ n k. ap (λ (a : List ℕ). get_or a s 0) (none n))))
  where
    none : (n : ℕ) → get_or (f ++ [] ∷ []) n [] ≡ get_or f n []
    none n = grind (arith, common_steps)

-- the next PE of the last column
module _ (f : List (List ℕ)) (a : List ℕ) (j : ℕ) (row_in : length a < 64) (cell_in : length f < 64) where
  abbrev before : ℕ → ℕ → ℕ
  before s n = get_or (get_or (f ++ a ∷ []) n []) s 0

  abbrev after : ℕ → ℕ → ℕ
  after s n = get_or (get_or (f ++ (a ++ j ∷ []) ∷ []) n []) s 0

  other_column : (s n : ℕ) → (n ≡ length f → ⊥) → before s n ≡ after s n
  other_column s n ne = ap (λ (b : List ℕ). get_or b s 0) (push_other f a [] n ne ∙ sym (push_other f (a ++ j ∷ []) [] n ne))

  other_row : (s n : ℕ) → (s ≡ length a → ⊥) → before s n ≡ after s n
  other_row s n ne = elim (cases_eq n (length f)) [
    | inl e ↦
        ap (λ (b : List ℕ). get_or b s 0) (get_or_push f a [] n (sym e)) ∙ sym (push_other a j 0 s ne)
        ∙ ap (λ (b : List ℕ). get_or b s 0) (sym (get_or_push f (a ++ j ∷ []) [] n (sym e)))
    | inr off ↦ other_column s n off
  ]

  here : j ≡ after (length a) (length f)
  here =
      sym (get_or_push a j 0 (length a) refl) ∙ ap (λ (b : List ℕ). get_or b (length a) 0) (sym (get_or_push f (a ++ j ∷ []) [] (length f) refl))

  row_put : set (get_or (at_each (held_row (f ++ a ∷ []))) (length a) no_row).columns (length f) j ≡ at_each (after (length a))
  row_put =
      ap (λ (r : HeldRow). set r.columns (length f) j) (at_each_at (held_row (f ++ a ∷ [])) no_row (length a) row_in)
      ∙ ap (set (at_each (before (length a))) (length f)) here ∙ table_set (before (length a)) (after (length a)) (length f) (λ n l ne. other_column (length a) n ne)

  pub put_cell :
      set (at_each (held_row (f ++ a ∷ []))) (length a) (record { columns = set (get_or (at_each (held_row (f ++ a ∷ []))) (length a) no_row).columns (length f) j }) ≡
      at_each (held_row (f ++ (a ++ j ∷ []) ∷ []))
  put_cell =
      ap (λ (xs : List ℕ). set (at_each (held_row (f ++ a ∷ []))) (length a) (record { columns = xs })) row_put
      ∙ table_set (held_row (f ++ a ∷ [])) (held_row (f ++ (a ++ j ∷ []) ∷ [])) (length a)
      (λ s l ne. ap (λ (xs : List ℕ). record { columns = xs }) (table_same (before s) (after s) 0 (λ n k. other_row s n ne)))
