-- Heat of one PE more, and of one row more. Assumes nothing.
use Rattle.std.proofs.Common.{◌≡◌, ℕ, suc, ◌+◌, List, [], map, get_or, refl, ap, ◌∙◌, Bor, arith}
use Rattle.std.proofs.Math.ListN.{get_or-map}
use Rattle.card.specs.Piles.{warm_pe, warm_row, warm_rows}

more : (n : ℕ) → n + 1 ≡ suc n
more n = omega arith

warm_row-suc : (heats : List (List ℕ)) (row : ℕ) (line : List ℕ) (n : ℕ) → warm_row heats row line (suc n) ≡ warm_pe (warm_row heats row line n) row line n
unfolding warm_row
warm_row-suc heats row line n = refl

pub warm_row-more : (heats : List (List ℕ)) (row : ℕ) (line : List ℕ) (n : ℕ) → warm_row heats row line (n + 1) ≡ warm_pe (warm_row heats row line n) row line n
warm_row-more heats row line n = ap (warm_row heats row line) (more n) ∙ warm_row-suc heats row line n

warm_rows-suc : (lines : List (List ℕ)) (n : ℕ) → warm_rows lines (suc n) ≡ warm_row (warm_rows lines n) n (get_or lines n []) 64
unfolding warm_rows
warm_rows-suc lines n = refl

pub warm_rows-more : (lines : List (Bor (List ℕ))) (n : ℕ) →
    let texts = map (λ line. line.now) lines in
    warm_rows texts (n + 1) ≡ warm_row (warm_rows texts n) n (get_or lines n (record { ref_ptr = (0, 0); now = [] })).now 64
warm_rows-more lines n =
    let texts : List (List ℕ) = map (λ line. line.now) lines in
    ap (warm_rows texts) (more n)
    ∙ warm_rows-suc texts n
    ∙ ap (λ line. warm_row (warm_rows texts n) n line 64) (get_or-map (λ line. line.now) lines n (record { ref_ptr = (0, 0); now = [] }))
