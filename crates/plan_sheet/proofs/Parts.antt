-- The parts of a sheet, one behind the other. Assumes nothing.
use Rattle.std.proofs.Common.{◌≡◌, ℕ, zero, suc, ◌+◌, ◌-◌, ◌*◌, ◌<◌, ◌≤◌, cond, ltb, List, [], ◌∷◌, ◌++◌, map, length, Some, None, Option, refl, sym, ap, ◌∙◌, append_assoc, add-one, suc-mul, mul-le-mul, arith, length-append}
use Rattle.std.specs.Prelude.{slice_index, slice_index_or}
use Rattle.std.specs.List.{flat_map, range_with_len}
use Rattle.std.proofs.lemmas.Grind.{common_steps, flat_map-append}
use Rattle.std.proofs.lemmas.Bool.{cond-true, lt-ltb}
use Rattle.std.proofs.lemmas.List.{map-append, append-nil}
use Rattle.std.proofs.lemmas.List.FromFn.{length-map-range_with_len}
use Rattle.host.specs.declared.Host.{Host}
use Rattle.masks.specs.Members.{members}
use Rattle.host.specs.Maps.{stands}
use Rattle.masks.specs.Masks.{how_many}
use Rattle.masks.proofs.Members.{length_passing, passing_count}
use Rattle.plans.specs.declared.held.HeldPlan.{HeldPlan}
use Rattle.plans.specs.Columns.{standing}
use Rattle.plans.specs.Families.{total}
use Rattle.plans.specs.Tolls.{Tolls}
use Rattle.plans.specs.Held.{held_column, held_columns, held_tolls, no_row}
use Rattle.routable.specs.Cards.{card_of}
use Rattle.sheet.specs.declared.record.Record.{Record}
use Rattle.sheet.specs.declared.record.Record.TheVariants as r
use Rattle.sheet.specs.declared.record.Toll.{Toll}
use Rattle.sheet.specs.Records.{bytes, size, all_bytes}
use Rattle.verdict.specs.Sheets.{steps, column_records, toll_at, tolls_across, tolls_down, toll_list, head_of, records}
use Rattle.verdict.proofs.Lists.{total_append}
use Rattle.verdict.proofs.Written.{length_all, column_size, tolls_size, down_few}
use Rattle.plan_sheet.specs.Parts.{held_sheet, column_bytes, record_below, toll_bytes}

pub all_append : (xs ys : List Record) → all_bytes (xs ++ ys) ≡ all_bytes xs ++ all_bytes ys
all_append xs ys = flat_map-append bytes xs ys

-- the records of a column's PEs from the next one on
abbrev column_from : Option ℕ → List ℕ → List Record
column_from None js = column_records js
column_from (Some i) js = steps i js

column_more : (o : Option ℕ) (j : ℕ) (js : List ℕ) → column_from o (j ∷ js) ≡ record_below o j ∷ column_from (Some j) js
column_more None j js = refl
column_more (Some i) j js = refl

column_end : (o : Option ℕ) → column_from o [] ≡ []
column_end None = refl
column_end (Some i) = refl

module _ (p : HeldPlan) (standing n : ℕ) where
  abbrev pe : ℕ → ℕ
  pe s = slice_index (slice_index_or p.rows s no_row).columns n

  -- the bytes of a column's PEs from row s on, below one in the physical column that is named
  unfoldable pub left : Option ℕ → ℕ → List ℕ
  left above s = all_bytes (column_from above (map pe (range_with_len s (standing - s))))

  pub left_first : left None 0 ≡ column_bytes p standing n
  unfolding left
  left_first = let all : standing - 0 ≡ standing = omega arith in ap (λ k. all_bytes (column_from None (map pe (range_with_len 0 k)))) all

  pub left_last : (above : Option ℕ) (s : ℕ) → standing ≤ s → left above s ≡ []
  unfolding left
  left_last above s l =
      let none : standing - s ≡ 0 = omega arith in
      ap (λ k. all_bytes (column_from above (map pe (range_with_len s k)))) none ∙ ap all_bytes (column_end above)

  pub left_next : (above : Option ℕ) (s : ℕ) → s < standing → left above s ≡ bytes (record_below above (pe s)) ++ left (Some (pe s)) (s + 1)
  unfolding left
  left_next above s l =
      let one : standing - s ≡ suc (standing - (s + 1)) = omega arith in
      ap (λ k. all_bytes (column_from above (map pe (range_with_len s k)))) one ∙ ap all_bytes (column_more above (pe s) (map pe (range_with_len (s + 1) (standing - (s + 1)))))

pub ruleset column_parts = (common_steps, left_first, left_last, left_next)

-- the tolls of a row, from its first column on
module _ (toll : Tolls) (row : ℕ) where
  abbrev at_column : ℕ → List Toll
  at_column n = cond (ltb 0 (toll row n)) (toll_at toll row n ∷ []) []

  -- the bytes of those in the first n columns
  unfoldable pub up_to : ℕ → List ℕ
  up_to n = all_bytes (map r.Toll (tolls_across toll row n))

  pub up_to_none : up_to 0 ≡ []
  unfolding up_to tolls_across
  up_to_none = refl

  up_to_next : (n : ℕ) → up_to (suc n) ≡ up_to n ++ all_bytes (map r.Toll (at_column n))
  unfolding up_to tolls_across
  up_to_next n =
      ap all_bytes (map-append r.Toll (tolls_across toll row n) (at_column n)) ∙ all_append (map r.Toll (tolls_across toll row n)) (map r.Toll (at_column n))

  pub up_to_toll : (n : ℕ) → 0 < toll row n → up_to (n + 1) ≡ up_to n ++ bytes (r.Toll (toll_at toll row n))
  up_to_toll n some =
      let one : at_column n ≡ toll_at toll row n ∷ [] = cond-true _ _ _ (lt-ltb 0 (toll row n) some) in
      ap up_to (add-one n) ∙ up_to_next n ∙ ap (λ ts. up_to n ++ all_bytes (map r.Toll ts)) one ∙ ap (λ bs. up_to n ++ bs) (append-nil (bytes (r.Toll (toll_at toll row n))))

  pub up_to_no_toll : (n : ℕ) → toll row n ≡ 0 → up_to (n + 1) ≡ up_to n
  up_to_no_toll n none =
      let zero_is : at_column n ≡ [] = ap (λ a. cond (ltb 0 a) (toll_at toll row n ∷ []) []) none in
      ap up_to (add-one n) ∙ up_to_next n ∙ ap (λ ts. up_to n ++ all_bytes (map r.Toll ts)) zero_is ∙ append-nil (up_to n)

  pub up_to_grows : (k n m : ℕ) → m ≡ n + k → length (up_to n) ≤ length (up_to m)
  up_to_grows zero n m e = let same : n ≡ m = omega arith in omega (arith, ap (λ i. length (up_to i)) same)
  up_to_grows (suc k) n zero e = absurd (omega arith)
  up_to_grows (suc k) n (suc m) e =
      omega (arith, up_to_grows k n m (omega arith), ap length (up_to_next m), length-append (up_to m) (all_bytes (map r.Toll (at_column m))))

pub up_to_all : (p : HeldPlan) (row n : ℕ) → n ≡ 64 → up_to (held_tolls p) row n ≡ toll_bytes p row
unfolding up_to
up_to_all p row n e = ap (λ i. all_bytes (map r.Toll (tolls_across (held_tolls p) row i))) e

pub ruleset toll_parts = (common_steps, up_to_none, up_to_toll, up_to_no_toll, up_to_all)

column_small : (a : List ℕ) → total size (column_records a) ≤ length a + 1
column_small [] = omega arith
column_small (j ∷ ks) = omega (arith, column_size (j ∷ ks) (omega arith))

length_column : (p : HeldPlan) (s n : ℕ) → length (held_column p s n) ≡ s
length_column p s n = length-map-range_with_len (λ i. slice_index (slice_index_or p.rows i no_row).columns n) 0 s

columns_small : (p : HeldPlan) (s a n : ℕ) → total size (flat_map column_records (map (held_column p s) (range_with_len a n))) ≤ n * (s + 1)
columns_small p s a zero = omega arith
columns_small p s a (suc n) =
    let f = map (held_column p s) (range_with_len (a + 1) n) in
    omega (
      arith,
      suc-mul n (s + 1),
      total_append size (column_records (held_column p s a)) (flat_map column_records f),
      column_small (held_column p s a),
      length_column p s a,
      columns_small p s (a + 1) n,
    )

-- no sheet has more than 32,844 bytes
pub short : (h : Host) (p : HeldPlan) (n : ℕ) → n ≤ 64 → length (held_sheet h p n) ≤ 32844
unfolding held_sheet
short h p n few =
    let s = standing (card_of h) in
    let f = held_columns p s n in
    let ts = toll_list h (held_tolls p) in
    let tail = map r.Toll ts ++ r.End ∷ [] in
    let wide : s + 1 ≤ 65 = omega (arith, length_passing (stands h) 64) in
    omega (
      arith,
      length_all (records h f ts),
      total_append size (flat_map column_records f) tail,
      total_append size (map r.Toll ts) (r.End ∷ []),
      columns_small p s 0 n,
      mul-le-mul few wide,
      tolls_size ts,
      down_few (held_tolls p) (card_of h).rows,
    )

-- how many rows stand, as code counts them
pub rows_counted : (h : Host) → how_many (stands h) ≡ standing (card_of h)
rows_counted h = sym (passing_count (stands h) 64)

pub few_rows : (h : Host) → standing (card_of h) ≤ 64
few_rows h = length_passing (stands h) 64

-- what is left of the tolls and the end, where the tolls of some rows are
unfoldable pub tolls_left : HeldPlan → List ℕ → List ℕ
tolls_left p rows = all_bytes (map r.Toll (tolls_down (held_tolls p) rows) ++ r.End ∷ [])

pub tolls_next : (p : HeldPlan) (row : ℕ) (rows : List ℕ) → tolls_left p (row ∷ rows) ≡ toll_bytes p row ++ tolls_left p rows
unfolding tolls_left
tolls_next p row rows =
    let here = tolls_across (held_tolls p) row 64 in
    let below = tolls_down (held_tolls p) rows in
    ap (λ xs. all_bytes (xs ++ r.End ∷ [])) (map-append r.Toll here below)
    ∙ ap all_bytes (append_assoc (map r.Toll here) (map r.Toll below) (r.End ∷ []))
    ∙ all_append (map r.Toll here) (map r.Toll below ++ r.End ∷ [])

pub tolls_last : (p : HeldPlan) → tolls_left p [] ≡ bytes r.End
unfolding tolls_left
tolls_last p = refl

module _ (h : Host) (p : HeldPlan) (columns : ℕ) where
  abbrev records_from : ℕ → ℕ → List Record
  records_from n k =
      flat_map column_records (map (held_column p (standing (card_of h))) (range_with_len n k)) ++ (map r.Toll (tolls_down (held_tolls p) (card_of h).rows) ++ r.End ∷ [])

  -- what is left of the columns from column n on, the tolls and the end
  unfoldable pub columns_left : ℕ → List ℕ
  columns_left n = all_bytes (records_from n (columns - n))

  pub columns_first : bytes (head_of h) ++ columns_left 0 ≡ held_sheet h p columns
  unfolding columns_left held_sheet
  columns_first = let all : columns - 0 ≡ columns = omega arith in ap (λ k. bytes (head_of h) ++ all_bytes (records_from 0 k)) all

  pub columns_next : (n : ℕ) → n < columns → columns_left n ≡ column_bytes p (standing (card_of h)) n ++ columns_left (n + 1)
  unfolding columns_left
  columns_next n l =
      let one : columns - n ≡ suc (columns - (n + 1)) = omega arith in
      ap (λ k. all_bytes (records_from n k)) one
      ∙ ap all_bytes (append_assoc (column_records (held_column p (standing (card_of h)) n)) _ _)
      ∙ all_append (column_records (held_column p (standing (card_of h)) n)) (records_from (n + 1) (columns - (n + 1)))

  pub columns_last : (n : ℕ) → columns ≤ n → columns_left n ≡ tolls_left p (members (stands h))
  unfolding columns_left tolls_left
  columns_last n l = let none : columns - n ≡ 0 = omega arith in ap (λ k. all_bytes (records_from n k)) none
