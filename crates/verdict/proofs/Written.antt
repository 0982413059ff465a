-- The bytes of a sheet, and how many they are. Assumes nothing.
use Rattle.std.proofs.Common.{◌≡◌, ℕ, zero, suc, ◌+◌, ◌*◌, ◌<◌, ◌≤◌, cond, ltb, List, [], ◌∷◌, ◌++◌, map, length, refl, suc-mul, mul-le-mul, arith, length-append}
use Rattle.std.specs.List.{flat_map, AllByRecursion}
use Rattle.std.proofs.lemmas.Bool.{cond_both}
use Rattle.plans.specs.Columns.{Card, Column, standing}
use Rattle.plans.specs.Families.{total}
use Rattle.plans.specs.Tolls.{Tolls}
use Rattle.plans.proofs.ByRows.{few_columns, few_rows}
use Rattle.plans.proofs.Places as Places
use Rattle.routable.specs.Cards.{card_of}
use Rattle.routable.proofs.Cards.{within}
use Rattle.sheet.specs.declared.record.Record.{Record}
use Rattle.sheet.specs.declared.record.Record.TheVariants as r
use Rattle.sheet.specs.declared.record.Step.{Step}
use Rattle.sheet.specs.declared.record.Step.TheVariants.{Left, Straight, Right}
use Rattle.sheet.specs.declared.record.Toll.{Toll}
use Rattle.sheet.specs.Records.{bytes, size, all_bytes}
use Rattle.sheet.proofs.Bodies.{length_bytes}
use Rattle.verdict.specs.Sheets.{step_to, steps, column_records, toll_at, tolls_across, tolls_down, toll_list, records}
use Rattle.verdict.specs.Theorems.{SheetsAreShort}
use Rattle.verdict.proofs.Lists.{total_append}

pub length_all : (xs : List Record) → length (all_bytes xs) ≡ total size xs
length_all [] = refl
length_all (x ∷ xs) = omega (arith, length-append (bytes x) (all_bytes xs), length_bytes x, length_all xs)

step_size : (x : Step) → size (r.Step x) ≡ 1
step_size Left = refl
step_size Straight = refl
step_size Right = refl

steps-size : (j : ℕ) (ks : List ℕ) → total size (steps j ks) ≡ length ks
steps-size j [] = refl
steps-size j (k ∷ ks) = omega (arith, step_size (step_to j k), steps-size k ks)

-- a column has one byte more than PEs
pub column_size : (a : List ℕ) → 0 < length a → total size (column_records a) ≡ length a + 1
column_size [] some = absurd (omega arith)
column_size (j ∷ ks) some = omega (arith, steps-size j ks)

columns_size : (c : Card) (f : List (List ℕ)) → AllByRecursion (Column c) f → total size (flat_map column_records f) ≡ length f * (standing c + 1)
columns_size c [] ws = omega arith
columns_size c (a ∷ f) ws =
    let pl = (Places.column c a).0 ws.0 in
    omega (arith, suc-mul (length f) (standing c + 1), total_append size (column_records a) (flat_map column_records f), column_size a (omega (arith, pl.0, pl.1)), pl.1, columns_size c f ws.1)

pub tolls_size : (ts : List Toll) → total size (map r.Toll ts) ≡ 7 * length ts
tolls_size [] = refl
tolls_size (t ∷ ts) = omega (arith, tolls_size ts)

across_few : (toll : Tolls) (q n : ℕ) → length (tolls_across toll q n) ≤ n
unfolding tolls_across
across_few toll q zero = omega arith
across_few toll q (suc n) =
    let one : List Toll = cond (ltb 0 (toll q n)) (toll_at toll q n ∷ []) [] in
    let few : length one ≤ 1 = cond_both (ltb 0 (toll q n)) (toll_at toll q n ∷ []) [] (λ ts. length ts ≤ 1) (λ t. omega arith) (λ t. omega arith) in
    omega (arith, across_few toll q n, length-append (tolls_across toll q n) one, few)

pub down_few : (toll : Tolls) (rows : List ℕ) → length (tolls_down toll rows) ≤ 64 * length rows
down_few toll [] = omega arith
down_few toll (q ∷ rows) = omega (arith, across_few toll q 64, down_few toll rows, length-append (tolls_across toll q 64) (tolls_down toll rows))

pub short : SheetsAreShort
short h m toll f plan =
    let c = card_of h in
    let ts = toll_list h toll in
    let w = within h in
    let few = few_columns c w f plan.family.each plan.family.apart in
    let rows = few_rows c.rows w.down w.rows_limit in
    let tail = map r.Toll ts ++ r.End ∷ [] in
    let wide : standing c + 1 ≤ 65 = omega arith in
    omega (
      arith,
      length_all (records h f ts),
      total_append size (flat_map column_records f) tail,
      total_append size (map r.Toll ts) (r.End ∷ []),
      columns_size c f plan.family.each,
      mul-le-mul few wide,
      tolls_size ts,
      down_few toll c.rows,
    )
