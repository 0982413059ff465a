-- The sheet of a family with tolls. Assumes nothing.
use Rattle.std.specs.Prelude.{ℕ, zero, suc, cond, List, [], ◌∷◌, ◌++◌, map, nat_lt}
use Rattle.std.specs.List.{flat_map}
use Rattle.masks.specs.Masks.{mask}
use Rattle.host.specs.declared.Host.{Host}
use Rattle.host.specs.Maps.{stands}
use Rattle.plans.specs.Tolls.{Tolls}
use Rattle.routable.specs.Cards.{card_of}
use Rattle.sheet.specs.declared.record.Record.{Record}
use Rattle.sheet.specs.declared.record.Record.TheVariants as r
use Rattle.sheet.specs.declared.record.Step.{Step}
use Rattle.sheet.specs.declared.record.Step.TheVariants.{Left, Straight, Right}
use Rattle.sheet.specs.declared.record.Toll.{Toll}
use Rattle.sheet.specs.Records.{all_bytes}

-- the step from physical column j to column k
abbrev pub step_to : ℕ → ℕ → Step
step_to j k = cond (nat_lt k j) Left (cond (nat_lt j k) Right Straight)

-- a column is a start and then steps
abbrev pub steps : ℕ → List ℕ → List Record
steps j [] = []
steps j (k ∷ ks) = r.Step (step_to j k) ∷ steps k ks

abbrev pub column_records : List ℕ → List Record
column_records [] = []
column_records (j ∷ ks) = r.Start j ∷ steps j ks

abbrev pub toll_at : Tolls → ℕ → ℕ → Toll
toll_at toll q j = record { row = q; column = j; amount = toll q j }

-- the tolls above 0 in the first n columns of a row, left to right, and in rows, going down
unfoldable pub tolls_across : Tolls → ℕ → ℕ → List Toll
tolls_across toll q zero = []
tolls_across toll q (suc n) = tolls_across toll q n ++ cond (nat_lt 0 (toll q n)) (toll_at toll q n ∷ []) []

abbrev pub tolls_down : Tolls → List ℕ → List Toll
tolls_down toll rows = flat_map (λ q. tolls_across toll q 64) rows

abbrev pub head_of : Host → Record
head_of h = r.Head (record { rows = h.size.rows; columns = h.size.columns; standing = mask (stands h) })

-- the head, the columns in their order, the tolls, and the end
abbrev pub records : Host → List (List ℕ) → List Toll → List Record
records h f ts = head_of h ∷ (flat_map column_records f ++ (map r.Toll ts ++ r.End ∷ []))

-- by row, then column
abbrev pub toll_list : Host → Tolls → List Toll
toll_list h toll = tolls_down toll (card_of h).rows

abbrev pub sheet_records : Host → List (List ℕ) → Tolls → List Record
sheet_records h f toll = records h f (toll_list h toll)

abbrev pub sheet_of : Host → List (List ℕ) → Tolls → List ℕ
sheet_of h f toll = all_bytes (sheet_records h f toll)
