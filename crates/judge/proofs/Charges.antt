-- The charges of columns, the last of which goes on. Assumes nothing.
use Rattle.std.proofs.Common.{◌≡◌, ℕ, ◌+◌, ◌<◌, ◌≤◌, List, [], ◌∷◌, ◌++◌, length, get_or, Some, None, Option, Bool, refl, arith}
use Rattle.tariff.specs.declared.pe.Pe.{Pe}
use Rattle.tariff.specs.Charges.{link_charges, charge}
use Rattle.tariff.specs.Meaning.{Meaning, Lawful}
use Rattle.plans.specs.Columns.{Card, standing, row}
use Rattle.plans.specs.Families.{total_charge}
use Rattle.plans.specs.Least.{last_from}
use Rattle.verdict.proofs.Lists.{total_append}
use Rattle.judge.specs.Gathering.{last_pe, charge_below}

module _ (m : Meaning) where
  links_ended : (r i : ℕ) (rows : List ℕ) → link_charges m r i rows [] ≡ 0
  links_ended r i [] = refl
  links_ended r i (q ∷ rows) = refl

  links_push : (r i : ℕ) (rows ks : List ℕ) (j : ℕ) → length ks < length rows →
      link_charges m r i rows (ks ++ j ∷ []) ≡ link_charges m r i rows ks + m.link (get_or (r ∷ rows) (length ks) 0) (last_from i ks) (get_or rows (length ks) 0) j
  links_push r i [] ks j l = absurd (omega arith)
  links_push r i (q ∷ rows) [] j l = omega (arith, links_ended q j rows)
  links_push r i (q ∷ rows) (k ∷ ks) j l = omega (arith, links_push q k rows ks j (omega arith))

  rows_push : (rows a : List ℕ) (j : ℕ) (usable : ℕ → ℕ → Bool) → length a < length rows →
      charge m rows (a ++ j ∷ []) ≡ charge m rows a + charge_below m (last_pe (record { rows = rows; usable = usable }) a) (record { row = get_or rows (length a) 0; column = j })
  rows_push [] a j usable l = absurd (omega arith)
  rows_push (r ∷ rows) [] j usable l = omega (arith, links_ended r j rows)
  rows_push (r ∷ rows) (k ∷ ks) j usable l = omega (arith, links_push r k rows ks j (omega arith))

  charge-none : (rows : List ℕ) → charge m rows [] ≡ 0
  charge-none [] = refl
  charge-none (r ∷ rows) = refl

  module _ (c : Card) (f : List (List ℕ)) where
    pub charged_push : (a : List ℕ) (j : ℕ) → length a < standing c →
        total_charge c m (f ++ (a ++ j ∷ []) ∷ []) ≡ total_charge c m (f ++ a ∷ []) + charge_below m (last_pe c a) (record { row = row c (length a); column = j })
    charged_push a j l =
        omega (arith, total_append (charge m c.rows) f ((a ++ j ∷ []) ∷ []), total_append (charge m c.rows) f (a ∷ []), rows_push c.rows a j c.usable l)

    pub charged_trailing : total_charge c m (f ++ [] ∷ []) ≡ total_charge c m f
    charged_trailing = omega (arith, total_append (charge m c.rows) f ([] ∷ []), charge-none c.rows)

pub small_below : (m : Meaning) → Lawful m → (above : Option Pe) (pe : Pe) → charge_below m above pe ≤ 1000
small_below m law None pe = omega (arith, law.entry_limit pe.row pe.column, law.ceiling_limit)
small_below m law (Some upper) pe = omega (arith, law.link_limit upper.row upper.column pe.row pe.column, law.ceiling_limit)
