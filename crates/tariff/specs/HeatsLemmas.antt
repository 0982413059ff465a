-- The table of heats. Assumes nothing.
use Rattle.std.specs.Prelude.{◌≡◌, ℕ, ◌+◌, ◌<◌, ◌≤◌, min, true, false, cond, List, [], length, replicate, slice_index, slice_index_or, slice_set, refl}
use Rattle.std.proofs.Common.{◌∙◌, ⊎_elim, arith}
use Rattle.std.proofs.lemmas.List.{get_or_past, get_or-set_same, get_or-set_other, set_past, length-replicate, get_or-replicate}
use Rattle.std.proofs.lemmas.Bool.{cases_lt, cases_eq}
use Rattle.std.proofs.lemmas.Bool.Decides.{nat_tests}
use Rattle.tariff.specs.Heats.{heat_at, with_heat, added, heated, HeatRange}
use Rattle.tariff.specs.Meaning.{Meaning, Lawful, in_grid, is_link}

module _ (zero : ℕ) (none : zero ≡ 0) where
  zero_row : (k j : ℕ) → slice_index (replicate k zero) j ≡ 0
  zero_row k j =
      ⊎_elim (λ l. get_or-replicate k j zero 0 l ∙ none) (λ l. get_or_past (replicate k zero) j 0 (rw length-replicate l)) (cases_lt j k)

  all_range : (n k : ℕ) → HeatRange (replicate n (replicate k zero))
  all_range n k r j =
      ⊎_elim
      (λ l. rw (get_or-replicate n r (replicate k zero) [] l) (omega (arith, zero_row k j)))
      (λ l. rw (get_or_past (replicate n (replicate k zero)) r [] (rw length-replicate l)) (omega arith))
      (cases_lt r n)

pub no_heat_range : (n k : ℕ) → HeatRange (replicate n (replicate k 0))
no_heat_range = all_range 0 refl

row_range : (row : List ℕ) (j x k : ℕ) → ((k : ℕ) → slice_index row k < 256) → x < 256 → slice_index (slice_set row j x) k < 256
row_range row j x k h l =
    ⊎_elim
    (λ here. ⊎_elim (λ in_row. rw here (rw (get_or-set_same row j x 0 in_row) l)) (λ out. rw (set_past row j x out) (h k)) (cases_lt j (length row)))
    (λ off. rw (get_or-set_other row j k x 0 off) (h k))
    (cases_eq k j)

pub with_heat_range : (heats : List (List ℕ)) (r j x : ℕ) → HeatRange heats → x < 256 → HeatRange (with_heat heats r j x)
with_heat_range heats r j x h l q k =
    let row : List ℕ = slice_set (slice_index_or heats r []) j x in
    ⊎_elim
    (λ same. ⊎_elim
    (λ in_rows. rw same (rw (get_or-set_same heats r row [] in_rows) (row_range (slice_index_or heats r []) j x k (h r) l)))
    (λ out. rw (set_past heats r row out) (h q k))
    (cases_lt r (length heats)))
    (λ other. rw (get_or-set_other heats r q row [] other) (h q k))
    (cases_eq q r)

pub heated_lawful : (m : Meaning) (heats : List (List ℕ)) → Lawful m → HeatRange heats → Lawful (heated m heats)
heated_lawful m heats law range = record {
  ceiling_limit = omega arith;
  entry_limit = λ r j.
      elim (in_grid r j) as (λ b. cond b (m.entry r j + added m.ceiling (heat_at heats r j)) 0 ≤ min 1000 (m.ceiling + 255)) [
        | true ↦ omega (arith, law.entry_limit r j, range r j, law.ceiling_limit)
        | false ↦ omega arith
      ];
  link_limit = λ r j q k.
      elim (is_link r j q k) as (λ b. cond b (m.link r j q k + added m.ceiling (heat_at heats q k)) 0 ≤ min 1000 (m.ceiling + 255)) [
        | true ↦ omega (arith, law.link_limit r j q k, range q k, law.ceiling_limit)
        | false ↦ omega arith
      ];
  entry_else = λ r j e. rw e;
  link_else = λ r j q k e. rw e;
  crossing = λ r q j a b l. grind (arith, nat_tests, law.crossing r q j a b l);
}
