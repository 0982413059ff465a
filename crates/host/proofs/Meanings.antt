-- When a PE is usable and when a row stands. Assumes nothing.
use Rattle.std.proofs.Common.{◌≡◌, ℕ, zero, suc, ◌+◌, ◌<◌, true, false, Decides, refl, ap, ◌∙◌, ⊎_elim, arith}
use Rattle.std.proofs.lemmas.Bool.{cases_lt}
use Rattle.std.proofs.lemmas.Bool.Decides.{nat_tests}
use Rattle.masks.specs.Masks.{none}
use Rattle.masks.proofs.Masks.{mask_empty}
use Rattle.host.specs.declared.Host.{Host}
use Rattle.host.specs.declared.part.Part.TheVariants.{RowSwitch, ColumnSwitch}
use Rattle.host.specs.Maps.{faulty, faulty_above, usable, stands}
use Rattle.host.specs.Laws.{Healthy, Usable, Stands}

module _ (h : Host) where
  above_healthy : (i j : ℕ) → faulty_above h i j ≡ false → (k : ℕ) → k + 1 ≡ i → Healthy h (ColumnSwitch k j)
  above_healthy zero j e k next = absurd (omega arith)
  above_healthy (suc i) j e k next = let same : k ≡ i = omega arith in ap (λ n. faulty h (ColumnSwitch n j)) same ∙ e

  healthy_above : (i j : ℕ) → ((k : ℕ) → k + 1 ≡ i → Healthy h (ColumnSwitch k j)) → faulty_above h i j ≡ false
  healthy_above zero j all = refl
  healthy_above (suc i) j all = all i (omega arith)

  pub usable_when : (i j : ℕ) → Decides (usable h i j) (Usable h i j)
  usable_when i j = (reads, made)
    where
      reads : usable h i j ≡ true → Usable h i j
      reads e = record {
        row = grind (arith, nat_tests);
        column = grind (arith, nat_tests);
        healthy = grind (arith, nat_tests);
        above = above_healthy i j (grind (arith, nat_tests));
        below = grind (arith, nat_tests);
      }

      made : Usable h i j → usable h i j ≡ true
      made u = let above = healthy_above i j u.above in grind (arith, nat_tests)

  pub stands_when : (i : ℕ) → Decides (stands h i) (Stands h i)
  stands_when i = (reads, made)
    where
      switches : Decides (none (λ j. faulty h (RowSwitch i j))) ((j : ℕ) → j < 64 → faulty h (RowSwitch i j) ≡ false)
      switches = mask_empty (λ j. faulty h (RowSwitch i j))

      reads : stands h i ≡ true → Stands h i
      reads e = record {
        picked = grind (arith, nat_tests);
        joined = λ j. ⊎_elim (λ l. switches.0 (grind (arith, nat_tests)) j l) (λ l. grind (arith, nat_tests, h.size.sized)) (cases_lt j 64);
      }

      made : Stands h i → stands h i ≡ true
      made s = let whole = switches.1 (λ j _. s.joined j) in grind (arith, nat_tests)
