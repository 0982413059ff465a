-- A tariff by kinds of links is lawful where a long link costs more than a short one. Assumes nothing.
use Rattle.std.specs.Prelude.{◌≡◌, ℕ, ◌<◌, ◌≤◌, true, refl}
use Rattle.std.proofs.Common.{arith}
use Rattle.std.proofs.lemmas.Bool.Decides.{nat_tests}
use Rattle.std.proofs.lemmas.Bool.{and_parts, leb-true}
use Rattle.tariff.specs.Meaning.{Lawful}
use Rattle.tariff.specs.Kinds.{by_kind, wire_range}

pub by_kind_lawful : (short long : ℕ) → short < long → long ≤ 1000 → Lawful (by_kind short long)
by_kind_lawful short long l top = record {
  ceiling_limit = top;
  entry_limit = λ r j. omega arith;
  link_limit = λ r j q k. grind (arith, nat_tests);
  entry_else = λ r j e. refl;
  link_else = λ r j q k e. rw e;
  crossing = λ r q j a b c. grind (arith, nat_tests);
}

pub range_parts : (d w : ℕ) → wire_range d w ≡ true → (1 ≤ d) × (d ≤ 250) × (1 ≤ w) × (w ≤ 500)
range_parts d w e =
    let a = and_parts _ _ e in
    let b = and_parts _ _ a.1 in
    let c = and_parts _ _ b.1 in
    (leb-true 1 d a.0, leb-true d 250 b.0, leb-true 1 w c.0, leb-true w 500 c.1)
