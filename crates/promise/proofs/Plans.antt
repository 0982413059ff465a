-- A plan that a book holds. Assumes nothing.
use Rattle.std.proofs.Common.{◌≡◌, ℕ, zero, suc, ◌<◌, ◌≤◌, ◌↔◌, List, [], ◌∷◌, length, get_or, Ok, Err, Result, IsOk, is_ok, sym, refl, ap, ◌∙◌, subst, inl, inr, ⊎_elim, arith}
use Rattle.std.proofs.lemmas.Bool.{cases_lt}
use Rattle.std.proofs.lemmas.List.{get_or_past}
use Rattle.host.specs.declared.Host.{Host}
use Rattle.tariff.specs.Meaning.{Meaning, Lawful}
use Rattle.plans.specs.Columns.{standing, row}
use Rattle.plans.specs.Families.{Family, Best}
use Rattle.plans.specs.Tolls.{Tolls, Plan}
use Rattle.plans.specs.Held.{at_each, held, held_tolls}
use Rattle.plans.proofs.Crossings as Crossings
use Rattle.plans.proofs.Holding as Holding
use Rattle.routable.specs.Cards.{card_of}
use Rattle.routable.proofs.Cards.{within}
use Rattle.verdict.specs.Judging.{Accepted, toll_of}
use Rattle.verdict.specs.Sheets.{sheet_of}
use Rattle.verdict.specs.Theorems.{Bytes, LeftToRight, ByFirst, SheetOfPlan}
use Rattle.verdict.proofs.Hosts.{low_rows, narrow}
use Rattle.verdict.proofs.Laws as Sheets
use Rattle.verdict.proofs.Lists.{In, all_in, in_place}
use Rattle.verdict.proofs.Sound.{Sound, sound_plan}
use Rattle.verdict.proofs.TollLists.{supports_same}
use Rattle.book.specs.declared.Book.{Book}
use Rattle.book.specs.Books.{counts, holding}
use Rattle.book.specs.Plans.{verdict}
use Rattle.book.proofs.Verdicts.{accepts, accepted}
use Rattle.promise.specs.Promise.{HoldsPlan}

-- past its last column a row has no toll
past : (toll : Tolls) (r j : ℕ) → 64 ≤ j → get_or (get_or (at_each (λ q. at_each (toll q))) r []) j 0 ≡ 0
past toll r j l =
    ⊎_elim
    (λ low. ap (λ tolls. get_or tolls j 0) (Holding.at_each_at (λ q. at_each (toll q)) [] r low) ∙ get_or_past (at_each (toll r)) j 0 (omega (arith, Holding.length_at_each (toll r))))
    (λ high. ap (λ tolls. get_or tolls j 0) (get_or_past (at_each (λ q. at_each (toll q))) r [] (omega (arith, Holding.length_at_each (λ q. at_each (toll q))))))
    (cases_lt r 64)

in_rows : (rows : List ℕ) (s : ℕ) → s < length rows → In (get_or rows s 0) rows
in_rows [] s l = absurd (omega arith)
in_rows (r ∷ rows) zero l = inl refl
in_rows (r ∷ rows) (suc s) l = inr (in_rows rows s (omega arith))

pub ok_value : {A E : Type 0} (r : Result A E) → IsOk r → (a : A) × (r ≡ Ok a)
ok_value (Ok a) ok = (a, refl)
ok_value (Err x) ok = cc

module _ (h : Host) (m : Meaning) (toll : Tolls) (f : List (List ℕ)) (plan : Plan (card_of h) m toll f) where
  -- the tolls that are held are the plan's on every standing row
  same : (r j : ℕ) → In r (card_of h).rows → held_tolls (held f toll) r j ≡ toll r j
  same r j i =
      ⊎_elim
      (λ low. (Holding.theorem (card_of h) toll f (within h) plan.family).1 r j (all_in (λ r. r < 64) r (card_of h).rows (low_rows h) i) low)
      (λ high. past toll r j high ∙ sym (nowhere high))
      (cases_lt j 64)
    where
      nowhere : 64 ≤ j → toll r j ≡ 0
      nowhere high =
          let s = in_place r (card_of h).rows i in
          sym (ap (λ q. toll q j) s.2)
          ∙ plan.allowed.elsewhere s.0 j s.1 (λ u. absurd (omega (arith, narrow h (row (card_of h) s.0) j u)))

  pub held_plan : Plan (card_of h) m (held_tolls (held f toll)) f
  held_plan = record {
    family = plan.family;
    uncrossed = plan.uncrossed;
    allowed = record {
      limit = λ s j l. omega (arith, at s j l, plan.allowed.limit s j l);
      elsewhere = λ s j l no. at s j l ∙ plan.allowed.elsewhere s j l no;
    };
    supports = supports_same (card_of h) m toll (held_tolls (held f toll)) f (λ r j i. sym (same r j i)) plan.supports;
  }
    where
      at : (s j : ℕ) → s < standing (card_of h) → held_tolls (held f toll) (row (card_of h) s) j ≡ toll (row (card_of h) s) j
      at s j l = same (row (card_of h) s) j (in_rows (card_of h).rows s l)

pub holds : {T : Type 0} (b : Book T) (m : Meaning) (toll : Tolls) (f : List (List ℕ)) → Plan (card_of b.host) m toll f → LeftToRight f → HoldsPlan m (holding b m f toll) (counts b.host m f)
holds b m toll f plan ordered =
    let columns = sym (Holding.theorem (card_of b.host) toll f (within b.host) plan.family).0 in record {
      plan = subst (Plan (card_of b.host) m (held_tolls (held f toll))) columns (held_plan b.host m toll f plan);
      ordered = subst LeftToRight columns ordered;
      counted = ap (counts b.host m) columns;
    }

module _ (h : Host) (m : Meaning) where
  -- what is accepted is a plan
  pub sound : (bytes : List ℕ) (a : Accepted) → verdict h m bytes ≡ Ok a → Sound h m bytes a
  sound bytes a e = let t = accepts h m bytes a e in sound_plan h m bytes a t.0 t.1

  pub judge_accepts : (bytes : List ℕ) (a : Accepted) → Bytes bytes → (verdict h m bytes ≡ Ok a) ↔ SheetOfPlan h m bytes a
  judge_accepts bytes a u = (
    λ e. let t = accepts h m bytes a e in (Sheets.is_plan h m bytes a t.0 u).0 t.1,
    λ s. accepted h m bytes a s.plan.family.stands ((Sheets.is_plan h m bytes a s.plan.family.stands u).1 s),
  )

  module _ (lawful : Lawful m) where
    pub plan_best : (toll : Tolls) (f : List (List ℕ)) → Plan (card_of h) m toll f → Best (card_of h) m f
    plan_best toll f plan = (Crossings.best (card_of h) m toll f (within h) lawful plan).0

    pub only_best : (bytes : List ℕ) (a : Accepted) → verdict h m bytes ≡ Ok a → Best (card_of h) m a.columns
    only_best bytes a e = plan_best (toll_of a.tolls) a.columns (sound bytes a e).plan

    -- with a plan's tolls judge tells the best families
    pub tolls_tell : (toll : Tolls) (f g : List (List ℕ)) → Plan (card_of h) m toll f → Family (card_of h) g → ByFirst g →
        IsOk (verdict h m (sheet_of h g toll)) ↔ Best (card_of h) m g
    tolls_tell toll f g plan family firsts =
        let law = Sheets.of_best h m toll f g lawful plan.allowed plan.family plan.supports family firsts in (
          λ ok. let a = ok_value (verdict h m (sheet_of h g toll)) ok in law.0 (a.0, (accepts h m (sheet_of h g toll) a.0 a.1).1),
          λ best. let a = law.1 best in ap is_ok (accepted h m (sheet_of h g toll) a.0 family.stands a.1),
        )
