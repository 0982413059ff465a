-- The first 60,001 bytes of a job settle what is printed for it. Assumes nothing.
use Rattle.std.proofs.Common.{◌≡◌, ℕ, Bool, true, false, ltb, List, length, take, None, MatchBool, refl, sym, ap, subst, arith}
use Rattle.std.proofs.lemmas.Bool.{ltb-true, ltb-false}
use Rattle.std.proofs.lemmas.List.{take_all, length-take-le}
use Rattle.job.specs.declared.refusal.ListingRefusal.TheVariants.{LongJob}
use Rattle.job.specs.Refusals.{listing_number}
use Rattle.job.specs.Lines.{refused, Listing}
use Rattle.job.specs.Listings.{fitted, printed_as, Printed}

-- what is printed for a job that is too long, or not, as a test says
As : List ℕ → List ℕ → Bool → Type 0
As job text long = MatchBool long (text ≡ refused (listing_number LongJob) None) ((t : List ℕ) × Listing job t × (text ≡ printed_as (fitted t 65536) t))

pub settled : (job text : List ℕ) → Printed (take 60001 job) text → Printed job text
unfolding As
settled job text p = by (ltb 60000 (length job)) refl
  where
    by : (b : Bool) → ltb 60000 (length job) ≡ b → Printed job text
    by false e = subst (λ j. Printed j text) (take_all 60001 job (omega (arith, ltb-false 60000 (length job) e))) p
    by true e =
        let cut : length (take 60001 job) ≡ 60001 = length-take-le 60001 job (omega (arith, ltb-true 60000 (length job) e)) in
        let said : As (take 60001 job) text true = subst (As (take 60001 job) text) (ap (ltb 60000) cut) p in
        subst (As job text) (sym e) said
