-- A listing in a buffer. Assumes nothing.
use Rattle.std.proofs.Common.{◌≡◌, ℕ, ◌≤◌, Bool, true, false, ltb, List, length, take, None, Ok, Err, Result, MatchBool, sym, ap, ◌∙◌, subst, rules, arith}
use Rattle.std.proofs.lemmas.Bool.{cond-false, le-ltb}
use Rattle.std.proofs.lemmas.List.{same_lists, places}
use Rattle.greedy.specs.Answers.{at_front}
use Rattle.job.specs.declared.refusal.ListingRefusal.{ListingRefusal}
use Rattle.job.specs.declared.refusal.ListingRefusal.TheVariants.{LongJob}
use Rattle.job.specs.Records.{entries}
use Rattle.job.specs.Refusals.{listing_number}
use Rattle.job.specs.Lines.{refused, Listing}
use Rattle.job.specs.Listings.{Laying, fitted, written, Answered, printed_as, Printed}
use Rattle.job.specs.Pages.{Laid}
use Rattle.job.proofs.Overlays.{overlaid_front}
use Rattle.job.proofs.Told.{told_once}

module _ (job buffer : List ℕ) (short : length job ≤ 60000) where
  -- a listing that has room is answered, and stands in the buffer
  pub answered : (text after : List ℕ) (n : ℕ) → Listing job text → n ≡ length text → length text ≤ length buffer → after ≡ at_front text buffer → Answered job buffer (Ok n) after
  answered text after n lists long room is =
      subst (λ b. MatchBool b ((Ok n ≡ Err LongJob) × (after ≡ buffer)) ((text : List ℕ) × Listing job text × ((Ok n ≡ fitted text (length buffer)) × (after ≡ written (Ok n) text buffer))))
      (sym (le-ltb 60000 (length job) short))
      (text, lists, (ap Ok long ∙ sym (cond-false _ _ _ (le-ltb (length buffer) (length text) room)), is))

  -- what was laid over a buffer that has room for it is a listing in place
  pub in_place : (after : List ℕ) {n : ℕ} → Laying job buffer after n → n ≤ length buffer → Answered job buffer (Ok n) after
  in_place after {n = n} a room =
      let fits : length a.text ≤ length buffer = omega (arith, a.laid.behind, room) in
      answered a.text after n a.lists (omega (arith, a.laid.behind)) fits (a.laid.over ∙ overlaid_front buffer a.text fits)

  -- what was first laid over a page, and then once more over the buffer, is one listing
  pub again : {page first : List ℕ} (after : List ℕ) {n m : ℕ} → Laying job page first n → n ≤ length buffer → Laying job buffer after m → Answered job buffer (Ok m) after
  again after {m = m} a room b =
      let same : a.text ≡ b.text = told_once None (entries job) a.text b.text a.lists b.lists in
      in_place after b (omega (arith, a.laid.behind, b.laid.behind, ap length same, room))

-- what was laid over a page that is long enough can be read from it
pub front : {page text after : List ℕ} {n : ℕ} → Laid page 0 text after n → n ≤ length page → take n after ≡ text
front {page = page} {text = text} {n = n} l room =
    let fits : length text ≤ length page = omega (arith, l.behind, room) in
    ap (take n) (l.over ∙ overlaid_front page text fits) ∙ cut n (omega (arith, l.behind))
  where
    cut : (n : ℕ) → n ≡ length text → take n (at_front text page) ≡ text
    cut n e = same_lists _ _ (search (rules, places)) (λ k d h. grind (arith, places))

-- what is printed where a listing is refused
pub printed : (job buffer : List ℕ) (x : ListingRefusal) (after : List ℕ) → length buffer ≡ 65536 → Answered job buffer (Err x) after →
    (after ≡ buffer) × Printed job (refused (listing_number x) None)
printed job buffer x after long = go (ltb 60000 (length job))
  where
    go : (b : Bool) → MatchBool b ((◌≡◌ {A = Result ℕ ListingRefusal} (Err x) (Err LongJob)) × (after ≡ buffer)) ((text : List ℕ) × Listing job text × ((Err x ≡ fitted text (length buffer)) × (after ≡ buffer))) →
        (after ≡ buffer) × MatchBool b (refused (listing_number x) None ≡ refused (listing_number LongJob) None)
        ((text : List ℕ) × Listing job text × (refused (listing_number x) None ≡ printed_as (fitted text 65536) text))
    go true r = (r.1, let same : x ≡ LongJob = cc in ap (λ y. refused (listing_number y) None) same)
    go false r = (r.2.1, (r.0, r.1, ap (λ a. printed_as a r.0) (r.2.0 ∙ ap (fitted r.0) long)))
