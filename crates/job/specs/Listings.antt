-- What is answered for a whole job, and what is then in the buffer. Assumes nothing.
use Rattle.std.specs.Prelude.{◌≡◌, ℕ, ◌≤◌, cond, List, length, ℤ, pos, neg_ℤ, None, Ok, Err, Result, nat_lt, MatchBool}
use Rattle.greedy.specs.Answers.{at_front}
use Rattle.job.specs.declared.refusal.ListingRefusal.{ListingRefusal}
use Rattle.job.specs.declared.refusal.ListingRefusal.TheVariants.{LongJob, ShortBuffer}
use Rattle.job.specs.Refusals.{listing_number}
use Rattle.job.specs.Lines.{refused, Listing}
use Rattle.job.specs.Pages.{Laid}

-- a job of more than 60,000 bytes is refused; of any other, some text is the listing
abbrev pub Listed : List ℕ → Type 0 → (List ℕ → Type 0) → Type 0
Listed job TooLong Of = MatchBool (nat_lt 60000 (length job)) TooLong ((text : List ℕ) × Listing job text × Of text)

-- a listing is written over a page, and next is its length
pub record Laying (job page after : List ℕ) (next : ℕ) : Type 0 where
  pub text : List ℕ
  pub lists : Listing job text
  pub laid : Laid page 0 text after next

-- the length of a listing, where a buffer has so much room
abbrev pub fitted : List ℕ → ℕ → Result ℕ ListingRefusal
fitted text room = cond (nat_lt room (length text)) (Err ShortBuffer) (Ok (length text))

-- the buffer after a listing, which a refusal leaves as it was
abbrev pub written : Result ℕ ListingRefusal → List ℕ → List ℕ → List ℕ
written (Ok n) text buffer = at_front text buffer
written (Err x) text buffer = buffer

-- what is answered for a job, and the buffer after it: all of the listing, or nothing of it
abbrev pub Answered : List ℕ → List ℕ → Result ℕ ListingRefusal → List ℕ → Type 0
Answered job buffer answer after =
    Listed job ((answer ≡ Err LongJob) × (after ≡ buffer)) (λ text. (answer ≡ fitted text (length buffer)) × (after ≡ written answer text buffer))

-- what the program prints, for which it has 65,536 bytes: the listing, or the line of the refusal
abbrev pub printed_as : Result ℕ ListingRefusal → List ℕ → List ℕ
printed_as (Ok n) text = text
printed_as (Err x) text = refused (listing_number x) None

abbrev pub Printed : List ℕ → List ℕ → Type 0
Printed job printed = Listed job (printed ≡ refused (listing_number LongJob) None) (λ text. printed ≡ printed_as (fitted text 65536) text)

-- what is printed stands at the front of a page
pub record Prints (job page : List ℕ) (next : ℕ) (after : List ℕ) : Type 0 where
  pub text : List ℕ
  pub printed : Printed job text
  pub behind : next ≡ length text
  pub front : after ≡ at_front text page
  pub fits : next ≤ 65536

-- what a caller in C gets: the length, or minus the number of the refusal
abbrev pub code : Result ℕ ListingRefusal → ℤ
code (Ok n) = pos n
code (Err x) = neg_ℤ (pos (listing_number x))

pub record Coded (job buffer : List ℕ) (got : ℤ) (after : List ℕ) : Type 0 where
  pub answer : Result ℕ ListingRefusal
  pub answered : Answered job buffer answer after
  pub coded : got ≡ code answer
