-- What a writer holds once a job is answered. Assumes nothing.
use Rattle.std.specs.Prelude.{ℕ, List, Option}
use Rattle.std.specs.Io.KnownBytes.{Appends}
use Rattle.job.specs.Listings.{Printed}

-- behind what it held stands what is printed for the job
pub record Answers (before after : Option (List ℕ)) (job : List ℕ) : Type 0 where
  pub text : List ℕ
  pub printed : Printed job text
  pub behind : Appends before after text
