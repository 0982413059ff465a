-- A listing that is being written: what is laid, and what is still told. Assumes nothing.
use Rattle.std.proofs.Common.{◌≡◌, ℕ, List, [], ◌∷◌, ◌++◌, None, Option, sym, subst, append_assoc, append-nil}
use Rattle.host.specs.declared.Host.{Host}
use Rattle.job.specs.Laws.{Entry}
use Rattle.job.specs.Lines.{Reply, map_after, Replied, line, text, Told, Listing}
use Rattle.job.specs.Listings.{Laying}
use Rattle.job.specs.Pages.{Laid}
use Rattle.job.specs.Records.{entries}
use Rattle.job.proofs.Overlays.{laid_none, laid_then}
use Rattle.job.proofs.Told.{told_none, told_more}

-- some text is laid, and with whatever the entries that are left tell it is the listing
pub record Midway (job first page : List ℕ) (at : ℕ) (map : Option Host) (left : List Entry) : Type 0 where
  pub written : List ℕ
  pub laid : Laid first 0 written page at
  pub goes_on : (told : List ℕ) → Told map left told → Listing job (written ++ told)

pub begins : (job first : List ℕ) → Midway job first first 0 None (entries job)
begins job first = record { written = []; laid = laid_none first; goes_on = λ told t. t }

module _ {job first page : List ℕ} {at : ℕ} {map : Option Host} where
  -- the line of an entry is laid behind what is written
  pub laid_more : {after : List ℕ} {next : ℕ} (e : Entry) (r : Reply) (es left : List Entry) → left ≡ e ∷ es → Replied map e.content r → Laid page at (text (line e.kind r)) after next →
      Midway job first page at map left → Midway job first after next (map_after map e.content) es
  laid_more e r es left is replied l m = record {
    written = m.written ++ text (line e.kind r);
    laid = laid_then m.written (text (line e.kind r)) m.laid l;
    goes_on = λ told t.
        subst (λ xs. Listing job xs) (sym (append_assoc m.written (text (line e.kind r)) told))
        (m.goes_on (text (line e.kind r) ++ told) (subst (λ es. Told map es (text (line e.kind r) ++ told)) (sym is) (told_more map e r es told replied t)));
  }

  -- with no entry left the listing is laid
  pub laid_all : (left : List Entry) → left ≡ [] → Midway job first page at map left → Laying job first page at
  laid_all left is m = record {
    text = m.written;
    lists = subst (λ xs. Listing job xs) (append-nil m.written) (m.goes_on [] (subst (λ es. Told map es []) (sym is) (told_none map)));
    laid = m.laid;
  }
