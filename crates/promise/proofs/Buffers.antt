-- The buffer that calls write. Assumes nothing.
use Rattle.std.proofs.Common.{◌≡◌, ℕ, ◌+◌, List, [], ◌∷◌, ◌++◌, length, take, drop, fold, sym, refl, ap, ◌∙◌, length-append, take-append-drop}
use Rattle.host.specs.declared.Host.{Host}
use Rattle.book.specs.Calls.{greedy_buffer}
use Rattle.book.proofs.Lengths.{length-greedy_buffer}
use Rattle.promise.specs.declared.call.Call.{Call}
use Rattle.promise.specs.declared.call.Call.TheVariants.{Greedy}
use Rattle.promise.specs.Promise.{next, buffer_after, written}

pub length-buffer_after : (h : Host) (c : Call) (buffer : List ℕ) → length (buffer_after h c buffer) ≡ length buffer
length-buffer_after h (Greedy room) buffer =
    length-append (greedy_buffer h (take room buffer)) (drop room buffer)
    ∙ ap (λ n. n + length (drop room buffer)) (length-greedy_buffer h (take room buffer))
    ∙ sym (length-append (take room buffer) (drop room buffer))
    ∙ ap length (take-append-drop room buffer)
length-buffer_after h _ buffer = refl

pub length-written : (h : Host) (calls : List Call) (buffer : List ℕ) → length (written h calls buffer) ≡ length buffer
length-written h [] buffer = refl
length-written h (c ∷ calls) buffer = length-written (next h c) calls (buffer_after h c buffer) ∙ length-buffer_after h c buffer

-- one call more
pub written-more : (h : Host) (calls : List Call) (c : Call) (buffer : List ℕ) → written h (calls ++ c ∷ []) buffer ≡ buffer_after (fold next h calls) c (written h calls buffer)
written-more h [] c buffer = refl
written-more h (d ∷ calls) c buffer = written-more (next h d) calls c (buffer_after h d buffer)
