-- A job read entry by entry, and told line by line. Assumes nothing.
use Rattle.std.proofs.Common.{◌≡◌, ℕ, zero, suc, ◌+◌, Some, None, Option, ◌≤◌, ltb, List, [], ◌∷◌, length, take, drop, Result, refl, ap, arith, length-drop}
use Rattle.std.proofs.lemmas.Bool.{cond_both}
use Rattle.records.specs.Records.{with_body}
use Rattle.records.specs.declared.RecordFault.{RecordFault}
use Rattle.job.specs.declared.record.Entry.{Entry}
use Rattle.job.specs.declared.record.Kind.{Kind}
use Rattle.job.specs.declared.refusal.Refusal.{Refusal}
use Rattle.job.specs.Records.{Asked, kind_of, body_length, sheet_length, record_and_rest, reading, content, behind, entries_by, entries}

-- what is left behind an entry is no longer than what came after its kind
rest_short : (b : ℕ) (bs : List ℕ) (o : Option Kind) → length (behind (record_and_rest (b ∷ bs) (with_body body_length 0 bs o))) ≤ length bs
rest_short b bs None = omega arith
rest_short b bs (Some k) =
    cond_both (ltb (length bs) (body_length k)) _ _ (λ (r : Result (Kind × List ℕ) RecordFault). length (behind (record_and_rest (b ∷ bs) r)) ≤ length bs) (λ _. omega arith)
    (λ _.
    let n = 1 + length (take (body_length k) bs) in
    let left = drop n (b ∷ bs) in omega (arith, length-drop n (b ∷ bs), length-drop (sheet_length k left) left))

behind_short : (b : ℕ) (bs : List ℕ) → length (behind (reading (b ∷ bs))) ≤ length bs
behind_short b bs = rest_short b bs (kind_of b)

-- the entry of a byte of kind, by what was read
abbrev pub entry : ℕ → Result (Asked × List ℕ) Refusal → Entry (List ℕ)
entry b r = record { kind = b; content = content r }

-- any number of turns that is not below the number of bytes will do
enough : (n m : ℕ) (bs : List ℕ) → length bs ≤ n → length bs ≤ m → entries_by n bs ≡ entries_by m bs
unfolding entries_by
enough zero zero [] h l = refl
enough zero (suc m) [] h l = refl
enough (suc n) zero [] h l = refl
enough (suc n) (suc m) [] h l = refl
enough zero m (b ∷ bs) h l = absurd (omega arith)
enough (suc n) zero (b ∷ bs) h l = absurd (omega arith)
enough (suc n) (suc m) (b ∷ bs) h l =
    let r = reading (b ∷ bs) in
    let short = behind_short b bs in
    ap (λ es. entry b r ∷ es) (enough n m (behind r) (omega arith) (omega arith))

pub entries_none : (bs : List ℕ) → length bs ≡ 0 → entries bs ≡ []
unfolding entries_by
entries_none [] h = refl
entries_none (b ∷ bs) h = absurd (omega arith)

pub entries_more : (b : ℕ) (bs : List ℕ) → entries (b ∷ bs) ≡ entry b (reading (b ∷ bs)) ∷ entries (behind (reading (b ∷ bs)))
unfolding entries_by
entries_more b bs =
    let r = reading (b ∷ bs) in
    ap (λ es. entry b r ∷ es) (enough (length bs) (length (behind r)) (behind r) (behind_short b bs) (omega arith))

fewer : (n : ℕ) (bs : List ℕ) → length (entries_by n bs) ≤ n
unfolding entries_by
fewer zero bs = omega arith
fewer (suc n) [] = omega arith
fewer (suc n) (b ∷ bs) = let h = fewer n (behind (reading (b ∷ bs))) in omega arith

pub length_entries : (job : List ℕ) → length (entries job) ≤ length job
length_entries job = fewer (length job) job
