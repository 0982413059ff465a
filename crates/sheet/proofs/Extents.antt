-- How far a sheet reaches, record by record. Assumes nothing.
use Rattle.std.proofs.Common.{◌≡◌, ◌≢◌, ℕ, zero, suc, ◌+◌, ◌≤◌, List, [], ◌∷◌, length, drop, Ok, Err, Result, refl, ap, ◌∙◌, arith, length-drop}
use Rattle.records.specs.declared.RecordFault.{RecordFault}
use Rattle.records.proofs.Found.{found}
use Rattle.sheet.specs.declared.record.Kind.{Kind}
use Rattle.sheet.specs.declared.record.Kind.TheVariants as k
use Rattle.sheet.specs.Records.{kind_of, body_length, record_from}
use Rattle.sheet.specs.Extents.{through, extent_by, extent}

-- a record that was found lies in the bytes
room : (bs : List ℕ) (p : Kind × List ℕ) → record_from 0 bs ≡ Ok p → 1 + length p.1 ≤ length bs
room [] p e = absurd (cc)
room (b ∷ bs) p e = let f = found kind_of body_length 0 b bs p e in omega (arith, f.room, f.long)

-- two ways on that agree on shorter bytes reach as far
same_through : (bs : List ℕ) (f g : List ℕ → ℕ) (r : Result (Kind × List ℕ) RecordFault) → ((p : Kind × List ℕ) → r ≡ Ok p → 1 + length p.1 ≤ length bs) →
    ((cs : List ℕ) → 1 + length cs ≤ length bs → f cs ≡ g cs) → through bs f r ≡ through bs g r
same_through bs f g (Err x) in_bytes same = refl
same_through bs f g (Ok (k.End, body)) in_bytes same = refl
same_through bs f g (Ok (kind, body)) in_bytes same =
    let n = 1 + length body in
    let h = in_bytes (kind, body) refl in
    ap (λ m. n + m) (same (drop n bs) (omega (arith, length-drop n bs)))

-- any number of turns that is not below the number of bytes will do
enough : (n m : ℕ) (bs : List ℕ) → length bs ≤ n → length bs ≤ m → extent_by n bs ≡ extent_by m bs
unfolding extent_by
enough zero zero bs h l = refl
enough zero (suc m) [] h l = refl
enough (suc n) zero [] h l = refl
enough zero (suc m) (b ∷ bs) h l = absurd (omega arith)
enough (suc n) zero (b ∷ bs) h l = absurd (omega arith)
enough (suc n) (suc m) bs h l = same_through bs (extent_by n) (extent_by m) (record_from 0 bs) (room bs) (λ cs s. enough n m cs (omega arith) (omega arith))

-- a sheet reaches through its first record and on from there
pub extent_on : (bs : List ℕ) → extent bs ≡ through bs extent (record_from 0 bs)
unfolding extent_by
extent_on [] = refl
extent_on (b ∷ bs) =
    same_through (b ∷ bs) (extent_by (length bs)) extent (record_from 0 (b ∷ bs)) (room (b ∷ bs)) (λ cs s. enough (length bs) (length cs) cs (omega arith) (omega arith))

-- where a record was found, or was not
module _ (bs : List ℕ) where
  pub extent_fault : (x : RecordFault) → record_from 0 bs ≡ Err x → extent bs ≡ length bs
  extent_fault x e = extent_on bs ∙ ap (through bs extent) e

  pub extent_end : (body : List ℕ) → record_from 0 bs ≡ Ok (k.End, body) → extent bs ≡ 1 + length body
  extent_end body e = extent_on bs ∙ ap (through bs extent) e

  pub extent_more : (kind : Kind) (body : List ℕ) → kind ≢ k.End → record_from 0 bs ≡ Ok (kind, body) → extent bs ≡ 1 + length body + extent (drop (1 + length body) bs)
  extent_more kind body go e = extent_on bs ∙ ap (through bs extent) e ∙ on kind go
    where
      on : (kind : Kind) → kind ≢ k.End → through bs extent (Ok (kind, body)) ≡ 1 + length body + extent (drop (1 + length body) bs)
      on k.End go = absurd (go refl)
      on k.Head go = refl
      on k.Start go = refl
      on k.Left go = refl
      on k.Straight go = refl
      on k.Right go = refl
      on k.Toll go = refl
