-- Jobs as they are written and read. Assumes nothing.
use Rattle.std.proofs.Common.{◌≡◌, ℕ, ◌+◌, ◌≤◌, take, drop, ltb, List, [], ◌∷◌, ◌++◌, map, length, Some, None, Ok, Err, Option, Result, sym, refl, ap, ◌∙◌, ap₂, append_assoc, arith}
use Rattle.std.proofs.lemmas.Bool.{cond-false, cond_both, le-ltb, ltb-false}
use Rattle.std.proofs.Math.Seq.{take-append_seam, drop-append_seam}
use Rattle.std.proofs.lemmas.List.{take-append-drop}
use Rattle.std.specs.List.{AllByRecursion}
use Rattle.host.specs.declared.part.Part.TheVariants.{Pe, RowSwitch, ColumnSwitch}
use Rattle.records.specs.Records.{with_body}
use Rattle.sheet.specs.Extents.{extent}
use Rattle.job.specs.declared.record.Kind.{Kind}
use Rattle.job.specs.declared.record.Kind.TheVariants as k
use Rattle.job.specs.declared.record.Call.TheVariants.{Mark, Choose, Route, Greedy, Judge}
use Rattle.job.specs.declared.record.Record.TheVariants.{Size, Call as Asks}
use Rattle.job.specs.declared.refusal.Refusal.{Refusal}
use Rattle.job.specs.Records.{Asked, kind_of, body_length, sheet_length, record_of, record_and_rest, reading, content, behind, entries_by, entries}
use Rattle.job.specs.Laws.{Entry, kind, body, bytes, Closed, whole}
use Rattle.job.proofs.Readings.{entry, entries_more}

-- a body that is long enough makes a record
complete : (b : ℕ) (k : Kind) (bs : List ℕ) → kind_of b ≡ Some k → body_length k ≤ length bs → reading (b ∷ bs) ≡ record_and_rest (b ∷ bs) (Ok (k, take (body_length k) bs))
complete b k bs e h = ap (record_and_rest (b ∷ bs)) (ap (with_body body_length 0 bs) e ∙ cond-false _ _ _ (le-ltb (length bs) (body_length k) h))

-- a sheet is cut off where it ends
cut : (n : ℕ) (sheet more : List ℕ) → n ≡ length sheet → ◌≡◌ {A = Result (Asked × List ℕ) Refusal} (Ok (Asks (Judge (take n (sheet ++ more))), drop n (sheet ++ more))) (Ok (Asks (Judge sheet), more))
cut n sheet more e =
    ap (λ m. Ok (Asks (Judge (take m (sheet ++ more))), drop m (sheet ++ more))) e
    ∙ ap₂ (λ x y. Ok (Asks (Judge x), y)) (take-append_seam sheet more) (drop-append_seam sheet more)

read_back : (r : Asked) (more : List ℕ) → Closed r → reading (kind r ∷ body r ++ more) ≡ Ok (r, more)
read_back (Size rows columns) more c = complete 16 k.Size (rows ∷ columns ∷ more) refl (omega arith)
read_back (Asks (Mark (Pe i j) s)) more c = complete 17 k.MarkPe (i ∷ j ∷ s ∷ more) refl (omega arith)
read_back (Asks (Mark (RowSwitch i j) s)) more c = complete 18 k.MarkRowSwitch (i ∷ j ∷ s ∷ more) refl (omega arith)
read_back (Asks (Mark (ColumnSwitch i j) s)) more c = complete 19 k.MarkColumnSwitch (i ∷ j ∷ s ∷ more) refl (omega arith)
read_back (Asks (Choose i s)) more c = complete 20 k.Choose (i ∷ s ∷ more) refl (omega arith)
read_back (Asks Route) more c = complete 21 k.Route more refl (omega arith)
read_back (Asks Greedy) more c = complete 22 k.Greedy more refl (omega arith)
read_back (Asks (Judge sheet)) more c = complete 23 k.Judge (sheet ++ more) refl (omega arith) ∙ cut (extent (sheet ++ more)) sheet more (c more)

-- a record that was read is as it is written
body_first : (b : ℕ) (k : Kind) (bs : List ℕ) → body_length k ≤ length bs →
    let cut = take (body_length k) bs in
    let left = drop (1 + length cut) (b ∷ bs) in
    let n = sheet_length k left in bs ≡ body (record_of k cut (take n left)) ++ drop n left
body_first b k.Size (x ∷ y ∷ more) h = refl
body_first b k.MarkPe (x ∷ y ∷ z ∷ more) h = refl
body_first b k.MarkRowSwitch (x ∷ y ∷ z ∷ more) h = refl
body_first b k.MarkColumnSwitch (x ∷ y ∷ z ∷ more) h = refl
body_first b k.Choose (x ∷ y ∷ more) h = refl
body_first b k.Route bs h = refl
body_first b k.Greedy bs h = refl
body_first b k.Judge bs h = sym (take-append-drop (extent bs) bs)
body_first b _ _ h = absurd (omega arith)

fault_ends : (r : Result (Asked × List ℕ) Refusal) (x : Refusal) → content r ≡ Err x → behind r ≡ []
fault_ends (Err y) x e = refl
fault_ends (Ok p) x e = cc

written : (b : ℕ) (bs : List ℕ) (o : Option Kind) (r : Asked) → let read = record_and_rest (b ∷ bs) (with_body body_length 0 bs o) in content read ≡ Ok r → bs ≡ body r ++ behind read
written b bs None r = λ e. cc
written b bs (Some k) r =
    let given = record_and_rest (b ∷ bs) in
    cond_both (ltb (length bs) (body_length k)) _ _ (λ x. content (given x) ≡ Ok r → bs ≡ body r ++ behind (given x)) (λ _ e. cc)
    (λ long e.
    let cut = take (body_length k) bs in
    let left = drop (1 + length cut) (b ∷ bs) in
    let n = sheet_length k left in
    let same : record_of k cut (take n left) ≡ r = cc in body_first b k bs (ltb-false _ _ long) ∙ ap (λ y. body y ++ drop n left) same)

pub reads : (rs : List Asked) (more : List ℕ) → AllByRecursion Closed rs → entries (bytes rs ++ more) ≡ map whole rs ++ entries more
reads [] more c = refl
reads (r ∷ rs) more c =
    let rest = bytes rs ++ more in
    ap entries (append_assoc (kind r ∷ body r) (bytes rs) more)
    ∙ entries_more (kind r) (body r ++ rest)
    ∙ ap (λ x. entry (kind r) x ∷ entries (behind x)) (read_back r rest c.0)
    ∙ ap (λ is. whole r ∷ is) (reads rs more c.1)

pub fault_last : (job : List ℕ) (is js : List Entry) (i : Entry) (x : Refusal) → entries job ≡ is ++ i ∷ js → i.content ≡ Err x → js ≡ []
unfolding entries_by
fault_last [] [] js i x e f = cc
fault_last [] (k ∷ is) js i x e f = cc
fault_last (b ∷ bs) [] js i x e f =
    let r = reading (b ∷ bs) in
    let all = sym (entries_more b bs) ∙ e in
    let first : content r ≡ i.content = cc in
    let rest : entries (behind r) ≡ js = cc in
    sym rest ∙ ap entries (fault_ends r x (first ∙ f))
fault_last (b ∷ bs) (k ∷ is) js i x e f =
    let all = sym (entries_more b bs) ∙ e in
    let rest : entries (behind (reading (b ∷ bs))) ≡ is ++ i ∷ js = cc in
    fault_last (behind (reading (b ∷ bs))) is js i x rest f

pub nothing_lost : (job : List ℕ) (rs : List Asked) → entries job ≡ map whole rs → job ≡ bytes rs
unfolding entries_by
nothing_lost [] [] e = refl
nothing_lost [] (r ∷ rs) e = cc
nothing_lost (b ∷ bs) [] e = cc
nothing_lost (b ∷ bs) (r ∷ rs) e =
    let read = reading (b ∷ bs) in
    let all = sym (entries_more b bs) ∙ e in
    let first : entry b read ≡ whole r = cc in
    let rest : entries (behind read) ≡ map whole rs = cc in
    ap₂ ◌∷◌ (ap (λ (y : Entry). y.kind) first) (written b bs (kind_of b) r (ap (λ (y : Entry). y.content) first))
    ∙ ap (λ more. kind r ∷ body r ++ more) (nothing_lost (behind read) rs rest)
