-- Runs of records, written and read back. Assumes nothing.
use Rattle.std.proofs.Common.{◌≡◌, ℕ, ◌+◌, ◌<◌, true, cond, ◌⊎◌, List, [], ◌∷◌, ◌++◌, length, drop, Some, None, Ok, Err, Option, Result, sym, refl, ap, ◌∙◌, subst, ap₂, inl, inr, append_assoc, arith, length-append}
use Rattle.std.specs.List.{AllByRecursion}
use Rattle.std.proofs.ByRecursion.{All-drop}
use Rattle.std.proofs.lemmas.List.{append-nil, flat_map_more, take_at, drop_at, drop-drop}
use Rattle.std.proofs.lemmas.Grind.{common_steps}
use Rattle.host.specs.Refusals.{unless}
use Rattle.sheet.specs.declared.fault.SheetFault.{SheetFault}
use Rattle.sheet.specs.declared.fault.SheetFault.TheVariants.{NoEnd}
use Rattle.sheet.specs.declared.record.Record.{Record}
use Rattle.sheet.specs.declared.record.Record.TheVariants as r
use Rattle.sheet.specs.declared.state.State.{State}
use Rattle.sheet.specs.declared.state.State.TheVariants as s
use Rattle.sheet.specs.declared.writer.Refusal.{Refusal}
use Rattle.sheet.specs.Records.{bytes, size, is_end, all_bytes}
use Rattle.sheet.specs.Readings.{next, Reading, stops, ends, then, reading_from}
use Rattle.sheet.specs.Runs.{run_from, run, placed, Fits, Desk, put_on, after_puts, done_of, Wrote}
use Rattle.sheet.specs.Turns.{turn}
use Rattle.sheet.specs.Writers.{laid, put_refusal, put_done, put_buffer, writer_after}
use Rattle.sheet.proofs.Bodies.{Bytes, length_bytes}
use Rattle.sheet.proofs.Nexts.{took, takes}
use Rattle.sheet.proofs.Readings.{reading_stops, reading_took}

-- behind the end nothing is in turn
turn-ended : (x : Record) → turn s.Ended x ≡ None
turn-ended x = grind arith

pub end_ends : (a b : State) (x : Record) → is_end x ≡ true → turn a x ≡ Some b → b ≡ s.Ended
end_ends a b x e t = grind arith

pub only_end : (x : Record) → is_end x ≡ true → x ≡ r.End
only_end x e = grind arith

run-none : (xs : List Record) → run_from None xs ≡ None
run-none [] = refl
run-none (x ∷ xs) = refl

-- a run of records: its first is in turn, and the others are from there on
pub run_first : (a last : State) (x : Record) (xs : List Record) → run a (x ∷ xs) ≡ Some last → (b : State) × (turn a x ≡ Some b) × (run b xs ≡ Some last)
run_first a last x xs e = go (turn a x) refl
  where
    go : (o : Option State) → turn a x ≡ o → (b : State) × (turn a x ≡ Some b) × (run b xs ≡ Some last)
    go None t = let wrong : None ≡ Some last = sym (run-none xs) ∙ ap (λ (o : Option State). run_from o xs) (sym t) ∙ e in absurd (cc)
    go (Some b) t = (b, t, ap (λ (o : Option State). run_from o xs) (sym t) ∙ e)

-- nothing follows the end in a run
none_behind : (a last : State) (x : Record) (xs : List Record) → is_end x ≡ true → turn a x ≡ Some last → (end : State) → run last xs ≡ Some end → xs ≡ []
none_behind a last x [] e t end q = refl
none_behind a last x (y ∷ xs) e t end q =
    let p = run_first last end y xs q in
    let wrong : None ≡ Some p.0 = sym (turn-ended y) ∙ ap (λ (b : State). turn b y) (sym (end_ends a last x e t)) ∙ p.1 in
    absurd (cc)

pub reads_from : (xs : List Record) (a : State) (at : ℕ) (last : State) → AllByRecursion Fits xs → run a xs ≡ Some last →
    reading_from a at (all_bytes xs) ≡ placed at xs
reads_from [] a at last f e = reading_stops a at [] (NoEnd at) refl
reads_from (x ∷ xs) a at last f e =
    let p = run_first a last x xs e in
    let took_x = takes a at x p.0 (all_bytes xs) f.0 p.1 (λ end. ap all_bytes (none_behind a p.0 x xs end p.1 last p.2)) in
    let rest : drop (size x) (bytes x ++ all_bytes xs) ≡ all_bytes xs = drop_at (bytes x) (all_bytes xs) (size x) (length_bytes x) in
    reading_took a at (bytes x ++ all_bytes xs) (x, p.0) took_x
    ∙ ap (λ (m : Reading). cond (is_end x) (ends at) (then at x m)) (ap (reading_from p.0 (at + size x)) rest ∙ reads_from xs p.0 (at + size x) last f.1 p.2)

-- only where no bytes are left does a reading miss the end
bytes_left : (a : State) (at b : ℕ) (bs : List ℕ) (n : ℕ) → next a at (b ∷ bs) ≡ Err (NoEnd n) → ⊥
bytes_left a at b bs n e = grind arith

-- readings that begin alike
abbrev begun : ℕ → Record → Reading → Reading
begun at x m = cond (is_end x) (ends at) (then at x m)

some_begun : (f : SheetFault) (at : ℕ) (x : Record) (m : Reading) → stops f ≡ begun at x m → ⊥
some_begun f at x m e = grind arith

begun-same : (at : ℕ) (x y : Record) (m n : Reading) → begun at x m ≡ begun at y n → (x ≡ y) × ((is_end x ≡ true) ⊎ (m ≡ n))
begun-same at x y m n e = grind (arith, only_end)

pub lost_from : (xs : List Record) (a : State) (at : ℕ) (bs : List ℕ) (last : State) → Bytes bs → run a xs ≡ Some last →
    reading_from a at bs ≡ placed at xs → bs ≡ all_bytes xs
lost_from [] a at [] last u e q = refl
lost_from [] a at (b ∷ bs) last u e q = absurd (go (next a at (b ∷ bs)) refl)
  where
    go : (o : Result (Record × State) SheetFault) → next a at (b ∷ bs) ≡ o → ⊥
    go (Err f) n =
        let same : stops f ≡ stops (NoEnd at) = sym (reading_stops a at (b ∷ bs) f n) ∙ q in
        let is : f ≡ NoEnd at = cc in
        bytes_left a at b bs at (n ∙ ap Err is)
    go (Ok p) n = some_begun (NoEnd at) at p.0 _ (sym q ∙ reading_took a at (b ∷ bs) p n)
lost_from (x ∷ xs) a at bs last u e q = go (next a at bs) refl (λ a' at' rest. lost_from xs a' at' rest last)
  where
    go : (o : Result (Record × State) SheetFault) → next a at bs ≡ o →
        ((a' : State) (at' : ℕ) (rest : List ℕ) → Bytes rest → run a' xs ≡ Some last → reading_from a' at' rest ≡ placed at' xs → rest ≡ all_bytes xs) →
        bs ≡ bytes x ++ all_bytes xs
    go (Err f) n more = absurd (some_begun f at x _ (sym (reading_stops a at bs f n) ∙ q))
    go (Ok p) n more =
        let rest = drop (size p.0) bs in
        let t = took a at bs p n in
        let first = run_first a last x xs e in
        let alike = begun-same at p.0 x _ _ (sym (reading_took a at bs p n) ∙ q) in
        let state : Some p.1 ≡ Some first.0 = sym t.turned ∙ ap (turn a) alike.0 ∙ first.1 in
        let same_state : p.1 ≡ first.0 = cc in
        let tail : rest ≡ all_bytes xs = elim alike.1 [
          | inl end ↦
              t.ended end ∙ sym (ap all_bytes (none_behind a first.0 x xs (ap is_end (sym alike.0) ∙ end) first.1 last first.2))
          | inr same ↦
              more p.1 (at + size p.0) rest (All-drop (λ b. b < 256) (size p.0) bs u) (ap (λ (b : State). run b xs) same_state ∙ first.2)
              (same ∙ ap (λ (y : Record). placed (at + size y) xs) (sym alike.0))
        ] in
        t.wrote u ∙ ap₂ (λ (y : Record) (ys : List ℕ). bytes y ++ ys) alike.0 tail

-- runs that are read alike are the same
pub placed-same : (xs ys : List Record) (a last last' : State) (at : ℕ) → run a xs ≡ Some last → run a ys ≡ Some last' → placed at xs ≡ placed at ys → xs ≡ ys
placed-same [] [] a last last' at p q e = refl
placed-same [] (y ∷ ys) a last last' at p q e = absurd (some_begun (NoEnd at) at y _ e)
placed-same (x ∷ xs) [] a last last' at p q e = absurd (some_begun (NoEnd at) at x _ (sym e))
placed-same (x ∷ xs) (y ∷ ys) a last last' at p q e =
    let one = run_first a last x xs p in
    let two = run_first a last' y ys q in
    let alike = begun-same at x y _ _ e in
    let state : Some two.0 ≡ Some one.0 = sym two.1 ∙ ap (turn a) (sym alike.0) ∙ one.1 in
    let same_state : two.0 ≡ one.0 = cc in
    ap₂ (λ (w : Record) (ws : List Record). w ∷ ws) alike.0 (elim alike.1 [
      | inl end ↦
          none_behind a one.0 x xs end one.1 last one.2 ∙ sym (none_behind a two.0 y ys (ap is_end (sym alike.0) ∙ end) two.1 last' two.2)
      | inr same ↦
          placed-same xs ys one.0 last last' (at + size x) one.2 (ap (λ (b : State). run b ys) (sym same_state) ∙ two.2)
          (same ∙ ap (λ (w : Record). placed (at + size w) ys) (sym alike.0))
    ])

-- a writer's calls, one by one
push_bytes : (ys : List Record) (x : Record) → all_bytes (ys ++ x ∷ []) ≡ all_bytes ys ++ bytes x
push_bytes ys x = sym (flat_map_more bytes [] ys x)

pub run_append : (o : Option State) (xs ys : List Record) → run_from o (xs ++ ys) ≡ run_from (run_from o xs) ys
run_append o [] ys = refl
run_append None (x ∷ xs) ys = sym (run-none ys)
run_append (Some a) (x ∷ xs) ys = run_append (turn a x) xs ys

laid-more : (text more buffer : List ℕ) → laid (length text) more (laid 0 text buffer) ≡ laid 0 (text ++ more) buffer
laid-more text more buffer =
    let n = length text in
    let rest = drop (0 + n) buffer in
    let back : drop (n + length more) (text ++ rest) ≡ drop (length more) rest =
    sym (drop-drop (length more) n (text ++ rest)) ∙ ap (drop (length more)) (drop_at text rest n refl) in
    let far : drop (length more) rest ≡ drop (0 + length (text ++ more)) buffer =
    drop-drop (length more) (0 + n) buffer ∙ ap (λ (m : ℕ). drop m buffer) (omega (arith, length-append text more)) in
    ap₂ (λ (a b : List ℕ). a ++ (more ++ b)) (take_at text rest n refl) (back ∙ far) ∙ sym (append_assoc text more (drop (0 + length (text ++ more)) buffer))

wrote_one : (buffer : List ℕ) (ys : List Record) (d : Desk) (x : Record) → Wrote buffer ys d → put_refusal d.writer x (length d.buffer) ≡ None →
    Wrote buffer (ys ++ x ∷ []) (put_on d x)
wrote_one buffer ys d x w fits = record {
  bytes = grind (arith, common_steps, laid-more, push_bytes);
  place = grind (arith, common_steps, length_bytes, push_bytes);
  legal = grind (arith, run_append);
}

pub wrote_all : (buffer : List ℕ) (xs ys : List Record) (d : Desk) → Wrote buffer ys d → Wrote buffer (ys ++ done_of d xs) (after_puts d xs)
wrote_all buffer [] ys d w = subst (λ (zs : List Record). Wrote buffer zs d) (sym (append-nil ys)) w
wrote_all buffer (x ∷ xs) ys d w = go (put_refusal d.writer x (length d.buffer)) refl (λ zs v. wrote_all buffer xs zs (put_on d x) v)
  where
    rest : List Record
    rest = done_of (put_on d x) xs

    go : (o : Option Refusal) → put_refusal d.writer x (length d.buffer) ≡ o →
        ((zs : List Record) → Wrote buffer zs (put_on d x) → Wrote buffer (zs ++ rest) (after_puts (put_on d x) xs)) →
        Wrote buffer (ys ++ done_of d (x ∷ xs)) (after_puts (put_on d x) xs)
    go (Some f) e more =
        let writer : writer_after d.writer x (length d.buffer) ≡ d.writer = ap (λ (o : Option Refusal). unless o d.writer (put_done d.writer x)) e in
        let page : put_buffer d.writer x d.buffer ≡ d.buffer = ap (λ (o : Option Refusal). unless o d.buffer (laid d.writer.reader.at (bytes x) d.buffer)) e in
        let same : d ≡ put_on d x = λ i. record { writer = sym writer i; buffer = sym page i } in
        let skipped : rest ≡ done_of d (x ∷ xs) = sym (ap (λ (o : Option Refusal). unless o rest (x ∷ rest)) e) in
        subst (λ (zs : List Record). Wrote buffer (ys ++ zs) (after_puts (put_on d x) xs)) skipped (more ys (subst (Wrote buffer ys) same w))
    go None e more =
        let kept : (ys ++ x ∷ []) ++ rest ≡ ys ++ done_of d (x ∷ xs) =
        append_assoc ys (x ∷ []) rest ∙ ap (λ (zs : List Record). ys ++ zs) (sym (ap (λ (o : Option Refusal). unless o rest (x ∷ rest)) e)) in
        subst (λ (zs : List Record). Wrote buffer zs (after_puts (put_on d x) xs)) kept (more (ys ++ x ∷ []) (wrote_one buffer ys d x w e))
