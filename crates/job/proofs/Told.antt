-- Lines and listings of entries. Assumes nothing.
use Rattle.std.proofs.Common.{◌≡◌, Bool, ℕ, List, [], ◌∷◌, ◌++◌, map, Some, None, Ok, Err, Option, Result, sym, refl, ap, ◌∙◌, ap₂, subst, append-nil}
use Rattle.std.proofs.lemmas.Grind.{flat_map-append}
use Rattle.std.specs.List.{AllByRecursion, flat_map}
use Rattle.host.specs.declared.Host.{Host}
use Rattle.host.specs.declared.refusal.Refusal.{Refusal as CardRefusal}
use Rattle.host.specs.declared.size.Size.{Size as CardSize}
use Rattle.host.specs.Sizes.{tested}
use Rattle.host.specs.Refusals.{answered, unless}
use Rattle.host.specs.Changes.{marking, choosing, answer, refusal, set_by}
use Rattle.tariff.specs.Kinds.{links}
use Rattle.book.specs.Calls.{by_card, greedy_answer}
use Rattle.book.specs.Plans.{judge_answer}
use Rattle.book.proofs.Routes.{one_answer}
use Rattle.job.specs.declared.line.Line.{Line}
use Rattle.job.specs.declared.record.Call.{Call}
use Rattle.job.specs.declared.record.Call.TheVariants.{Mark, Choose, Route, Greedy, Judge}
use Rattle.job.specs.declared.record.Record.TheVariants.{Size, Call as Asks}
use Rattle.job.specs.declared.refusal.Refusal.{Refusal}
use Rattle.job.specs.declared.refusal.Refusal.TheVariants.{OutOfTurn}
use Rattle.job.specs.Records.{Asked, entries}
use Rattle.job.specs.Lines.{opened_or, sized, done, counted, changed, map_after, Reply, Answered, Replied, line, Lines, none, more, text, Told, Listing}
use Rattle.job.specs.Laws.{Entry, bytes, Closed, Fixed, whole, map_left}
use Rattle.job.proofs.Listings.{reads}
use Rattle.job.proofs.Readings.{entries_none}

-- what is answered once is answered always
answered_once : (h : Host) (c : Call (List ℕ)) (r s : Reply) → Answered h c r → Answered h c s → r ≡ s
answered_once h (Mark p x) r s a b = a ∙ sym b
answered_once h (Choose i x) r s a b = a ∙ sym b
answered_once h Route r s a b = a.2 ∙ ap counted (one_answer h links a.0 b.0 a.1 b.1) ∙ sym b.2
answered_once h Greedy r s a b = a ∙ sym b
answered_once h (Judge sheet) r s a b = a ∙ sym b

replied_once : (map : Option Host) (content : Result Asked Refusal) (r s : Reply) → Replied map content r → Replied map content s → r ≡ s
replied_once map (Err x) r s a b = a ∙ sym b
replied_once map (Ok (Size rows columns)) r s a b = a ∙ sym b
replied_once None (Ok (Asks c)) r s a b = a ∙ sym b
replied_once (Some h) (Ok (Asks c)) r s a b = answered_once h c r s a b

pub lines_once : (before : Option Host) (es : List Entry) (ls ms : List Line) → Lines before es ls → Lines before es ms → ls ≡ ms
lines_once before [] [] [] (none _) (none _) = refl
lines_once before [] [] (_ ∷ ms) _ b = elim b [ ]
lines_once before [] (_ ∷ ls) ms a _ = elim a [ ]
lines_once before (e ∷ es) [] ms a _ = elim a [ ]
lines_once before (e ∷ es) (_ ∷ ls) [] _ b = elim b [ ]
lines_once before (e ∷ es) (_ ∷ ls) (_ ∷ ms) (more _ _ r _ _ a more_a) (more _ _ s _ _ b more_b) =
    ap₂ (λ x xs. line e.kind x ∷ xs) (replied_once before e.content r s a b) (lines_once (map_after before e.content) es ls ms more_a more_b)

-- all but a route is answered in one way, so it is answered
answered_some : (h : Host) (c : Call (List ℕ)) → Fixed (Ok (Asks c)) → (r : Reply) × Answered h c r
answered_some h (Mark p x) fixed = (done (by_card (answer h (marking p x))), refl)
answered_some h (Choose i x) fixed = (done (by_card (answer h (choosing i x))), refl)
answered_some h Route fixed = elim fixed [ ]
answered_some h Greedy fixed = (counted (greedy_answer h links 4096), refl)
answered_some h (Judge sheet) fixed = (counted (judge_answer h links sheet), refl)

replied_some : (map : Option Host) (content : Result Asked Refusal) → Fixed content → (r : Reply) × Replied map content r
replied_some map (Err x) fixed = (Err x, refl)
replied_some map (Ok (Size rows columns)) fixed = (sized (tested rows columns), refl)
replied_some None (Ok (Asks c)) fixed = (Err OutOfTurn, refl)
replied_some (Some h) (Ok (Asks c)) fixed = answered_some h c fixed

pub some_list : (before : Option Host) (es : List Entry) → AllByRecursion (λ (e : Entry). Fixed e.content) es → (ls : List Line) × Lines before es ls
some_list before [] fixed = ([], none before)
some_list before (e ∷ es) fixed =
    let first = replied_some before e.content fixed.0 in
    let rest = some_list (map_after before e.content) es fixed.1 in
    (line e.kind first.0 ∷ rest.0, more before e first.0 es rest.0 first.1 rest.1)

pub told_once : (before : Option Host) (es : List Entry) (t u : List ℕ) → Told before es t → Told before es u → t ≡ u
told_once before es t u a b = a.texts ∙ ap (flat_map text) (lines_once before es a.lines b.lines a.of_entries b.of_entries) ∙ sym b.texts

pub one_each : (before : Option Host) (es : List Entry) (ls : List Line) → Lines before es ls → map (λ (l : Line). l.kind) ls ≡ map (λ (e : Entry). e.kind) es
one_each before [] [] (none _) = refl
one_each before [] (_ ∷ ls) a = elim a [ ]
one_each before (e ∷ es) [] a = elim a [ ]
one_each before (e ∷ es) (_ ∷ ls) (more _ _ r _ _ a more_a) = ap (λ ks. e.kind ∷ ks) (one_each (map_after before e.content) es ls more_a)

pub in_order : (before : Option Host) (es fs : List Entry) (ls ms : List Line) → Lines before es ls → Lines (map_left before es) fs ms → Lines before (es ++ fs) (ls ++ ms)
unfolding map_left
in_order before [] fs [] ms (none _) more_b = more_b
in_order before [] fs (_ ∷ ls) ms a more_b = elim a [ ]
in_order before (e ∷ es) fs [] ms a more_b = elim a [ ]
in_order before (e ∷ es) fs (_ ∷ ls) ms (more _ _ r _ _ a more_a) more_b = more before e r (es ++ fs) (ls ++ ms) a (in_order (map_after before e.content) es fs ls ms more_a more_b)

pub comes_apart : (before : Option Host) (es fs : List Entry) (ns : List Line) → Lines before (es ++ fs) ns →
    (ls : List Line) × (ms : List Line) × Lines before es ls × Lines (map_left before es) fs ms × (ns ≡ ls ++ ms)
unfolding map_left
comes_apart before [] fs ns a = ([], ns, none before, a, refl)
comes_apart before (e ∷ es) fs [] a = elim a [ ]
comes_apart before (e ∷ es) fs (_ ∷ ns) (more _ _ r _ _ a rest) =
    let p = comes_apart (map_after before e.content) es fs ns rest in
    (line e.kind r ∷ p.0, p.1, more before e r es p.0 a p.2, p.3, ap (λ xs. line e.kind r ∷ xs) p.4)

size_kept : (before : Option Host) (t : Result CardSize CardRefusal) (x : Refusal) → Err x ≡ sized t → opened_or before t ≡ before
size_kept before (Ok z) x e = cc
size_kept before (Err y) x e = refl

change_kept : (o : Option CardRefusal) (altered : Bool) (h d : Host) (x : Refusal) → Err x ≡ done (by_card (answered o altered)) → unless o h d ≡ h
change_kept None altered h d x e = cc
change_kept (Some y) altered h d x e = refl

call_kept : (h : Host) (c : Call (List ℕ)) (x : Refusal) → Answered h c (Err x) → changed h c ≡ h
call_kept h (Mark p s) x e = change_kept (refusal h.size (marking p s)) _ h (set_by h (marking p s)) x e
call_kept h (Choose i s) x e = change_kept (refusal h.size (choosing i s)) _ h (set_by h (choosing i s)) x e
call_kept h Route x e = refl
call_kept h Greedy x e = refl
call_kept h (Judge sheet) x e = refl

-- what is refused keeps the map
refused_keeps : (before : Option Host) (content : Result Asked Refusal) (x : Refusal) → Replied before content (Err x) → map_after before content ≡ before
refused_keeps before (Err y) x e = refl
refused_keeps before (Ok (Size rows columns)) x e = size_kept before (tested rows columns) x e
refused_keeps None (Ok (Asks c)) x e = refl
refused_keeps (Some h) (Ok (Asks c)) x e = ap Some (call_kept h c x e)

pub refused_silent : (before : Option Host) (es fs : List Entry) (e : Entry) (x : Refusal) (ls ms : List Line) →
    Lines before es ls → Lines (map_left before es) fs ms → Replied (map_left before es) e.content (Err x) →
    Lines before (es ++ e ∷ fs) (ls ++ line e.kind (Err x) ∷ ms)
refused_silent before es fs e x ls ms more_a more_b r =
    let left = map_left before es in
    in_order before es (e ∷ fs) ls (line e.kind (Err x) ∷ ms) more_a
    (more left e (Err x) fs ms r (subst (λ map. Lines map fs ms) (sym (refused_keeps left e.content x r)) more_b))

-- the lines from an entry that is refused on
refused_first : (before : Option Host) (e : Entry) (x : Refusal) (fs : List Entry) (ms : List Line) → Replied before e.content (Err x) → Lines before (e ∷ fs) ms →
    (ns : List Line) × Lines before fs ns × (ms ≡ line e.kind (Err x) ∷ ns)
refused_first before e x fs [] refused a = elim a [ ]
refused_first before e x fs (_ ∷ ns) refused (more _ _ r _ _ a rest) = (
  ns,
  subst (λ map. Lines map fs ns) (refused_keeps before e.content x refused) rest,
  ap (λ y. line e.kind y ∷ ns) (replied_once before e.content r (Err x) a refused),
)

pub refused_apart : (before : Option Host) (es fs : List Entry) (e : Entry) (x : Refusal) (ns : List Line) →
    Replied (map_left before es) e.content (Err x) → Lines before (es ++ e ∷ fs) ns →
    (ls : List Line) × (ms : List Line) × Lines before es ls × Lines (map_left before es) fs ms × (ns ≡ ls ++ line e.kind (Err x) ∷ ms)
refused_apart before es fs e x ns refused a =
    let p = comes_apart before es (e ∷ fs) ns a in
    let q = refused_first (map_left before es) e x fs p.1 refused p.3 in
    (p.0, q.0, p.2, q.1, p.4 ∙ ap (λ xs. p.0 ++ xs) q.2)

-- records alone are read as those records
alone : (rs : List Asked) → AllByRecursion Closed rs → entries (bytes rs) ≡ map whole rs
alone rs c = ap entries (sym (append-nil (bytes rs))) ∙ reads rs [] c ∙ ap (λ es. map whole rs ++ es) (entries_none [] refl) ∙ append-nil (map whole rs)

pub prefix : (rs : List Asked) (further listing told : List ℕ) → AllByRecursion Closed rs → Listing (bytes rs) listing → Told (map_left None (map whole rs)) (entries further) told →
    Listing (bytes rs ++ further) (listing ++ told)
prefix rs further listing told c a b =
    let all = map whole rs in
    record {
      lines = a.lines ++ b.lines;
      of_entries = subst (λ es. Lines None es (a.lines ++ b.lines)) (sym (reads rs further c))
          (in_order None all (entries further) a.lines b.lines (subst (λ es. Lines None es a.lines) (alone rs c) a.of_entries) b.of_entries);
      texts = ap₂ ◌++◌ a.texts b.texts ∙ sym (flat_map-append text a.lines b.lines);
    }

pub begins : (rs : List Asked) (further shorter longer : List ℕ) → AllByRecursion Closed rs → Listing (bytes rs) shorter → Listing (bytes rs ++ further) longer →
    (told : List ℕ) × Told (map_left None (map whole rs)) (entries further) told × (longer ≡ shorter ++ told)
begins rs further shorter longer c a b =
    let all = map whole rs in
    let p = comes_apart None all (entries further) b.lines (subst (λ es. Lines None es b.lines) (reads rs further c) b.of_entries) in
    let same : p.0 ≡ a.lines = lines_once None all p.0 a.lines p.2 (subst (λ es. Lines None es a.lines) (alone rs c) a.of_entries) in
    let told = flat_map text p.1 in (
      told,
      record { lines = p.1; of_entries = p.3; texts = refl },
      b.texts ∙ ap (flat_map text) p.4 ∙ flat_map-append text p.0 p.1 ∙ ap (λ ls. flat_map text ls ++ told) same ∙ ap (λ t. t ++ told) (sym a.texts),
    )

pub told_none : (before : Option Host) → Told before [] []
told_none before = record { lines = []; of_entries = none before; texts = refl }

-- an entry at the front
pub told_more : (before : Option Host) (e : Entry) (r : Reply) (es : List Entry) (told : List ℕ) →
    Replied before e.content r → Told (map_after before e.content) es told → Told before (e ∷ es) (text (line e.kind r) ++ told)
told_more before e r es told replied t = record {
  lines = line e.kind r ∷ t.lines;
  of_entries = more before e r es t.lines replied t.of_entries;
  texts = ap (λ xs. text (line e.kind r) ++ xs) t.texts;
}
