-- The promise is kept. Assumes nothing.
use Rattle.std.proofs.Common.{Bool, ◌≡◌, ℕ, ◌↔◌, true, false, cond, ◌⊎◌, List, [], ◌∷◌, ◌++◌, length, Some, None, Ok, Err, Option, Result, is_some, IsSome, IfSome, IsSomeAnd, MatchBool, sym, refl, ap, ap₂, ◌∙◌, subst, inl, inr}
use Rattle.std.proofs.lemmas.Bool.{cases_Bool}
use Rattle.host.specs.declared.Host.{Host}
use Rattle.host.specs.declared.size.Size.{Size}
use Rattle.host.specs.Changes.{opened}
use Rattle.host.specs.Laws.{state, Whole}
use Rattle.tariff.specs.Meaning.{Meaning, Lawful}
use Rattle.plans.specs.Columns.{Card, standing}
use Rattle.plans.specs.Families.{Best, total_charge}
use Rattle.plans.specs.Held.{held_columns, held_tolls}
use Rattle.plans.specs.Tolls.{Plan}
use Rattle.plans.specs.declared.held.HeldPlan.{HeldPlan}
use Rattle.routable.specs.Cards.{card_of}
use Rattle.verdict.specs.Theorems.{LeftToRight}
use Rattle.book.specs.declared.Book.{Book}
use Rattle.book.specs.declared.refusal.Refusal.{Refusal}
use Rattle.book.specs.declared.refusal.Refusal.TheVariants.{NoRow}
use Rattle.book.specs.Books.{counts, columns, tolls}
use Rattle.book.specs.Calls.{rowless}
use Rattle.promise.specs.declared.call.Call.{Call}
use Rattle.promise.specs.declared.call.Call.TheVariants.{Route}
use Rattle.promise.specs.Promise.{next, map_after, altering, Makes, LastPlan, Answer, counted, Answered, buffer_after, written, HoldsPlan, Promise}
use Rattle.promise.specs.Runs.{State, start, Step, Run, none, more}
use Rattle.promise.proofs.Lasts.{nothing_last, lasts}
use Rattle.promise.proofs.LastPlans.{Keeps, Before, last_here, last_before, last_or_before}
use Rattle.promise.proofs.Maps.{map-more, whole-map, card-next, last_decides}
use Rattle.promise.proofs.Plans.{judge_accepts, only_best, plan_best, tolls_tell}
use Rattle.promise.proofs.Buffers.{length-written, written-more}
use Rattle.promise.proofs.Steps.{OfSheet, Making, Keeping, Stepped, stepped}

-- what a step needs of the calls before it
record Kept {T : Type 0} (z : Size) (tariff : T) (m : Meaning) (calls : List Call) (book : Book T) (reply : Option Answer) (old new : List ℕ) : Type 0 where
  same_tariff : book.tariff ≡ tariff
  map : book.host ≡ map_after z calls
  held : IsSome book.counts ↔ LastPlan z m calls
  of_last : (l : LastPlan z m calls) → IsSomeAnd book.counts (λ p. Answered m (map_after z l.before) (length old) l.maker (counted (Ok p)))
  of_sheet : (l : LastPlan z m calls) → OfSheet m (map_after z l.before) l.maker book.plan
  plan : IfSome book.counts (HoldsPlan m book)
  plan_answered : (xs : List Call) (c : Call) → calls ≡ xs ++ c ∷ [] → Makes m (map_after z xs) c →
      (p : ℕ × ℕ) × (book.counts ≡ Some p) × (reply ≡ Some (counted (Ok p)))
  last_reply : (xs : List Call) (c : Call) → calls ≡ xs ++ c ∷ [] → IsSomeAnd reply (Answered m (map_after z xs) (length old) c)
  no_reply : calls ≡ [] → reply ≡ None
  buffer : new ≡ written (opened z) calls old

if_some : {X : Type 0} (o : Option X) (P : X → Type 0) → ((x : X) → o ≡ Some x → P x) → IfSome o P
if_some None P each = tt
if_some (Some x) P each = each x refl

some_of : {X : Type 0} (o : Option X) → IsSome o → (x : X) × (o ≡ Some x)
some_of None e = cc
some_of (Some x) e = (x, refl)

at_some : {X : Type 0} (o : Option X) (P : X → Type 0) → IfSome o P → (x : X) → o ≡ Some x → P x
at_some None P all x e = cc
at_some (Some y) P all x e = subst P (same e) all
  where
    same : Some y ≡ Some x → y ≡ x
    same e = cc

-- a plan that is held for a card is held for the same card
held_same : {T : Type 0} (m : Meaning) (b new : Book T) (p : ℕ × ℕ) → card_of new.host ≡ card_of b.host → new.plan ≡ b.plan → HoldsPlan m b p → HoldsPlan m new p
held_same m b new p card plan h = record {
  plan = on (λ c q. Plan c m (held_tolls q) (held_columns q (standing c) p.0)) h.plan;
  ordered = on (λ c q. LeftToRight (held_columns q (standing c) p.0)) h.ordered;
  counted = on (λ c q. p ≡ (length (held_columns q (standing c) p.0), total_charge c m (held_columns q (standing c) p.0))) h.counted;
}
  where
    on : (P : Card → HeldPlan → Type 0) → P (card_of b.host) b.plan → P (card_of new.host) new.plan
    on P here = subst (λ c. P c new.plan) (sym card) (subst (P (card_of b.host)) (sym plan) here)

none_some : ¬ (false ≡ true)
none_some e = cc

-- of what a route is answered
refused : (m : Meaning) (h : Host) (bytes : ℕ) (reply : Option Answer) → IsSomeAnd reply (Answered m h bytes Route) → (reply ≡ Some (Err NoRow)) ↔ (rowless h ≡ true)
refused m h bytes None r = absurd r
refused m h bytes (Some a) r = by r.0 (rowless h) r.1 r.2
  where
    by : (x : Result (ℕ × ℕ) Refusal) (b : Bool) → MatchBool b (x ≡ Err NoRow) ((f : List (List ℕ)) × Best (card_of h) m f × (x ≡ Ok (counts h m f))) → a ≡ counted x → (Some a ≡ Some (Err NoRow)) ↔ (b ≡ true)
    by x true e told = (λ _. refl, λ _. ap Some (told ∙ ap counted e))
    by x false e told = (λ is. other is (told ∙ ap counted e.2), λ no. cc)
      where
        other : {X : Type 0} {p : ℕ × ℕ} → Some a ≡ Some (Err NoRow) → a ≡ counted (Ok p) → X
        other is e = cc

module _ {T : Type 0} (z : Size) (tariff : T) (m : Meaning) (lawful : Lawful m) where
  promised : (calls : List Call) (book : Book T) (reply : Option Answer) (old new : List ℕ) → Kept z tariff m calls book reply old new → Promise z tariff m calls book reply old new
  promised calls book reply old new k = record {
    same_tariff = k.same_tariff;
    map = k.map;
    last_decides = λ q on. ap (λ h. state h q) k.map ∙ last_decides z calls q on;
    held = k.held;
    of_last = k.of_last;
    of_sheet = k.of_sheet;
    plan = k.plan;
    best = if_some book.counts _ (λ p e. plan_best book.host m lawful (tolls book) (columns book p.0) (at_some book.counts (HoldsPlan m book) k.plan p e).plan);
    tolls_tell = λ some f family firsts. let p = some_of book.counts some in
        tolls_tell book.host m lawful (tolls book) (columns book p.0.0) f (at_some book.counts (HoldsPlan m book) k.plan p.0 p.1).plan family firsts;
    judge_accepts = judge_accepts book.host m;
    only_best = λ bytes a u. only_best book.host m lawful bytes a;
    route_refused = λ before e. refused m (map_after z before) (length old) reply (k.last_reply before Route e);
    plan_answered = k.plan_answered;
    last_reply = k.last_reply;
    no_reply = k.no_reply;
    buffer = k.buffer;
  }

  as_last : {calls : List Call} {c : Call} (l : LastPlan z m (calls ++ c ∷ [])) → calls ≡ l.before → c ≡ l.maker → Makes m (map_after z calls) c
  as_last {calls = calls} l before maker =
      subst (λ d. Makes m (map_after z calls) d) (sym maker) (subst (λ xs. Makes m (map_after z xs) l.maker) (sym before) l.makes)

  module _ (calls : List Call) (s : State T) (c : Call) (new : State T) (old : List ℕ) (k : Kept z tariff m calls s.book s.reply old s.buffer) (step : Step m s c new) where
    facts : Stepped m s.book c step.answer new.book (length s.buffer)
    facts = stepped m lawful s.book (length s.buffer) step.answer new.book c step.called

    -- what a call that keeps the plan does not touch
    stays : Keeping m s.book c step.answer new.book → altering s.book.host c ≡ false → new.book.counts ≡ s.book.counts
    stays w e = w.counts ∙ ap (λ b. cond b None s.book.counts) e

    goes : Keeping m s.book c step.answer new.book → altering s.book.host c ≡ true → new.book.counts ≡ None
    goes w e = w.counts ∙ ap (λ b. cond b None s.book.counts) e

    keeps : Keeping m s.book c step.answer new.book → altering s.book.host c ≡ false → Keeps z m calls c calls c
    keeps w e = (subst (λ h. ¬ Makes m h c) k.map w.makes_none, ap (λ h. altering h c) (sym k.map) ∙ e)

    makes : Makes m (map_after z calls) c → Making m s.book c step.answer new.book
    makes e = at facts.way
      where
        at : Making m s.book c step.answer new.book ⊎ Keeping m s.book c step.answer new.book → Making m s.book c step.answer new.book
        at (inl w) = w
        at (inr w) = absurd (w.makes_none (subst (λ h. Makes m h c) (sym k.map) e))

    unmade : ¬ Makes m (map_after z calls) c → Keeping m s.book c step.answer new.book
    unmade none_made = at facts.way
      where
        at : Making m s.book c step.answer new.book ⊎ Keeping m s.book c step.answer new.book → Keeping m s.book c step.answer new.book
        at (inl w) = absurd (none_made (subst (λ h. Makes m h c) k.map w.makes))
        at (inr w) = w

    still : Keeps z m calls c calls c → new.book.counts ≡ s.book.counts
    still e = stays (unmade e.0) (ap (λ h. altering h c) k.map ∙ e.1)

    some_last : IsSome new.book.counts → LastPlan z m (calls ++ c ∷ [])
    some_last some = at facts.way
      where
        altered : Keeping m s.book c step.answer new.book → (altering s.book.host c ≡ true) ⊎ (altering s.book.host c ≡ false) → LastPlan z m (calls ++ c ∷ [])
        altered w (inl e) = absurd (none_some (sym (ap is_some (goes w e)) ∙ some))
        altered w (inr e) = last_before z m calls c (k.held.0 (sym (ap is_some (stays w e)) ∙ some)) (keeps w e)

        at : Making m s.book c step.answer new.book ⊎ Keeping m s.book c step.answer new.book → LastPlan z m (calls ++ c ∷ [])
        at (inl w) = last_here z m calls c (subst (λ h. Makes m h c) k.map w.makes)
        at (inr w) = altered w (cases_Bool (altering s.book.host c))

    last_some : (l : LastPlan z m (calls ++ c ∷ [])) → ((calls ≡ l.before) × (c ≡ l.maker)) ⊎ Before z m calls c l → IsSome new.book.counts
    last_some l (inl e) = ap is_some (makes (as_last l e.0 e.1)).counts
    last_some l (inr b) = ap is_some (still b.keeps) ∙ k.held.1 b.last

    answers : (xs : List Call) (d : Call) → (calls ≡ xs) × (c ≡ d) → Answered m (map_after z xs) (length old) d step.answer
    answers xs d e =
        subst (λ x. Answered m (map_after z xs) (length old) x step.answer) e.1
        (subst (λ xs. Answered m (map_after z xs) (length old) c step.answer) e.0
        (subst (λ n. Answered m (map_after z calls) n c step.answer) (ap length k.buffer ∙ length-written (opened z) calls old)
        (subst (λ h. Answered m h (length s.buffer) c step.answer) k.map facts.answers)))

    told : (l : LastPlan z m (calls ++ c ∷ [])) → ((calls ≡ l.before) × (c ≡ l.maker)) ⊎ Before z m calls c l →
        IsSomeAnd new.book.counts (λ p. Answered m (map_after z l.before) (length old) l.maker (counted (Ok p)))
    told l (inl e) =
        let w = makes (as_last l e.0 e.1) in
        subst (λ o. IsSomeAnd o (λ p. Answered m (map_after z l.before) (length old) l.maker (counted (Ok p)))) (sym w.counts)
        (subst (Answered m (map_after z l.before) (length old) l.maker) w.answer (answers l.before l.maker e))
    told l (inr b) =
        subst (λ o. IsSomeAnd o (λ p. Answered m (map_after z l.before) (length old) l.maker (counted (Ok p)))) (sym (still b.keeps))
        (subst (λ d. IsSomeAnd s.book.counts (λ p. Answered m (map_after z l.before) (length old) d (counted (Ok p)))) b.same_maker
        (subst (λ xs. IsSomeAnd s.book.counts (λ p. Answered m (map_after z xs) (length old) b.last.maker (counted (Ok p)))) b.same_before (k.of_last b.last)))

    sheet : (l : LastPlan z m (calls ++ c ∷ [])) → ((calls ≡ l.before) × (c ≡ l.maker)) ⊎ Before z m calls c l → OfSheet m (map_after z l.before) l.maker new.book.plan
    sheet l (inl e) =
        let w = makes (as_last l e.0 e.1) in
        subst (λ d. OfSheet m (map_after z l.before) d new.book.plan) e.1
        (subst (λ xs. OfSheet m (map_after z xs) c new.book.plan) e.0 (subst (λ h. OfSheet m h c new.book.plan) k.map w.of_sheet))
    sheet l (inr b) =
        subst (OfSheet m (map_after z l.before) l.maker) (sym (unmade b.keeps.0).plan)
        (subst (λ d. OfSheet m (map_after z l.before) d s.book.plan) b.same_maker (subst (λ xs. OfSheet m (map_after z xs) b.last.maker s.book.plan) b.same_before (k.of_sheet b.last)))

    held : IfSome new.book.counts (HoldsPlan m new.book)
    held = at facts.way
      where
        whole : Whole s.book.host
        whole = subst Whole (sym k.map) (whole-map z calls)

        altered : Keeping m s.book c step.answer new.book → (altering s.book.host c ≡ true) ⊎ (altering s.book.host c ≡ false) → IfSome new.book.counts (HoldsPlan m new.book)
        altered w (inl e) = subst (λ o. IfSome o (HoldsPlan m new.book)) (sym (goes w e)) tt
        altered w (inr e) =
            subst (λ o. IfSome o (HoldsPlan m new.book)) (sym (stays w e))
            (if_some s.book.counts (HoldsPlan m new.book) (λ p is.
            held_same m s.book new.book p (ap card_of facts.map ∙ card-next s.book.host c whole e) w.plan (at_some s.book.counts (HoldsPlan m s.book) k.plan p is)))

        at : Making m s.book c step.answer new.book ⊎ Keeping m s.book c step.answer new.book → IfSome new.book.counts (HoldsPlan m new.book)
        at (inl w) = subst (λ o. IfSome o (HoldsPlan m new.book)) (sym w.counts) w.held
        at (inr w) = altered w (cases_Bool (altering s.book.host c))

    kept_on : Kept z tariff m (calls ++ c ∷ []) new.book new.reply old new.buffer
    kept_on = record {
      same_tariff = facts.tariff ∙ k.same_tariff;
      map = facts.map ∙ ap (λ g. next g c) k.map ∙ sym (map-more z calls c);
      held = (some_last, λ l. last_some l (last_or_before z m calls c l));
      of_last = λ l. told l (last_or_before z m calls c l);
      of_sheet = λ l. sheet l (last_or_before z m calls c l);
      plan = held;
      plan_answered = λ xs d e does.
          let at = lasts calls xs c d e in
          let w = makes (subst (λ x. Makes m (map_after z calls) x) (sym at.1) (subst (λ xs. Makes m (map_after z xs) d) (sym at.0) does)) in
          (w.number, w.counts, step.reply ∙ ap Some w.answer);
      last_reply = λ xs d e. subst (λ o. IsSomeAnd o (Answered m (map_after z xs) (length old) d)) (sym step.reply) (answers xs d (lasts calls xs c d e));
      no_reply = λ e. nothing_last calls [] c (sym e);
      buffer = step.buffer ∙ ap₂ (λ g b. buffer_after g c b) k.map k.buffer ∙ sym (written-more (opened z) calls c old);
    }

  opens : (buffer : List ℕ) → Kept z tariff m [] (start z tariff buffer).book None buffer buffer
  opens buffer = record {
    same_tariff = refl;
    map = refl;
    held = (λ e. cc, λ l. nothing_last l.before l.later l.maker l.all);
    of_last = λ l. nothing_last l.before l.later l.maker l.all;
    of_sheet = λ l. nothing_last l.before l.later l.maker l.all;
    plan = tt;
    plan_answered = λ xs c e. nothing_last xs [] c e;
    last_reply = λ xs c e. nothing_last xs [] c e;
    no_reply = λ e. refl;
    buffer = refl;
  }

  kept : (buffer : List ℕ) (calls : List Call) (s : State T) → Run m (start z tariff buffer) calls s → Kept z tariff m calls s.book s.reply buffer s.buffer
  kept buffer calls s none = opens buffer
  kept buffer calls s (more before between c new run step) = kept_on before between c new buffer (kept buffer before between run) step

  pub kept_promise : (calls : List Call) (buffer : List ℕ) (s : State T) → Run m (start z tariff buffer) calls s → Promise z tariff m calls s.book s.reply buffer s.buffer
  kept_promise calls buffer s run = promised calls s.book s.reply buffer s.buffer (kept buffer calls s run)
