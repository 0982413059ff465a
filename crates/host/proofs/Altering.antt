-- Calls that alter a state. Assumes nothing.
use Rattle.std.proofs.Common.{◌≡◌, ◌≢◌, ℕ, ◌<◌, Bool, true, false, not, ◌&&◌, eqb, ltb, List, length, Some, None, Decides, Option, unwrap_or, sym, refl, ap, ◌∙◌, ⊎_elim, arith}
use Rattle.std.proofs.lemmas.Bool.{not_from_false, false_from_ne_true, lt-ltb, ltb-true, both_ways, not-true, not-false, cases_Bool, and_parts, and_from, eq-eqb, eqb-true}
use Rattle.std.proofs.lemmas.Bool.Decides.{nat_tests, same_from_decides}
use Rattle.std.proofs.lemmas.Grind.{common_steps}
use Rattle.masks.specs.Masks.{bit, mask, least, none}
use Rattle.masks.specs.Laws.{Least}
use Rattle.masks.proofs.Masks.{bit-mask_below, mask-same, mask_empty}
use Rattle.masks.proofs.Counts.{least-found}
use Rattle.host.specs.declared.Host.{Host}
use Rattle.host.specs.declared.part.Part.{Part}
use Rattle.host.specs.declared.part.Part.TheVariants.{Pe, RowSwitch, ColumnSwitch}
use Rattle.host.specs.declared.refusal.Refusal.{Refusal}
use Rattle.host.specs.Refusals.{unless}
use Rattle.host.specs.Maps.{row_at, faulty, chosen}
use Rattle.host.specs.Changes.{Change, marking, picturing, choosing, crossed, refusal, unlike, turns, alters}
use Rattle.host.specs.Laws.{Place, part, choice_of, on_card, state, same, only, names, Whole, Alters}
use Rattle.host.proofs.Places.{passed, way, kept_by, state_after}

unlike_when : (a b : Bool) → Decides (unlike a b) (b ≢ a)
unlike_when true true = (λ e. cc, λ ne. absurd (ne refl))
unlike_when true false = (λ e x. cc, λ ne. refl)
unlike_when false true = (λ e x. cc, λ ne. refl)
unlike_when false false = (λ e. cc, λ ne. absurd (ne refl))

like : (a b : Bool) → unlike a b ≡ false → a ≡ b
like a b e = grind (arith, nat_tests)

unlike_same : (a b : Bool) → a ≡ b → unlike a b ≡ false
unlike_same a b e = grind (arith, nat_tests)

abbrev Agree : (ℕ → Bool) → (ℕ → Bool) → Type 0
Agree f g = (i : ℕ) → i < 64 → f i ≡ g i

-- two masks are equal where their tests nowhere differ
pub mask-eqb : (f g : ℕ → Bool) → eqb (mask f) (mask g) ≡ none (λ j. unlike (f j) (g j))
mask-eqb f g = same_from_decides _ _ equal nowhere
  where
    equal : Decides (eqb (mask f) (mask g)) (Agree f g)
    equal = (
      λ e i l. sym (bit-mask_below f 64 i l) ∙ ap (λ m. bit m i) (eqb-true (mask f) (mask g) e) ∙ bit-mask_below g 64 i l,
      λ h. eq-eqb (mask f) (mask g) (mask-same f g 64 h),
    )

    nowhere : Decides (none (λ j. unlike (f j) (g j))) (Agree f g)
    nowhere =
        let empty = mask_empty (λ j. unlike (f j) (g j)) in (
          λ e i l. like (f i) (g i) (empty.0 e i l),
          λ h. empty.1 (λ i l. unlike_same (f i) (g i) (h i l)),
        )

-- some number passes a test that not none passes
passes : (f : ℕ → Bool) → none f ≡ false → (j : ℕ) × (j < 64) × (f j ≡ true)
passes f e = found (least f) (least-found f 64)
  where
    found : (o : Option ℕ) → Least f 64 o → (j : ℕ) × (j < 64) × (f j ≡ true)
    found None nowhere = absurd (both_ways (none f) e ((mask_empty f).1 nowhere))
    found (Some j) l = (j, l.0, l.1)

-- what a row is pictured as differs from what it was where some PE of the card does
pub picture_turns : (h : Host) (i : ℕ) (text : List ℕ) (all old new : ℕ) → ltb i h.size.rows ≡ true → all ≡ mask (λ k. ltb k h.size.columns) →
    old ≡ mask (λ j. bit (row_at h i).pes j && bit all j) → new ≡ mask (crossed text) → not (eqb old new) ≡ turns h (picturing i text)
picture_turns h i text all old new on card was is =
    (λ t. not (eqb ((was ∙ here) t) (is t))) ∙ ap not (mask-eqb (λ j. faulty h (Pe i j)) (crossed text))
  where
    column : (j : ℕ) → j < 64 → bit all j ≡ ltb j h.size.columns
    column j l = ap (λ m. bit m j) card ∙ bit-mask_below _ 64 j l

    here : mask (λ j. bit (row_at h i).pes j && bit all j) ≡ mask (λ j. faulty h (Pe i j))
    here = mask-same _ _ 64 (λ j l. grind (arith, nat_tests, column j l))

-- the other state that a call names for a place of the card
record Turned (h : Host) (c : Change) : Type 0 where
  place : Place
  here : on_card h.size place ≡ true
  other : unlike (state h place) (unwrap_or (names c place) (state h place)) ≡ true

same_self : (p : Part) → same p p ≡ true
same_self (Pe i j) = and_from _ _ (eq-eqb i i refl) (eq-eqb j j refl)
same_self (RowSwitch i j) = and_from _ _ (eq-eqb i i refl) (eq-eqb j j refl)
same_self (ColumnSwitch i j) = and_from _ _ (eq-eqb i i refl) (eq-eqb j j refl)

same_is : (p q : Part) → same p q ≡ true → q ≡ p
same_is (Pe i j) (Pe k l) e = let both = and_parts _ _ e in (λ t. Pe (eqb-true k i both.0 t) (eqb-true l j both.1 t))
same_is (RowSwitch i j) (RowSwitch k l) e = let both = and_parts _ _ e in (λ t. RowSwitch (eqb-true k i both.0 t) (eqb-true l j both.1 t))
same_is (ColumnSwitch i j) (ColumnSwitch k l) e = let both = and_parts _ _ e in (λ t. ColumnSwitch (eqb-true k i both.0 t) (eqb-true l j both.1 t))
same_is _ _ e = cc

named : (b was test : Bool) → test ≡ true → unlike was b ≡ true → unlike was (unwrap_or (only test b) was) ≡ true
named b was test e other = ap (λ t. unlike was (unwrap_or (only t b) was)) e ∙ other

is_named : (b was test : Bool) → unlike was (unwrap_or (only test b) was) ≡ true → (test ≡ true) × (unlike was b ≡ true)
is_named b was true e = (refl, e)
is_named b was false e = absurd (both_ways _ (unlike_same was was refl) e)

crossed_there : (was b : Bool) → was ≡ false → unlike was b ≡ true → b ≡ true
crossed_there was b e other = sym (ap (λ t. unlike t b) e) ∙ other

-- a character that is there
there : (text : List ℕ) (j : ℕ) → crossed text j ≡ true → j < length text
there text j e = grind (arith, nat_tests, common_steps)

-- where a call turns a state, and the other way round
turned : (h : Host) (c : Change) → refusal h.size c ≡ None → turns h c ≡ true → Turned h c
turned h (marking p s) free e = record {
  place = part p;
  here = not-false _ (passed _ _ _ free).0;
  other = named (eqb s 1) (faulty h p) (same p p) (same_self p) e;
}
turned h (picturing i text) free e =
    let row = passed _ _ _ free in
    let long = passed _ _ _ row.1 in
    let at = passes (λ j. unlike (faulty h (Pe i j)) (crossed text j)) (not-true _ e) in record {
      place = part (Pe i at.0);
      here = on (not-false _ row.0) (eqb-true _ _ (not-false _ long.0)) at.0 at.2;
      other = named (crossed text at.0) (faulty h (Pe i at.0)) (eqb i i) (eq-eqb i i refl) at.2;
    }
  where
    on : ltb i h.size.rows ≡ true → length text ≡ h.size.columns → (j : ℕ) → unlike (faulty h (Pe i j)) (crossed text j) ≡ true → (ltb i h.size.rows && ltb j h.size.columns) ≡ true
    on row long j e =
        ⊎_elim (λ faulted. (and_parts _ _ faulted).0) (λ healthy. and_from _ _ row (lt-ltb _ _ (omega (arith, there text j (crossed_there _ _ healthy e))))) (cases_Bool (faulty h (Pe i j)))
turned h (choosing i s) free e = record {
  place = choice_of i;
  here = not-false _ (passed _ _ _ free).0;
  other = named (eqb s 1) (chosen h i) (eqb i i) (eq-eqb i i refl) e;
}

turns_at : (h : Host) (c : Change) (q : Place) → on_card h.size q ≡ true → unlike (state h q) (unwrap_or (names c q) (state h q)) ≡ true → turns h c ≡ true
turns_at h (marking p s) (part q) here e =
    let n = is_named (eqb s 1) (faulty h q) (same p q) e in ap (λ r. unlike (faulty h r) (eqb s 1)) (sym (same_is p q n.0)) ∙ n.1
turns_at h (picturing i text) (part (Pe k l)) here e =
    let n = is_named (crossed text l) (faulty h (Pe k l)) (eqb k i) e in
    let low : l < 64 = omega (arith, ltb-true l h.size.columns (and_parts _ _ here).1, h.size.sized) in
    not_from_false _ (false_from_ne_true _ (λ all. both_ways _ ((mask_empty (λ j. unlike (faulty h (Pe i j)) (crossed text j))).0 all l low) (ap (λ r. unlike (faulty h (Pe r l)) (crossed text l)) (sym (eqb-true k i n.0)) ∙ n.1)))
turns_at h (choosing i s) (choice_of k) here e =
    let n = is_named (eqb s 1) (chosen h k) (eqb k i) e in ap (λ r. unlike (chosen h r) (eqb s 1)) (sym (eqb-true k i n.0)) ∙ n.1
turns_at h _ q here e = absurd (both_ways _ (unlike_same (state h q) (state h q) refl) e)

pub alters_when : (h : Host) (c : Change) → Whole h → Decides (alters h c) (Alters h c)
alters_when h c whole = ⊎_elim done refused (way (refusal h.size c))
  where
    done : refusal h.size c ≡ None → Decides (alters h c) (Alters h c)
    done free = (
      λ e.
          let t = turned h c free (sym (ap (λ o. unless o false (turns h c)) free) ∙ e) in record {
            place = t.place;
            here = t.here;
            other = (unlike_when _ _).0 (ap (unlike (state h t.place)) (state_after h c t.place whole t.here free) ∙ t.other);
          },
      λ a. ap (λ o. unless o false (turns h c)) free ∙ turns_at h c a.place a.here (ap (unlike (state h a.place)) (sym (state_after h c a.place whole a.here free)) ∙ (unlike_when _ _).1 a.other),
    )

    refused : (x : Refusal) × (refusal h.size c ≡ Some x) → Decides (alters h c) (Alters h c)
    refused x = (
      λ e. absurd (both_ways _ (ap (λ o. unless o false (turns h c)) x.1) e),
      λ a. absurd (a.other (ap (λ g. state g a.place) (kept_by h c x.0 x.1))),
    )
