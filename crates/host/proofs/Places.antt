-- The states of places, before and after a call. Assumes nothing.
use Rattle.std.proofs.Common.{◌≡◌, ℕ, ◌<◌, Bool, true, false, cond, ◌&&◌, eqb, ltb, ◌⊎◌, get_or, replicate, Some, None, Option, unwrap_or, sym, refl, ap, ◌∙◌, subst, inl, inr, ⊎_elim, arith, pow_pos}
use Rattle.std.proofs.lemmas.List.{length-set}
use Rattle.std.proofs.lemmas.Bool.{and_from, not-false, and_right}
use Rattle.std.proofs.lemmas.Bool.Decides.{nat_tests}
use Rattle.std.proofs.lemmas.Grind.{common_steps}
use Rattle.masks.specs.Masks.{bit}
use Rattle.masks.proofs.Bits.{bit_low}
use Rattle.masks.proofs.Masks.{bit-mask_below}
use Rattle.host.specs.declared.Host.{Host}
use Rattle.host.specs.declared.Row.{Row}
use Rattle.host.specs.declared.part.Part.{Part}
use Rattle.host.specs.declared.part.Part.TheVariants.{Pe, RowSwitch, ColumnSwitch}
use Rattle.host.specs.declared.refusal.Refusal.{Refusal}
use Rattle.host.specs.declared.size.Size.{Size}
use Rattle.host.specs.Refusals.{refuse, unless}
use Rattle.host.specs.Maps.{inside, healthy_row, row_at, faulty}
use Rattle.host.specs.Changes.{Change, marking, picturing, choosing, opened, crossed, refusal, set_by, after, put, with_row, with_part}
use Rattle.host.specs.Laws.{Place, part, choice_of, on_card, state, first_state, same, only, names, Whole}
use Rattle.host.proofs.Tables.{bit-put, bit-with_row, bit-put_in_row, kept_in_rows}

-- what lies on the card has its row and its column below 64
limits : (z : Size) (i j : ℕ) → (ltb i z.rows && ltb j z.columns) ≡ true → (i < 64) × (j < 64)
limits z i j e = (grind (arith, nat_tests, z.sized), grind (arith, nat_tests, z.sized))

row_limit : (z : Size) (i : ℕ) → ltb i z.rows ≡ true → i < 64
row_limit z i e = grind (arith, nat_tests, z.sized)

-- a place of the card whose flag was set, or kept, has that state
settled : (here named b flag was : Bool) → here ≡ true → flag ≡ cond named b was → (here && flag) ≡ unwrap_or (only named b) (here && was)
settled here true b flag was on e = grind (arith, nat_tests)
settled here false b flag was on e = grind (arith, nat_tests)

pub done_by : (h : Host) (c : Change) → refusal h.size c ≡ None → after h c ≡ set_by h c
done_by h c e = ap (λ o. unless o h (set_by h c)) e

pub kept_by : (h : Host) (c : Change) (x : Refusal) → refusal h.size c ≡ Some x → after h c ≡ h
kept_by h c x e = ap (λ o. unless o h (set_by h c)) e

-- a call is done or refused
pub way : {X : Type 0} (o : Option X) → (o ≡ None) ⊎ ((x : X) × (o ≡ Some x))
way None = inl refl
way (Some x) = inr (x, refl)

module _ (h : Host) (whole : Whole h) (i : ℕ) (row : Row) (f : Row → ℕ) (k l : ℕ) (here : Bool) where
  put_in : (j : ℕ) (b : Bool) → f row ≡ put (f (row_at h i)) j b → i < 64 → l < 64 → here ≡ true →
      (here && bit (f (row_at (with_row h i row) k)) l) ≡ unwrap_or (only (eqb k i && eqb l j) b) (here && bit (f (row_at h k)) l)
  put_in j b e long low on = settled here _ b _ _ on (bit-put_in_row h i row f j b e (omega arith) k l low)

  kept : f row ≡ f (row_at h i) → (here && bit (f (row_at (with_row h i row) k)) l) ≡ (here && bit (f (row_at h k)) l)
  kept e = ap (λ m. here && bit m l) (kept_in_rows h i row f k e)

marked : (h : Host) → Whole h → (p q : Part) (b : Bool) → inside h.size p ≡ true → inside h.size q ≡ true →
    faulty (with_part h p b) q ≡ unwrap_or (only (same p q) b) (faulty h q)
marked h w (Pe i j) (Pe k l) b named here = put_in h w i _ (λ row. row.pes) k l _ j b refl (limits h.size _ _ named).0 (limits h.size _ _ here).1 here
marked h w (Pe i j) (RowSwitch k l) b named here = kept h w i _ (λ row. row.across) k l _ refl
marked h w (Pe i j) (ColumnSwitch k l) b named here = kept h w i _ (λ row. row.down) k l _ refl
marked h w (RowSwitch i j) (Pe k l) b named here = kept h w i _ (λ row. row.pes) k l _ refl
marked h w (RowSwitch i j) (RowSwitch k l) b named here =
    put_in h w i _ (λ row. row.across) k l _ j b refl (limits h.size _ _ named).0 (omega (arith, (limits h.size _ _ here).1)) here
marked h w (RowSwitch i j) (ColumnSwitch k l) b named here = kept h w i _ (λ row. row.down) k l _ refl
marked h w (ColumnSwitch i j) (Pe k l) b named here = kept h w i _ (λ row. row.pes) k l _ refl
marked h w (ColumnSwitch i j) (RowSwitch k l) b named here = kept h w i _ (λ row. row.across) k l _ refl
marked h w (ColumnSwitch i j) (ColumnSwitch k l) b named here =
    put_in h w i _ (λ row. row.down) k l _ j b refl (omega (arith, (limits h.size _ _ named).0)) (limits h.size _ _ here).1 here

pub passed : {X : Type 0} (test : Bool) (x : X) (later : Option X) → refuse test x later ≡ None → (test ≡ false) × (later ≡ None)
passed true x later e = absurd (cc)
passed false x later e = (refl, e)

-- a change that meets no refusal names places of the card
set_state : (h : Host) → Whole h → (c : Change) (q : Place) → on_card h.size q ≡ true → refusal h.size c ≡ None → state (set_by h c) q ≡ unwrap_or (names c q) (state h q)
set_state h w (marking p s) (part q) here e = marked h w p q (eqb s 1) (not-false (inside h.size p) (passed _ _ _ e).0) here
set_state h w (picturing i text) (part (Pe k l)) here e =
    let r = row_limit h.size i (not-false (ltb i h.size.rows) (passed _ _ _ e).0) in
    settled _ (eqb k i) (crossed text l) _ _ here (bit-with_row h i _ (λ row. row.pes) (crossed text) refl (omega (arith, w)) k l (limits h.size _ _ here).1)
set_state h w (picturing i text) (part (RowSwitch k l)) here e = kept h w i _ (λ row. row.across) k l _ refl
set_state h w (picturing i text) (part (ColumnSwitch k l)) here e = kept h w i _ (λ row. row.down) k l _ refl
set_state h w (choosing i s) (choice_of k) here e = settled _ (eqb k i) (eqb s 1) _ _ here (bit-put h.choice i (eqb s 1) k (row_limit h.size k here))
set_state h w (marking (Pe i j) s) (choice_of k) here e = refl
set_state h w (choosing i s) (part (Pe k l)) here e = refl
set_state h w _ _ here e = refl

pub state_after : (h : Host) (c : Change) (q : Place) → Whole h → on_card h.size q ≡ true → refusal h.size c ≡ None → state (after h c) q ≡ unwrap_or (names c q) (state h q)
state_after h c q w here e = ap (λ g. state g q) (done_by h c e) ∙ set_state h w c q here e

blank : (n i : ℕ) → get_or (replicate n healthy_row) i healthy_row ≡ healthy_row
blank n i = grind (arith, common_steps)

healthy_at : (z : Size) (i j : ℕ) (f : Row → ℕ) (here : Bool) → f healthy_row ≡ 0 → (here && bit (f (row_at (opened z) i)) j) ≡ false
healthy_at z i j f here e = and_right _ _ (ap (λ row. bit (f row) j) (blank 64 i) ∙ ap (λ m. bit m j) e ∙ bit_low 0 j (pow_pos j))

pub state-opened : (z : Size) (q : Place) → on_card z q ≡ true → state (opened z) q ≡ first_state q
state-opened z (part (Pe i j)) here = healthy_at z i j (λ row. row.pes) _ refl
state-opened z (part (RowSwitch i j)) here = healthy_at z i j (λ row. row.across) _ refl
state-opened z (part (ColumnSwitch i j)) here = healthy_at z i j (λ row. row.down) _ refl
state-opened z (choice_of i) here = and_from _ _ here (bit-mask_below (λ i. ltb i z.rows) 64 i (row_limit z i here) ∙ here)

set_whole : (h : Host) (c : Change) → Whole h → Whole (set_by h c)
set_whole h (marking (Pe i j) s) w = length-set h.rows i _ ∙ w
set_whole h (choosing i s) w = w
set_whole h _ w = length-set h.rows _ _ ∙ w

pub whole-after : (h : Host) (c : Change) → Whole h → Whole (after h c)
whole-after h c w =
    ⊎_elim (λ e. subst Whole (sym (done_by h c e)) (set_whole h c w)) (λ p. subst Whole (sym (kept_by h c p.0 p.1)) w) (way (refusal h.size c))
