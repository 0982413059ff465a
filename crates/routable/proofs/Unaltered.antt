-- A map after a call that alters no state is the same card. Assumes nothing.
use Rattle.std.proofs.Common.{◌≡◌, ◌≢◌, ℕ, zero, suc, Bool, true, false, not, ◌&&◌, sym, refl, ap, ◌∙◌, ⊎_elim}
use Rattle.std.proofs.lemmas.Bool.{both_ways, cases_Bool, and_left}
use Rattle.masks.specs.Masks.{none}
use Rattle.masks.specs.Members.{members}
use Rattle.host.specs.declared.Host.{Host}
use Rattle.host.specs.declared.part.Part.{Part}
use Rattle.host.specs.declared.part.Part.TheVariants.{Pe, RowSwitch, ColumnSwitch}
use Rattle.host.specs.Maps.{inside, faulty, faulty_above, chosen, usable, stands}
use Rattle.host.specs.Changes.{Change, refusal, after, alters}
use Rattle.host.specs.Laws.{Place, part, choice_of, on_card, state, Whole}
use Rattle.host.proofs.Altering.{alters_when}
use Rattle.host.proofs.Places.{way, done_by, kept_by}
use Rattle.host.proofs.Repeats.{set_size}
use Rattle.routable.specs.Cards.{card_of}

pub size-after : (h : Host) (c : Change) → (after h c).size ≡ h.size
size-after h c =
    ⊎_elim (λ e. ap (λ g. g.size) (done_by h c e) ∙ set_size h c) (λ x. ap (λ g. g.size) (kept_by h c x.0 x.1)) (way (refusal h.size c))

alike : (a b : Bool) → (a ≢ b → ⊥) → a ≡ b
alike true true ne = refl
alike true false ne = absurd (ne (λ e. cc))
alike false true ne = absurd (ne (λ e. cc))
alike false false ne = refl

module _ (h g : Host) (size : g.size ≡ h.size) (same : (q : Place) → on_card h.size q ≡ true → state g q ≡ state h q) where
  faulty_same : (p : Part) → faulty g p ≡ faulty h p
  faulty_same p =
      ⊎_elim
      (λ on. same (part p) on)
      (λ off. and_left _ _ (ap (λ z. inside z p) size ∙ off) ∙ sym (and_left _ _ off))
      (cases_Bool (inside h.size p))

  above_same : (i j : ℕ) → faulty_above g i j ≡ faulty_above h i j
  above_same zero j = refl
  above_same (suc i) j = faulty_same (ColumnSwitch i j)

  usable_same : (i j : ℕ) → usable g i j ≡ usable h i j
  usable_same i j = λ t. inside (size t) (Pe i j) && (not (faulty_same (Pe i j) t) && (not (above_same i j t) && not (faulty_same (ColumnSwitch i j) t)))

  chosen_same : (i : ℕ) → chosen g i ≡ chosen h i
  chosen_same i =
      ⊎_elim
      (λ on. same (choice_of i) on)
      (λ off. and_left _ _ (ap (λ z. on_card z (choice_of i)) size ∙ off) ∙ sym (and_left _ _ off))
      (cases_Bool (on_card h.size (choice_of i)))

  stands_same : (i : ℕ) → stands g i ≡ stands h i
  stands_same i = λ t. chosen_same i t && none (λ j. faulty_same (RowSwitch i j) t)

  card_same : card_of g ≡ card_of h
  card_same = λ t. record { rows = members (λ i. stands_same i t); usable = λ i j. usable_same i j t }

pub unaltered : (h : Host) (c : Change) → Whole h → alters h c ≡ false → card_of (after h c) ≡ card_of h
unaltered h c whole e =
    card_same h (after h c) (size-after h c)
    (λ q on. alike _ _ (λ ne. both_ways _ e ((alters_when h c whole).1 (record { place = q; here = on; other = ne }))))
