-- The map after calls. Assumes nothing.
use Rattle.std.proofs.Common.{◌≡◌, Bool, true, false, List, [], ◌∷◌, ◌++◌, fold, Some, None, Option, option_and_then, unwrap_or, sym, refl, ap, ◌∙◌, ⊎_elim}
use Rattle.std.specs.Option.{option_or, option_map_or}
use Rattle.std.proofs.lemmas.List.Sums.{fold-append}
use Rattle.host.specs.declared.Host.{Host}
use Rattle.host.specs.declared.size.Size.{Size}
use Rattle.host.specs.Refusals.{unless}
use Rattle.host.specs.Changes.{Change, opened, after, alters, refusal}
use Rattle.host.specs.Laws.{Place, on_card, state, first_state, names, Whole}
use Rattle.host.proofs.Places.{whole-after, state-opened, state_after, kept_by, way}
use Rattle.routable.specs.Cards.{card_of}
use Rattle.routable.proofs.Unaltered.{size-after, unaltered}
use Rattle.promise.specs.declared.call.Call.{Call}
use Rattle.promise.specs.Promise.{change_of, next, map_after, altering, gives, last_given}

-- one call more
pub map-more : (z : Size) (calls : List Call) (c : Call) → map_after z (calls ++ c ∷ []) ≡ next (map_after z calls) c
map-more z calls c = fold-append next (opened z) calls (c ∷ [])

module _ (h : Host) (c : Call) where
  -- what holds of a map after any change, and of the map itself, holds after a call
  pub next-holds : (P : Host → Type 0) → P h → ((x : Change) → P (after h x)) → P (next h c)
  next-holds P here each = go (change_of c)
    where
      go : (o : Option Change) → P (option_map_or (after h) o h)
      go None = here
      go (Some x) = each x

  pub whole-next : Whole h → Whole (next h c)
  whole-next w = next-holds Whole w (λ x. whole-after h x w)

  pub size-next : (next h c).size ≡ h.size
  size-next = next-holds (λ g. g.size ≡ h.size) refl (size-after h)

  -- a call that alters no state leaves the same card
  pub card-next : Whole h → altering h c ≡ false → card_of (next h c) ≡ card_of h
  card-next w = go (change_of c)
    where
      go : (o : Option Change) → option_map_or (alters h) o false ≡ false → card_of (option_map_or (after h) o h) ≡ card_of h
      go None e = refl
      go (Some x) e = unaltered h x w e

  -- a call gives a place of the card the state that it names, or leaves it as it was
  pub state-next : Whole h → (q : Place) → on_card h.size q ≡ true → state (next h c) q ≡ unwrap_or (gives h.size c q) (state h q)
  state-next w q on = go (change_of c)
    where
      go : (o : Option Change) → state (option_map_or (after h) o h) q ≡ unwrap_or (option_and_then (λ x. unless (refusal h.size x) None (names x q)) o) (state h q)
      go None = refl
      go (Some x) =
          ⊎_elim
          (λ done. state_after h x q w on done ∙ ap (λ o. unwrap_or (unless o None (names x q)) (state h q)) (sym done))
          (λ r. ap (λ g. state g q) (kept_by h x r.0 r.1) ∙ ap (λ o. unwrap_or (unless o None (names x q)) (state h q)) (sym r.1))
          (way (refusal h.size x))

pub whole-fold : (h : Host) (calls : List Call) → Whole h → Whole (fold next h calls)
whole-fold h [] w = w
whole-fold h (c ∷ calls) w = whole-fold (next h c) calls (whole-next h c w)

pub whole-map : (z : Size) (calls : List Call) → Whole (map_after z calls)
whole-map z calls = whole-fold (opened z) calls refl

or-unwrap : (o p : Option Bool) (b : Bool) → unwrap_or o (unwrap_or p b) ≡ unwrap_or (option_or o p) b
or-unwrap (Some x) p b = refl
or-unwrap None p b = refl

last_fold : (h : Host) (calls : List Call) (q : Place) → Whole h → on_card h.size q ≡ true → state (fold next h calls) q ≡ unwrap_or (last_given h.size calls q) (state h q)
last_fold h [] q w on = refl
last_fold h (c ∷ calls) q w on =
    last_fold (next h c) calls q (whole-next h c w) (ap (λ z. on_card z q) (size-next h c) ∙ on)
    ∙ (λ t. unwrap_or (last_given (size-next h c t) calls q) (state-next h c w q on t))
    ∙ or-unwrap (last_given h.size calls q) (gives h.size c q) (state h q)

-- the last call that gives a place a state decides
pub last_decides : (z : Size) (calls : List Call) (q : Place) → on_card z q ≡ true → state (map_after z calls) q ≡ unwrap_or (last_given z calls q) (first_state q)
last_decides z calls q on = last_fold (opened z) calls q refl on ∙ ap (unwrap_or (last_given z calls q)) (state-opened z q on)
