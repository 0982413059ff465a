-- Calls for the same places, one after the other. Assumes nothing.
use Rattle.std.proofs.Common.{◌≡◌, Bool, eqb, None, sym, refl, ap, ◌∙◌, ⊎_elim}
use Rattle.masks.specs.Masks.{mask}
use Rattle.host.specs.declared.Host.{Host}
use Rattle.host.specs.declared.part.Part.{Part}
use Rattle.host.specs.declared.part.Part.TheVariants.{Pe, RowSwitch, ColumnSwitch}
use Rattle.host.specs.Maps.{row_at}
use Rattle.host.specs.Changes.{Change, marking, picturing, choosing, crossed, refusal, set_by, after, put, with_choice, with_part}
use Rattle.host.specs.Laws.{Alike}
use Rattle.host.proofs.Tables.{put-put, row_again}
use Rattle.host.proofs.Places.{done_by, kept_by, way}

part_again : (h : Host) (p : Part) (a b : Bool) → with_part (with_part h p a) p b ≡ with_part h p b
part_again h (Pe i j) a b = row_again h i _ (λ row. record row { pes = put row.pes j b }) (ap (λ m. record (row_at h i) { pes = m }) (put-put _ j a b))
part_again h (RowSwitch i j) a b = row_again h i _ (λ row. record row { across = put row.across j b }) (ap (λ m. record (row_at h i) { across = m }) (put-put _ j a b))
part_again h (ColumnSwitch i j) a b = row_again h i _ (λ row. record row { down = put row.down j b }) (ap (λ m. record (row_at h i) { down = m }) (put-put _ j a b))

set_later : (h : Host) (c d : Change) → Alike c d → set_by (set_by h c) d ≡ set_by h d
set_later h (marking p s) (marking q t) e = ap (λ r. with_part (with_part h r (eqb s 1)) q (eqb t 1)) e ∙ part_again h q (eqb s 1) (eqb t 1)
set_later h (picturing i u) (picturing k v) e =
    ap (λ n. set_by (set_by h (picturing n u)) (picturing k v)) e
    ∙ row_again h k _ (λ row. record row { pes = mask (crossed v) }) refl
set_later h (choosing i s) (choosing k t) e =
    ap (λ n. set_by (set_by h (choosing n s)) (choosing k t)) e
    ∙ ap (with_choice h) (put-put h.choice k (eqb s 1) (eqb t 1))
set_later h _ _ e = absurd e

-- no call changes the size of the card
pub set_size : (h : Host) (c : Change) → (set_by h c).size ≡ h.size
set_size h (marking (Pe i j) s) = refl
set_size h _ = refl

pub later : (h : Host) (c d : Change) → Alike c d → refusal h.size d ≡ None → after (after h c) d ≡ after h d
later h c d alike e =
    ⊎_elim
    (λ done. ap (λ g. after g d) (done_by h c done) ∙ done_by (set_by h c) d (ap (λ z. refusal z d) (set_size h c) ∙ e) ∙ set_later h c d alike ∙ sym (done_by h d e))
    (λ x. ap (λ g. after g d) (kept_by h c x.0 x.1))
    (way (refusal h.size c))

alike : (c : Change) → Alike c c
alike (marking p s) = refl
alike (picturing i text) = refl
alike (choosing i s) = refl

pub twice : (h : Host) (c : Change) → after (after h c) c ≡ after h c
twice h c = ⊎_elim (λ e. later h c c (alike c) e) (λ x. ap (λ g. after g c) (kept_by h c x.0 x.1)) (way (refusal h.size c))
