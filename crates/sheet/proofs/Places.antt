-- What comes at a place of a sheet. Assumes nothing.
use Rattle.std.proofs.Common.{◌≡◌, ℕ, ◌-◌, ◌<◌, List, length, drop, sym, ap, ◌∙◌, length-drop}
use Rattle.std.proofs.lemmas.List.{drop_more}
use Rattle.sheet.specs.declared.state.State.{State}
use Rattle.sheet.specs.Records.{record_from}
use Rattle.sheet.specs.Readings.{found, next}

pub next_at : (s : State) (at : ℕ) (bytes : List ℕ) → at < length bytes → next s at (drop at bytes) ≡ found s at (length bytes - at) (record_from at (drop at bytes))
next_at s at bytes h =
    ap (next s at) (drop_more bytes at 0 h) ∙ ap (λ (bs : List ℕ). found s at (length bs) (record_from at bs)) (sym (drop_more bytes at 0 h))
    ∙ ap (λ (n : ℕ). found s at n (record_from at (drop at bytes))) (length-drop at bytes)
