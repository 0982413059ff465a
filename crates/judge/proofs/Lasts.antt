-- What may follow the last of a list. Assumes nothing.
use Rattle.std.proofs.Common.{◌≡◌, ℕ, zero, suc, ◌+◌, Bool, true, List, [], ◌∷◌, ◌++◌, length, get_or, Some, sym, refl, ap, arith}
use Rattle.sheet.specs.declared.record.Toll.{Toll}
use Rattle.verdict.specs.Judging.{may_follow, before}
use Rattle.judge.specs.Gathering.{last_toll, after_last}

module _ {X Y : Type 0} (test : X → Y → Bool) where
  -- nothing has come
  pub follow-none : (xs : List X) (y : Y) → length xs ≡ 0 → may_follow test xs y ≡ true
  follow-none [] y e = refl
  follow-none (x ∷ xs) y e = absurd (omega arith)

  -- so many have come
  pub follow-last : (xs : List X) (y : Y) (n : ℕ) (d : X) → n + 1 ≡ length xs → may_follow test xs y ≡ test (get_or xs n d) y
  follow-last [] y n d e = absurd (omega arith)
  follow-last (x ∷ []) y n d e = let first : n ≡ 0 = omega arith in ap (λ (i : ℕ). test (get_or (x ∷ []) i d) y) (sym first)
  follow-last (x ∷ x' ∷ xs) y zero d e = absurd (omega arith)
  follow-last (x ∷ x' ∷ xs) y (suc n) d e = follow-last (x' ∷ xs) y n d (omega arith)

-- tolls, by the PE of the last of them
pub follow-toll : (ts : List Toll) (t : Toll) → may_follow before ts t ≡ after_last (last_toll ts) (record { row = t.row; column = t.column })
follow-toll [] t = refl
follow-toll (d ∷ []) t = refl
follow-toll (d ∷ d' ∷ ts) t = follow-toll (d' ∷ ts) t

pub last_toll-push : (ts : List Toll) (t : Toll) → last_toll (ts ++ t ∷ []) ≡ Some (record { row = t.row; column = t.column })
last_toll-push [] t = refl
last_toll-push (d ∷ []) t = refl
last_toll-push (d ∷ d' ∷ ts) t = last_toll-push (d' ∷ ts) t
