-- Sizes by their sides. Assumes nothing.
use Rattle.std.proofs.Common.{◌≡◌, ℕ, ◌≤◌, Bool, true, false, Ok, Err, refl, ap}
use Rattle.std.proofs.Props.{props}
use Rattle.host.specs.declared.refusal.Refusal.TheVariants.{BadSize}
use Rattle.host.specs.Sizes.{fits, size_if, tested}

module _ (rows columns : ℕ) where
  abbrev Within : Type 0
  Within = (1 ≤ rows) × (rows ≤ 64) × (1 ≤ columns) × (columns ≤ 64)

  -- how a size was tested makes no difference to it
  one_way : IsProp Within
  one_way = hlevel props

  passed_if : (within : Within) (fit : Bool) (e : fits rows columns ≡ fit) → fit ≡ true → Ok (record { rows = rows; columns = columns; sized = within }) ≡ size_if rows columns fit e
  passed_if within true e f = ap (λ w. Ok (record { rows = rows; columns = columns; sized = w })) (one_way within _)
  passed_if within false e f = cc

  refused_if : (fit : Bool) (e : fits rows columns ≡ fit) → fit ≡ false → Err BadSize ≡ size_if rows columns fit e
  refused_if true e f = cc
  refused_if false e f = refl

  pub passed : (within : Within) → fits rows columns ≡ true → Ok (record { rows = rows; columns = columns; sized = within }) ≡ tested rows columns
  passed within = passed_if within (fits rows columns) refl

  pub refused : fits rows columns ≡ false → Err BadSize ≡ tested rows columns
  refused = refused_if (fits rows columns) refl
