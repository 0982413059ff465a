-- How a search begins. Assumes nothing.
use Rattle.std.proofs.Common.{◌≡◌, ℕ, Bool, inl, inr, arith}
use Rattle.std.proofs.lemmas.Bool.{both_ways, cases_lt}
use Rattle.flow.specs.Nets.{Net, Lawful, Flow, Bears}
use Rattle.flow.specs.Fits.{Labels, Fits, NoHole}
use Rattle.flow.specs.Seeks.{Marks, Seeking, Blank}
use Rattle.flow.proofs.Bearing.{bears_first}

module _ {P : Type 0} {N : Net P} (law : Lawful N) {F : Flow P} {L : Labels P} (h : Fits N F L NoHole) {W : ℕ} {waits : P → Bool} {M : Marks P}
    (b : Blank N F L W waits M) where
  bearer : (a u : P) (k : ℕ) → Bears N F a u k → M.label u ≡ W
  bearer a u k d = elim (b.label u d.to) [ inl e ↦ e | inr i ↦ absurd (bears_first law h.flow d i.0 i.1) ]

  pub blank : Seeking N F L W waits M
  blank = record {
    above = λ u. elim (cases_lt 0 (L.into u)) [
      | inl p ↦ let o = h.labels.usable u p in elim (b.label u o) [
        | inl e ↦ omega (arith, h.labels.low u, b.rise)
        | inr i ↦ omega (arith, h.labels.entry u o i.0, i.2)
      ]
      | inr z ↦ omega arith
    ];
    high = λ u. elim (cases_lt 0 (M.label u)) [
      | inl l ↦ elim (b.label u (b.usable u l)) [
        | inl e ↦ omega arith
        | inr i ↦ omega (arith, h.labels.entered u i.1 i.0 (λ x. x), h.labels.low u, b.rise, i.2)
      ]
      | inr l ↦ omega arith
    ];
    usable = b.usable;
    quiet = λ a u k d m q w c reach. absurd (omega (arith, bearer a u k d));
    caused = λ a w k d m. absurd (omega (arith, bearer a w k d));
    waiting = λ u t. absurd (both_ways (waits u) (b.quiet u) t);
    clocked = b.stamp;
    cap = omega (arith, b.rise);
    bound = λ w o l f. elim (b.label w o) [ inl e ↦ omega (arith, h.labels.low w, b.rise) | inr i ↦ absurd (both_ways (F.used w) f i.1) ];
    last = λ room. absurd (omega (arith, b.rise));
  }
