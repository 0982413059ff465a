-- When nothing that counts waits, the raised labels fit the flow, and the marks tell their reasons. Assumes nothing.
use Rattle.std.proofs.Common.{ℕ, ◌+◌, ◌≤◌, Bool, ◌⊎◌, inl, inr, arith}
use Rattle.std.proofs.lemmas.Bool.{cases_Bool, cases_lt}
use Rattle.flow.specs.Nets.{Net, Flow, Bears, Reaches}
use Rattle.flow.specs.Fits.{Labels, Fits, NoHole}
use Rattle.flow.specs.Seeks.{Marks, Seeking, Entered, Resting, raised}
use Rattle.flow.specs.Walks.{Settled}

module _ {P : Type 0} {N : Net P} {F : Flow P} {L : Labels P} (h : Fits N F L NoHole) {W : ℕ} {waits : P → Bool} {M : Marks P}
    (s : Seeking N F L W waits M) (entered : Entered N M) (r : Resting N L waits M) where
  -- a place has been scanned, or its label on trial is at least the rise above its label
  either : (a u : P) (k : ℕ) → Bears N F a u k →
      ((w : P) (c : ℕ) → Reaches N a w c → M.label w + k ≤ M.label u + c) ⊎ (L.into u + M.rise ≤ M.label u)
  either a u k b = elim (cases_lt (M.label u) W) [
    | inl m ↦ elim (cases_Bool (waits u)) [ inl t ↦ inr (r u b.to t) | inr f ↦ inl (s.quiet a u k b m f) ]
    | inr m ↦ inr (omega (arith, h.labels.low u, s.cap))
  ]

  pub closed : Settled N F (raised L M) W M
  closed = record {
    fits = record {
      flow = h.flow;
      labels = record {
        entry = λ p o f. omega (arith, entered p o f);
        entered = λ p t f n. omega (arith, h.labels.entered p t f n, s.above p, entered p (h.flow.usable p t) f);
        along = λ a u k b w c reach. elim (either a u k b) [
          | inl quiet ↦ omega (arith, quiet w c reach, h.labels.along a u k b w c reach)
          | inr high ↦ omega (arith, h.labels.along a u k b w c reach)
        ];
        last = λ p o l f. omega (arith, s.bound p o l f, h.labels.last p o l f);
        low = λ p. omega (arith, h.labels.low p);
        usable = λ p l. s.usable p (omega arith);
      };
    };
    above = λ u. omega arith;
    caused = s.caused;
    ready = λ room. let t = s.last room in record { usable = t.usable; last = t.last; unused = t.unused; reached = omega (arith, t.is) };
  }
