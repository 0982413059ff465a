-- A label on trial is lowered, and what is known of the labels stays. Assumes nothing.
use Rattle.std.proofs.Common.{◌≡◌, ℕ, ◌+◌, ◌<◌, ◌≤◌, Bool, true, sym, ap, ◌∙◌, subst, inl, inr, arith}
use Rattle.std.proofs.lemmas.Bool.{both_ways}
use Rattle.flow.specs.Nets.{Net, Lawful, Flow, Bears, Reaches}
use Rattle.flow.specs.Fits.{Labels, Fits, NoHole}
use Rattle.flow.specs.Seeks.{Why, Marks, Cause, Tells, Seeking, Offer, Lowers}
use Rattle.flow.proofs.Bearing.{bears_itself}

module _ {P : Type 0} {N : Net P} (law : Lawful N) {F : Flow P} {L : Labels P} (h : Fits N F L NoHole) {W : ℕ} {waiting : P → Bool} {M : Marks P}
    (s : Seeking N F L W waiting M) {w : P} {v : ℕ} {y : Why P} (offer : N.Usable w → Offer N F M.label w v y) (low : v < M.label w) where
  usable : N.Usable w
  usable = s.usable w (omega arith)

  pub high : L.into w ≤ v
  high = elim (offer usable) [
    | Offer.by_entry r f free is ↦ omega (arith, h.labels.entry w usable f)
    | Offer.by_place a u k c r b reach is pin ↦ omega (arith, s.above u, h.labels.along a u k b w c reach)
  ]

  -- no label is lowered by itself
  unlike : (a u : P) (k c : ℕ) → Bears N F a u k → Reaches N a w c → v + k ≡ M.label u + c → u ≡ w → ⊥
  unlike a u k c b reach is e =
      omega (arith, ap M.label e, bears_itself law h.flow c b (subst (λ z. Reaches N a z c) (sym e) reach))

  module _ {waits : P → Bool} {K : Marks P} (l : Lowers N F L waiting waits M K w v y) where
    falls : (x : P) → K.label x ≤ M.label x
    falls x = elim (law.same_or_not x w) [
      | inl e ↦ omega (arith, ap K.label e, ap M.label e, l.label)
      | inr n ↦ omega (arith, (l.others x n).label)
    ]

    -- the label above w has a cause
    because : Cause N F K w
    because = elim (offer usable) [
      | Offer.by_entry r f free is ↦ Cause.by_entry (l.why ∙ r) f (omega (arith, l.label))
      | Offer.by_place a u k c r b reach is pin ↦
          let same = l.others u (unlike a u k c b reach is) in
          Cause.by_place a u k c (l.why ∙ r) b reach (omega (arith, l.label, same.label))
          (λ e. omega (arith, l.stamp, same.stamp, s.clocked u))
    ]

    -- and any other the one that it had
    still : (x : P) → (x ≡ w → ⊥) → Cause N F M x → Cause N F K x
    still x n (Cause.by_entry r f e) = Cause.by_entry ((l.others x n).why ∙ r) f (omega (arith, (l.others x n).label))
    still x n (Cause.by_place a u k c r b reach slack later) =
        let same = l.others x n in
        Cause.by_place a u k c (same.why ∙ r) b reach (omega (arith, same.label, falls u))
        (λ e. elim (law.same_or_not u w) [
          | inl i ↦ absurd (omega (arith, ap K.label i, ap M.label i, l.label, same.label))
          | inr m ↦
              let was = l.others u m in
              let t : M.stamp u < M.stamp x = later (omega (arith, was.label, same.label)) in
              omega (arith, was.stamp, same.stamp)
        ])

    fresh : N.First w → F.used w ≡ true → ⊥
    fresh f t = elim (offer usable) [
      | Offer.by_entry r g free is ↦ both_ways (F.used w) free t
      | Offer.by_place a u k c r b reach is pin ↦ omega (arith, pin f, high, h.labels.entered w t f (λ x. x))
    ]

    tells : L.exit + K.rise < W → Tells N F L K K.last
    tells room = elim l.closer [
      | inl r ↦ subst (Tells N F L K) (sym r.4) (record {
        usable = usable;
        last = r.0;
        unused = r.1;
        is = omega (arith, l.label, r.3);
      })
      | inr r ↦
          let t = s.last (omega (arith, r.1)) in
          let n : M.last ≡ w → ⊥ = λ e. omega (arith, ap M.label e, ap L.into e, t.is, r.0 (subst N.Last e t.last) (sym (ap F.used e) ∙ t.unused)) in
          let same = l.others M.last n in
          subst (Tells N F L K) (sym r.2) (record {
            usable = t.usable;
            last = t.last;
            unused = t.unused;
            is = omega (arith, same.label, t.is, r.1);
          })
    ]

    pub lowered : Seeking N F L W waits K
    lowered = record {
      above = λ u. elim (law.same_or_not u w) [
        | inl e ↦ omega (arith, ap K.label e, ap L.into e, l.label, high)
        | inr n ↦ omega (arith, (l.others u n).label, s.above u)
      ];
      high = λ u. omega (arith, falls u, s.high u);
      usable = λ u p. elim (law.same_or_not u w) [
        | inl e ↦ subst N.Usable (sym e) usable
        | inr n ↦ s.usable u (omega (arith, (l.others u n).label))
      ];
      quiet = λ a u k b m q x c reach.
          let n : u ≡ w → ⊥ = λ e. both_ways (waits w) (sym (ap waits e) ∙ q) l.wait in
          let same = l.others u n in
          omega (arith, s.quiet a u k b (omega (arith, same.label)) (sym same.wait ∙ q) x c reach, falls x, same.label);
      caused = λ a x k b m. elim (law.same_or_not x w) [
        | inl e ↦ subst (Cause N F K) (sym e) because
        | inr n ↦ still x n (s.caused a x k b (omega (arith, (l.others x n).label)))
      ];
      waiting = λ u q. elim (law.same_or_not u w) [
        | inl e ↦ subst (λ z. N.Usable z × (N.First z → F.used z ≡ true → ⊥)) (sym e) (usable, fresh)
        | inr n ↦ s.waiting u (sym (l.others u n).wait ∙ q)
      ];
      clocked = λ u. elim (law.same_or_not u w) [
        | inl e ↦ omega (arith, ap K.stamp e, l.stamp, l.clock)
        | inr n ↦ omega (arith, (l.others u n).stamp, l.clock, s.clocked u)
      ];
      cap = elim l.closer [ inl r ↦ omega (arith, r.2, r.3, s.cap) | inr r ↦ omega (arith, r.1, s.cap) ];
      bound = λ x o m f. elim (law.same_or_not x w) [
        | inl e ↦ elim l.closer [
          | inl r ↦ omega (arith, ap K.label e, ap L.into e, l.label, r.3)
          | inr r ↦ omega (arith, ap K.label e, ap L.into e, l.label, r.1, r.0 (subst N.Last e m) (sym (ap F.used e) ∙ f))
        ]
        | inr n ↦ elim l.closer [
          | inl r ↦ omega (arith, (l.others x n).label, s.bound x o m f, r.2, r.3)
          | inr r ↦ omega (arith, (l.others x n).label, s.bound x o m f, r.1)
        ]
      ];
      last = tells;
    }
