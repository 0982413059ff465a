-- The hole w is dropped: the hole moves on to v. Assumes nothing.
use Rattle.std.proofs.Common.{◌≡◌, ℕ, ◌+◌, true, ◌⊎◌, sym, ap, ◌∙◌, subst, inl, inr, arith}
use Rattle.std.proofs.lemmas.Bool.{both_ways}
use Rattle.flow.specs.Nets.{Net, Lawful, Flow, Goes, Bears, Reaches}
use Rattle.flow.specs.Fits.{Labels, Fits}
use Rattle.flow.specs.Moves.{Dropped}
use Rattle.flow.proofs.Bearing.{bears-goes}

module _ {P : Type 0} {N : Net P} (law : Lawful N) {G H : Flow P} {L : Labels P} {w : P} (h : Fits N G L (λ p. p ≡ w))
    {v : P} (g : Goes N G w v) (first : N.First w → ⊥) (is : L.into w + N.cost w v ≡ L.into v) (m : Dropped G H w) where
  not_w : (q : P) → H.used q ≡ true → q ≡ w → ⊥
  not_w q t e = both_ways (H.used w) m.used (sym (ap H.used e) ∙ t)

  back : (p q : P) → Goes N H p q → (p ≡ w → ⊥) × Goes N G p q
  back p q d =
      let n = not_w p d.used in
      (n, record { usable = d.usable; used = sym (m.used_else p n) ∙ d.used; not_last = d.not_last; to = sym (m.next p) ∙ d.to })

  bears_back : (p y : P) (j : ℕ) → Bears N H p y j → ((p ≡ w) × (y ≡ w) × (j ≡ 0)) ⊎ Bears N G p y j
  bears_back p y j d = elim d.how [
    | inl i ↦ elim (law.same_or_not p w) [
      | inl e ↦ inl (e, i.1 ∙ e, i.2)
      | inr n ↦ inr (record { from = d.from; to = d.to; how = inl (sym (m.used_else p n) ∙ i.0, i.1, i.2) })
    ]
    | inr f ↦ inr (record { from = d.from; to = d.to; how = inr ((back p y f.0).1, f.1) })
  ]

  pub drop_used : H.used v ≡ true
  drop_used = let t = h.flow.goes w v g in m.used_else v t.whole ∙ t.used

  pub drop_fits : Fits N H L (λ p. p ≡ v)
  drop_fits = record {
    flow = record {
      usable = λ p t. h.flow.usable p (sym (m.used_else p (not_w p t)) ∙ t);
      goes = λ p q d.
          let o = back p q d in
          let t = h.flow.goes p q o.1 in
          record {
            link = t.link;
            used = m.used_else q t.whole ∙ t.used;
            prev = m.prev_else q t.whole ∙ t.prev;
            charge = m.charge_else q t.whole ∙ t.charge;
            whole = λ e. o.0 (sym t.prev ∙ ap G.prev e ∙ (h.flow.goes w v g).prev);
          };
      comes = λ q t nf n.
          let nw = not_w q t in
          let d = h.flow.comes q (sym (m.used_else q nw) ∙ t) nf nw in
          let np : G.prev q ≡ w → ⊥ = λ e. n (sym d.to ∙ ap G.next e ∙ g.to) in
          subst (λ z. Goes N H z q) (sym (m.prev_else q nw))
          (record { usable = d.usable; used = m.used_else (G.prev q) np ∙ d.used; not_last = d.not_last; to = m.next (G.prev q) ∙ d.to });
      idle = λ q o f. elim (law.same_or_not q w) [
        | inl e ↦ subst (λ z. (H.prev z ≡ z) × (H.charge z ≡ 0)) (sym e) (m.prev, m.charge)
        | inr n ↦ let is = h.flow.idle q o (sym (m.used_else q n) ∙ f) in (m.prev_else q n ∙ is.0, m.charge_else q n ∙ is.1)
      ];
    };
    labels = record {
      entry = h.labels.entry;
      entered = λ p t f n. let nw = not_w p t in h.labels.entered p (sym (m.used_else p nw) ∙ t) f nw;
      along = λ p y j d z c reach. elim (bears_back p y j d) [
        | inl e ↦
            let up = h.labels.along w v (N.cost w v) (bears-goes law h.flow g) z c
            (subst (λ q. Reaches N q z c) e.0 reach) in
            omega (arith, ap L.into e.1, e.2)
        | inr o ↦ h.labels.along p y j o z c reach
      ];
      last = λ p o l f. elim (law.same_or_not p w) [
        | inl e ↦ absurd (g.not_last (subst N.Last e l))
        | inr n ↦ h.labels.last p o l (sym (m.used_else p n) ∙ f)
      ];
      low = h.labels.low;
      usable = h.labels.usable;
    };
  }
