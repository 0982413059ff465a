-- A place a is linked to the hole w: the hole moves to x, which bore the label below a. Assumes nothing.
use Rattle.std.proofs.Common.{◌≡◌, ℕ, ◌+◌, true, false, ◌⊎◌, sym, ap, ◌∙◌, subst, inl, inr, arith}
use Rattle.std.proofs.lemmas.Bool.{both_ways}
use Rattle.flow.specs.Nets.{Net, Lawful, Flow, Goes, Bears, Reaches}
use Rattle.flow.specs.Fits.{Labels, Comes, Fits}
use Rattle.flow.specs.Moves.{Linked}

module _ {P : Type 0} {N : Net P} (law : Lawful N) {G H : Flow P} {L : Labels P} {w : P} (h : Fits N G L (λ p. p ≡ w)) (here : G.used w ≡ true)
    {a x : P} {k : ℕ} (link : N.Link a w) (b : Bears N G a x k) (is : L.into w + k ≡ L.into x + N.cost a w) (m : Linked G H a w (N.cost a w)) where
  unlike : (p q : P) → G.used p ≡ false → G.used q ≡ true → p ≡ q → ⊥
  unlike p q f t e = both_ways (G.used p) f (ap G.used e ∙ t)

  new : Goes N H a w
  new = record { usable = law.from link; used = m.used; not_last = law.not_last link; to = m.next }

  back : (p q : P) → Goes N H p q → ((p ≡ a) × (q ≡ w)) ⊎ ((p ≡ a → ⊥) × Goes N G p q)
  back p q g = elim (law.same_or_not p a) [
    | inl e ↦ inl (e, sym g.to ∙ ap H.next e ∙ m.next)
    | inr n ↦ inr (n, record { usable = g.usable; used = sym (m.used_else p n) ∙ g.used; not_last = g.not_last; to = sym (m.next_else p n) ∙ g.to })
  ]

  forth : (p q : P) → (p ≡ a → ⊥) → Goes N G p q → Goes N H p q
  forth p q n g = record { usable = g.usable; used = m.used_else p n ∙ g.used; not_last = g.not_last; to = m.next_else p n ∙ g.to }

  used_still : (q : P) → G.used q ≡ true → H.used q ≡ true
  used_still q t = elim (law.same_or_not q a) [ inl e ↦ ap H.used e ∙ m.used | inr n ↦ m.used_else q n ∙ t ]

  used_before : (q : P) → H.used q ≡ true → (q ≡ x → ⊥) → G.used q ≡ true
  used_before q t n = elim (law.same_or_not q a) [
    | inl e ↦ elim b.how [ inl i ↦ absurd (n (e ∙ sym i.1)) | inr g ↦ ap G.used e ∙ g.0.used ]
    | inr na ↦ sym (m.used_else q na) ∙ t
  ]

  not_a : (q : P) → H.used q ≡ false → q ≡ a → ⊥
  not_a q f e = both_ways (H.used q) f (ap H.used e ∙ m.used)

  unused_before : (q : P) → H.used q ≡ false → G.used q ≡ false
  unused_before q f = sym (m.used_else q (not_a q f)) ∙ f

  -- what else the flow goes on to is not x
  not_x : (p q : P) → (p ≡ a → ⊥) → Goes N G p q → q ≡ x → ⊥
  not_x p q n g e = elim b.how [
    | inl i ↦ unlike a q i.0 (h.flow.goes p q g).used (sym (e ∙ i.1))
    | inr f ↦ n (sym (h.flow.goes p q g).prev ∙ ap G.prev e ∙ (h.flow.goes a x f.0).prev)
  ]

  w_not_x : w ≡ x → ⊥
  w_not_x e = elim b.how [
    | inl i ↦ law.apart link (sym (e ∙ i.1))
    | inr f ↦ (h.flow.goes a x f.0).whole (sym e)
  ]

  bears_back : (p y : P) (j : ℕ) → Bears N H p y j → ((p ≡ a) × (y ≡ w) × (j ≡ N.cost a w)) ⊎ Bears N G p y j
  bears_back p y j d = elim d.how [
    | inl i ↦ inr (record { from = d.from; to = d.to; how = inl (unused_before p i.0, i.1, i.2) })
    | inr g ↦ elim (back p y g.0) [
      | inl e ↦ inl (e.0, e.1, g.1 ∙ ap (λ z. N.cost z y) e.0 ∙ ap (N.cost a) e.1)
      | inr o ↦ inr (record { from = d.from; to = d.to; how = inr (o.1, g.1) })
    ]
  ]

  pub link_used : H.used x ≡ true
  link_used = elim b.how [ inl i ↦ ap H.used i.1 ∙ m.used | inr g ↦ used_still x (h.flow.goes a x g.0).used ]

  pub link_fits : Fits N H L (λ p. p ≡ x)
  link_fits = record {
    flow = record {
      usable = λ p t. elim (law.same_or_not p a) [
        | inl e ↦ subst N.Usable (sym e) (law.from link)
        | inr n ↦ h.flow.usable p (sym (m.used_else p n) ∙ t)
      ];
      goes = λ p q g. elim (back p q g) [
        | inl e ↦
            subst (λ z. Comes N H (λ v. v ≡ x) z q) (sym e.0)
            (subst (Comes N H (λ v. v ≡ x) a) (sym e.1)
            (record { link = link; used = used_still w here; prev = m.prev; charge = m.charge; whole = w_not_x }))
        | inr o ↦ let t = h.flow.goes p q o.1 in record {
          link = t.link;
          used = used_still q t.used;
          prev = m.prev_else q t.whole ∙ t.prev;
          charge = m.charge_else q t.whole ∙ t.charge;
          whole = not_x p q o.0 o.1;
        }
      ];
      comes = λ q t first n. elim (law.same_or_not q w) [
        | inl e ↦ subst (λ z. Goes N H (H.prev z) z) (sym e) (subst (λ z. Goes N H z w) (sym m.prev) new)
        | inr nw ↦
            let g = h.flow.comes q (used_before q t n) first nw in
            let na : G.prev q ≡ a → ⊥ = λ e. elim b.how [
              | inl i ↦ unlike a (G.prev q) i.0 g.used (sym e)
              | inr f ↦ n (sym g.to ∙ ap G.next e ∙ f.0.to)
            ] in
            subst (λ z. Goes N H z q) (sym (m.prev_else q nw)) (forth (G.prev q) q na g)
      ];
      idle = λ q o f.
          let was = unused_before q f in
          let is = h.flow.idle q o was in
          let n = unlike q w was here in
          (m.prev_else q n ∙ is.0, m.charge_else q n ∙ is.1);
    };
    labels = record {
      entry = h.labels.entry;
      entered = λ p t f n. h.labels.entered p (used_before p t n) f (λ e. law.not_first link (subst N.First e f));
      along = λ p y j d z c reach. elim (bears_back p y j d) [
        | inl e ↦
            let up = h.labels.along a x k b z c (subst (λ q. Reaches N q z c) e.0 reach) in
            omega (arith, ap L.into e.1, e.2)
        | inr o ↦ h.labels.along p y j o z c reach
      ];
      last = λ p o l f. h.labels.last p o l (unused_before p f);
      low = h.labels.low;
      usable = h.labels.usable;
    };
  }
