-- A last place is opened: a hole is made there. A hole that is a first place is entered: there is none any more. Assumes nothing.
use Rattle.std.proofs.Common.{◌≡◌, true, false, sym, ap, ◌∙◌, subst, inl, inr}
use Rattle.std.proofs.lemmas.Bool.{both_ways}
use Rattle.flow.specs.Nets.{Net, Lawful, Flow, Goes}
use Rattle.flow.specs.Fits.{Labels, Fits, NoHole}
use Rattle.flow.specs.Moves.{Opened}

module _ {P : Type 0} {N : Net P} (law : Lawful N) {G H : Flow P} {L : Labels P} (h : Fits N G L NoHole) {e : P} (usable : N.Usable e) (last : N.Last e)
    (free : G.used e ≡ false) (m : Opened G H e) where
  unlike : (p q : P) → G.used p ≡ false → G.used q ≡ true → p ≡ q → ⊥
  unlike p q f t e = both_ways (G.used p) f (ap G.used e ∙ t)

  back : (p q : P) → Goes N H p q → Goes N G p q
  back p q g = record {
    usable = g.usable;
    used = sym (m.used_else p (λ i. g.not_last (subst N.Last (sym i) last))) ∙ g.used;
    not_last = g.not_last;
    to = sym (m.next p) ∙ g.to;
  }

  used_still : (q : P) → G.used q ≡ true → H.used q ≡ true
  used_still q t = m.used_else q (λ i. unlike e q free t (sym i)) ∙ t

  used_before : (q : P) → H.used q ≡ true → (q ≡ e → ⊥) → G.used q ≡ true
  used_before q t n = sym (m.used_else q n) ∙ t

  unused_before : (q : P) → H.used q ≡ false → G.used q ≡ false
  unused_before q f = sym (m.used_else q (λ i. both_ways (H.used q) f (ap H.used i ∙ m.used))) ∙ f

  pub open_fits : Fits N H L (λ p. p ≡ e)
  open_fits = record {
    flow = record {
      usable = λ p t. elim (law.same_or_not p e) [ inl i ↦ subst N.Usable (sym i) usable | inr n ↦ h.flow.usable p (used_before p t n) ];
      goes = λ p q g. let t = h.flow.goes p q (back p q g) in record {
        link = t.link;
        used = used_still q t.used;
        prev = m.prev q ∙ t.prev;
        charge = m.charge q ∙ t.charge;
        whole = λ i. unlike e q free t.used (sym i);
      };
      comes = λ q t first n.
          let g = h.flow.comes q (used_before q t n) first (λ x. x) in
          subst (λ z. Goes N H z q) (sym (m.prev q))
          (record { usable = g.usable; used = used_still (G.prev q) g.used; not_last = g.not_last; to = m.next (G.prev q) ∙ g.to });
      idle = λ q o f. let is = h.flow.idle q o (unused_before q f) in (m.prev q ∙ is.0, m.charge q ∙ is.1);
    };
    labels = record {
      entry = h.labels.entry;
      entered = λ p t f n. h.labels.entered p (used_before p t n) f (λ x. x);
      along = λ a u k b. h.labels.along a u k (record {
        from = b.from;
        to = b.to;
        how = elim b.how [ inl i ↦ inl (unused_before a i.0, i.1, i.2) | inr g ↦ inr (back a u g.0, g.1) ];
      });
      last = λ p o l f. h.labels.last p o l (unused_before p f);
      low = h.labels.low;
      usable = h.labels.usable;
    };
  }

module _ {P : Type 0} {N : Net P} (law : Lawful N) {G : Flow P} {L : Labels P} {w : P} (h : Fits N G L (λ p. p ≡ w)) where
  pub end_fits : N.First w → L.into w ≡ N.entry w → Fits N G L NoHole
  end_fits first is = record {
    flow = record {
      usable = h.flow.usable;
      goes = λ p q g. let t = h.flow.goes p q g in record { link = t.link; used = t.used; prev = t.prev; charge = t.charge; whole = λ x. x };
      comes = λ q t nf n. h.flow.comes q t nf (λ e. nf (subst N.First (sym e) first));
      idle = h.flow.idle;
    };
    labels = record {
      entry = h.labels.entry;
      entered = λ p t f n. elim (law.same_or_not p w) [
        | inl e ↦ subst (λ z. L.into z ≡ N.entry z) (sym e) is
        | inr nw ↦ h.labels.entered p t f nw
      ];
      along = h.labels.along;
      last = h.labels.last;
      low = h.labels.low;
      usable = h.labels.usable;
    };
  }
