-- Which label bears the label below a place. Assumes nothing.
use Rattle.std.proofs.Common.{◌≡◌, ℕ, ◌+◌, ◌≤◌, true, false, sym, refl, ap, ◌∙◌, subst, inl, inr, arith}
use Rattle.std.proofs.lemmas.Bool.{both_ways, cases_Bool}
use Rattle.flow.specs.Nets.{Net, Lawful, Flow, Goes, Bears, Reaches}
use Rattle.flow.specs.Fits.{Conserved, Labels, Labelled}

module _ {P : Type 0} {N : Net P} {F : Flow P} where
  pub bears_idle : {a : P} → N.Usable a → F.used a ≡ false → Bears N F a a 0
  bears_idle o f = record { from = o; to = o; how = inl (f, refl, refl) }

  -- only one label bears it
  pub bears_one : {a u x : P} {k j : ℕ} → Bears N F a u k → Bears N F a x j → x ≡ u
  bears_one {a = a} b d = elim b.how [
    | inl i ↦ elim d.how [ inl e ↦ e.1 ∙ sym i.1 | inr g ↦ absurd (both_ways (F.used a) i.0 g.0.used) ]
    | inr g ↦ elim d.how [ inl e ↦ absurd (both_ways (F.used a) e.0 g.0.used) | inr f ↦ sym f.0.to ∙ g.0.to ]
  ]

  -- the label above a place is no higher than the one below makes it
  pub bears_low : {L : Labels P} {Hole : P → Type 0} → Labelled N F L Hole → {a u : P} {k : ℕ} → Bears N F a u k → L.into a + k ≤ L.into u
  bears_low h {a = a} {u = u} {k = k} b = omega (arith, h.along a u k b a 0 (inr (refl, refl)))

  module _ (law : Lawful N) {Hole : P → Type 0} (h : Conserved N F Hole) where
    -- a label is not lowered by itself
    pub bears_itself : {a u : P} {k : ℕ} (c : ℕ) → Bears N F a u k → Reaches N a u c → k ≤ c
    bears_itself {a = a} {u = u} c b reach = elim b.how [
      | inl i ↦ omega (arith, i.2)
      | inr g ↦ elim reach [ inl l ↦ omega (arith, l.1, g.1) | inr r ↦ absurd (law.apart (h.goes a u g.0).link (sym r.0)) ]
    ]

    pub bears-goes : {a u : P} → Goes N F a u → Bears N F a u (N.cost a u)
    bears-goes {a = a} {u = u} g = record { from = g.usable; to = law.to (h.goes a u g).link; how = inr (g, refl) }

    -- the label above a used first place bears none
    pub bears_first : {a u : P} {k : ℕ} → Bears N F a u k → N.First u → F.used u ≡ true → ⊥
    bears_first {a = a} {u = u} b first used = elim b.how [
      | inl i ↦ both_ways (F.used a) i.0 (ap F.used (sym i.1) ∙ used)
      | inr g ↦ law.not_first (h.goes a u g.0).link first
    ]

    -- where the flow comes from
    pub bears_prev : (u : P) → N.Usable u → (N.First u → F.used u ≡ true → ⊥) → (Hole u → ⊥) → Bears N F (F.prev u) u (F.charge u)
    bears_prev u o first hole = elim (cases_Bool (F.used u)) [
      | inl t ↦ let g = h.comes u t (λ f. first f t) hole in record { from = g.usable; to = o; how = inr (g, (h.goes (F.prev u) u g).charge) }
      | inr f ↦
          let is = h.idle u o f in
          record { from = subst N.Usable (sym is.0) o; to = o; how = inl (ap F.used is.0 ∙ f, sym is.0, is.1) }
    ]

    pub bears_only : {a u : P} {k : ℕ} → Bears N F a u k → (a ≡ F.prev u) × (k ≡ F.charge u)
    bears_only {a = a} {u = u} b = elim b.how [
      | inl i ↦ let is = h.idle u b.to (ap F.used i.1 ∙ i.0) in (sym i.1 ∙ sym is.0, i.2 ∙ sym is.1)
      | inr g ↦ let t = h.goes a u g.0 in (sym t.prev, g.1 ∙ sym t.charge)
    ]
