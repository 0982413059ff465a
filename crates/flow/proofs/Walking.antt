-- The walk: each of its moves leads to a hole of an earlier stamp. Assumes nothing.
use Rattle.std.proofs.Common.{◌≡◌, ℕ, ◌+◌, ◌<◌, ◌≤◌, cond, sym, refl, ap, ◌∙◌, subst, inl, inr, arith}
use Rattle.std.proofs.lemmas.Bool.{cond-true, cond-false}
use Rattle.flow.specs.Nets.{Net, Lawful, Flow, Goes, Bears, Reaches}
use Rattle.flow.specs.Fits.{Labels, Fits, NoHole}
use Rattle.flow.specs.Moves.{Opened, Linked, Dropped}
use Rattle.flow.specs.Seeks.{source, below, Marks, Cause}
use Rattle.flow.specs.Walks.{Ready, Settled, Walk}
use Rattle.flow.proofs.Bearing.{bears_idle, bears_one, bears_first}
use Rattle.flow.proofs.Opening as Opening
use Rattle.flow.proofs.Linking as Linking
use Rattle.flow.proofs.Dropping as Dropping

module _ {P : Type 0} {N : Net P} (law : Lawful N) {F : Flow P} {L : Labels P} {W : ℕ} {M : Marks P} (s : Settled N F L W M) (room : L.exit < W) where
  -- The walk begins: a last place is opened.
  pub opens : {G : Flow P} {e : P} → Ready N F L M e → Opened F G e → Walk N F L M G e
  opens {e = e} r m =
      let itself : Bears N F e e 0 = bears_idle r.usable r.unused in
      record {
        bearer = e;
        gap = 0;
        bears = itself;
        used = m.used;
        fits = Opening.open_fits law s.fits r.usable r.last r.unused m;
        reached = r.reached;
        same = λ a u k b early.
            let n : a ≡ e → ⊥ = λ i. omega (arith, ap M.stamp (bears_one itself (subst (λ z. Bears N F z u k) i b))) in
            (m.used_else a n, m.next a);
      }

  -- the label above w comes from the one below a, which u bears, and is just that
  pub record From (w a : P) : Type 0 where
    pub u : P
    pub k : ℕ
    pub c : ℕ
    pub bears : Bears N F a u k
    pub reaches : Reaches N a w c
    pub is : L.into w + k ≡ L.into u + c
    pub early : M.stamp u < M.stamp w
    pub reached : M.label u ≤ L.into u

  unsaid : (a : P) → source ≡ below a → ⊥
  unsaid a e = cc

  says_one : (a b : P) → below a ≡ below b → a ≡ b
  says_one a b e = cc

  -- the label above w has a cause
  cause : (b w : P) (k : ℕ) → Bears N F b w k → M.label w ≤ L.into w → Cause N F M w
  cause b w k bears reached = s.caused b w k bears (omega (arith, s.fits.labels.low w))

  pub comes_from : (b w a : P) (j : ℕ) → Bears N F b w j → M.label w ≤ L.into w → M.why w ≡ below a → From w a
  comes_from b w a j borne reached says = elim (cause b w j borne reached) [
    | Cause.by_entry r f e ↦ absurd (unsaid a (sym r ∙ says))
    | Cause.by_place d u k c r bears reaches slack later ↦
        let up = s.fits.labels.along d u k bears w c reaches in
        let low = s.above u in
        subst (From w) (says_one d a (sym r ∙ says)) (record {
          u = u;
          k = k;
          c = c;
          bears = bears;
          reaches = reaches;
          is = omega arith;
          early = later (omega arith);
          reached = omega arith;
        })
  ]

  module _ {G : Flow P} {w : P} (walk : Walk N F L M G w) where
    -- The walk ends at the entry.
    pub ends : M.why w ≡ source → Fits N G L NoHole
    ends says = elim (cause walk.bearer w walk.gap walk.bears walk.reached) [
      | Cause.by_entry r f e ↦ Opening.end_fits law walk.fits f (omega (arith, walk.reached, s.fits.labels.entry w walk.bears.to f))
      | Cause.by_place a u k c r b reach slack later ↦ absurd (unsaid a (sym says ∙ r))
    ]

    module _ (a : P) (says : M.why w ≡ below a) where
      abbrev pub from : From w a
      from = comes_from walk.bearer w a walk.gap walk.bears walk.reached says

      now : (G.used a ≡ F.used a) × (G.next a ≡ F.next a)
      now = walk.same a from.u from.k from.bears from.early

      -- the label below a is borne as it was
      bears_now : Bears N G a from.u from.k
      bears_now = record {
        from = from.bears.from;
        to = from.bears.to;
        how = elim from.bears.how [
          | inl i ↦ inl (now.0 ∙ i.0, i.1, i.2)
          | inr g ↦ inr (record { usable = g.0.usable; used = now.0 ∙ g.0.used; not_last = g.0.not_last; to = now.1 ∙ g.0.to }, g.1)
        ];
      }

      -- what bears a label of an earlier stamp than u does not bear that one
      apart : (p x : P) (k : ℕ) → Bears N F p x k → M.stamp x < M.stamp from.u → p ≡ a → ⊥
      apart p x k b early i =
          omega (arith, ap M.stamp (bears_one from.bears (subst (λ z. Bears N F z x k) i b)))

      module _ (n : a ≡ w → ⊥) where
        pub by_link : N.Link a w × (from.c ≡ N.cost a w)
        by_link = elim from.reaches [ inl l ↦ l | inr r ↦ absurd (n (sym r.0)) ]

        -- A place a is linked to the hole.
        pub links : {H : Flow P} → Linked G H a w (N.cost a w) → (let x = cond (G.used a) (G.next a) a in Walk N F L M H x × (M.stamp x < M.stamp w))
        links {H = H} m =
            let link = by_link in
            let is : L.into w + from.k ≡ L.into from.u + N.cost a w = omega (arith, from.is, link.1) in
            let to : from.u ≡ cond (G.used a) (G.next a) a = elim bears_now.how [
              | inl i ↦ i.1 ∙ sym (cond-false (G.used a) (G.next a) a i.0)
              | inr g ↦ sym g.0.to ∙ sym (cond-true (G.used a) (G.next a) a g.0.used)
            ] in
            subst (λ z. Walk N F L M H z × (M.stamp z < M.stamp w)) to (
              record {
                bearer = a;
                gap = from.k;
                bears = from.bears;
                used = Linking.link_used law walk.fits walk.used link.0 bears_now is m;
                fits = Linking.link_fits law walk.fits walk.used link.0 bears_now is m;
                reached = from.reached;
                same = λ p x k b early.
                    let n = apart p x k b early in
                    let was = walk.same p x k b (omega (arith, from.early)) in
                    (m.used_else p n ∙ was.0, m.next_else p n ∙ was.1);
              },
              from.early,
            )

    -- The flow goes on from the hole, if its reason is its own label below.
    pub goes_on : (says : M.why w ≡ below w) → Goes N G w (from w says).u × ((from w says).k ≡ N.cost w (from w says).u)
    goes_on says = elim (bears_now w says).how [
      | inl i ↦ absurd (omega (arith, ap M.stamp i.1, (from w says).early))
      | inr g ↦ g
    ]

    -- The hole is dropped.
    pub drops : {H : Flow P} → M.why w ≡ below w → Dropped G H w → Walk N F L M H (G.next w) × (M.stamp (G.next w) < M.stamp w)
    drops {H = H} says m =
        let f = from w says in
        let goes = goes_on says in
        let here : f.c ≡ 0 = elim f.reaches [ inl l ↦ absurd (law.apart l.0 refl) | inr r ↦ r.1 ] in
        let first : N.First w → ⊥ = λ p. bears_first law s.fits.flow walk.bears p (sym (now w says).0 ∙ goes.0.used) in
        let is : L.into w + N.cost w f.u ≡ L.into f.u = omega (arith, f.is, goes.1, here) in
        subst (λ z. Walk N F L M H z × (M.stamp z < M.stamp w)) (sym goes.0.to) (
          record {
            bearer = w;
            gap = f.k;
            bears = f.bears;
            used = Dropping.drop_used law walk.fits goes.0 first is m;
            fits = Dropping.drop_fits law walk.fits goes.0 first is m;
            reached = f.reached;
            same = λ p x k b early.
                let n = apart w says p x k b early in
                let was = walk.same p x k b (omega (arith, f.early)) in
                (m.used_else p n ∙ was.0, m.next p ∙ was.1);
          },
          f.early,
        )
