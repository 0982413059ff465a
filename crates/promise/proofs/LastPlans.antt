-- The last call that made a plan, before and after one call more. Assumes nothing.
use Rattle.std.proofs.Common.{◌≡◌, false, ◌⊎◌, List, [], ◌∷◌, ◌++◌, sym, refl, ap, ◌∙◌, subst, inl, inr, append_assoc}
use Rattle.host.specs.declared.size.Size.{Size}
use Rattle.tariff.specs.Meaning.{Meaning}
use Rattle.promise.specs.declared.call.Call.{Call}
use Rattle.promise.specs.Promise.{map_after, altering, Makes, LastPlan}
use Rattle.promise.proofs.Lasts.{nothing_last, Parts, parts}

module _ (z : Size) (m : Meaning) (calls : List Call) (c : Call) where
  -- the call keeps a plan that is held
  abbrev pub Keeps : List Call → Call → Type 0
  Keeps before d = (¬ Makes m (map_after z before) d) × (altering (map_after z before) d ≡ false)

  pub last_here : Makes m (map_after z calls) c → LastPlan z m (calls ++ c ∷ [])
  last_here makes = record { before = calls; maker = c; later = []; all = refl; makes = makes; kept = λ xs ys d e. nothing_last xs ys d e }

  pub last_before : LastPlan z m calls → Keeps calls c → LastPlan z m (calls ++ c ∷ [])
  last_before l keeps = record {
    before = l.before;
    maker = l.maker;
    later = l.later ++ c ∷ [];
    all = ap (λ xs. xs ++ c ∷ []) l.all ∙ append_assoc l.before (l.maker ∷ l.later) (c ∷ []);
    makes = l.makes;
    kept = λ xs ys d e. at xs ys d (parts l.later c xs d ys e);
  }
    where
      at : (xs ys : List Call) (d : Call) → Parts l.later c xs d ys → Keeps (l.before ++ l.maker ∷ xs) d
      at xs ys d (inl p) = subst (λ x. Keeps (l.before ++ l.maker ∷ xs) x) p.1 (subst (λ xs. Keeps xs c) (l.all ∙ ap (λ xs. l.before ++ l.maker ∷ xs) p.0) keeps)
      at xs ys d (inr p) = l.kept xs p.0 d p.2

  -- it is the last call, or the same as before a last call that keeps it
  pub record Before (l : LastPlan z m (calls ++ c ∷ [])) : Type 0 where
    pub last : LastPlan z m calls
    pub same_before : last.before ≡ l.before
    pub same_maker : last.maker ≡ l.maker
    pub keeps : Keeps calls c

  pub last_or_before : (l : LastPlan z m (calls ++ c ∷ [])) → ((calls ≡ l.before) × (c ≡ l.maker)) ⊎ Before l
  last_or_before l = at (parts calls c l.before l.maker l.later l.all)
    where
      at : Parts calls c l.before l.maker l.later → ((calls ≡ l.before) × (c ≡ l.maker)) ⊎ Before l
      at (inl p) = inl (p.0, p.1)
      at (inr p) = inr (record {
        last = record {
          before = l.before;
          maker = l.maker;
          later = p.0;
          all = p.2;
          makes = l.makes;
          kept = λ xs ys d e. l.kept xs (ys ++ c ∷ []) d (p.1 ∙ ap (λ xs. xs ++ c ∷ []) e ∙ append_assoc xs (d ∷ ys) (c ∷ []));
        };
        same_before = refl;
        same_maker = refl;
        keeps = subst (λ xs. Keeps xs c) (sym p.2) (l.kept p.0 [] c p.1);
      })
