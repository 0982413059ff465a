-- A place that has been scanned waits no more. Assumes nothing.
use Rattle.std.proofs.Common.{◌≡◌, ℕ, ◌+◌, ◌≤◌, Bool, false, sym, ap, ◌∙◌, subst, inl, inr, arith}
use Rattle.std.proofs.lemmas.Bool.{both_ways}
use Rattle.flow.specs.Nets.{Net, Lawful, Flow, Bears, Reaches}
use Rattle.flow.specs.Fits.{Labels}
use Rattle.flow.specs.Seeks.{Marks, Seeking}

module _ {P : Type 0} {N : Net P} (law : Lawful N) {F : Flow P} {L : Labels P} {W : ℕ} {waiting waits : P → Bool} {M : Marks P}
    (s : Seeking N F L W waiting M) (u : P) (off : waits u ≡ false) (others : (x : P) → (x ≡ u → ⊥) → waits x ≡ waiting x) where
  pub scanned : ((a : P) (k : ℕ) → Bears N F a u k → (w : P) (c : ℕ) → Reaches N a w c → M.label w + k ≤ M.label u + c) → Seeking N F L W waits M
  scanned done = record {
    above = s.above;
    high = s.high;
    usable = s.usable;
    quiet = λ a x k b m q w c reach. elim (law.same_or_not x u) [
      | inl e ↦ omega (arith, ap M.label e, done a k (subst (λ z. Bears N F a z k) e b) w c reach)
      | inr n ↦ s.quiet a x k b m (sym (others x n) ∙ q) w c reach
    ];
    caused = s.caused;
    waiting = λ x q. elim (law.same_or_not x u) [
      | inl e ↦ absurd (both_ways (waits u) off (ap waits (sym e) ∙ q))
      | inr n ↦ s.waiting x (sym (others x n) ∙ q)
    ];
    clocked = s.clocked;
    cap = s.cap;
    bound = s.bound;
    last = s.last;
  }
