-- Code that answers as a definition does. Assumes nothing.
use Rattle.std.proofs.Common.{◌≡◌, Some, None, Ok, Err, Option, Result, sym, refl, ap, subst}
use Rattle.host.specs.Refusals.{answered}
use Rattle.judge.specs.Gathering.{AnswersAs}

module _ {A B X : Type 0} (f : B → A) (P : B → Type 0) (r : Result A X) (d : Result B X) where
  pub answers_err : (x : X) → d ≡ Err x → r ≡ Err x → AnswersAs f P r d
  answers_err x e q = subst (AnswersAs f P r) (sym e) q

  pub answers_ok : (b : B) → d ≡ Ok b → r ≡ Ok (f b) → P b → AnswersAs f P r d
  answers_ok b e q p = subst (AnswersAs f P r) (sym e) (q, p)

-- what is refused is refused whatever else were answered
pub refused_so : {A B X : Type 0} (o : Option X) (a : A) (b : B) (x : X) → ◌≡◌ {A = Result A X} (Err x) (answered o a) → answered o b ≡ Err x
refused_so None a b x e = absurd (cc)
refused_so (Some y) a b x e = let same : x ≡ y = cc in ap Err (sym same)

pub allowed_so : {A X : Type 0} (o : Option X) (a x : A) → ◌≡◌ {A = Result A X} (Ok x) (answered o a) → (o ≡ None) × (x ≡ a)
allowed_so None a x e = (refl, cc)
allowed_so (Some y) a x e = absurd (cc)

-- what holds of what is given, where it was given so
pub answers_more : {A B X : Type 0} (f : B → A) (P Q : B → Type 0) (r : Result A X) (d : Result B X) →
    ((b : B) → d ≡ Ok b → P b → Q b) → AnswersAs f P r d → AnswersAs f Q r d
answers_more f P Q r (Err x) each a = a
answers_more f P Q r (Ok b) each a = (a.0, each b refl a.1)

pub given_so : {A X : Type 0} (o : Option X) (a b : A) → ◌≡◌ {A = Result A X} (answered o a) (Ok b) → a ≡ b
given_so None a b e = cc
given_so (Some y) a b e = absurd (cc)

pub answers_as : {A B X : Type 0} (f : B → A) (P : B → Type 0) (r : Result A X) (d d' : Result B X) → d ≡ d' → AnswersAs f P r d' → AnswersAs f P r d
answers_as f P r d d' e a = subst (AnswersAs f P r) (sym e) a

-- and what was given, where something was
pub record Given {A B X : Type 0} (f : B → A) (P : B → Type 0) (a : A) (d : Result B X) : Type 0 where
  pub what : B
  pub is : d ≡ Ok what
  pub told : a ≡ f what
  pub holds : P what

pub given : {A B X : Type 0} (f : B → A) (P : B → Type 0) (a : A) (d : Result B X) → AnswersAs f P (Ok a) d → Given f P a d
given f P a (Err x) q = absurd (cc)
given f P a (Ok b) q = record { what = b; is = refl; told = cc; holds = q.1 }
