-- A column that grows, PE by PE, right of the columns before it. Assumes nothing.
use Rattle.std.proofs.Common.{◌≡◌, ℕ, ◌+◌, ◌<◌, ◌≤◌, List, [], ◌∷◌, ◌++◌, length, get_or, sym, refl, ap, ◌∙◌, arith}
use Rattle.std.specs.List.{AllByRecursion}
use Rattle.std.proofs.lemmas.List.{get_or_push, length_push}
use Rattle.std.proofs.lemmas.Grind.{common_steps}
use Rattle.plans.specs.Columns.{Card, Usable, Near, Column, standing, row}
use Rattle.plans.specs.Families.{LeftOf, Apart}
use Rattle.plans.specs.Least.{last, last_from}
use Rattle.plans.proofs.Places as Places
use Rattle.verdict.proofs.Lists.{After}

last_from_is : (j : ℕ) (js : List ℕ) → last_from j js ≡ get_or (j ∷ js) (length js) 0
last_from_is j [] = refl
last_from_is j (m ∷ ms) = last_from_is m ms

pub last_at : (a : List ℕ) (s : ℕ) → s + 1 ≡ length a → last a ≡ get_or a s 0
last_at [] s e = absurd (omega arith)
last_at (j ∷ js) s e = let same : length js ≡ s = omega arith in last_from_is j js ∙ ap (λ (x : ℕ). get_or (j ∷ js) x 0) same

pub last_push : (a : List ℕ) (j : ℕ) → last (a ++ j ∷ []) ≡ j
last_push a j = last_at (a ++ j ∷ []) (length a) (sym (length_push a j)) ∙ get_or_push a j 0 (length a) refl

-- in the standing row s, j is right of the last of some columns
abbrev pub RightIn : ℕ → List ℕ → ℕ → Type 0
RightIn s a j = get_or a s 0 < j

-- the PEs of a column so far
pub record Part (c : Card) (done : List (List ℕ)) (a : List ℕ) : Type 0 where
  pub short : length a ≤ standing c
  pub usable : (s : ℕ) → s < length a → Usable c (row c s) (get_or a s 0)
  pub near : (s : ℕ) → s + 1 < length a → Near (get_or a s 0) (get_or a (s + 1) 0)
  pub right : (s : ℕ) → s < length a → After (RightIn s) done (get_or a s 0)

pub part_none : (c : Card) (done : List (List ℕ)) → Part c done []
part_none c done = record {
  short = omega arith;
  usable = λ s l. absurd (omega arith);
  near = λ s l. absurd (omega arith);
  right = λ s l. absurd (omega arith);
}

-- what holds at each place of a list, and of one more at its end
each_push : (P : ℕ → ℕ → Type 0) (a : List ℕ) (j : ℕ) → ((s : ℕ) → s < length a → P s (get_or a s 0)) → P (length a) j →
    (s : ℕ) → s < length (a ++ j ∷ []) → P s (get_or (a ++ j ∷ []) s 0)
each_push P a j each here s l = grind (arith, common_steps)

pub part_more : (c : Card) (done : List (List ℕ)) (a : List ℕ) (j : ℕ) → Part c done a → (0 < length a → Near (last a) j) → length a < standing c →
    Usable c (row c (length a)) j → After (RightIn (length a)) done j → Part c done (a ++ j ∷ [])
part_more c done a j p near room use' right = record {
  short = omega (arith, length_push a j);
  usable = each_push (λ s m. Usable c (row c s) m) a j p.usable use';
  near = λ s l. grind (arith, common_steps, last_at, p.near s);
  right = each_push (λ s m. After (RightIn s) done m) a j p.right right;
}

pub part_column : (c : Card) (done : List (List ℕ)) (a : List ℕ) → Part c done a → 0 < length a → length a ≡ standing c → Column c a
part_column c done a p some e =
    (Places.column c a).1 (omega arith, e, λ s l. p.usable s (omega arith), λ s l. p.near s (omega arith))

-- right of the last column in each row is left to right
after_left : (c : Card) (done : List (List ℕ)) (a : List ℕ) → AllByRecursion (Column c) done → length a ≡ standing c →
    ((s : ℕ) → s < length a → After (RightIn s) done (get_or a s 0)) → After LeftOf done a
after_left c [] a cs e right = tt
after_left c (b ∷ []) a cs e right =
    let len : length b ≡ length a = omega (arith, ((Places.column c b).0 cs.0).1) in
    (Places.left b a len).1 (λ s l. right s (omega arith))
after_left c (b ∷ b' ∷ done) a cs e right = after_left c (b' ∷ done) a cs.1 e right

pub part_left : (c : Card) (done : List (List ℕ)) (a : List ℕ) → AllByRecursion (Column c) done → Part c done a → length a ≡ standing c → After LeftOf done a
part_left c done a cs p e = after_left c done a cs e p.right

-- and the other way round
pub column_right : (c : Card) (done : List (List ℕ)) (a : List ℕ) → After LeftOf done a → AllByRecursion (Column c) done → Column c a →
    (s : ℕ) → s < standing c → After (RightIn s) done (get_or a s 0)
column_right c [] a l cs w s k = tt
column_right c (b ∷ []) a l cs w s k =
    let lb = ((Places.column c b).0 cs.0).1 in
    let la = ((Places.column c a).0 w).1 in
    let same : length b ≡ length a = lb ∙ sym la in
    (Places.left b a same).0 l s (omega arith)
column_right c (b ∷ b' ∷ done) a l cs w s k = column_right c (b' ∷ done) a l cs.1 w s k

pub left_trans : (a b c : List ℕ) → LeftOf a b → LeftOf b c → LeftOf a c
left_trans [] [] [] p q = tt
left_trans [] [] (z ∷ c) p q = q
left_trans [] (y ∷ b) c p q = absurd p
left_trans (x ∷ a) [] c p q = absurd p
left_trans (x ∷ a) (y ∷ b) [] p q = absurd q
left_trans (x ∷ a) (y ∷ b) (z ∷ c) p q = (omega (arith, p.0, q.0), left_trans a b c p.1 q.1)

pub left_apart : (a b : List ℕ) → LeftOf a b → Apart a b
left_apart [] [] p = tt
left_apart [] (y ∷ b) p = p
left_apart (x ∷ a) [] p = p
left_apart (x ∷ a) (y ∷ b) p = ((λ e. omega (arith, p.0)), left_apart a b p.1)
