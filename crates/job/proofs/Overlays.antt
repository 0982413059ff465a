-- Text laid over a page, piece by piece. Assumes nothing.
use Rattle.std.proofs.Common.{◌≡◌, ℕ, ◌+◌, ◌≤◌, min, List, [], ◌++◌, length, take, refl, sym, ap₂, ◌∙◌, rules, arith}
use Rattle.std.proofs.lemmas.List.{same_lists, places, length-append}
use borrow.Rule.Slice.PartMut.{put_mid}
use Rattle.greedy.specs.Answers.{at_front}
use Rattle.job.specs.Pages.{overlaid, Laid}

-- the part of the page that a write takes up
pub overlaid_part : (page : List ℕ) (at : ℕ) (text : List ℕ) (start k : ℕ) (written : List ℕ) → start ≡ min at (length page) → start + k ≡ min (at + length text) (length page) →
    written ≡ take k text → put_mid start k page written ≡ overlaid page at text
unfolding overlaid
overlaid_part page at text start k written s e w = same_lists _ _ (search (rules, places)) (λ j d h. grind (arith, places))

overlaid_none : (page : List ℕ) (at : ℕ) → overlaid page at [] ≡ page
unfolding overlaid
overlaid_none page at = same_lists _ _ (search (rules, places)) (λ k d h. grind (arith, places))

overlaid_then : (page : List ℕ) (at : ℕ) (xs ys : List ℕ) → overlaid (overlaid page at xs) (at + length xs) ys ≡ overlaid page at (xs ++ ys)
unfolding overlaid
overlaid_then page at xs ys = same_lists _ _ (search (rules, places)) (λ k d h. grind (arith, places))

pub overlaid_front : (page text : List ℕ) → length text ≤ length page → overlaid page 0 text ≡ at_front text page
unfolding overlaid
overlaid_front page text h = same_lists _ _ (search (rules, places)) (λ k d h. grind (arith, places))

pub laid_none : (page : List ℕ) → Laid page 0 [] page 0
laid_none page = record { over = sym (overlaid_none page 0); behind = refl }

-- a text is laid behind another
pub laid_then : {first page after : List ℕ} {at next : ℕ} (xs ys : List ℕ) → Laid first 0 xs page at → Laid page at ys after next → Laid first 0 (xs ++ ys) after next
laid_then {first = first} xs ys l m =
    record {
      over = m.over ∙ ap₂ (λ p n. overlaid p n ys) l.over l.behind ∙ overlaid_then first 0 xs ys;
      behind = omega (arith, l.behind, m.behind, length-append xs ys);
    }
