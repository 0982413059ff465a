-- Pictures of lines, one line after another. Assumes nothing.
use Rattle.std.proofs.Common.{◌≡◌, ℕ, ◌+◌, ◌<◌, List, [], ◌∷◌, ◌++◌, length, map, take, get_or, ap, ◌∙◌, Bor, arith}
use Rattle.std.specs.List.{enumerate_from}
use Rattle.std.proofs.lemmas.List.{take_more, map-append, length-map, length-take}
use Rattle.std.proofs.lemmas.List.FromFn.{length-enumerate_from}
use Rattle.promise.specs.declared.call.Call.{Call}
use Rattle.promise.specs.declared.call.Call.TheVariants.{Picture}
use Rattle.card.specs.Scripts.{pictures}

enumerate_from-append : {X : Type 0} (n : ℕ) (xs : List X) (x : X) → enumerate_from n (xs ++ x ∷ []) ≡ enumerate_from n xs ++ (n + length xs, x) ∷ []
enumerate_from-append n [] x = grind arith
enumerate_from-append n (y ∷ ys) x = grind (arith, enumerate_from-append (n + 1) ys x)

pub length-pictures : (lines : List (Bor (List ℕ))) → length (pictures lines) ≡ length lines
length-pictures lines = length-map (enumerate_from 0 lines) _ ∙ length-enumerate_from 0 lines

pub pictures-more : (lines : List (Bor (List ℕ))) (row : ℕ) (d : Bor (List ℕ)) → row < length lines → pictures (take (row + 1) lines) ≡ pictures (take row lines) ++ Picture row (get_or lines row d) ∷ []
pictures-more lines row d h =
    ap pictures (take_more lines row d h)
    ∙ ap (map picture) (enumerate_from-append 0 (take row lines) (get_or lines row d))
    ∙ map-append picture (enumerate_from 0 (take row lines)) _
    ∙ ap (λ n. pictures (take row lines) ++ Picture n (get_or lines row d) ∷ []) (omega (arith, length-take row lines))
  where
    picture : ℕ × Bor (List ℕ) → Call
    picture p = Picture p.0 p.1
