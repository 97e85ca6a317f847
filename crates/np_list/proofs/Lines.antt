-- Lines by number, one after the other.
use Rattle.std.proofs.Common.{◌≡◌, ℕ, ◌+◌, ◌<◌, List, [], ◌∷◌, ◌++◌, length, get_or, take, sym, ap, ◌∙◌, arith}
use Rattle.std.specs.List.{enumerate_from, flat_map}
use Rattle.std.proofs.lemmas.List.{length-take-le, take_more, flat_map_more}

-- the number of one more item is how many are before it
enumerate_more : {A : Type 0} (n m : ℕ) (xs : List A) (x : A) → m ≡ n + length xs → enumerate_from n (xs ++ x ∷ []) ≡ enumerate_from n xs ++ (m, x) ∷ []
enumerate_more n m [] x e = ap (λ (k : ℕ). (k, x) ∷ []) (omega arith)
enumerate_more n m (y ∷ ys) x e = ap (λ ps. (n, y) ∷ ps) (enumerate_more (n + 1) m ys x (omega arith))

-- the lines up to a number, and its own
pub lines_more : {A : Type 0} (line : ℕ → A → List ℕ) (text : List ℕ) (xs : List A) (i : ℕ) (x : A) → i < length xs → x ≡ get_or xs i x
    → (text ++ flat_map (λ p. line p.0 p.1) (enumerate_from 0 (take i xs))) ++ line i x ≡ text ++ flat_map (λ p. line p.0 p.1) (enumerate_from 0 (take (i + 1) xs))
lines_more {A} line text xs i x h at =
    let one : ℕ × A → List ℕ = λ p. line p.0 p.1 in
    let all : take (i + 1) xs ≡ take i xs ++ x ∷ [] = take_more xs i x h ∙ ap (λ (y : A). take i xs ++ y ∷ []) (sym at) in
    let long : length (take i xs) ≡ i = length-take-le i xs (omega arith) in
    let many : i ≡ 0 + length (take i xs) = omega arith in
    flat_map_more one text (enumerate_from 0 (take i xs)) (i, x)
    ∙ ap (λ (ps : List (ℕ × A)). text ++ flat_map one ps) (sym (ap (λ (ys : List A). enumerate_from 0 ys) all ∙ enumerate_more 0 i (take i xs) x many))
