-- Lists that are made number by number.
use Rattle.std.proofs.Common.{◌≡◌, ℕ, ◌+◌, List, [], ◌∷◌, ◌++◌, map, refl, sym, ap, ◌∙◌, arith, append_assoc}
use Rattle.std.specs.List.{range_with_len}
use Rattle.std.proofs.lemmas.List.{map_push}
use Rattle.std.proofs.lemmas.List.FromFn.{map-range_with_len_more}
use Rattle.np_frac.specs.Fractions.{Fraction}

-- one more number
pub pushed_more : {N : Type 0} (value : N → Fraction) (old new : List N) (base : List Fraction) (f : ℕ → Fraction) (k : ℕ) (x : N)
    → new ≡ old ++ x ∷ [] → value x ≡ f k → map value old ≡ base ++ map f (range_with_len 0 k)
    → map value new ≡ base ++ map f (range_with_len 0 (k + 1))
pushed_more value old new base f k x e v h =
    ap (map value) e ∙ map_push value old x ∙ ap (λ y. y ++ value x ∷ []) h ∙ append_assoc base (map f (range_with_len 0 k)) (value x ∷ [])
    ∙ ap (λ y. base ++ y) (ap (λ y. map f (range_with_len 0 k) ++ y ∷ []) v ∙ sym (map-range_with_len_more f 0 k k (omega arith)))

-- one more item, from an empty list on
pub pushed_map : {N X : Type 0} (value : N → X) (old new : List N) (f : ℕ → X) (k : ℕ) (x : N) → new ≡ old ++ x ∷ [] → value x ≡ f k
    → map value old ≡ map f (range_with_len 0 k) → map value new ≡ map f (range_with_len 0 (k + 1))
pushed_map value old new f k x e v h =
    ap (map value) e ∙ map_push value old x ∙ ap (λ y. y ++ value x ∷ []) h
    ∙ ap (λ y. map f (range_with_len 0 k) ++ y ∷ []) v ∙ sym (map-range_with_len_more f 0 k k (omega arith))

-- one more number
pub range_more : (k : ℕ) → range_with_len 0 (k + 1) ≡ range_with_len 0 k ++ k ∷ []
range_more k = sym (map_self (range_with_len 0 (k + 1))) ∙ map-range_with_len_more (λ x. x) 0 k k (omega arith)
    ∙ ap (λ xs. xs ++ k ∷ []) (map_self (range_with_len 0 k))
  where
    map_self : (xs : List ℕ) → map (λ x. x) xs ≡ xs
    map_self [] = refl
    map_self (x ∷ xs) = ap (λ ys. x ∷ ys) (map_self xs)
