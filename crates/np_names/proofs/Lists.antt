-- Lists made from those of parts.
use Rattle.std.proofs.Common.{◌≡◌, ℕ, suc, ◌+◌, ◌<◌, List, [], ◌∷◌, ◌++◌, drop, length, get_or, refl, sym, ap, ◌∙◌, add-one, append_assoc}
use Rattle.std.proofs.Math.Seq.{drop-cons}
use Rattle.std.proofs.lemmas.List.{flat_map_more}
use Rattle.std.specs.List.{flat_map}

pub flat_map_cons : {X A : Type 0} (f : X → List A) (x : X) (xs : List X) → flat_map f (x ∷ xs) ≡ f x ++ flat_map f xs
flat_map_cons f x xs = refl

-- the item at a place, and those after it
pub next_item : {X : Type 0} (xs : List X) (i : ℕ) (x : X) → i < length xs → x ≡ get_or xs i x → drop i xs ≡ x ∷ drop (i + 1) xs
next_item xs i x within is =
    drop-cons xs i x within ∙ (ap (λ y. y ∷ drop (suc i) xs) (sym is) ∙ ap (λ n. x ∷ drop n xs) (sym (add-one i)))

-- what the items from a place on give
pub flat_map_next : {X A : Type 0} (f : X → List A) (xs : List X) (i : ℕ) (x : X) → i < length xs → x ≡ get_or xs i x
    → flat_map f (drop i xs) ≡ f x ++ flat_map f (drop (i + 1) xs)
flat_map_next f xs i x within is = ap (flat_map f) (next_item xs i x within is)

-- the same of what is made of the parts of the items
module _ {X A B : Type 0} (F : List A → List B) (more : (xs ys : List A) → F (xs ++ ys) ≡ F xs ++ F ys) (part : X → List A) (xs : List X) (i : ℕ) (x : X)
    (within : i < length xs) (is : x ≡ get_or xs i x) where
  pub part_next : F (flat_map part (drop i xs)) ≡ F (part x) ++ F (flat_map part (drop (i + 1) xs))
  part_next = ap F (flat_map_next part xs i x within is) ∙ more (part x) (flat_map part (drop (i + 1) xs))

-- a front that is put to what is so far
pub put_front : {A : Type 0} (so_far front rest new : List A) → new ≡ so_far ++ front → so_far ++ (front ++ rest) ≡ new ++ rest
put_front so_far front rest new e = sym (append_assoc so_far front rest) ∙ ap (λ xs. xs ++ rest) (sym e)

-- one more item at the end
pub flat_map_end : {X A : Type 0} (f : X → List A) (xs : List X) (x : X) → flat_map f (xs ++ x ∷ []) ≡ flat_map f xs ++ f x
flat_map_end f xs x = sym (flat_map_more f [] xs x)
