-- Lists whose first items are changed already.
use Rattle.std.proofs.Common.{◌≡◌, ◌≢◌, ℕ, zero, suc, ◌+◌, ◌<◌, List, [], ◌∷◌, ◌++◌, length, map, set, take, drop, get_or, refl, sym, ap, ◌∙◌, arith}
use Rattle.std.proofs.lemmas.List.{length-map, length-take-le, map-set, get_or-set_other, get_or-map, get_or-drop, get_or-append-add, set-get_or}
use Rattle.std.proofs.lemmas.List.{get_or_default}
use Rattle.std.proofs.lemmas.List.Edits.{map_over_more}
use Rattle.np_frac.specs.Fractions.{Fraction, minus, times}
use Rattle.np_frac.specs.Field.{minus_zero}
use Rattle.np_simplex.specs.Tableau.{nought, at, less}
use Rattle.np_simplex.specs.Packed.{slot_less}
use Rattle.np_simplex.proofs.Sums.{zero_times}

-- the first items are changed, the others not yet
abbrev pub partly : {X : Type 0} → (X → X) → ℕ → List X → List X
partly f i xs = map f (take i xs) ++ drop i xs

-- an item that isn't changed yet
pub partly_rest : {X : Type 0} (f : X → X) (xs : List X) (i : ℕ) (e : X) → i < length xs → get_or (partly f i xs) i e ≡ get_or xs i e
partly_rest f xs i e l =
    ap (λ j. get_or (partly f i xs) j e) (let n : length (map f (take i xs)) + 0 ≡ i = omega
    (arith, length-map (take i xs) f, length-take-le i xs) in sym n)
    ∙ get_or-append-add (map f (take i xs)) (drop i xs) 0 e ∙ get_or-drop i xs 0 e
    ∙ ap (λ j. get_or xs j e) (let z : i + 0 ≡ i = omega arith in z)

-- one more
pub partly_next : {X : Type 0} (f : X → X) (xs : List X) (i : ℕ) (e : X) → i < length xs
    → set (partly f i xs) i (f (get_or xs i e)) ≡ partly f (i + 1) xs
partly_next f xs i e l = map_over_more f xs (partly f i xs) i (get_or xs i e) l refl (sym (partly_rest f xs i (get_or xs i e) l
    ∙ get_or_default xs i (get_or xs i e) e l))

-- ---- seen through a view

pub over_rest : {N X : Type 0} (view : N → X) (f : X → X) (xs : List X) (rows : List N) (i : ℕ) (d : N) (e : X) → i < length xs → i < length rows
    → map view rows ≡ partly f i xs → get_or xs i e ≡ view (get_or rows i d)
over_rest view f xs rows i d e l k h = sym (partly_rest f xs i e l) ∙ ap (λ ys. get_or ys i e) (sym h) ∙ get_or-map view rows i d e k

pub over_more : {N X : Type 0} (view : N → X) (f : X → X) (xs : List X) (rows : List N) (i : ℕ) (d new : N) (e : X) → i < length xs → i < length rows
    → map view rows ≡ partly f i xs → view new ≡ f (view (get_or rows i d)) → map view (set rows i new) ≡ partly f (i + 1) xs
over_more view f xs rows i d new e l k h v =
    map-set view rows i new ∙ ap (λ ys. set ys i (view new)) h
    ∙ ap (λ y. set (partly f i xs) i y) (v ∙ ap f (sym (over_rest view f xs rows i d e l k h))) ∙ partly_next f xs i e l

-- ---- where one item stays

pub set_twice : {X : Type 0} (xs : List X) (i : ℕ) (a b : X) → set (set xs i a) i b ≡ set xs i b
set_twice [] i a b = refl
set_twice (x ∷ xs) zero a b = refl
set_twice (x ∷ xs) (suc i) a b = ap (λ ys. x ∷ ys) (set_twice xs i a b)

pub set_swap : {X : Type 0} (xs : List X) (i j : ℕ) (a b : X) → i ≢ j → set (set xs i a) j b ≡ set (set xs j b) i a
set_swap [] i j a b h = refl
set_swap (x ∷ xs) zero zero a b h = absurd (h refl)
set_swap (x ∷ xs) zero (suc j) a b h = refl
set_swap (x ∷ xs) (suc i) zero a b h = refl
set_swap (x ∷ xs) (suc i) (suc j) a b h = ap (λ ys. x ∷ ys) (set_swap xs i j a b (λ e. h (ap suc e)))

-- the item that stays is passed over
pub others_skip : {X : Type 0} (f : X → X) (xs : List X) (i r : ℕ) (x e : X) → i < length xs → i ≡ r
    → set (partly f i xs) r x ≡ set (partly f (i + 1) xs) r x
others_skip f xs i r x e l s =
    sym (ap (λ ys. set ys r x) (sym (partly_next f xs i e l) ∙ ap (λ j. set (partly f i xs) j (f (get_or xs i e))) s)
    ∙ set_twice (partly f i xs) r (f (get_or xs i e)) x)

-- an item that isn't changed yet
pub others_rest : {N X : Type 0} (view : N → X) (f : X → X) (xs : List X) (rows : List N) (i r : ℕ) (d : N) (x e : X) → i < length xs
    → i < length rows → i ≢ r → map view rows ≡ set (partly f i xs) r x → get_or xs i e ≡ view (get_or rows i d)
others_rest view f xs rows i r d x e l k n h =
    sym (partly_rest f xs i e l) ∙ sym (get_or-set_other (partly f i xs) r i x e n) ∙ ap (λ ys. get_or ys i e) (sym h) ∙ get_or-map view rows i d e k

-- one more
pub others_more : {N X : Type 0} (view : N → X) (f : X → X) (xs : List X) (rows : List N) (i r : ℕ) (d new : N) (x e : X) → i < length xs
    → i < length rows → i ≢ r → map view rows ≡ set (partly f i xs) r x → view new ≡ f (view (get_or rows i d))
    → map view (set rows i new) ≡ set (partly f (i + 1) xs) r x
others_more view f xs rows i r d new x e l k n h v =
    map-set view rows i new ∙ ap (λ ys. set ys i (view new)) h ∙ set_swap (partly f i xs) r i x (view new) (λ s. n (sym s))
    ∙ ap (λ ys. set ys r x) (ap (λ y. set (partly f i xs) i y) (v ∙ ap f (sym (others_rest view f xs rows i r d x e l k n h)))
    ∙ partly_next f xs i e l)

-- functions that agree but there
pub set_agree : {X Y : Type 0} (f g : X → Y) (xs : List X) (r : ℕ) (a : Y) (d : X)
    → ((i : ℕ) → i < length xs → i ≢ r → f (get_or xs i d) ≡ g (get_or xs i d)) → set (map f xs) r a ≡ set (map g xs) r a
set_agree f g [] r a d h = refl
set_agree f g (x ∷ xs) zero a d h = ap (λ ys. a ∷ ys) (map_agree xs (λ i l. h (suc i) (omega arith) (λ e. omega arith)))
  where
    map_agree : (ys : List _) → ((i : ℕ) → i < length ys → f (get_or ys i d) ≡ g (get_or ys i d)) → map f ys ≡ map g ys
    map_agree [] k = refl
    map_agree (y ∷ ys) k = ap (λ z. z ∷ map f ys) (k 0 (omega arith)) ∙ ap (λ zs. g y ∷ zs) (map_agree ys (λ i l. k (suc i) (omega arith)))
set_agree f g (x ∷ xs) (suc r) a d h =
    ap (λ y. y ∷ set (map f xs) r a) (h 0 (omega arith) (λ e. omega arith))
    ∙ ap (λ ys. g x ∷ ys) (set_agree f g xs r a d (λ i l n. h (suc i) (omega arith) (λ e. n (omega arith))))

-- ---- a multiple of 0

less_nought : (xs : List Fraction) (k : Fraction) (ys : List Fraction) → length xs ≡ length ys → k ≡ nought → less xs k ys ≡ xs
less_nought [] k [] e z = refl
less_nought [] k (y ∷ ys) e z = absurd (omega arith)
less_nought (x ∷ xs) k [] e z = absurd (omega arith)
less_nought (x ∷ xs) k (y ∷ ys) e z =
    ap (λ a. a ∷ less xs k ys) (ap (λ a. minus x (times a y)) z ∙ ap (λ a. minus x a) (zero_times y) ∙ minus_zero x)
    ∙ ap (λ zs. x ∷ zs) (less_nought xs k ys (omega arith) z)

-- a line that holds 0 in the slot stays
pub slot_skip : (s : ℕ) (leaver xs : List Fraction) → length xs ≡ length leaver → at xs s ≡ nought → xs ≡ slot_less s leaver xs
slot_skip s leaver xs e z =
    sym (ap (λ ys. less ys (at xs s) leaver) (ap (λ a. set xs s a) (sym z) ∙ set-get_or xs s nought) ∙ less_nought xs (at xs s) leaver e z)

-- ---- a slot that is read, and then written over

-- the number that is read
pub number_read : {N : Type 0} (value : N → Fraction) (xs : List N) (s : ℕ) (d : N) → s < length xs → d ≡ get_or xs s d
    → value d ≡ at (map value xs) s
number_read value xs s d l h = ap value h ∙ sym (get_or-map value xs s d nought l)

-- the numbers that are written
pub number_written : {N : Type 0} (value : N → Fraction) (xs : List N) (s : ℕ) (o : N) (x : Fraction) → value o ≡ x
    → map value (set xs s o) ≡ set (map value xs) s x
number_written value xs s o x e = map-set value xs s o ∙ ap (λ a. set (map value xs) s a) e
