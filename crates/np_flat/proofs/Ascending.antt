-- Ascending numbers: where a search finds one, and what it is to put one in its place.
use Rattle.std.proofs.Common.{◌≡◌, ◌≢◌, ℕ, zero, suc, ◌+◌, ◌≤◌, ◌<◌, Bool, true, false, ◌||◌, cond, eqb, ltb, List, [], ◌∷◌, ◌++◌, length, get_or, take, All, refl, sym, ap, ◌∙◌, subst, inl, inr, arith, Result, Ok, Err, insert, nat_cmp}
use Rattle.std.specs.Prelude.{filter, MatchResult, is_ok}
use Rattle.std.specs.List.Sorted.{IsBinarySearchResult}
use Rattle.std.proofs.lemmas.Bool.{eqb-true, lt-ltb, le-ltb, eq-eqb, ne_eqb, ltb-true, ltb-false, eqb-false, cases_lt, cond_both}
use Rattle.std.proofs.lemmas.List.{get_or_default, take_more}
use Rattle.std.proofs.lemmas.List.Elements.{All-nil, All-cons, All-head, All-tail, All-weaker, All-filter}
use Rattle.std.proofs.lemmas.List.Folds.{list_any_at, list_any_none}
use Rattle.std.proofs.lemmas.List.Sorted.{searched}
use Rattle.np_flat.specs.Flats.{IsAscending}
use Rattle.np_flat.specs.States.{has, put_in, put_all}

-- what comes after the first number is above it
pub above_first : (x : ℕ) (xs : List ℕ) → IsAscending (x ∷ xs) → All (λ y. x < y) xs
above_first x xs up k d h = let within : suc k < length (x ∷ xs) = omega arith in up 0 (suc k) d (omega arith) within

pub ascending_rest : (x : ℕ) (xs : List ℕ) → IsAscending (x ∷ xs) → IsAscending xs
ascending_rest x xs up i j d lt h = let within : suc j < length (x ∷ xs) = omega arith in up (suc i) (suc j) d (omega arith) within

pub ascending_cons : (x : ℕ) (xs : List ℕ) → All (λ y. x < y) xs → IsAscending xs → IsAscending (x ∷ xs)
ascending_cons x xs above up i zero d lt h = absurd (omega arith)
ascending_cons x xs above up zero (suc j) d lt h = above j d (omega arith)
ascending_cons x xs above up (suc i) (suc j) d lt h = up i j d (omega arith) (omega arith)

pub ascending_nil : IsAscending []
ascending_nil i j d lt h = absurd (omega arith)

-- ascending numbers rise
pub rising : (xs : List ℕ) → IsAscending xs → (i j : ℕ) → i ≤ j → j < length xs → get_or xs i 0 ≤ get_or xs j 0
rising xs up i j le h =
    elim (cases_lt i j) [
      | inl lt ↦ let below : get_or xs i 0 < get_or xs j 0 = up i j 0 lt h in omega arith
      | inr ge ↦ let e : i ≡ j = omega arith in subst (λ k. get_or xs i 0 ≤ get_or xs k 0) e (omega arith)
    ]

-- a filter keeps the order
pub ascending_filter : (p : ℕ → Bool) (xs : List ℕ) → IsAscending xs → IsAscending (filter p xs)
ascending_filter p [] up = ascending_nil
ascending_filter p (x ∷ xs) up =
    let rest : IsAscending (filter p xs) = ascending_filter p xs (ascending_rest x xs up) in
    cond_both (p x) (x ∷ filter p xs) (filter p xs) IsAscending (λ e. ascending_cons x (filter p xs) (All-filter p (λ y. x < y) xs (above_first x xs up)) rest) (λ e. rest)

-- what holds of the number and of the list holds of the list with the number
pub All-put_in : (P : ℕ → Type 0) (n : ℕ) (xs : List ℕ) → P n → All P xs → All P (put_in n xs)
All-put_in P n [] here all = All-cons P n [] here all
All-put_in P n (m ∷ ms) here all =
    cond_both (ltb n m) (n ∷ m ∷ ms) (cond (eqb n m) (m ∷ ms) (m ∷ put_in n ms)) (All P)
    (λ e. All-cons P n (m ∷ ms) here all)
    (λ e. cond_both (eqb n m) (m ∷ ms) (m ∷ put_in n ms) (All P) (λ f. all) (λ f. All-cons P m (put_in n ms) (All-head P m ms all) (All-put_in P n ms here (All-tail P m ms all))))

pub All-put_all : (P : ℕ → Type 0) (ns xs : List ℕ) → All P ns → All P xs → All P (put_all ns xs)
All-put_all P [] xs more all = all
All-put_all P (n ∷ ns) xs more all = All-put_all P ns (put_in n xs) (All-tail P n ns more) (All-put_in P n xs (All-head P n ns more) all)

-- a number in its place keeps the order
pub ascending_put_in : (n : ℕ) (xs : List ℕ) → IsAscending xs → IsAscending (put_in n xs)
ascending_put_in n [] up = ascending_cons n [] (All-nil (λ y. n < y)) up
ascending_put_in n (m ∷ ms) up =
    let above : All (λ y. m < y) ms = above_first m ms up in
    cond_both (ltb n m) (n ∷ m ∷ ms) (cond (eqb n m) (m ∷ ms) (m ∷ put_in n ms)) IsAscending
    (λ e. let lt : n < m = ltb-true n m e in ascending_cons n (m ∷ ms) (All-cons (λ y. n < y) m ms lt (All-weaker (λ y. m < y) (λ y. n < y) (λ y h. omega arith) ms above)) up)
    (λ e. cond_both (eqb n m) (m ∷ ms) (m ∷ put_in n ms) IsAscending (λ f. up)
    (λ f. let lt : m < n = omega (arith, ltb-false n m e, eqb-false n m f) in ascending_cons m (put_in n ms) (All-put_in (λ y. m < y) n ms lt above) (ascending_put_in n ms (ascending_rest m ms up))))

pub ascending_put_all : (ns xs : List ℕ) → IsAscending xs → IsAscending (put_all ns xs)
ascending_put_all [] xs up = up
ascending_put_all (n ∷ ns) xs up = ascending_put_all ns (put_in n xs) (ascending_put_in n xs up)

-- a number that is not in the list goes where the greater ones begin
pub put_in_new : (n : ℕ) (xs : List ℕ) (i : ℕ) → i ≤ length xs → ((k : ℕ) → k < i → get_or xs k 0 < n) → ((k : ℕ) → i ≤ k → k < length xs → n < get_or xs k 0) → put_in n xs ≡ insert xs i n
put_in_new n [] zero le below above = refl
put_in_new n [] (suc i) le below above = absurd (omega arith)
put_in_new n (m ∷ ms) zero le below above =
    let lt : n < m = above 0 (omega arith) (omega arith) in
    rw (lt-ltb n m lt) refl
put_in_new n (m ∷ ms) (suc i) le below above =
    let lt : m < n = below 0 (omega arith) in
    let ne : n ≢ m = omega arith in
    rw (le-ltb n m (omega arith), ne_eqb n m ne)
    (ap (λ l. m ∷ l) (put_in_new n ms i (omega arith) (λ k h. below (suc k) (omega arith)) (λ k h w. above (suc k) (omega arith) (omega arith))))

-- a number that is in an ascending list is in its place already
pub put_in_there : (n : ℕ) (xs : List ℕ) (i : ℕ) → IsAscending xs → i < length xs → get_or xs i 0 ≡ n → put_in n xs ≡ xs
put_in_there n [] i up h e = absurd (omega arith)
put_in_there n (m ∷ ms) zero up h e = rw (le-ltb n m (omega arith), eq-eqb n m (sym e)) refl
put_in_there n (m ∷ ms) (suc i) up h e =
    let lt : m < get_or ms i 0 = above_first m ms up i 0 (omega arith) in
    let ne : n ≢ m = omega arith in
    rw (le-ltb n m (omega arith), ne_eqb n m ne)
    (ap (λ l. m ∷ l) (put_in_there n ms i (ascending_rest m ms up) (omega arith) e))

-- what a binary search says of the number in its place
pub put_in_found : (xs : List ℕ) (n : ℕ) (r : Result ℕ ℕ) → IsBinarySearchResult (λ y. nat_cmp y n) xs r → IsAscending xs → MatchResult r (λ i. put_in n xs ≡ xs) (λ i. put_in n xs ≡ insert xs i n)
put_in_found xs n (Ok i) s up = let at = searched xs n (Ok i) s (rising xs up) in put_in_there n xs i up at.0 at.1
put_in_found xs n (Err i) s up = let at = searched xs n (Err i) s (rising xs up) in put_in_new n xs i at.0 at.1 at.2

-- a binary search finds what is in the list
pub has_found : (xs : List ℕ) (n : ℕ) (r : Result ℕ ℕ) → IsBinarySearchResult (λ y. nat_cmp y n) xs r → IsAscending xs → is_ok r ≡ has xs n
has_found xs n (Ok i) s up = let at = searched xs n (Ok i) s (rising xs up) in sym (list_any_at (λ m. eqb m n) xs i 0 at.0 (eq-eqb (get_or xs i 0) n at.1))
has_found xs n (Err i) s up =
    let at = searched xs n (Err i) s (rising xs up) in
    sym (list_any_none (λ m. eqb m n) xs (λ k d h. ne_eqb (get_or xs k d) n (apart k d h at)))
  where
    apart : (k : ℕ) (d : ℕ) → k < length xs → (i ≤ length xs) × ((k : ℕ) → k < i → get_or xs k 0 < n) × ((k : ℕ) → i ≤ k → k < length xs → n < get_or xs k 0) → get_or xs k d ≡ n → ⊥
    apart k d h at e =
        let same : get_or xs k d ≡ get_or xs k 0 = get_or_default xs k d 0 h in
        elim (cases_lt k i) [ inl lt ↦ omega (arith, at.1 k lt) | inr ge ↦ omega (arith, at.2 k ge h) ]

-- the place that a binary search finds
pub place_new : (xs items : List ℕ) (n i : ℕ) → xs ≡ items → IsBinarySearchResult (λ y. nat_cmp y n) xs (Err i) → IsAscending items → put_in n items ≡ insert items i n
place_new xs items n i e s up = put_in_found items n (Err i) (subst (λ l. IsBinarySearchResult (λ y. nat_cmp y n) l (Err i)) e s) up

pub place_there : (xs items : List ℕ) (n i : ℕ) → xs ≡ items → IsBinarySearchResult (λ y. nat_cmp y n) xs (Ok i) → IsAscending items → put_in n items ≡ items
place_there xs items n i e s up = put_in_found items n (Ok i) (subst (λ l. IsBinarySearchResult (λ y. nat_cmp y n) l (Ok i)) e s) up

-- one more number
pub put_all-push : (ns : List ℕ) (n : ℕ) (xs : List ℕ) → put_all (ns ++ n ∷ []) xs ≡ put_in n (put_all ns xs)
put_all-push [] n xs = refl
put_all-push (m ∷ ms) n xs = put_all-push ms n (put_in m xs)

pub put_all_more : (ns start now next : List ℕ) (i : ℕ) → i < length ns → now ≡ put_all (take i ns) start → next ≡ put_in (get_or ns i 0) now → next ≡ put_all (take (i + 1) ns) start
put_all_more ns start now next i h e f =
    f ∙ ap (put_in (get_or ns i 0)) e ∙ sym (put_all-push (take i ns) (get_or ns i 0) start) ∙ ap (λ ms. put_all ms start) (sym (take_more ns i 0 h))

or_first : (a b c : Bool) → (a || (b || c)) ≡ (b || (a || c))
or_first true true c = refl
or_first true false c = refl
or_first false b c = refl

or_twice : (a b : Bool) → (a || b) ≡ (a || (a || b))
or_twice true b = refl
or_twice false b = refl

-- the members are the number, and those of the list
pub has_put_in : (n : ℕ) (xs : List ℕ) (p : ℕ) → has (put_in n xs) p ≡ (eqb n p || has xs p)
has_put_in n [] p = refl
has_put_in n (m ∷ ms) p =
    cond_both (ltb n m) (n ∷ m ∷ ms) (cond (eqb n m) (m ∷ ms) (m ∷ put_in n ms)) (λ l. has l p ≡ (eqb n p || has (m ∷ ms) p))
    (λ e. refl)
    (λ e. cond_both (eqb n m) (m ∷ ms) (m ∷ put_in n ms) (λ l. has l p ≡ (eqb n p || has (m ∷ ms) p))
    (λ f. subst (λ k. has (m ∷ ms) p ≡ (eqb k p || has (m ∷ ms) p)) (sym (eqb-true n m f)) (or_twice (eqb m p) (has ms p)))
    (λ f. ap (λ b. eqb m p || b) (has_put_in n ms p) ∙ or_first (eqb m p) (eqb n p) (has ms p)))

or_assoc : (a b c : Bool) → (a || (b || c)) ≡ ((a || b) || c)
or_assoc true b c = refl
or_assoc false b c = refl

pub has_put_all : (ns xs : List ℕ) (p : ℕ) → has (put_all ns xs) p ≡ (has ns p || has xs p)
has_put_all [] xs p = refl
has_put_all (n ∷ ns) xs p =
    has_put_all ns (put_in n xs) p
    ∙ ap (λ b. has ns p || b) (has_put_in n xs p)
    ∙ or_first (has ns p) (eqb n p) (has xs p)
    ∙ or_assoc (eqb n p) (has ns p) (has xs p)
