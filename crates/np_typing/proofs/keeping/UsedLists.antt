-- Lists that are empty because there is no fault, and what holds of each item.
use Rattle.std.proofs.Common.{◌≡◌, ◌≢◌, ℕ, zero, suc, ◌<◌, Bool, true, false, not, ◌&&◌, ◌||◌, List, [], ◌∷◌, ◌++◌, map, length, get_or, slice_get, option_map, is_some, Option, None, Some, if◌then◌else◌, Decides, refl, sym, ap, ◌∙◌, suc-ne-zero, append_assoc, append-nil, arith}
use Rattle.std.specs.List.{AllByRecursion, list_all, list_any}
use Rattle.std.proofs.lemmas.Bool.{and_from, both_ways}
use Rattle.std.proofs.lemmas.List.Folds.{list_any_at}
use Rattle.std.proofs.lemmas.List.Quantifiers.{all_pairs_push}
use Rattle.np_model.specs.Tasks.{AreDistinct}
use Rattle.np_names.specs.Names.{each_after}
use Rattle.np_typing.proofs.keeping.DeclaredParts.{first_empty, second_empty}

-- ---- lists without an item

pub not_none : {A : Type 0} (x : A) (xs : List A) → x ∷ xs ≡ [] → ⊥
not_none x xs h = let e : suc (length xs) ≡ 0 = ap length h in suc-ne-zero _ e

pub both_none : {A : Type 0} (xs ys : List A) → xs ++ ys ≡ [] → (xs ≡ []) × (ys ≡ [])
both_none xs ys h = (first_empty xs ys h, second_empty xs ys h)

-- no fault where it would be one otherwise
pub then_none : {A : Type 0} (b : Bool) (xs : List A) (y : A) (ys : List A) → (if b then xs else y ∷ ys) ≡ [] → (b ≡ true) × (xs ≡ [])
then_none true xs y ys h = (refl, h)
then_none false xs y ys h = absurd (not_none y ys h)

-- no fault where a test would make one
pub unless : {A : Type 0} (b : Bool) (x : A) (xs : List A) → (if b then x ∷ xs else []) ≡ [] → b ≡ false
unless true x xs h = absurd (not_none x xs h)
unless false x xs h = refl

-- no fault where both tests would make one
pub unless_both : {A : Type 0} (a b : Bool) (x : A) (xs : List A) → (if a && not b then x ∷ xs else []) ≡ [] → a ≡ true → b ≡ true
unless_both true true x xs h is = refl
unless_both true false x xs h is = absurd (not_none x xs h)
unless_both false true x xs h is = refl
unless_both false false x xs h is = is

-- what each gives after those before it, of two lists one after the other
pub each_after_append : {A B : Type 0} (f : List A → A → List B) (before xs ys : List A) → each_after f before (xs ++ ys) ≡ each_after f before xs ++ each_after f (before ++ xs) ys
each_after_append f before [] ys = ap (λ names. each_after f names ys) (sym (append-nil before))
each_after_append f before (x ∷ xs) ys =
    ap (λ rest. f before x ++ rest)
    (each_after_append f (before ++ x ∷ []) xs ys ∙ ap (λ names. each_after f (before ++ x ∷ []) xs ++ each_after f names ys) (append_assoc before (x ∷ []) xs))
    ∙ sym (append_assoc (f before x) (each_after f (before ++ x ∷ []) xs) (each_after f (before ++ x ∷ xs) ys))

-- what each gives after some is empty
pub each_after_none : {A B : Type 0} (f : List A → A → List B) (before xs : List A) → each_after f before xs ≡ [] → AllByRecursion (λ x. (front : List A) × (f front x ≡ [])) xs
each_after_none f before [] h = tt
each_after_none f before (x ∷ xs) h =
    let p = both_none (f before x) (each_after f (before ++ x ∷ []) xs) h in ((before, p.0), each_after_none f (before ++ x ∷ []) xs p.1)

-- ---- what holds of each

pub each_append : {A : Type 0} (P : A → Type 0) (xs ys : List A) → AllByRecursion P xs → AllByRecursion P ys → AllByRecursion P (xs ++ ys)
each_append P [] ys p q = q
each_append P (x ∷ xs) ys p q = (p.0, each_append P xs ys p.1 q)

pub each_weaker : {A : Type 0} (P Q : A → Type 0) → ((x : A) → P x → Q x) → (xs : List A) → AllByRecursion P xs → AllByRecursion Q xs
each_weaker P Q f [] h = tt
each_weaker P Q f (x ∷ xs) h = (f x h.0, each_weaker P Q f xs h.1)

pub all_true : {A : Type 0} (f : A → Bool) (xs : List A) → AllByRecursion (λ x. f x ≡ true) xs → list_all (λ b. b) (map f xs) ≡ true
all_true f [] h = refl
all_true f (x ∷ xs) h = and_from _ _ h.0 (all_true f xs h.1)

-- ---- items of lists

pub some_within : {A : Type 0} (xs : List A) (i : ℕ) → i < length xs → is_some (slice_get xs i) ≡ true
some_within [] i h = absurd (omega (arith, h))
some_within (x ∷ xs) zero h = refl
some_within (x ∷ xs) (suc i) h = some_within xs i (omega (arith, h))

pub is_some_map : {A B : Type 0} (f : A → B) (o : Option A) → is_some (option_map f o) ≡ is_some o
is_some_map f None = refl
is_some_map f (Some x) = refl

-- ---- items that differ

-- one more that isn't among them
pub push_distinct : {A : Type 0} (same : A → A → Bool) → ((a b : A) → Decides (same a b) (a ≡ b)) → (xs : List A) (y : A) → AreDistinct xs → list_any (same y) xs ≡ false
    → AreDistinct (xs ++ y ∷ [])
push_distinct same decides xs y h none =
    all_pairs_push (λ a b. a ≢ b) xs y h
    (λ k d less is. both_ways (list_any (same y) xs) none (list_any_at (same y) xs k d less ((decides y (get_or xs k d)).1 (sym is))))

pub any_map : {A B : Type 0} (test : B → Bool) (f : A → B) (xs : List A) → list_any test (map f xs) ≡ list_any (λ x. test (f x)) xs
any_map test f [] = refl
any_map test f (x ∷ xs) = ap (λ b. test (f x) || b) (any_map test f xs)
