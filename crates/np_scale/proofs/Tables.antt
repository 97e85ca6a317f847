-- Tables of things by number: a table only grows at its end, and a number stays.
use Rattle.std.proofs.Common.{◌≡◌, ℕ, suc, ◌+◌, ◌<◌, ◌≤◌, Bool, true, false, refl, sym, ◌∙◌, ap, arith, List, [], ◌∷◌, ◌++◌, length, map, take, get_or, Some, None, Ok, Err, append_assoc, Decides}
use Rattle.std.specs.Prelude.{◌||◌, not, if◌then◌else◌, nat_lt}
use Rattle.std.specs.List.{list_any, flat_map, position, position_or_len}
use Rattle.std.specs.Borrow.{Bor}
use Rattle.std.proofs.lemmas.List.{append-nil, take_all, take_more}
use Rattle.std.proofs.lemmas.List.Folds.{list_any-append}
use Rattle.std.proofs.lemmas.Grind.{flat_map-append}
use Rattle.std.proofs.lemmas.Bool.{or_left, lt-ltb, le-ltb, false≢true}
use Rattle.np_scale.specs.Tables.{each_once, number_of}
use Rattle.np_scale.specs.declared.fault.ScaleFault.{ScaleFault}
use Rattle.np_scale.specs.Code.{IsStartOf, few, place_of, pointed}
use Rattle.np_scale.proofs.Once.{number_within, once_append}

-- ---- lists that go on

pub start_itself : {A : Type 0} (xs : List A) → IsStartOf xs xs
start_itself xs = record { rest = []; is = sym (append-nil xs) }

pub start_more : {A : Type 0} (xs ys : List A) → IsStartOf xs (xs ++ ys)
start_more xs ys = record { rest = ys; is = refl }

pub start_trans : {A : Type 0} (xs ys zs : List A) → IsStartOf xs ys → IsStartOf ys zs → IsStartOf xs zs
start_trans xs ys zs p q = record { rest = p.rest ++ q.rest; is = q.is ∙ ap (λ l. l ++ q.rest) p.is ∙ append_assoc xs p.rest q.rest }

-- ---- numbers

-- a number stays where the list goes on
number_append : {A : Type 0} (same : A → A → Bool) (xs ys : List A) (y : A) → list_any (same y) xs ≡ true → number_of same (xs ++ ys) y ≡ number_of same xs y
number_append same [] ys y e = absurd (false≢true e)
number_append same (x ∷ xs) ys y e = by (same y x) e (number_append same xs ys y)
  where
    by : (b : Bool) → (b || list_any (same y) xs) ≡ true → (list_any (same y) xs ≡ true → number_of same (xs ++ ys) y ≡ number_of same xs y)
        → (if b then 0 else suc (number_of same (xs ++ ys) y)) ≡ (if b then 0 else suc (number_of same xs y))
    by true e rest = refl
    by false e rest = ap suc (rest e)

pub number_stays : {A : Type 0} (same : A → A → Bool) (known final : List A) (y : A) → IsStartOf known final → list_any (same y) known ≡ true → number_of same final y ≡ number_of same known y
number_stays same known final y s e = ap (λ l. number_of same l y) s.is ∙ number_append same known s.rest y e

-- what is among a list stays so
pub among_stays : {A : Type 0} (p : A → Bool) (known final : List A) → IsStartOf known final → list_any p known ≡ true → list_any p final ≡ true
among_stays p known final s e = ap (list_any p) s.is ∙ list_any-append p known s.rest ∙ or_left (list_any p known) (list_any p s.rest) e

-- what isn't there has the number after all
pub number_missing : {A : Type 0} (same : A → A → Bool) (xs : List A) (y : A) → list_any (same y) xs ≡ false → number_of same xs y ≡ length xs
number_missing same [] y e = refl
number_missing same (x ∷ xs) y e = by (same y x) e (number_missing same xs y)
  where
    by : (b : Bool) → (b || list_any (same y) xs) ≡ false → (list_any (same y) xs ≡ false → number_of same xs y ≡ length xs) → (if b then 0 else suc (number_of same xs y)) ≡ suc (length xs)
    by true e rest = cc
    by false e rest = ap suc (rest e)

-- ---- an index set

-- the place that an index set gives
pub place_is : {A : Type 0} (same : A → A → Bool) (xs : List A) (y : A) → position_or_len (same y) xs ≡ number_of same xs y
place_is same [] y = refl
place_is same (x ∷ xs) y = by (same y x) (place_is same xs y)
  where
    by : (b : Bool) → position_or_len (same y) xs ≡ number_of same xs y → (if not b then 1 + position_or_len (same y) xs else 0) ≡ (if b then 0 else suc (number_of same xs y))
    by true e = refl
    by false e = omega arith

pub position_is : {A : Type 0} (same : A → A → Bool) → ((x y : A) → Decides (same x y) (x ≡ y)) → (xs : List A) (y : A) → position (same y) xs ≡ place_of same xs y
position_is same decides xs y = ap (λ n. if nat_lt n (length xs) then Some n else None) (place_is same xs y) ∙ by (list_any (same y) xs) refl
  where
    by : (b : Bool) → list_any (same y) xs ≡ b → (if nat_lt (number_of same xs y) (length xs) then Some (number_of same xs y) else None) ≡ (if b then Some (number_of same xs y) else None)
    by true e = rw (lt-ltb (number_of same xs y) (length xs) (number_within same decides xs y e)) refl
    by false e = rw (number_missing same xs y e, le-ltb (length xs) (length xs) (omega arith)) refl

-- the same over references to the things
pub pointed_any : {A : Type 0} (p : A → Bool) (refs : List (Bor A)) → list_any (λ r. p r.now) refs ≡ list_any p (pointed refs)
pointed_any p [] = refl
pointed_any p (r ∷ rs) = ap (λ b. p r.now || b) (pointed_any p rs)

pub pointed_length : {A : Type 0} (refs : List (Bor A)) → length (pointed refs) ≡ length refs
pointed_length [] = refl
pointed_length (r ∷ rs) = ap suc (pointed_length rs)

pointed_place : {A : Type 0} (p : A → Bool) (refs : List (Bor A)) → position_or_len (λ r. p r.now) refs ≡ position_or_len p (pointed refs)
pointed_place p [] = refl
pointed_place p (r ∷ rs) = ap (λ n. if not (p r.now) then 1 + n else 0) (pointed_place p rs)

pub pointed_position : {A : Type 0} (same : A → A → Bool) → ((x y : A) → Decides (same x y) (x ≡ y)) → (refs : List (Bor A)) (y : A)
    → position (λ r. same y r.now) refs ≡ place_of same (pointed refs) y
pointed_position same decides refs y =
    ap (λ n. if nat_lt n (length refs) then Some n else None) (pointed_place (same y) refs)
    ∙ ap (λ k. if nat_lt (position_or_len (same y) (pointed refs)) k then Some (position_or_len (same y) (pointed refs)) else None) (sym (pointed_length refs))
    ∙ position_is same decides (pointed refs) y

pub pointed_push : {A : Type 0} (refs : List (Bor A)) (r : Bor A) → pointed (refs ++ r ∷ []) ≡ pointed refs ++ r.now ∷ []
pointed_push [] r = refl
pointed_push (x ∷ xs) r = ap (λ l. x.now ∷ l) (pointed_push xs r)

-- a reference that is put into an index set
pub pointed_insert : {A : Type 0} (same : A → A → Bool) (refs : List (Bor A)) (r : Bor A)
    → pointed (if list_any (λ s. same r.now s.now) refs then refs else refs ++ r ∷ []) ≡ (if list_any (same r.now) (pointed refs) then pointed refs else pointed refs ++ r.now ∷ [])
pointed_insert same refs r = by (list_any (λ s. same r.now s.now) refs) (list_any (same r.now) (pointed refs)) (pointed_any (same r.now) refs)
  where
    by : (b c : Bool) → b ≡ c → pointed (if b then refs else refs ++ r ∷ []) ≡ (if c then pointed refs else pointed refs ++ r.now ∷ [])
    by true true e = refl
    by true false e = cc
    by false true e = cc
    by false false e = pointed_push refs r

-- ---- loops that put things into a table

pub flat_more : {A C : Type 0} (f : C → List A) (xs : List C) (i : ℕ) (d : C) → i < length xs → flat_map f (take (i + 1) xs) ≡ flat_map f (take i xs) ++ f (get_or xs i d)
flat_more f xs i d within =
    ap (flat_map f) (take_more xs i d within) ∙ flat_map-append f (take i xs) (get_or xs i d ∷ []) ∙ ap (λ l. flat_map f (take i xs) ++ l) (append-nil (f (get_or xs i d)))

-- the things of one more item
pub once_more : {A C : Type 0} (same : A → A → Bool) (f : C → List A) (known now next : List A) (xs : List C) (i : ℕ) (d : C) → i < length xs
    → now ≡ each_once same known (flat_map f (take i xs)) → next ≡ each_once same now (f (get_or xs i d)) → next ≡ each_once same known (flat_map f (take (i + 1) xs))
once_more same f known now next xs i d within before put =
    put
    ∙ ap (λ k. each_once same k (f (get_or xs i d))) before
    ∙ sym (once_append same known (flat_map f (take i xs)) (f (get_or xs i d)))
    ∙ ap (each_once same known) (sym (flat_more f xs i d within))

-- and of all
pub once_all_read : {A C : Type 0} (same : A → A → Bool) (f : C → List A) (known now : List A) (xs : List C) (i : ℕ) → length xs ≤ i
    → now ≡ each_once same known (flat_map f (take i xs)) → now ≡ each_once same known (flat_map f xs)
once_all_read same f known now xs i past before = before ∙ ap (λ ys. each_once same known (flat_map f ys)) (take_all i xs past)

-- the first parts of pairs, one by one
pub firsts : {A B : Type 0} (xs : List (A × B)) → flat_map (λ x. x.0 ∷ []) xs ≡ map (λ x. x.0) xs
firsts [] = refl
firsts (x ∷ xs) = ap (λ l. x.0 ∷ l) (firsts xs)

-- what steps and then the goal read
pub once_both : {A C : Type 0} (same : A → A → Bool) (f : C → List A) (now next : List A) (xs ys : List C) → now ≡ each_once same [] (flat_map f xs)
    → next ≡ each_once same now (flat_map f ys) → next ≡ each_once same [] (flat_map f (xs ++ ys))
once_both same f now next xs ys before put =
    put ∙ ap (λ k. each_once same k (flat_map f ys)) before ∙ sym (once_append same [] (flat_map f xs) (flat_map f ys)) ∙ ap (each_once same []) (sym (flat_map-append f xs ys))

-- a table that is no longer than its limit, or is
pub few_fit : {A : Type 0} (limit : ℕ) (fault : ScaleFault) (xs : List A) → length xs ≤ limit → few limit fault xs ≡ Ok xs
few_fit limit fault xs h = rw (le-ltb limit (length xs) h) refl

pub few_past : {A : Type 0} (limit : ℕ) (fault : ScaleFault) (xs : List A) → limit < length xs → few limit fault xs ≡ Err fault
few_past limit fault xs h = rw (lt-ltb limit (length xs) h) refl

-- what a place says of the number
pub place_some : {A : Type 0} (same : A → A → Bool) (xs : List A) (y : A) (n : ℕ) → Some n ≡ place_of same xs y → n ≡ number_of same xs y
place_some same xs y n e = by (list_any (same y) xs) e
  where
    by : (b : Bool) → Some n ≡ (if b then Some (number_of same xs y) else None) → n ≡ number_of same xs y
    by true e = cc
    by false e = cc

pub place_none : {A : Type 0} (same : A → A → Bool) (xs : List A) (y : A) → None ≡ place_of same xs y → list_any (same y) xs ≡ false
place_none same xs y e = by (list_any (same y) xs) e
  where
    by : (b : Bool) → None ≡ (if b then Some (number_of same xs y) else None) → b ≡ false
    by true e = cc
    by false e = refl

pub place_there : {A : Type 0} (same : A → A → Bool) (xs : List A) (y : A) (n : ℕ) → Some n ≡ place_of same xs y → list_any (same y) xs ≡ true
place_there same xs y n e = by (list_any (same y) xs) e
  where
    by : (b : Bool) → Some n ≡ (if b then Some (number_of same xs y) else None) → b ≡ true
    by true e = refl
    by false e = cc

-- the things of lists that items have
pub once_deep : {A B C : Type 0} (same : A → A → Bool) (f : B → List A) (h : C → List B) (now next : List A) (xs : List C) (i : ℕ) (d : C) → i < length xs
    → now ≡ each_once same [] (flat_map f (flat_map h (take i xs))) → next ≡ each_once same now (flat_map f (h (get_or xs i d)))
    → next ≡ each_once same [] (flat_map f (flat_map h (take (i + 1) xs)))
once_deep same f h now next xs i d within before put =
    once_both same f now next (flat_map h (take i xs)) (h (get_or xs i d)) before put ∙ ap (λ l. each_once same [] (flat_map f l)) (sym (flat_more h xs i d within))

pub once_steps : {A B C : Type 0} (same : A → A → Bool) (f : B → List A) (h : C → List B) (now : List A) (xs all : List C) (i : ℕ) → xs ≡ all → length xs ≤ i
    → now ≡ each_once same [] (flat_map f (flat_map h (take i xs))) → now ≡ each_once same [] (flat_map f (flat_map h all))
once_steps same f h now xs all i e past before = before ∙ ap (λ ys. each_once same [] (flat_map f (flat_map h ys))) (take_all i xs past ∙ e)
