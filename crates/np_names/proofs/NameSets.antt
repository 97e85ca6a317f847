-- Sets of names and their lists.
use Rattle.std.proofs.Common.{◌≡◌, ℕ, suc, ◌+◌, Bool, true, false, cond, not, List, [], ◌∷◌, ◌++◌, map, length, refl, ap, ◌∙◌, Some, None, arith, if◌then◌else◌}
use Prim.Native.Nat.compare
use Rattle.std.proofs.lemmas.Bool.{lt-ltb}
use Rattle.std.specs.Borrow.{Bor}
use Rattle.std.specs.Prelude.{bytes_eq, position, nat_lt, ◌||◌}
use Rattle.std.specs.List.{list_any, position_or_len}
use Rattle.np_names.specs.Names.{is_among, with_name, number_of}

abbrev Key : Type 0
Key = Bor (List ℕ)

-- the names of keys
abbrev pub names_of_keys : List Key → List (List ℕ)
names_of_keys keys = map (λ k. k.now) keys

-- a key is there where its name is
pub any_key : (name : List ℕ) (keys : List Key) → list_any (λ k. bytes_eq name k.now) keys ≡ is_among name (names_of_keys keys)
any_key name [] = refl
any_key name (k ∷ keys) = rw (any_key name keys) refl

-- the place of a key is the number of its name
place_is : (name : List ℕ) (keys : List Key) → position_or_len (λ k. bytes_eq name k.now) keys ≡ number_of (names_of_keys keys) name
place_is name [] = refl
place_is name (k ∷ keys) = by (bytes_eq name k.now) (place_is name keys)
  where
    by : (b : Bool) {m n : ℕ} → m ≡ n → cond (not b) (1 + m) 0 ≡ (if b then 0 else suc n)
    by true e = refl
    by false e = omega arith

pub length_keys : (keys : List Key) → length (names_of_keys keys) ≡ length keys
length_keys [] = refl
length_keys (k ∷ keys) = ap suc (length_keys keys)

-- a name has a number below their count where it is among them
-- comparing successors
compare_suc : (m n : ℕ) → nat_lt (suc m) (suc n) ≡ nat_lt m n
compare_suc m n = rw (compare.suc-suc (suc m) n) refl

first_below : (n : ℕ) → nat_lt 0 (suc n) ≡ true
first_below n = lt-ltb 0 (suc n) (omega arith)

pub number_below : (name : List ℕ) (names : List (List ℕ)) → nat_lt (number_of names name) (length names) ≡ is_among name names
number_below name [] = refl
number_below name (n ∷ names) = by (bytes_eq name n) (number_below name names)
  where
    by : (b : Bool) → nat_lt (number_of names name) (length names) ≡ is_among name names
        → nat_lt (if b then 0 else suc (number_of names name)) (suc (length names)) ≡ (b || is_among name names)
    by true e = first_below (length names)
    by false e = compare_suc (number_of names name) (length names) ∙ e

pub absent_number : (name : List ℕ) (names : List (List ℕ)) → is_among name names ≡ false → number_of names name ≡ length names
absent_number name [] e = refl
absent_number name (n ∷ names) e = by (bytes_eq name n) e (absent_number name names)
  where
    by : (b : Bool) → (b || is_among name names) ≡ false → (is_among name names ≡ false → number_of names name ≡ length names)
        → (if b then 0 else suc (number_of names name)) ≡ suc (length names)
    by true h rest = absurd cc
    by false h rest = ap suc (rest h)

-- where a key is, by its name
pub key_found : (name : List ℕ) (keys : List Key) (names : List (List ℕ)) → names_of_keys keys ≡ names
    → position (λ k. bytes_eq name k.now) keys ≡ (if is_among name names then Some (number_of names name) else None)
key_found name keys names e =
    rw (place_is name keys, ← length_keys keys, e, number_below name names) refl

-- the number of a name that was found
pub number_found : (n : ℕ) (name : List ℕ) (names : List (List ℕ)) → Some n ≡ (if is_among name names then Some (number_of names name) else None) → n ≡ number_of names name
number_found n name names e = by (is_among name names) e
  where
    by : (b : Bool) → Some n ≡ (if b then Some (number_of names name) else None) → n ≡ number_of names name
    by true h = cc
    by false h = absurd cc

-- and of one that wasn't
pub number_absent : (name : List ℕ) (names : List (List ℕ)) → None ≡ (if is_among name names then Some (number_of names name) else None) → number_of names name ≡ length names
number_absent name names e = absent_number name names (by (is_among name names) e)
  where
    by : (b : Bool) → None ≡ (if b then Some (number_of names name) else None) → b ≡ false
    by true h = absurd cc
    by false h = refl

-- one more key
pub keys_more : (key : Key) (keys : List Key) (names : List (List ℕ)) → names_of_keys keys ≡ names
    → names_of_keys (if list_any (λ k. bytes_eq key.now k.now) keys then keys else keys ++ key ∷ []) ≡ with_name names key.now
keys_more key keys names e = rw (any_key key.now keys, e) (by (is_among key.now names))
  where
    at_end : (ks : List Key) → names_of_keys (ks ++ key ∷ []) ≡ names_of_keys ks ++ key.now ∷ []
    at_end [] = refl
    at_end (k ∷ ks) = ap (λ ns. k.now ∷ ns) (at_end ks)

    by : (b : Bool) → names_of_keys (if b then keys else keys ++ key ∷ []) ≡ (if b then names else names ++ key.now ∷ [])
    by true = e
    by false = at_end keys ∙ ap (λ ns. ns ++ key.now ∷ []) e
