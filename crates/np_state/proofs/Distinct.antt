-- A list without equal keys, read through what each key says.
use Rattle.std.proofs.Common.{◌≡◌, ◌≢◌, ℕ, zero, suc, ◌+◌, Bool, true, false, ◌||◌, List, [], ◌∷◌, ◌++◌, map, length, slice_get, Some, refl, sym, ap, ◌∙◌, true≢false, if◌then◌else◌, arith}
use Rattle.std.specs.List.{list_any, position_or_len, AllByRecursion, IsDistinct}
use Rattle.std.specs.Option.{option_map}
use Rattle.std.proofs.lemmas.Option.{slice_get-map}
use Rattle.std.proofs.lemmas.List.{map-append, length-map}
use Rattle.indexmap.specs.IndexSet.{insert_key}

one_more : (n : ℕ) → 1 + n ≡ suc n
one_more n = omega arith

module _ {K V : Type 0} (eq : K → K → Bool) (value : K → V) (same : (a b : K) → eq a b ≡ true → value a ≡ value b) (alike : (a b : K) → value a ≡ value b → eq a b ≡ true) where
  -- what no key is equal to isn't said by any
  pub not_said : (ks : List K) (k : K) → AllByRecursion (λ y. eq k y ≡ false) ks → (j : ℕ) → slice_get (map value ks) j ≢ Some (value k)
  not_said [] k all j e = absurd (cc)
  not_said (x ∷ xs) k all zero e = let said : value k ≡ value x = cc in true≢false (sym (alike k x said) ∙ all.0)
  not_said (x ∷ xs) k all (suc j) e = not_said xs k all.1 j e

  -- where no key is equal to another, no two places say the same
  pub one_place : (ks : List K) → IsDistinct eq ks → (i j : ℕ) (v : V) → slice_get (map value ks) i ≡ Some v → slice_get (map value ks) j ≡ Some v → i ≡ j
  unfolding IsDistinct
  one_place [] d i j v p q = absurd (cc)
  one_place (x ∷ xs) d zero zero v p q = refl
  one_place (x ∷ xs) d zero (suc j) v p q = absurd (not_said xs x d.0 j (q ∙ sym p))
  one_place (x ∷ xs) d (suc i) zero v p q = absurd (not_said xs x d.0 i (p ∙ sym q))
  one_place (x ∷ xs) d (suc i) (suc j) v p q = ap suc (one_place xs d.1 i j v p q)

  -- no key passes the test
  none_equal : (ks : List K) (k : K) → list_any (eq k) ks ≡ false → AllByRecursion (λ y. eq k y ≡ false) ks
  none_equal [] k e = tt
  none_equal (x ∷ xs) k e = by (eq k x) refl (λ h. none_equal xs k h)
    where
      by : (b : Bool) → eq k x ≡ b → (list_any (eq k) xs ≡ false → AllByRecursion (λ y. eq k y ≡ false) xs) → (eq k x ≡ false) × AllByRecursion (λ y. eq k y ≡ false) xs
      by true h rest = absurd (true≢false (sym (ap (λ c. c || list_any (eq k) xs) h) ∙ e))
      by false h rest = (h, rest (sym (ap (λ c. c || list_any (eq k) xs) h) ∙ e))

  -- then the first that does is past the end
  past_all : (ks : List K) (k : K) → AllByRecursion (λ y. eq k y ≡ false) ks → position_or_len (eq k) ks ≡ length ks
  past_all [] k all = refl
  past_all (x ∷ xs) k all = rw all.0 (ap (λ n. 1 + n) (past_all xs k all.1) ∙ one_more (length xs))

  -- where a new key is said
  pub said_new : (ks new : List K) (k : K) → list_any (eq k) ks ≡ false → new ≡ insert_key eq ks k → map value new ≡ map value ks ++ value k ∷ []
  said_new ks new k none e = ap (map value) (e ∙ ap (λ c. if c then ks else ks ++ k ∷ []) none) ∙ map-append value ks (k ∷ [])

  pub number_new : (ks : List K) (k : K) → list_any (eq k) ks ≡ false → position_or_len (eq k) ks ≡ length (map value ks)
  number_new ks k none = past_all ks k (none_equal ks k none) ∙ sym (length-map ks value)

  pub absent_new : (ks : List K) (k : K) → list_any (eq k) ks ≡ false → (j : ℕ) → slice_get (map value ks) j ≢ Some (value k)
  absent_new ks k none = not_said ks k (none_equal ks k none)

  -- a key that is there leaves all as it was
  pub said_same : (ks new : List K) (k : K) → list_any (eq k) ks ≡ true → new ≡ insert_key eq ks k → map value new ≡ map value ks
  said_same ks new k some e = ap (map value) (e ∙ ap (λ c. if c then ks else ks ++ k ∷ []) some)

  -- and is said where it is
  pub said_there : (ks new : List K) (k : K) → list_any (eq k) ks ≡ true → new ≡ insert_key eq ks k → (i : ℕ) (there : K) → slice_get new i ≡ Some there → eq k there ≡ true → slice_get (map value ks) i ≡ Some (value k)
  said_there ks new k some e i there at equal =
      slice_get-map value ks i
      ∙ ap (λ (xs : List K). option_map value (slice_get xs i)) (sym (e ∙ ap (λ c. if c then ks else ks ++ k ∷ []) some))
      ∙ ap (option_map value) at
      ∙ ap Some (sym (same k there equal))
