-- The known subgoals: they only grow, and a number once given stays.
use Rattle.std.proofs.Common.{◌≡◌, ℕ, suc, ◌+◌, ◌<◌, Bool, true, false, refl, sym, ◌∙◌, ap, subst, List, [], ◌∷◌, ◌++◌, length, map, take, drop, get_or, Result, Ok, Err}
use Rattle.std.proofs.Math.Path.{fun_ext}
use Rattle.std.specs.Prelude.{◌||◌, if◌then◌else◌, nat_lt}
use Rattle.std.specs.List.{list_any, flat_map, position_or_len}
use Rattle.std.proofs.lemmas.List.{map-append, drop_more}
use Rattle.std.proofs.lemmas.List.Folds.{list_any-append}
use Rattle.std.proofs.lemmas.Bool.{or_left, or_right}
use Rattle.np_linear.specs.Answers.{and_then}
use Rattle.np_flat.specs.declared.limits.TheConstants.{MOST_SUBGOALS}
use Rattle.np_flat.specs.declared.parts.Subgoal.{Subgoal}
use Rattle.np_flat.specs.States.{put_in, put_all}
use Rattle.np_scale.specs.declared.fault.ScaleFault.{ScaleFault}
use Rattle.np_scale.specs.declared.fault.ScaleFault.TheVariants.{TooManyFacts, TooManyValues, TooManySubgoals, UnitWide, NumberWide, FormLong, CostNegative, CostNotWhole, CostWide, Memory}
use Rattle.np_scale.specs.Answers.{Refuses}
use Rattle.np_scale.specs.Tables.{number_of}
use Rattle.np_scale.specs.FlatOf.{same_subgoal}
use Rattle.np_scale.specs.Limits.{with_subgoal, with_subgoals}
use Rattle.np_scale.specs.Code.{IsStartOf, ArePut}
use Rattle.np_scale.proofs.SameSubgoals.{same_subgoal-Decides}
use Rattle.np_scale.proofs.Tables.{start_itself, start_more, start_trans, number_stays, place_is, flat_more}

-- ---- answers

-- a fault is the one of what goes on after it
pub refuse_then : {A B : Type 0} (e : ScaleFault) (r : Result A ScaleFault) (f : A → Result B ScaleFault) → Refuses e r → Refuses e (and_then r f)
refuse_then TooManyFacts r f h = ap (λ x. and_then x f) h
refuse_then TooManyValues r f h = ap (λ x. and_then x f) h
refuse_then TooManySubgoals r f h = ap (λ x. and_then x f) h
refuse_then UnitWide r f h = ap (λ x. and_then x f) h
refuse_then (NumberWide s) r f h = ap (λ x. and_then x f) h
refuse_then (FormLong s) r f h = ap (λ x. and_then x f) h
refuse_then (CostNegative s) r f h = ap (λ x. and_then x f) h
refuse_then (CostNotWhole s) r f h = ap (λ x. and_then x f) h
refuse_then (CostWide s) r f h = ap (λ x. and_then x f) h
refuse_then Memory r f h = tt

-- ---- subgoals one after another

pub with_subgoals-append : (known : List Subgoal) (xs ys : List (Result Subgoal ScaleFault)) → with_subgoals known (xs ++ ys) ≡ and_then (with_subgoals known xs) (λ more. with_subgoals more ys)
with_subgoals-append known [] ys = refl
with_subgoals-append known (x ∷ xs) ys = by x (λ more. with_subgoals-append more xs ys)
  where
    after : (r : Result (List Subgoal) ScaleFault) → ((more : List Subgoal) → with_subgoals more (xs ++ ys) ≡ and_then (with_subgoals more xs) (λ m. with_subgoals m ys))
        → and_then r (λ more. with_subgoals more (xs ++ ys)) ≡ and_then (and_then r (λ more. with_subgoals more xs)) (λ m. with_subgoals m ys)
    after (Ok more) rest = rest more
    after (Err e) rest = refl

    by : (x : Result Subgoal ScaleFault) → ((more : List Subgoal) → with_subgoals more (xs ++ ys) ≡ and_then (with_subgoals more xs) (λ m. with_subgoals m ys))
        → and_then x (λ q. and_then (with_subgoal known q) (λ more. with_subgoals more (xs ++ ys)))
        ≡ and_then (and_then x (λ q. and_then (with_subgoal known q) (λ more. with_subgoals more xs))) (λ m. with_subgoals m ys)
    by (Ok q) rest = after (with_subgoal known q) rest
    by (Err e) rest = refl

-- one subgoal
pub with_one : (known : List Subgoal) (q : Subgoal) → with_subgoals known (Ok q ∷ []) ≡ with_subgoal known q
with_one known q = by (with_subgoal known q)
  where
    by : (r : Result (List Subgoal) ScaleFault) → and_then r (λ more. Ok more) ≡ r
    by (Ok more) = refl
    by (Err e) = refl

pub with_subgoal_grows : (known : List Subgoal) (q : Subgoal) (new : List Subgoal) → with_subgoal known q ≡ Ok new → IsStartOf known new
with_subgoal_grows known q new e = by (list_any (same_subgoal q) known) (nat_lt (length known) MOST_SUBGOALS) e
  where
    by : (b c : Bool) → (if b then Ok known else if c then Ok (known ++ q ∷ []) else Err TooManySubgoals) ≡ Ok new → IsStartOf known new
    by true c e = let same : known ≡ new = cc in subst (IsStartOf known) same (start_itself known)
    by false true e = let same : known ++ q ∷ [] ≡ new = cc in subst (IsStartOf known) same (start_more known (q ∷ []))
    by false false e = cc

pub with_subgoals_grows : (known : List Subgoal) (xs : List (Result Subgoal ScaleFault)) (new : List Subgoal) → with_subgoals known xs ≡ Ok new → IsStartOf known new
with_subgoals_grows known [] new e = let same : known ≡ new = cc in subst (IsStartOf known) same (start_itself known)
with_subgoals_grows known (x ∷ xs) new e = by x e (λ more. with_subgoals_grows more xs new)
  where
    after : (r : Result (List Subgoal) ScaleFault) → and_then r (λ more. with_subgoals more xs) ≡ Ok new → ((more : List Subgoal) → with_subgoals more xs ≡ Ok new → IsStartOf more new)
        → ((more : List Subgoal) → r ≡ Ok more → IsStartOf known more) → IsStartOf known new
    after (Ok more) e rest grows = start_trans known more new (grows more refl) (rest more e)
    after (Err f) e rest grows = cc

    by : (x : Result Subgoal ScaleFault) → and_then x (λ q. and_then (with_subgoal known q) (λ more. with_subgoals more xs)) ≡ Ok new
        → ((more : List Subgoal) → with_subgoals more xs ≡ Ok new → IsStartOf more new) → IsStartOf known new
    by (Ok q) e rest = after (with_subgoal known q) e rest (with_subgoal_grows known q)
    by (Err f) e rest = cc

-- ---- a subgoal that is put into an index set

or_no : (b : Bool) → (b || false) ≡ b
or_no true = refl
or_no false = refl

itself : (q : Subgoal) → same_subgoal q q ≡ true
itself q = (same_subgoal-Decides q q).1 refl

-- its number is its number in whatever follows
pub put_number : (known final : List Subgoal) (q : Subgoal) → IsStartOf (if list_any (same_subgoal q) known then known else known ++ q ∷ []) final
    → position_or_len (same_subgoal q) known ≡ number_of same_subgoal final q
put_number known final q s = place_is same_subgoal known q ∙ by (list_any (same_subgoal q) known) refl s
  where
    by : (b : Bool) → list_any (same_subgoal q) known ≡ b → IsStartOf (if b then known else known ++ q ∷ []) final → number_of same_subgoal known q ≡ number_of same_subgoal final q
    by true e s = sym (number_stays same_subgoal known final q s e)
    by false e s =
        sym (number_stays same_subgoal (known ++ q ∷ []) final q s
        (list_any-append (same_subgoal q) known (q ∷ []) ∙ or_right (list_any (same_subgoal q) known) (same_subgoal q q || false) (or_left (same_subgoal q q) false (itself q)))
        ∙ pushed known e)
      where
        pushed : (ks : List Subgoal) → list_any (same_subgoal q) ks ≡ false → number_of same_subgoal (ks ++ q ∷ []) q ≡ number_of same_subgoal ks q
        pushed [] e = ap (λ b. if b then 0 else 1) (itself q)
        pushed (k ∷ ks) e = by_same (same_subgoal q k) e (pushed ks)
          where
            by_same : (b : Bool) → (b || list_any (same_subgoal q) ks) ≡ false → (list_any (same_subgoal q) ks ≡ false → number_of same_subgoal (ks ++ q ∷ []) q ≡ number_of same_subgoal ks q)
                → (if b then 0 else suc (number_of same_subgoal (ks ++ q ∷ []) q)) ≡ (if b then 0 else suc (number_of same_subgoal ks q))
            by_same true e rest = refl
            by_same false e rest = ap suc (rest e)

-- by any test that agrees
pub put_number_by : (test : Subgoal → Subgoal → Bool) → ((x y : Subgoal) → test x y ≡ same_subgoal x y) → (known final : List Subgoal) (q : Subgoal)
    → IsStartOf (if list_any (test q) known then known else known ++ q ∷ []) final → position_or_len (test q) known ≡ number_of same_subgoal final q
put_number_by test alike known final q s =
    let e : test q ≡ same_subgoal q = fun_ext {f = test q} {g = same_subgoal q} (alike q) in
    ap (λ p. position_or_len p known) e ∙ put_number known final q (subst (λ p. IsStartOf (if list_any p known then known else known ++ q ∷ []) final) e s)

-- ---- numbers in their places

pub put_all-append : (ns ms xs : List ℕ) → put_all (ns ++ ms) xs ≡ put_all ms (put_all ns xs)
put_all-append [] ms xs = refl
put_all-append (n ∷ ns) ms xs = put_all-append ns ms (put_in n xs)

-- the numbers of more subgoals after others
pub put_then : (known more : List Subgoal) (qs rs : List Subgoal) (old mid new : List ℕ) → ArePut known qs old mid → IsStartOf known more → ArePut more rs mid new → ArePut more (qs ++ rs) old new
put_then known more qs rs old mid new p s q = record {
  numbers = λ final t.
      q.numbers final t
      ∙ ap (put_all (map (number_of same_subgoal final) rs)) (p.numbers final (start_trans known more final s t))
      ∙ sym (put_all-append (map (number_of same_subgoal final) qs) (map (number_of same_subgoal final) rs) old)
      ∙ ap (λ ns. put_all ns old) (sym (map-append (number_of same_subgoal final) qs rs));
  ascending = q.ascending;
}

-- ---- loops over conditions

-- what is still to be read, where one more item is read
pub known_more : {C : Type 0} (f : C → List (Result Subgoal ScaleFault)) (known mid : List Subgoal) (all : Result (List Subgoal) ScaleFault) (xs : List C) (i : ℕ) (d : C) → i < length xs
    → with_subgoals known (flat_map f (drop i xs)) ≡ all → with_subgoals known (f (get_or xs i d)) ≡ Ok mid → with_subgoals mid (flat_map f (drop (i + 1) xs)) ≡ all
known_more f known mid all xs i d within before one =
    sym (ap (λ l. with_subgoals known (flat_map f l)) (drop_more xs i d within)
    ∙ with_subgoals-append known (f (get_or xs i d)) (flat_map f (drop (i + 1) xs))
    ∙ ap (λ r. and_then r (λ more. with_subgoals more (flat_map f (drop (i + 1) xs)))) one)
    ∙ before

-- and where it has a fault
pub known_refused : {C : Type 0} (e : ScaleFault) (f : C → List (Result Subgoal ScaleFault)) (known : List Subgoal) (all : Result (List Subgoal) ScaleFault) (xs : List C) (i : ℕ) (d : C) → i < length xs
    → with_subgoals known (flat_map f (drop i xs)) ≡ all → Refuses e (with_subgoals known (f (get_or xs i d))) → Refuses e all
known_refused e f known all xs i d within before h =
    subst (Refuses e)
    (sym (ap (λ l. with_subgoals known (flat_map f l)) (drop_more xs i d within) ∙ with_subgoals-append known (f (get_or xs i d)) (flat_map f (drop (i + 1) xs))) ∙ before)
    (refuse_then e (with_subgoals known (f (get_or xs i d))) (λ more. with_subgoals more (flat_map f (drop (i + 1) xs))) h)

-- the numbers of one more item
pub put_more : {C : Type 0} (g : C → List Subgoal) (known mid : List Subgoal) (old new : List ℕ) (xs : List C) (i : ℕ) (d : C) → i < length xs
    → ArePut known (flat_map g (take i xs)) [] old → IsStartOf known mid → ArePut mid (g (get_or xs i d)) old new → ArePut mid (flat_map g (take (i + 1) xs)) [] new
put_more g known mid old new xs i d within before grows one =
    subst (λ qs. ArePut mid qs [] new) (sym (flat_more g xs i d within)) (put_then known mid (flat_map g (take i xs)) (g (get_or xs i d)) [] old new before grows one)
