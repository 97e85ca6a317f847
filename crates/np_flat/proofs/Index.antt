-- The index of the subgoals: how it grows, and that a step achieves none but what reads something that it touches.
use Rattle.std.proofs.Common.{◌≡◌, ◌≢◌, ℕ, zero, suc, ◌+◌, ◌^◌, ◌<◌, ℤ, pos, ◌+ℤ◌, ◌*ℤ◌, Bool, true, false, ◌||◌, ◌&&◌, eqb, List, [], ◌∷◌, ◌++◌, length, flat_map, set, get_or, take, All, Contains, filter, Option, None, Some, slice_get, refl, sym, ap, ◌∙◌, subst, inl, inr, arith}
use Rattle.std.specs.Prelude.{int_lt}
use Rattle.std.specs.List.{list_any, dedup}
use Rattle.std.specs.List.Sorted.{IsPermutation, IsSorted}
use Rattle.std.specs.Ordering.{nat_cmp}
use Rattle.std.specs.Option.{option_map_or}
use Rattle.std.proofs.lemmas.Int.{ints}
use Rattle.std.proofs.lemmas.Bool.{cases_eq, cases_lt, eq-eqb, eqb-true, eqb-false, ne_eqb, or_cases, or_left, or_right, false≢true, cond_both}
use Rattle.std.proofs.lemmas.Option.{slice_get_within, get_or_from_slice_get}
use Rattle.std.proofs.lemmas.List.{get_or-set_same, get_or-set_other, length-set, get_or_past}
use Rattle.std.proofs.lemmas.List.Elements.{All-head, All-tail}
use Rattle.std.proofs.lemmas.List.Folds.{list_any-append, list_any_more}
use Rattle.std.proofs.lemmas.List.Sorted.{list_any-IsPermutation}
use Rattle.std.proofs.lemmas.List.Kept.{AllPairs-from_increasing, Contains-dedup_nat, Contains-from_dedup}
use Rattle.std.proofs.lemmas.Map.Keys.{IsStrictlyIncreasing-dedup}
use Rattle.np_flat.specs.declared.parts.Subgoal.{Subgoal}
use Rattle.np_flat.specs.declared.parts.Subgoal.TheVariants as subgoal
use Rattle.np_flat.specs.declared.parts.FlatStep.{FlatStep}
use Rattle.np_flat.specs.declared.parts.Parts.{Parts}
use Rattle.np_flat.specs.declared.readers.Readers.{Readers}
use Rattle.np_flat.specs.Flats.{IsAscending, IsSubgoal, IsStep, IsFlat}
use Rattle.np_flat.specs.States.{has}
use Rattle.np_flat.specs.Achieving.{change_on, net_terms, achieves, achieves_at}
use Rattle.np_flat.specs.Readers.{reads_fact, reads_value, ReadsFactBelow, ReadsValuesBelow, rows, row, touched, AreReaders, IsIndex, IsNoted}
use Rattle.np_flat.proofs.Ascending.{ascending_filter}
use Rattle.np_flat.proofs.Forms.{amounts_within}
use Rattle.np_flat.proofs.NetChanges.{product}

-- ---- members

or_false : (b : Bool) → (b || false) ≡ b
or_false true = refl
or_false false = refl

and_false : (b : Bool) → (b && false) ≡ false
and_false true = refl
and_false false = refl

and_true : (b : Bool) → (b && true) ≡ b
and_true true = refl
and_true false = refl

-- a test with two ways to be so
distributed : (h b r s : Bool) → ((h || (b && r)) || (b && s)) ≡ (h || (b && (r || s)))
distributed true b r s = refl
distributed false true r s = refl
distributed false false r s = refl

pub has_append : (xs ys : List ℕ) (q : ℕ) → has (xs ++ ys) q ≡ (has xs q || has ys q)
has_append xs ys q = list_any-append (λ m. eqb m q) xs ys

pub has_push : (xs : List ℕ) (n q : ℕ) → has (xs ++ n ∷ []) q ≡ (has xs q || eqb n q)
has_push xs n q = has_append xs (n ∷ []) q ∙ ap (λ b. has xs q || b) (or_false (eqb n q))

pub has_flat_map : {X : Type 0} (f : X → List ℕ) (xs : List X) (q : ℕ) → has (flat_map f xs) q ≡ list_any (λ x. has (f x) q) xs
has_flat_map f [] q = refl
has_flat_map f (x ∷ xs) q = has_append (f x) (flat_map f xs) q ∙ ap (λ b. has (f x) q || b) (has_flat_map f xs q)

pub has_filter : (f : ℕ → Bool) (xs : List ℕ) (q : ℕ) → has (filter f xs) q ≡ (has xs q && f q)
has_filter f [] q = refl
has_filter f (x ∷ xs) q =
    cond_both (f x) (x ∷ filter f xs) (filter f xs) (λ l. has l q ≡ ((eqb x q || has xs q) && f q))
    (λ so. ap (λ b. eqb x q || b) (has_filter f xs q) ∙ kept so)
    (λ out. has_filter f xs q ∙ dropped out)
  where
    passes : (b r t : Bool) → t ≡ true → (b || (r && t)) ≡ ((b || r) && t)
    passes b r t e = subst (λ u. (b || (r && u)) ≡ ((b || r) && u)) (sym e) (ap (λ c. b || c) (and_true r) ∙ sym (and_true (b || r)))

    kept : f x ≡ true → (eqb x q || (has xs q && f q)) ≡ ((eqb x q || has xs q) && f q)
    kept so =
        elim (cases_eq x q) [
          | inl e ↦ passes (eqb x q) (has xs q) (f q) (subst (λ k. f k ≡ true) e so)
          | inr ne ↦ rw (ne_eqb x q ne) refl
        ]

    dropped : f x ≡ false → (has xs q && f q) ≡ ((eqb x q || has xs q) && f q)
    dropped out =
        elim (cases_eq x q) [
          | inl e ↦ let off : f q ≡ false = subst (λ k. f k ≡ false) e out in rw off (and_false (has xs q) ∙ sym (and_false (eqb x q || has xs q)))
          | inr ne ↦ rw (ne_eqb x q ne) refl
        ]

any_at_number : (g : ℕ → Bool) (xs : List ℕ) (p : ℕ) → has xs p ≡ true → g p ≡ true → list_any g xs ≡ true
any_at_number g [] p there here = absurd (false≢true there)
any_at_number g (x ∷ xs) p there here =
    elim (or_cases (eqb x p) (has xs p) there) [
      | inl same ↦ or_left (g x) (list_any g xs) (subst (λ y. g y ≡ true) (sym (eqb-true x p same)) here)
      | inr later ↦ or_right (g x) (list_any g xs) (any_at_number g xs p later here)
    ]

any_agree : {X : Type 0} (f g : X → Bool) (xs : List X) → All (λ x. f x ≡ g x) xs → list_any f xs ≡ list_any g xs
any_agree f g [] all = refl
any_agree f g (x ∷ xs) all = rw (All-head (λ y. f y ≡ g y) x xs all, any_agree f g xs (All-tail (λ y. f y ≡ g y) x xs all)) refl

same_tests : (a b : Bool) → (a ≡ true → b ≡ true) → (b ≡ true → a ≡ true) → a ≡ b
same_tests true b to from = sym (to refl)
same_tests false true to from = from refl
same_tests false false to from = refl

contained : (xs : List ℕ) (q : ℕ) → has xs q ≡ true → Contains xs q
contained [] q there = absurd (false≢true there)
contained (x ∷ xs) q there =
    elim (or_cases (eqb x q) (has xs q) there) [
      | inl same ↦ (0, omega arith, eqb-true x q same)
      | inr later ↦ let rest = contained xs q later in (suc rest.0, omega (arith, rest.1), rest.2)
    ]

has_at : (xs : List ℕ) (q k : ℕ) → k < length xs → get_or xs k q ≡ q → has xs q ≡ true
has_at [] q k h e = absurd (omega arith)
has_at (x ∷ xs) q zero h e = or_left (eqb x q) (has xs q) (eq-eqb x q e)
has_at (x ∷ xs) q (suc k) h e = or_right (eqb x q) (has xs q) (has_at xs q k (omega arith) e)

-- numbers that are sorted and then have no two neighbours that are equal are those that were there, ascending
pub has_sorted : (xs sorted : List ℕ) (q : ℕ) → IsPermutation xs sorted → has (dedup eqb sorted) q ≡ has xs q
has_sorted xs sorted q moved =
    same_tests (has (dedup eqb sorted) q) (has sorted q)
    (λ h. let c = Contains-from_dedup eqb sorted q (contained (dedup eqb sorted) q h) in has_at sorted q c.0 c.1 c.2)
    (λ h. let c = Contains-dedup_nat sorted q (contained sorted q h) in has_at (dedup eqb sorted) q c.0 c.1 c.2)
    ∙ sym (list_any-IsPermutation (λ m. eqb m q) xs sorted moved)

pub ascending_sorted : (f : ℕ → Bool) (sorted : List ℕ) → IsSorted nat_cmp sorted → IsAscending (filter f (dedup eqb sorted))
ascending_sorted f sorted up = ascending_filter f (dedup eqb sorted) (AllPairs-from_increasing (dedup eqb sorted) (IsStrictlyIncreasing-dedup sorted up))

-- ---- how the index grows

-- a row with one number more
pub noted_one : (t : List (List ℕ)) (at n : ℕ) → at < length t → IsNoted (λ p. eqb at p) n t (set t at (row t at ++ n ∷ []))
noted_one t at n h = record {
  many = length-set t at (row t at ++ n ∷ []);
  each = λ p q l. elim (cases_eq p at) [
    | inl same ↦
        subst (λ k. has (row (set t at (row t at ++ n ∷ [])) k) q ≡ (has (row t k) q || (eqb n q && eqb at k))) (sym same)
        (ap (λ r. has r q) (get_or-set_same t at (row t at ++ n ∷ []) [] h) ∙ has_push (row t at) n q
        ∙ ap (λ b. has (row t at) q || b) (sym (and_true (eqb n q)) ∙ ap (λ b. eqb n q && b) (sym (eq-eqb at at refl))))
    | inr ne ↦
        let other : at ≢ p = omega arith in
        ap (λ r. has r q) (get_or-set_other t at p (row t at ++ n ∷ []) [] ne)
        ∙ sym (ap (λ b. has (row t p) q || (eqb n q && b)) (ne_eqb at p other) ∙ ap (λ b. has (row t p) q || b) (and_false (eqb n q)) ∙ or_false (has (row t p) q))
  ];
}

pub noted_none : (t : List (List ℕ)) (n : ℕ) → IsNoted (λ p. false) n t t
noted_none t n = record {
  many = refl;
  each = λ p q l. sym (ap (λ b. has (row t p) q || b) (and_false (eqb n q)) ∙ or_false (has (row t p) q));
}

-- one reading after another
pub noted_then : (r s : ℕ → Bool) (n : ℕ) (t u v : List (List ℕ)) → IsNoted r n t u → IsNoted s n u v → IsNoted (λ p. r p || s p) n t v
noted_then r s n t u v first second = record {
  many = second.many ∙ first.many;
  each = λ p q l.
      second.each p q (subst (λ k. p < k) (sym first.many) l)
      ∙ ap (λ b. b || (eqb n q && s p)) (first.each p q l)
      ∙ distributed (has (row t p) q) (eqb n q) (r p) (s p);
}

-- one term more
pub noted_more : (terms : List (ℕ × ℤ)) (i : ℕ) (d : ℕ × ℤ) (n : ℕ) (t u v : List (List ℕ)) → i < length terms
    → IsNoted (λ p. list_any (λ (x : ℕ × ℤ). eqb x.0 p) (take i terms)) n t u → IsNoted (λ p. eqb (get_or terms i d).0 p) n u v
    → IsNoted (λ p. list_any (λ (x : ℕ × ℤ). eqb x.0 p) (take (i + 1) terms)) n t v
noted_more terms i d n t u v h first second =
    let both = noted_then (λ p. list_any (λ (x : ℕ × ℤ). eqb x.0 p) (take i terms)) (λ p. eqb (get_or terms i d).0 p) n t u v first second in
    record {
      many = both.many;
      each = λ p q l. both.each p q l ∙ ap (λ b. has (row t p) q || (eqb n q && b)) (sym (list_any_more (λ (x : ℕ × ℤ). eqb x.0 p) terms i d h));
    }

-- what a test says of one item more
looked : {X : Type 0} (f : X → Bool) (xs : List X) (i q : ℕ) (d : X) → i < length xs
    → option_map_or f (slice_get (take (suc i) xs) q) false ≡ (option_map_or f (slice_get (take i xs) q) false || (eqb i q && f (get_or xs i d)))
looked f [] i q d h = absurd (omega arith)
looked f (x ∷ xs) zero zero d h = refl
looked f (x ∷ xs) zero (suc q) d h = let ne : 0 ≢ suc q = omega arith in rw (ne_eqb 0 (suc q) ne) refl
looked f (x ∷ xs) (suc i) zero d h = let ne : suc i ≢ 0 = omega arith in rw (ne_eqb (suc i) 0 ne) (sym (or_false (f x)))
looked f (x ∷ xs) (suc i) (suc q) d h =
    looked f xs i q d (omega arith) ∙ ap (λ b. option_map_or f (slice_get (take i xs) q) false || (b && f (get_or xs i d))) (same_next i q)
  where
    same_next : (a b : ℕ) → eqb a b ≡ eqb (suc a) (suc b)
    same_next a b =
        elim (cases_eq a b) [
          | inl e ↦ eq-eqb a b e ∙ sym (eq-eqb (suc a) (suc b) (ap suc e))
          | inr ne ↦ let other : suc a ≢ suc b = omega arith in ne_eqb a b ne ∙ sym (ne_eqb (suc a) (suc b) other)
        ]

module _ (reads : ℕ → Subgoal → Bool) (count : ℕ) (subgoals : List Subgoal) where
  -- one subgoal more
  pub readers_more : (i : ℕ) (s : Subgoal) (t u : List (List ℕ)) → i < length subgoals → s ≡ get_or subgoals i s → AreReaders reads count (take i subgoals) t → IsNoted (λ p. reads p s) i t u
      → AreReaders reads count (take (i + 1) subgoals) u
  readers_more i s t u h is are noted = record {
    many = noted.many ∙ are.many;
    each = λ p q l.
        noted.each p q (subst (λ k. p < k) (sym are.many) l)
        ∙ ap (λ b. b || (eqb i q && reads p s)) (are.each p q l)
        ∙ ap (λ (x : Subgoal). option_map_or (reads p) (slice_get (take i subgoals) q) false || (eqb i q && reads p x)) is
        ∙ sym (looked (reads p) subgoals i q s h)
        ∙ ap (λ n. option_map_or (reads p) (slice_get (take n subgoals) q) false) (next i);
  }
    where
      next : (n : ℕ) → suc n ≡ n + 1
      next n = omega arith

  pub readers_none : (t : List (List ℕ)) → length t ≡ count → All (λ r. r ≡ []) t → AreReaders reads count (take 0 subgoals) t
  readers_none t many empty = record { many = many; each = λ p q l. ap (λ r. has r q) (nothing p) ∙ none q (take 0 subgoals) refl p }
    where
      nothing : (p : ℕ) → row t p ≡ []
      nothing p = elim (cases_lt p (length t)) [ inl lt ↦ empty p [] lt | inr ge ↦ get_or_past t p [] ge ]

      none : (q : ℕ) (xs : List Subgoal) → xs ≡ [] → (p : ℕ) → false ≡ option_map_or (reads p) (slice_get xs q) false
      none q xs e p = subst (λ ys. false ≡ option_map_or (reads p) (slice_get ys q) false) (sym e) refl

-- what a subgoal of the task reads is in range
pub fact_below : (facts values : ℕ) (s : Subgoal) → IsSubgoal facts values s → ReadsFactBelow facts s
fact_below facts values (subgoal.Fact p) of = of
fact_below facts values (subgoal.NotFact p) of = of
fact_below facts values (subgoal.Form form) of = tt

pub values_below : (facts values : ℕ) (s : Subgoal) → IsSubgoal facts values s → ReadsValuesBelow values s
values_below facts values (subgoal.Fact p) of = tt
values_below facts values (subgoal.NotFact p) of = tt
values_below facts values (subgoal.Form form) of = amounts_within values (2 ^ 31) form.terms of.terms

-- ---- what a step achieves

either_false : (a b : Bool) → (a || b) ≡ false → (a ≡ false) × (b ≡ false)
either_false true b e = absurd (false≢true (sym e))
either_false false b e = (refl, e)

any_either : {X : Type 0} (f g : X → Bool) (xs : List X) → list_any (λ x. f x || g x) xs ≡ false → (list_any f xs ≡ false) × (list_any g xs ≡ false)
any_either f g [] e = (refl, refl)
any_either f g (x ∷ xs) e =
    let split = either_false (f x || g x) (list_any (λ y. f y || g y) xs) e in
    let here = either_false (f x) (g x) split.0 in
    let rest = any_either f g xs split.1 in
    (rw (here.0, rest.0) refl, rw (here.1, rest.1) refl)

none_on : (cs : List (ℕ × ℤ)) (n : ℕ) → list_any (λ (c : ℕ × ℤ). eqb n c.0) cs ≡ false → change_on cs n ≡ pos 0
none_on [] n e = refl
none_on (c ∷ cs) n e =
    let split = either_false (eqb n c.0) (list_any (λ (x : ℕ × ℤ). eqb n x.0) cs) e in
    let apart : n ≢ c.0 = eqb-false n c.0 split.0 in
    let other : c.0 ≢ n = omega arith in
    rw (ne_eqb c.0 n other) (none_on cs n split.1)

times_zero : (a : ℤ) → (a *ℤ pos 0) +ℤ pos 0 ≡ pos 0
times_zero a = omega (arith, ints, product a (pos 0))

-- a step that changes no value of a form leaves it as it is
unmoved : (cs ts : List (ℕ × ℤ)) → list_any (λ (c : ℕ × ℤ). list_any (λ (t : ℕ × ℤ). eqb t.0 c.0) ts) cs ≡ false → net_terms cs ts ≡ pos 0
unmoved cs [] e = refl
unmoved cs (t ∷ ts) e =
    let split = any_either (λ (c : ℕ × ℤ). eqb t.0 c.0) (λ (c : ℕ × ℤ). list_any (λ (u : ℕ × ℤ). eqb u.0 c.0) ts) cs e in
    rw (none_on cs t.0 split.0, unmoved cs ts split.1) (times_zero t.1)

raised : (cs ts : List (ℕ × ℤ)) → int_lt (pos 0) (net_terms cs ts) ≡ true → list_any (λ (c : ℕ × ℤ). list_any (λ (t : ℕ × ℤ). eqb t.0 c.0) ts) cs ≡ true
raised cs ts up = by (list_any (λ (c : ℕ × ℤ). list_any (λ (t : ℕ × ℤ). eqb t.0 c.0) ts) cs) refl
  where
    by : (b : Bool) → list_any (λ (c : ℕ × ℤ). list_any (λ (t : ℕ × ℤ). eqb t.0 c.0) ts) cs ≡ b → list_any (λ (c : ℕ × ℤ). list_any (λ (t : ℕ × ℤ). eqb t.0 c.0) ts) cs ≡ true
    by true e = e
    by false e = absurd (false≢true (subst (λ (z : ℤ). int_lt (pos 0) z ≡ true) (unmoved cs ts e) up))

module _ (task : Parts) (readers : Readers) (step : FlatStep)
    (flat : IsFlat task) (index : IsIndex task readers) (of : IsStep (length task.facts) (length task.values) (length task.subgoals) step) where
  abbrev facts : List (List ℕ)
  facts = rows readers.by_fact.items

  abbrev values : List (List ℕ)
  values = rows readers.by_value.items

  abbrev on_adds : ℕ → Bool
  on_adds q = has (flat_map (row facts) step.adds) q

  abbrev on_deletes : ℕ → Bool
  on_deletes q = has (flat_map (row facts) step.deletes) q

  abbrev on_changes : ℕ → Bool
  on_changes q = has (flat_map (λ c. row values c.0) step.changes) q

  touched_is : (q : ℕ) → has (touched readers step) q ≡ ((on_adds q || on_deletes q) || on_changes q)
  touched_is q =
      has_append (flat_map (row facts) step.adds ++ flat_map (row facts) step.deletes) (flat_map (λ c. row values c.0) step.changes) q
      ∙ ap (λ b. b || on_changes q) (has_append (flat_map (row facts) step.adds) (flat_map (row facts) step.deletes) q)

  -- the readers of a fact among these
  on_facts : (ps : List ℕ) (p q : ℕ) → has ps p ≡ true → p < length task.facts → option_map_or (reads_fact p) (slice_get task.subgoals q) false ≡ true → has (flat_map (row facts) ps) q ≡ true
  on_facts ps p q there within reads = has_flat_map (row facts) ps q ∙ any_at_number (λ r. has (row facts r) q) ps p there (index.facts.each p q within ∙ reads)

  on_values : (q : ℕ) → list_any (λ (c : ℕ × ℤ). option_map_or (reads_value c.0) (slice_get task.subgoals q) false) step.changes ≡ true → on_changes q ≡ true
  on_values q some =
      has_flat_map (λ (c : ℕ × ℤ). row values c.0) step.changes q
      ∙ any_agree (λ (c : ℕ × ℤ). has (row values c.0) q) (λ (c : ℕ × ℤ). option_map_or (reads_value c.0) (slice_get task.subgoals q) false) step.changes
      (λ k d l. index.values.each (get_or step.changes k d).0 q (amounts_within (length task.values) (2 ^ 62) step.changes of.changes k d l))
      ∙ some

  -- a subgoal of the task is in range
  in_range : (q : ℕ) (s : Subgoal) → slice_get task.subgoals q ≡ Some s → IsSubgoal (length task.facts) (length task.values) s
  in_range q s is = subst (IsSubgoal (length task.facts) (length task.values)) (get_or_from_slice_get task.subgoals q s s is) (flat.subgoals q s (slice_get_within task.subgoals q s is))

  -- whatever the subgoal is
  by_subgoal : (q : ℕ) (o : Option Subgoal) → slice_get task.subgoals q ≡ o → option_map_or (achieves step) o false ≡ true → ((on_adds q || on_deletes q) || on_changes q) ≡ true
  by_subgoal q None is so = absurd (false≢true so)
  by_subgoal q (Some (subgoal.Fact p)) is so =
      or_left (on_adds q || on_deletes q) (on_changes q)
      (or_left (on_adds q) (on_deletes q)
      (on_facts step.adds p q so (in_range q (subgoal.Fact p) is)
      (ap (λ o. option_map_or (reads_fact p) o false) is ∙ eq-eqb p p refl)))
  by_subgoal q (Some (subgoal.NotFact p)) is so =
      or_left (on_adds q || on_deletes q) (on_changes q)
      (or_right (on_adds q) (on_deletes q)
      (on_facts step.deletes p q so (in_range q (subgoal.NotFact p) is)
      (ap (λ o. option_map_or (reads_fact p) o false) is ∙ eq-eqb p p refl)))
  by_subgoal q (Some (subgoal.Form form)) is so =
      or_right (on_adds q || on_deletes q) (on_changes q)
      (on_values q
      (subst (λ o. list_any (λ (c : ℕ × ℤ). option_map_or (reads_value c.0) o false) step.changes ≡ true) (sym is) (raised step.changes form.terms so)))

  -- a subgoal that the step achieves reads something that the step touches
  pub achieved_touched : (q : ℕ) → achieves_at task step q ≡ true → has (touched readers step) q ≡ true
  achieved_touched q so = touched_is q ∙ by_subgoal q (slice_get task.subgoals q) refl so

  both_are : (a b : Bool) → (b ≡ true → a ≡ true) → (a && b) ≡ b
  both_are true b h = refl
  both_are false true h = absurd (false≢true (h refl))
  both_are false false h = refl

  -- so those that it achieves are found among what reads something that it touches
  pub achieved_are : (f : ℕ → Bool) → ((q : ℕ) → f q ≡ achieves_at task step q) → (sorted : List ℕ) (q : ℕ) → IsPermutation (touched readers step) sorted → has (filter f (dedup eqb sorted)) q ≡ f q
  achieved_are f same sorted q moved =
      has_filter f (dedup eqb sorted) q
      ∙ ap (λ b. b && f q) (has_sorted (touched readers step) sorted q moved)
      ∙ both_are (has (touched readers step) q) (f q) (λ so. achieved_touched q (sym (same q) ∙ so))
