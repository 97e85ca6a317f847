-- What effects come to is what they do.
use Rattle.std.proofs.Common.{◌≡◌, ℕ, Bool, true, false, refl, sym, ◌∙◌, ap, List, [], ◌∷◌, ◌++◌, map, Some, None, Ok, Err, Option, Result, true≢false}
use Rattle.std.specs.Prelude.{◌&&◌, ◌||◌, if◌then◌else◌, is_some, fold, filter, option_map}
use Rattle.std.specs.Option.{option_map_or}
use Rattle.std.specs.List.{list_all, list_any}
use Rattle.std.proofs.Math.Bool.{and-false}
use Rattle.std.proofs.lemmas.List.Folds.{list_any-append}
use Rattle.np_frac.specs.Fractions.{Fraction, plus}
use Rattle.np_model.specs.declared.task.Term.{Term}
use Rattle.np_model.specs.declared.task.Atom as model
use Rattle.np_model.specs.declared.task.Ref.{Ref}
use Rattle.np_model.specs.declared.task.Sum.{Sum}
use Rattle.np_model.specs.declared.task.Eff.{Eff}
use Rattle.np_model.specs.declared.task.Eff.TheVariants as eff
use Rattle.np_model.specs.declared.task.TaskParts.{TaskParts}
use Rattle.np_model.specs.Ground.{atom_of, term_of, same_atom, same_term, same_term-Decides}
use Rattle.np_model.specs.States.{State, is_among, value_among}
use Rattle.np_model.specs.Values.{of_both, value_of, negated}
use Rattle.np_model.specs.Steps.{adds, deletes, changes, amount_of, is_possible}
use Rattle.np_model.proofs.Sums.{plus-negated}
use Rattle.np_linear.specs.declared.linear.Linear.{Linear}
use Rattle.np_linear.specs.declared.finding.Finding.{Finding}
use Rattle.np_linear.specs.declared.finding.Finding.TheVariants.{Fails, Missing, NotLinear, Wide}
use Rattle.np_linear.specs.Answers.{and_then}
use Rattle.np_linear.specs.Linears.{zero, plus_or_minus, checked_sum, with_term, is_constant, with_multiple, linear_of, linear_value, value_in}
use Rattle.np_linear.proofs.Chains.{goes_on, same_Ok}
use Rattle.np_linear.proofs.LinearValues.{sum_is}
use Rattle.np_linear.proofs.Readings.{IfMissing, Means, Present, present_multiple, constant_value, linear_means}
use Rattle.np_bind.specs.declared.net.Net.{Net}
use Rattle.np_bind.specs.Grounding.{constant_of, number_of_amount, with_change, with_effects, number_on}
use Rattle.np_bind.proofs.LeftConditions.{Follows, IfFalse}

-- ---- net changes

-- what an amount that is taken in makes of the net changes
pub multiple_on : (up : Bool) (t : Term) (c : Fraction) (xs ys : List (Term × Fraction)) (u : Term) → with_multiple true up t c xs ≡ Ok ys
    → number_on ys u ≡ (if same_term u t then plus_or_minus up (number_on xs u) c else number_on xs u)
multiple_on up t c [] ys u e =
    goes_on (checked_sum up zero c) (λ s. Ok (with_term true t s [])) ys e (λ s one two.
    ap (λ zs. number_on zs u) (sym (same_Ok ((t, s) ∷ []) ys two))
    ∙ by_same (same_term u t) s (sum_is up zero c s one))
  where
    by_same : (b : Bool) (s : Fraction) → plus_or_minus up zero c ≡ s → option_map_or (λ z. z) (if b then Some s else None) zero ≡ (if b then plus_or_minus up zero c else zero)
    by_same true s e = sym e
    by_same false s e = refl
multiple_on up t c (x ∷ xs) ys u e = by_found (λ zs. multiple_on up t c xs zs u) (same_term t x.0) refl e
  where
    here : (b : Bool) (s : Fraction) → plus_or_minus up x.1 c ≡ s
        → option_map_or (λ z. z) (if b then Some s else value_among xs u) zero
        ≡ (if b then plus_or_minus up (option_map_or (λ z. z) (if b then Some x.1 else value_among xs u) zero) c else option_map_or (λ z. z) (if b then Some x.1 else value_among xs u) zero)
    here true s e = sym e
    here false s e = refl

    there : (b d : Bool) (zs : List (Term × Fraction)) → (b ≡ true → d ≡ true → ⊥)
        → number_on zs u ≡ (if d then plus_or_minus up (number_on xs u) c else number_on xs u)
        → option_map_or (λ z. z) (if b then Some x.1 else value_among zs u) zero
        ≡ (if d then plus_or_minus up (option_map_or (λ z. z) (if b then Some x.1 else value_among xs u) zero) c else option_map_or (λ z. z) (if b then Some x.1 else value_among xs u) zero)
    there true true zs differ h = absurd (differ refl refl)
    there true false zs differ h = refl
    there false d zs differ h = h

    by_found : ((zs : List (Term × Fraction)) → with_multiple true up t c xs ≡ Ok zs → number_on zs u ≡ (if same_term u t then plus_or_minus up (number_on xs u) c else number_on xs u))
        → (b : Bool) → same_term t x.0 ≡ b
        → (if b then and_then (checked_sum up x.1 c) (λ s. Ok (with_term true t s xs)) else and_then (with_multiple true up t c xs) (λ zs. Ok (x ∷ zs))) ≡ Ok ys
        → number_on ys u ≡ (if same_term u t then plus_or_minus up (number_on (x ∷ xs) u) c else number_on (x ∷ xs) u)
    by_found later true same is =
        goes_on (checked_sum up x.1 c) (λ s. Ok (with_term true t s xs)) ys is (λ s one two.
        ap (λ zs. number_on zs u) (sym (same_Ok ((t, s) ∷ xs) ys two))
        ∙ here (same_term u t) s (sum_is up x.1 c s one)
        ∙ ap (λ w. if same_term u t then plus_or_minus up (option_map_or (λ z. z) (if same_term u w then Some x.1 else value_among xs u) zero) c else option_map_or (λ z. z) (if same_term u w then Some x.1 else value_among xs u) zero) ((same_term-Decides t x.0).0 same))
    by_found later false same is =
        goes_on (with_multiple true up t c xs) (λ zs. Ok (x ∷ zs)) ys is (λ zs one two.
        ap (λ ws. number_on ws u) (sym (same_Ok (x ∷ zs) ys two))
        ∙ there (same_term u x.0) (same_term u t) zs
        (λ p q. true≢false (sym ((same_term-Decides t x.0).1 (sym ((same_term-Decides u t).0 q) ∙ (same_term-Decides u x.0).0 p)) ∙ same))
        (later zs one))

-- ---- effects

-- what effects do in a state, from what came before
pub record Does (objects : List ℕ) (s : State) (n : Net) (es : List Eff) (m : Net) : Type 0 where
  pub possible : list_all (is_possible objects s) es ≡ true
  pub added : (a : model.Atom) → is_among m.adds a ≡ (is_among n.adds a || list_any (adds objects a) es)
  pub deleted : (a : model.Atom) → is_among m.deletes a ≡ (is_among n.deletes a || list_any (deletes objects a) es)
  pub net : (t : Term) → fold (of_both plus) (Some (number_on n.changes t)) (map (amount_of objects s) (filter (changes objects t) es)) ≡ Some (number_on m.changes t)

-- the same of an answer
abbrev pub Comes : List ℕ → State → Net → List Eff → Result Net Finding → Type 0
Comes objects s n es (Ok m) = Does objects s n es m
Comes objects s n es (Err e) = IfFalse e (list_all (is_possible objects s) es)

or_false : (b : Bool) → b ≡ (b || false)
or_false true = refl
or_false false = refl

or_moved : (a b c : Bool) → ((a || (b || false)) || c) ≡ (a || (b || c))
or_moved true b c = refl
or_moved false true c = refl
or_moved false false c = refl

-- one more atom
one_more : (xs : List model.Atom) (x a : model.Atom) (rest : Bool) → (is_among (xs ++ x ∷ []) a || rest) ≡ (is_among xs a || (same_atom a x || rest))
one_more xs x a rest = ap (λ b. b || rest) (list_any-append (same_atom a) xs (x ∷ [])) ∙ or_moved (is_among xs a) (same_atom a x) rest

-- what an addition does before others
after_add : (objects : List ℕ) (s : State) (n m : Net) (predicate : ℕ) (refs : List Ref) (es : List Eff)
    → Does objects s (record { adds = n.adds ++ atom_of objects predicate refs ∷ []; deletes = n.deletes; changes = n.changes }) es m
    → Does objects s n (eff.Add predicate refs ∷ es) m
after_add objects s n m predicate refs es d = record {
  possible = d.possible;
  added = λ a. d.added a ∙ one_more n.adds (atom_of objects predicate refs) a (list_any (adds objects a) es);
  deleted = d.deleted;
  net = d.net;
}

-- and a deletion
after_delete : (objects : List ℕ) (s : State) (n m : Net) (predicate : ℕ) (refs : List Ref) (es : List Eff)
    → Does objects s (record { adds = n.adds; deletes = n.deletes ++ atom_of objects predicate refs ∷ []; changes = n.changes }) es m
    → Does objects s n (eff.Delete predicate refs ∷ es) m
after_delete objects s n m predicate refs es d = record {
  possible = d.possible;
  added = d.added;
  deleted = λ a. d.deleted a ∙ one_more n.deletes (atom_of objects predicate refs) a (list_any (deletes objects a) es);
  net = d.net;
}

-- what an amount adds
abbrev signed : Bool → Fraction → Fraction
signed true c = c
signed false c = negated c

plus_signed : (up : Bool) (x c : Fraction) → plus x (signed up c) ≡ plus_or_minus up x c
plus_signed true x c = refl
plus_signed false x c = plus-negated x c

amount_is : (objects : List ℕ) (s : State) (up : Bool) (function : ℕ) (refs : List Ref) (amount : Sum) (c : Fraction)
    → value_of objects s amount ≡ Some c → amount_of objects s (eff.Change up function refs amount) ≡ Some (signed up c)
amount_is objects s true function refs amount c e = e
amount_is objects s false function refs amount c e = ap (option_map negated) e

-- what a change does before others
after_change : (objects : List ℕ) (s : State) (n m : Net) (up : Bool) (function : ℕ) (refs : List Ref) (amount : Sum) (es : List Eff) (c r : Fraction) (cs : List (Term × Fraction))
    → value_of objects s amount ≡ Some c → s.value (term_of objects function refs) ≡ Some r → with_multiple true up (term_of objects function refs) c n.changes ≡ Ok cs
    → Does objects s (record { adds = n.adds; deletes = n.deletes; changes = cs }) es m
    → Does objects s n (eff.Change up function refs amount ∷ es) m
after_change objects s n m up function refs amount es c r cs value there is d = record {
  possible = rw (value, there) d.possible;
  added = d.added;
  deleted = d.deleted;
  net = λ t. by_same t (same_term t (term_of objects function refs)) (multiple_on up (term_of objects function refs) c n.changes cs t is) ∙ d.net t;
}
  where
    by_same : (t : Term) (b : Bool) → number_on cs t ≡ (if b then plus_or_minus up (number_on n.changes t) c else number_on n.changes t)
        → fold (of_both plus) (Some (number_on n.changes t)) (map (amount_of objects s) (if b then eff.Change up function refs amount ∷ filter (changes objects t) es else filter (changes objects t) es))
        ≡ fold (of_both plus) (Some (number_on cs t)) (map (amount_of objects s) (filter (changes objects t) es))
    by_same t true e =
        ap (λ o. fold (of_both plus) (of_both plus (Some (number_on n.changes t)) o) (map (amount_of objects s) (filter (changes objects t) es))) (amount_is objects s up function refs amount c value)
        ∙ ap (λ z. fold (of_both plus) (Some z) (map (amount_of objects s) (filter (changes objects t) es))) (plus_signed up (number_on n.changes t) c ∙ sym e)
    by_same t false e = ap (λ z. fold (of_both plus) (Some z) (map (amount_of objects s) (filter (changes objects t) es))) (sym e)

-- the same of answers
comes_add : (objects : List ℕ) (s : State) (n : Net) (predicate : ℕ) (refs : List Ref) (es : List Eff) (r : Result Net Finding)
    → Comes objects s (record { adds = n.adds ++ atom_of objects predicate refs ∷ []; deletes = n.deletes; changes = n.changes }) es r
    → Comes objects s n (eff.Add predicate refs ∷ es) r
comes_add objects s n predicate refs es (Ok m) d = after_add objects s n m predicate refs es d
comes_add objects s n predicate refs es (Err e) d = d

comes_delete : (objects : List ℕ) (s : State) (n : Net) (predicate : ℕ) (refs : List Ref) (es : List Eff) (r : Result Net Finding)
    → Comes objects s (record { adds = n.adds; deletes = n.deletes ++ atom_of objects predicate refs ∷ []; changes = n.changes }) es r
    → Comes objects s n (eff.Delete predicate refs ∷ es) r
comes_delete objects s n predicate refs es (Ok m) d = after_delete objects s n m predicate refs es d
comes_delete objects s n predicate refs es (Err e) d = d

-- an amount without a value
no_amount : (e : Finding) (o : Option Fraction) (a b : Bool) → IfMissing e o → IfFalse e ((is_some o && a) && b)
no_amount Fails o a b h = rw h refl
no_amount Missing o a b h = rw h refl
no_amount NotLinear o a b h = tt
no_amount Wide o a b h = tt

-- no finding of an operation says that a value is missing
pub never : (e : Finding) (b : Bool) → Present {A = Net} (Err e) → IfFalse e b
never Fails b p = absurd p
never Missing b p = absurd p
never NotLinear b p = tt
never Wide b p = tt

-- what effects come to is what they do
pub effects_come : (task : TaskParts) (values : List (Term × Fraction)) (objects : List ℕ) (s : State) → Follows task values s
    → (n : Net) (es : List Eff) → Comes objects s n es (with_effects task values objects n es)
unfolding number_of_amount
effects_come task values objects s h n [] = record {
  possible = refl;
  added = λ a. or_false (is_among n.adds a);
  deleted = λ a. or_false (is_among n.deletes a);
  net = λ t. refl;
}
effects_come task values objects s h n (eff.Add predicate refs ∷ es) =
    comes_add objects s n predicate refs es (with_effects task values objects (record { adds = n.adds ++ atom_of objects predicate refs ∷ []; deletes = n.deletes; changes = n.changes }) es)
    (effects_come task values objects s h (record { adds = n.adds ++ atom_of objects predicate refs ∷ []; deletes = n.deletes; changes = n.changes }) es)
effects_come task values objects s h n (eff.Delete predicate refs ∷ es) =
    comes_delete objects s n predicate refs es (with_effects task values objects (record { adds = n.adds; deletes = n.deletes ++ atom_of objects predicate refs ∷ []; changes = n.changes }) es)
    (effects_come task values objects s h (record { adds = n.adds; deletes = n.deletes ++ atom_of objects predicate refs ∷ []; changes = n.changes }) es)
effects_come task values objects s h n (eff.Change up function refs amount ∷ es) =
    by_start (λ k. effects_come task values objects s h k es) (value_among values (term_of objects function refs)) refl
  where
    by_put : ((k : Net) → Comes objects s k es (with_effects task values objects k es)) → (c r : Fraction) → value_of objects s amount ≡ Some c → s.value (term_of objects function refs) ≡ Some r
        → (q : Result (List (Term × Fraction)) Finding) → with_multiple true up (term_of objects function refs) c n.changes ≡ q → Present q
        → Comes objects s n (eff.Change up function refs amount ∷ es) (and_then (and_then q (λ cs. Ok (record { adds = n.adds; deletes = n.deletes; changes = cs }))) (λ m. with_effects task values objects m es))
    by_put later c r value there (Ok cs) is p =
        by_rest (with_effects task values objects (record { adds = n.adds; deletes = n.deletes; changes = cs }) es) (later (record { adds = n.adds; deletes = n.deletes; changes = cs }))
      where
        by_rest : (q : Result Net Finding) → Comes objects s (record { adds = n.adds; deletes = n.deletes; changes = cs }) es q → Comes objects s n (eff.Change up function refs amount ∷ es) q
        by_rest (Ok m) d = after_change objects s n m up function refs amount es c r cs value there is d
        by_rest (Err e) d = rw (value, there) d
    by_put later c r value there (Err e) is p = never e _ p

    by_constant : ((k : Net) → Comes objects s k es (with_effects task values objects k es)) → (l : Linear) (r : Fraction) → value_of objects s amount ≡ Some (linear_value (value_in s) l) → s.value (term_of objects function refs) ≡ Some r
        → (b : Bool) → is_constant l ≡ b
        → Comes objects s n (eff.Change up function refs amount ∷ es) (and_then (and_then (if b then Ok l.constant else Err NotLinear) (λ c. and_then (with_multiple true up (term_of objects function refs) c n.changes) (λ cs. Ok (record { adds = n.adds; deletes = n.deletes; changes = cs })))) (λ m. with_effects task values objects m es))
    by_constant later l r value there true e =
        by_put later l.constant r (value ∙ ap Some (constant_value (value_in s) l e)) there (with_multiple true up (term_of objects function refs) l.constant n.changes) refl (present_multiple true up (term_of objects function refs) l.constant n.changes)
    by_constant later l r value there false e = tt

    by_amount : ((k : Net) → Comes objects s k es (with_effects task values objects k es)) → (v r : Fraction) → s.value (term_of objects function refs) ≡ Some r
        → (q : Result Linear Finding) → Means (value_in s) (value_of objects s amount) q
        → Comes objects s n (eff.Change up function refs amount ∷ es) (and_then (with_change (Some v) up (term_of objects function refs) (and_then q constant_of) n) (λ m. with_effects task values objects m es))
    by_amount later v r there (Ok l) mean = by_constant later l r mean there (is_constant l) refl
    by_amount later v r there (Err e) mean = no_amount e (value_of objects s amount) _ _ mean

    by_start : ((k : Net) → Comes objects s k es (with_effects task values objects k es)) → (start : Option Fraction) → value_among values (term_of objects function refs) ≡ start
        → Comes objects s n (eff.Change up function refs amount ∷ es) (and_then (with_change start up (term_of objects function refs) (and_then (linear_of task.functions values objects amount) constant_of) n) (λ m. with_effects task values objects m es))
    by_start later None e = rw (h.keeps.missing (term_of objects function refs) e) (ap (λ b. b && list_all (is_possible objects s) es) (and-false (is_some (value_of objects s amount))))
    by_start later (Some v) e =
        by_amount later v (value_in s (term_of objects function refs)) (h.keeps.there (term_of objects function refs) v e) (linear_of task.functions values objects amount) (linear_means task.functions values objects s h.keeps amount)
