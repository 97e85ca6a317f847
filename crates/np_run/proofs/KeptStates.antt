-- How the set of true atoms and the map of values change, one atom or one value at a time.
use Rattle.std.proofs.Common.{◌≡◌, ℕ, zero, suc, ◌+◌, ◌<◌, ◌≤◌, pos, Bool, true, false, cond, refl, sym, ◌∙◌, ap, arith, List, [], ◌∷◌, drop, take, length, get_or, Option, Some, None, Ok, Result}
use Rattle.std.specs.Prelude.{◌||◌, ◌&&◌, not, if◌then◌else◌, is_some, slice_get}
use Rattle.std.proofs.lemmas.Option.{none-some, same_Some}
use Rattle.std.specs.List.{list_any}
use Rattle.std.specs.Borrow.{Bor}
use Rattle.std.specs.Option.{option_or, option_copied}
use Rattle.std.specs.HashMap.{HashMap, get}
use Rattle.std.specs.HashSet.{HashSet, contains}
use Rattle.std.proofs.Math.Seq.{drop-cons}
use Rattle.std.proofs.lemmas.List.{take_all}
use Rattle.std.proofs.lemmas.List.Folds.{list_any_more}
use Rattle.np_frac.specs.Fractions.{Fraction, whole}
use Rattle.np_model.specs.declared.task.Atom.{Atom}
use Rattle.np_model.specs.declared.task.Term.{Term}
use Rattle.np_model.specs.Ground.{same_atom, same_term, same_term-Decides}
use Rattle.np_model.specs.States.{State, is_among, value_among}
use Rattle.np_model.proofs.Same.{same_state}
use Rattle.np_model.proofs.LookUps.{same_atom_swapped, same_term_swapped}
use Rattle.np_run.specs.declared.halt.Lack.{Lack}
use Rattle.np_run.specs.declared.kept_state.KeptState.{KeptState}
use Rattle.np_run.specs.Kept.{kept}
use Rattle.np_run.specs.declared.halt.Halt.{Halt}
use Rattle.np_run.specs.Computing.{added}
use Rattle.np_run.specs.Changing.{grown, all_grown}
use Rattle.np_run.specs.CodeAnswers.{Stops}
use Rattle.np_run.proofs.Stopping.{stops_then}

-- one more atom
pub set_more : {S : Type 0} (old new : HashSet Atom S) (a : Atom)
    → ((q : Atom) → contains same_atom new q ≡ cond (same_atom a q) true (contains same_atom old q))
    → (q : Atom) → contains same_atom new q ≡ (contains same_atom old q || same_atom q a)
set_more old new a updates q = updates q ∙ ap (λ b. cond b true (contains same_atom old q)) (same_atom_swapped a q) ∙ by (same_atom q a) (contains same_atom old q)
  where
    by : (b h : Bool) → cond b true h ≡ (h || b)
    by true true = refl
    by true false = refl
    by false true = refl
    by false false = refl

-- one less
pub set_less : {S : Type 0} (old new : HashSet Atom S) (a : Atom)
    → ((q : Atom) → contains same_atom new q ≡ cond (same_atom a q) false (contains same_atom old q))
    → (q : Atom) → contains same_atom new q ≡ (contains same_atom old q && not (same_atom q a))
set_less old new a updates q = updates q ∙ ap (λ b. cond b false (contains same_atom old q)) (same_atom_swapped a q) ∙ by (same_atom q a) (contains same_atom old q)
  where
    by : (b h : Bool) → cond b false h ≡ (h && not b)
    by true true = refl
    by true false = refl
    by false true = refl
    by false false = refl

-- one more value
pub map_more : {S : Type 0} (old new : HashMap Term Fraction S) (t : Term) (v : Fraction)
    → ((q : Term) → get same_term new q ≡ cond (same_term t q) (Some v) (get same_term old q))
    → (q : Term) → get same_term new q ≡ (if same_term q t then Some v else get same_term old q)
map_more old new t v updates q = updates q ∙ ap (λ b. cond b (Some v) (get same_term old q)) (same_term_swapped t q)

-- the atoms of a list, and one more
pub atoms_more : {S : Type 0} (old new : HashSet Atom S) (atoms : List Atom) (i : ℕ) (a d : Atom) → i < length atoms → a ≡ get_or atoms i d
    → ((q : Atom) → contains same_atom new q ≡ cond (same_atom a q) true (contains same_atom old q))
    → ((q : Atom) → contains same_atom old q ≡ is_among (take i atoms) q) → (q : Atom) → contains same_atom new q ≡ is_among (take (i + 1) atoms) q
atoms_more old new atoms i a d within is updates before q =
    set_more old new a updates q
    ∙ ap (λ b. b || same_atom q a) (before q)
    ∙ ap (λ x. is_among (take i atoms) q || same_atom q x) is
    ∙ sym (list_any_more (same_atom q) atoms i d within)

-- all of them
pub atoms_all : {S : Type 0} (set : HashSet Atom S) (atoms : List Atom) (n : ℕ) → length atoms ≤ n
    → ((q : Atom) → contains same_atom set q ≡ is_among (take n atoms) q) → (q : Atom) → contains same_atom set q ≡ is_among atoms q
atoms_all set atoms n past before q = before q ∙ ap (λ xs. is_among xs q) (take_all n atoms past)

-- the values of a list from a place on, and one more before them
pub values_more : {S : Type 0} (old new : HashMap Term Fraction S) (values : List (Term × Fraction)) (i n : ℕ) (e d : Term × Fraction)
    → i + 1 ≡ n → i < length values → e ≡ get_or values i d
    → ((q : Term) → get same_term new q ≡ cond (same_term e.0 q) (Some e.1) (get same_term old q))
    → ((q : Term) → get same_term old q ≡ value_among (drop n values) q) → (q : Term) → get same_term new q ≡ value_among (drop i values) q
values_more old new values i n e d one within is updates before q =
    let next : suc i ≡ n = omega arith in
    map_more old new e.0 e.1 updates q
    ∙ ap (λ o. if same_term q e.0 then Some e.1 else o) (before q ∙ ap (λ m. value_among (drop m values) q) (sym next))
    ∙ ap (λ (x : Term × Fraction). value_among (x ∷ drop (suc i) values) q) is
    ∙ ap (λ xs. value_among xs q) (sym (drop-cons values i d within))

-- 0, where the flag is set
abbrev pub zero_if : Bool → Option Fraction
zero_if b = if b then Some (whole (pos 0)) else None

-- a term that has no value is given 0
pub zero_given : {S : Type 0} (old new : HashMap Term Fraction S) (t : Term) → get same_term old t ≡ None
    → ((q : Term) → get same_term new q ≡ cond (same_term t q) (Some (whole (pos 0))) (get same_term old q))
    → (q : Term) → get same_term new q ≡ option_or (get same_term old q) (zero_if (same_term q t))
zero_given old new t none updates q = map_more old new t (whole (pos 0)) updates q ∙ by (same_term q t) refl
  where
    nothing : (o : Option Fraction) → o ≡ option_or o None
    nothing None = refl
    nothing (Some x) = refl

    by : (b : Bool) → same_term q t ≡ b → (if b then Some (whole (pos 0)) else get same_term old q) ≡ option_or (get same_term old q) (zero_if b)
    by true same = ap (λ o. option_or o (Some (whole (pos 0)))) (sym (ap (get same_term old) ((same_term-Decides q t).0 same) ∙ none))
    by false other = nothing (get same_term old q)

-- the same, from what the code asks
copied : (o : Option (Bor Fraction)) → is_some (option_copied o) ≡ is_some o
copied None = refl
copied (Some x) = refl

pub zero_given_by : {S : Type 0} (old new : HashMap Term Fraction S) (t : Term) (v : Fraction) (asked : Option (Bor Fraction)) (none : Bool) → v ≡ whole (pos 0)
    → option_copied asked ≡ get same_term old t → is_some asked ≡ not none → none ≡ true
    → ((q : Term) → get same_term new q ≡ cond (same_term t q) (Some v) (get same_term old q))
    → (q : Term) → get same_term new q ≡ option_or (get same_term old q) (zero_if (same_term q t))
zero_given_by old new t v asked none is_zero is there as_none updates =
    zero_given old new t (nothing (get same_term old t) (ap is_some (sym is) ∙ copied asked ∙ there ∙ ap not as_none))
    (λ q. updates q ∙ ap (λ x. cond (same_term t q) (Some x) (get same_term old q)) is_zero)
  where
    nothing : (o : Option Fraction) → is_some o ≡ false → o ≡ None
    nothing None e = refl
    nothing (Some x) e = cc

-- one that has a value keeps it
pub zero_refused : {S : Type 0} (map : HashMap Term Fraction S) (t : Term) (v : Fraction) → get same_term map t ≡ Some v
    → (q : Term) → get same_term map q ≡ option_or (get same_term map q) (zero_if (same_term q t))
zero_refused map t v some q = by (same_term q t) refl
  where
    nothing : (o : Option Fraction) → o ≡ option_or o None
    nothing None = refl
    nothing (Some x) = refl

    by : (b : Bool) → same_term q t ≡ b → get same_term map q ≡ option_or (get same_term map q) (zero_if b)
    by true same =
        let is = ap (get same_term map) ((same_term-Decides q t).0 same) ∙ some in
        is ∙ ap (λ o. option_or o (Some (whole (pos 0)))) (sym is)
    by false other = nothing (get same_term map q)

-- one more of the terms that are given 0
pub zeros_more : (o : Option Fraction) (t : Term) (terms : List Term) (i : ℕ) (u d : Term) → i < length terms → u ≡ get_or terms i d
    → option_or (option_or o (zero_if (list_any (same_term t) (take i terms)))) (zero_if (same_term t u)) ≡ option_or o (zero_if (list_any (same_term t) (take (i + 1) terms)))
zeros_more o t terms i u d within is =
    by o (list_any (same_term t) (take i terms)) (same_term t u)
    ∙ ap (λ x. option_or o (zero_if (list_any (same_term t) (take i terms) || same_term t x))) is
    ∙ ap (λ b. option_or o (zero_if b)) (sym (list_any_more (same_term t) terms i d within))
  where
    by : (o : Option Fraction) (b c : Bool) → option_or (option_or o (zero_if b)) (zero_if c) ≡ option_or o (zero_if (b || c))
    by (Some x) b c = refl
    by None true c = refl
    by None false c = refl

-- ---- a value that grows

abbrev ok_state : State → Result State Lack
ok_state s = Ok s

pub grown_in_place : (k n : KeptState) (t : Term) (by old new : Fraction) → Some old ≡ get same_term k.values t → added old by ≡ Ok new
    → ((a : Atom) → contains same_atom n.atoms a ≡ contains same_atom k.atoms a)
    → ((q : Term) → get same_term n.values q ≡ cond (same_term t q) (Some new) (get same_term k.values q))
    → grown (kept k) t by ≡ Ok (kept n)
grown_in_place k n t by old new there is atoms updates =
    rw (← there, is) (ap ok_state (same_state _ _ (λ a. sym (atoms a)) (λ q. sym (map_more k.values n.values t new updates q))))

-- an item that a look-up by place gives begins the rest from there
drop_from : {A : Type 0} (xs : List A) (i : ℕ) (x : A) → slice_get xs i ≡ Some x → drop i xs ≡ x ∷ drop (suc i) xs
drop_from [] i x e = absurd (none-some x e)
drop_from (y ∷ ys) zero x e = ap (λ z. z ∷ ys) (same_Some y x e)
drop_from (y ∷ ys) (suc i) x e = drop_from ys i x e

-- the values that have grown, and one more
pub grown_more : (s t : State) (xs : List (Term × Fraction)) (i : ℕ) (e : Term × Fraction) → slice_get xs i ≡ Some e → grown s e.0 e.1 ≡ Ok t
    → all_grown s (drop i xs) ≡ all_grown t (drop (suc i) xs)
grown_more s t xs i e there is = rw (drop_from xs i e there, is) refl

-- what stops one stops all
pub grown_stops : (h : Halt Lack) (s : State) (xs : List (Term × Fraction)) (i : ℕ) (e : Term × Fraction) → slice_get xs i ≡ Some e → Stops h (grown s e.0 e.1)
    → Stops h (all_grown s (drop i xs))
grown_stops h s xs i e there stops = rw (drop_from xs i e there) (stops_then h (grown s e.0 e.1) (λ t. all_grown t (drop (suc i) xs)) stops)
