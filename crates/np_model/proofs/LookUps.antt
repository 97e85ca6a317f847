-- How a set of atoms and a map of values grow, one item of their list at a time.
use Rattle.std.proofs.Common.{◌≡◌, ℕ, suc, ◌+◌, ◌<◌, ◌≤◌, Bool, true, false, cond, refl, sym, ◌∙◌, ap, arith, List, ◌∷◌, drop, length, get_or, Option, Some, true≢false}
use Rattle.std.specs.Borrow.{Bor}
use Rattle.std.specs.Prelude.{◌||◌, take, option_map}
use Rattle.std.specs.HashMap.{HashMap, get}
use Rattle.std.specs.HashSet.{HashSet, contains}
use Rattle.std.proofs.Math.Seq.{drop-cons}
use Rattle.std.proofs.lemmas.List.{take_all}
use Rattle.std.proofs.lemmas.List.Folds.{list_any_more}
use Rattle.np_frac.specs.Fractions.{Fraction}
use Rattle.np_model.specs.declared.task.Atom.{Atom}
use Rattle.np_model.specs.declared.task.Term.{Term}
use Rattle.np_model.specs.Ground.{same_atom, same_term, same_atom-Decides, same_term-Decides}
use Rattle.np_model.specs.States.{is_among, value_among}
use Rattle.np_model.specs.Maps.{HasAtoms, HasValues}

-- the tests don't care for the order of the two
same_either_way : (a b : Bool) → (a ≡ true → b ≡ true) → (b ≡ true → a ≡ true) → a ≡ b
same_either_way true b f g = sym (f refl)
same_either_way false true f g = g refl
same_either_way false false f g = refl

pub same_atom_swapped : (a b : Atom) → same_atom a b ≡ same_atom b a
same_atom_swapped a b =
    same_either_way (same_atom a b) (same_atom b a) (λ e. (same_atom-Decides b a).1 (sym ((same_atom-Decides a b).0 e))) (λ e. (same_atom-Decides a b).1 (sym ((same_atom-Decides b a).0 e)))

pub same_term_swapped : (a b : Term) → same_term a b ≡ same_term b a
same_term_swapped a b =
    same_either_way (same_term a b) (same_term b a) (λ e. (same_term-Decides b a).1 (sym ((same_term-Decides a b).0 e))) (λ e. (same_term-Decides a b).1 (sym ((same_term-Decides b a).0 e)))

-- what a map's value is
abbrev second : Bor (Term × Fraction) → Fraction
second v = v.now.1

-- one more atom at the end
pub atoms_more : {S : Type 0} (old new : HashSet (Bor Atom) S) (atoms : List Atom) (i : ℕ) (a d : Atom) → i < length atoms → a ≡ get_or atoms i d
    → ((q : Bor Atom) → contains (λ x y. same_atom x.now y.now) new q ≡ cond (same_atom a q.now) true (contains (λ x y. same_atom x.now y.now) old q))
    → HasAtoms old (take i atoms) → HasAtoms new (take (i + 1) atoms)
atoms_more old new atoms i a d within is updates before q =
    updates q
    ∙ ap (λ b. cond (same_atom a q.now) true b) (before q)
    ∙ by (same_atom a q.now) (same_atom q.now (get_or atoms i d)) (is_among (take i atoms) q.now) (same_atom_swapped a q.now ∙ ap (same_atom q.now) is)
    ∙ sym (list_any_more (same_atom q.now) atoms i d within)
  where
    by : (b c rest : Bool) → b ≡ c → cond b true rest ≡ (rest || c)
    by true c true e = refl
    by true c false e = e
    by false c true e = refl
    by false c false e = e

-- one more value before the others
pub values_more : {S : Type 0} (old new : HashMap (Bor Term) (Bor (Term × Fraction)) S) (values : List (Term × Fraction)) (i n : ℕ) (v : Bor (Term × Fraction)) (d : Term × Fraction)
    → i + 1 ≡ n → i < length values → v.now ≡ get_or values i d
    → ((q : Bor Term) → get (λ x y. same_term x.now y.now) new q ≡ cond (same_term v.now.0 q.now) (Some v) (get (λ x y. same_term x.now y.now) old q))
    → HasValues old (drop n values) → HasValues new (drop i values)
values_more old new values i n v d one within is updates before q =
    let next : suc i ≡ n = omega arith in
    ap (option_map second) (updates q)
    ∙ by (same_term v.now.0 q.now) (same_term q.now v.now.0) (get (λ x y. same_term x.now y.now) old q) (same_term_swapped v.now.0 q.now)
    ∙ ap (λ o. cond (same_term q.now v.now.0) (Some v.now.1) o) (before q ∙ ap (λ m. value_among (drop m values) q.now) (sym next))
    ∙ ap (λ (x : Term × Fraction). value_among (x ∷ drop (suc i) values) q.now) is
    ∙ ap (λ xs. value_among xs q.now) (sym (drop-cons values i d within))
  where
    by : (b c : Bool) (o : Option (Bor (Term × Fraction))) → b ≡ c → option_map second (cond b (Some v) o) ≡ cond c (Some v.now.1) (option_map second o)
    by true true o e = refl
    by true false o e = absurd (true≢false e)
    by false true o e = absurd (true≢false (sym e))
    by false false o e = refl

-- all atoms are put in at the end
pub atoms_all : {S : Type 0} (set : HashSet (Bor Atom) S) (atoms : List Atom) (n : ℕ) → length atoms ≤ n → HasAtoms set (take n atoms) → HasAtoms set atoms
atoms_all set atoms n past before q = before q ∙ ap (λ xs. is_among xs q.now) (take_all n atoms past)
