-- What a longer or changed list of atoms or of values says of the state that it stands for.
use Rattle.std.proofs.Common.{◌≡◌, ◌≢◌, ℕ, zero, suc, ◌<◌, Bool, true, false, refl, sym, ◌∙◌, ap, arith, List, [], ◌∷◌, ◌++◌, map, Option, Some, None}
use Rattle.std.specs.Prelude.{◌||◌, ◌&&◌, not, filter, if◌then◌else◌, option_map, slice_get, slice_set}
use Rattle.std.specs.Option.{option_or}
use Rattle.std.specs.List.{list_any}
use Rattle.std.specs.Map.{lookup}
use Rattle.std.proofs.lemmas.List.Folds.{list_any-append}
use Rattle.std.proofs.lemmas.Option.{none-some, same_Some}
use Rattle.np_frac.specs.Fractions.{Fraction}
use Rattle.np_model.specs.declared.task.Atom.{Atom}
use Rattle.np_model.specs.declared.task.Term.{Term}
use Rattle.np_model.specs.Ground.{same_atom, same_term, same_atom-Decides, same_term-Decides}
use Rattle.np_model.specs.States.{is_among, value_among, state_of}

-- ---- atoms

or_false : (b : Bool) → (b || false) ≡ b
or_false true = refl
or_false false = refl

-- an atom that is put at the end becomes true, and the others stay as they are
pub has_added : (atoms : List Atom) (values : List (Term × Fraction)) (a b : Atom)
    → (state_of (atoms ++ a ∷ []) values).has b ≡ ((state_of atoms values).has b || same_atom b a)
has_added atoms values a b = list_any-append (same_atom b) atoms (a ∷ []) ∙ ap (λ c. is_among atoms b || c) (or_false (same_atom b a))

-- of two lists one after another
pub has_append : (xs ys : List Atom) (values : List (Term × Fraction)) (b : Atom)
    → (state_of (xs ++ ys) values).has b ≡ ((state_of xs values).has b || (state_of ys values).has b)
has_append xs ys values b = list_any-append (same_atom b) xs ys

-- the atoms that a test keeps stay true, the others become false
pub has_kept : (keep : Atom → Bool) (atoms : List Atom) (values : List (Term × Fraction)) (b : Atom)
    → (state_of (filter keep atoms) values).has b ≡ ((state_of atoms values).has b && keep b)
has_kept keep [] values b = refl
has_kept keep (a ∷ atoms) values b = by (keep a) refl (same_atom b a) refl (has_kept keep atoms values b)
  where
    swapped : (x y : Bool) → (x || (y && x)) ≡ x
    swapped true y = refl
    swapped false true = refl
    swapped false false = refl

    by : (k : Bool) → keep a ≡ k → (same : Bool) → same_atom b a ≡ same → is_among (filter keep atoms) b ≡ (is_among atoms b && keep b)
        → list_any (same_atom b) (if k then a ∷ filter keep atoms else filter keep atoms) ≡ ((same || is_among atoms b) && keep b)
    by true is true same rest = rw same (sym (ap keep ((same_atom-Decides b a).0 same) ∙ is))
    by true is false other rest = rw other rest
    by false is true same rest =
        rest ∙ ap (λ k. is_among atoms b && k) (ap keep ((same_atom-Decides b a).0 same) ∙ is) ∙ no (is_among atoms b) ∙ sym (ap keep ((same_atom-Decides b a).0 same) ∙ is)
      where
        no : (x : Bool) → (x && false) ≡ false
        no true = refl
        no false = refl
    by false is false other rest = rest

-- an atom that is taken out becomes false, and the others stay as they are
pub has_removed : (atoms : List Atom) (values : List (Term × Fraction)) (a b : Atom)
    → (state_of (filter (λ c. not (same_atom c a)) atoms) values).has b ≡ ((state_of atoms values).has b && not (same_atom b a))
has_removed atoms values a b = has_kept (λ c. not (same_atom c a)) atoms values b

-- ---- values

-- of two lists one after another, the first one that gives the term a value decides
pub value_append : (xs ys : List (Term × Fraction)) (t : Term) → value_among (xs ++ ys) t ≡ option_or (value_among xs t) (value_among ys t)
value_append [] ys t = refl
value_append (x ∷ xs) ys t = by (same_term t x.0) (value_append xs ys t)
  where
    by : (b : Bool) → value_among (xs ++ ys) t ≡ option_or (value_among xs t) (value_among ys t)
        → (if b then Some x.1 else value_among (xs ++ ys) t) ≡ option_or (if b then Some x.1 else value_among xs t) (value_among ys t)
    by true e = refl
    by false e = e

-- a value that is put at the end is the term's, where it had none, and the others stay as they are
pub value_added : (atoms : List Atom) (values : List (Term × Fraction)) (t : Term) (v : Fraction) (u : Term)
    → (state_of atoms (values ++ (t, v) ∷ [])).value u ≡ option_or ((state_of atoms values).value u) (if same_term u t then Some v else None)
value_added atoms values t v u = value_append values ((t, v) ∷ []) u

-- values that are all changed, each by its own term
pub value_changed : (atoms : List Atom) (values : List (Term × Fraction)) (f : Term → Fraction → Fraction) (t : Term)
    → (state_of atoms (map (λ p. (p.0, f p.0 p.1)) values)).value t ≡ option_map (f t) ((state_of atoms values).value t)
value_changed atoms [] f t = refl
value_changed atoms (p ∷ values) f t = by (same_term t p.0) refl (value_changed atoms values f t)
  where
    by : (b : Bool) → same_term t p.0 ≡ b → value_among (map (λ q. (q.0, f q.0 q.1)) values) t ≡ option_map (f t) (value_among values t)
        → (if b then Some (f p.0 p.1) else value_among (map (λ q. (q.0, f q.0 q.1)) values) t) ≡ option_map (f t) (if b then Some p.1 else value_among values t)
    by true same e = ap (λ u. Some (f u p.1)) (sym ((same_term-Decides t p.0).0 same))
    by false other e = e

-- a value that is put in the place of the first one of its term is the term's, and the others stay as they are
pub value_set : (atoms : List Atom) (values : List (Term × Fraction)) (n : ℕ) (t : Term) (old v : Fraction) (u : Term)
    → slice_get values n ≡ Some (t, old) → ((k : ℕ) (p : Term × Fraction) → k < n → slice_get values k ≡ Some p → p.0 ≢ t)
    → (state_of atoms (slice_set values n (t, v))).value u ≡ (if same_term u t then Some v else (state_of atoms values).value u)
value_set atoms [] n t old v u there first = absurd (none-some _ there)
value_set atoms (p ∷ values) zero t old v u there first =
    by (same_term u t) (value_among values u)
    ∙ ap (λ x. if same_term u t then Some v else (if same_term u x then Some p.1 else value_among values u)) (sym (ap (λ (q : Term × Fraction). q.0) (same_Some p _ there)))
  where
    by : (b : Bool) (rest : Option Fraction) → (if b then Some v else rest) ≡ (if b then Some v else (if b then Some p.1 else rest))
    by true rest = refl
    by false rest = refl
value_set atoms (p ∷ values) (suc n) t old v u there first =
    by (same_term u p.0) refl (same_term u t) refl (value_set atoms values n t old v u there (λ k q less is. first (suc k) q (omega arith) is))
  where
    by : (b : Bool) → same_term u p.0 ≡ b → (c : Bool) → same_term u t ≡ c
        → value_among (slice_set values n (t, v)) u ≡ (if same_term u t then Some v else value_among values u)
        → (if b then Some p.1 else value_among (slice_set values n (t, v)) u) ≡ (if c then Some v else (if b then Some p.1 else value_among values u))
    by true same true too e = absurd (first 0 p (omega arith) refl (sym ((same_term-Decides u p.0).0 same) ∙ (same_term-Decides u t).0 too))
    by true same false other e = refl
    by false other true same e = e ∙ ap (λ d. if d then Some v else value_among values u) same
    by false other false another e = e ∙ ap (λ d. if d then Some v else value_among values u) another

-- a look-up in the entries of a map is one in their list
pub value_of_entries : (entries : List (Term × Fraction)) (t : Term) → lookup (same_term t) entries ≡ value_among entries t
value_of_entries [] t = refl
value_of_entries (e ∷ entries) t = ap (λ o. if same_term t e.0 then Some e.1 else o) (value_of_entries entries t)
