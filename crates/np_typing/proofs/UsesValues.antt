-- Facts: their atoms and values, with those of one more.
use Rattle.std.proofs.Common.{◌≡◌, Bool, true, false, cond, List, [], ◌∷◌, ◌++◌, ◌||◌, map, fold, if◌then◌else◌, None, Some, refl, sym, ap, ◌∙◌}
use Rattle.std.specs.List.{list_any, flat_map}
use Rattle.std.specs.Map.{lookup}
use Rattle.std.specs.Option.{is_some}
use Rattle.std.proofs.lemmas.List.{append-nil}
use Rattle.std.proofs.lemmas.List.Concat.{flat_map-append}
use Rattle.std.proofs.lemmas.List.Sums.{fold-append}
use Rattle.indexmap.specs.IndexMap.{insert_entry}
use Rattle.np_frac.specs.Fractions.{Fraction}
use Rattle.np_lex.specs.declared.token.Place.{Place}
use Rattle.np_model.specs.declared.task.Term.{Term}
use Rattle.np_model.specs.Ground.{same_term}
use Rattle.np_words.specs.declared.word.Word.{Word}
use Rattle.np_words.specs.declared.word.Decimal.{Decimal}
use Rattle.np_words.specs.declared.word.Ident.TheVariants as ident
use Rattle.np_problem.specs.declared.problem.Fact.{Fact}
use Rattle.np_problem.specs.declared.problem.Fact.TheVariants as fact
use Rattle.np_names.specs.declared.fault.TypeFault.{TypeFault}
use Rattle.np_names.specs.declared.fault.TypeFault.TheVariants.{At}
use Rattle.np_names.specs.declared.fault.TypeWhy.TheVariants.{ValueTwice}
use Rattle.np_typing.specs.declared.uses.facts.Facts.{Facts}
use Rattle.np_names.specs.Answers.{IsFirst}
use Rattle.np_words.specs.Numbers.{fraction_of}
use Rattle.np_typing.specs.Scopes.{Scope}
use Rattle.np_typing.specs.Uses.{fault_at, function_faults}
use Rattle.np_typing.specs.Facts.{atom_of, term_of, fact_atoms, fact_values, with_atom, atoms_of, values_of, fact_faults}
use Rattle.np_typing.specs.LookUps.{HasFacts}
use Rattle.np_names.proofs.Answering.{first_here}
use Rattle.np_typing.proofs.UsesAnswers.{first_same}

-- ---- a value that is put

-- whether a key is there
found_any : {K V : Type 0} (test : K → Bool) (es : List (K × V)) → list_any (λ e. test e.0) es ≡ is_some (lookup test es)
found_any test [] = refl
found_any test (e ∷ es) = by (test e.0) (found_any test es)
  where
    by : (b : Bool) → list_any (λ x. test x.0) es ≡ is_some (lookup test es) → (b || list_any (λ x. test x.0) es) ≡ is_some (cond b (Some e.1) (lookup test es))
    by true h = refl
    by false h = h

insert_new : (t : Term) (x : Fraction) (es : List (Term × Fraction)) → None ≡ lookup (same_term t) es → insert_entry same_term es t x ≡ es ++ (t, x) ∷ []
insert_new t x [] h = refl
insert_new t x (e ∷ es) h = by (same_term t e.0) (insert_new t x es) h
  where
    by : (b : Bool) → (None ≡ lookup (same_term t) es → insert_entry same_term es t x ≡ es ++ (t, x) ∷ [])
        → None ≡ cond b (Some e.1) (lookup (same_term t) es)
        → (if b then (e.0, x) ∷ es else e ∷ insert_entry same_term es t x) ≡ e ∷ (es ++ (t, x) ∷ [])
    by true f k = absurd cc
    by false f k = ap (λ ys. e ∷ ys) (f k)

-- the fault where the term has a value
abbrev pub value_faults : Scope → Place → Term → List (Term × Fraction) → List TypeFault
value_faults scope place t es = if list_any (λ v. same_term t v.0) es then fault_at scope ValueTwice place else []

-- the term has a value
pub value_twice : (faults : List TypeFault) (scope : Scope) (place : Place) (t u : Term) (es : List (Term × Fraction)) (v : Fraction) (fault : TypeFault)
    → faults ≡ [] → t ≡ u → Some v ≡ lookup (same_term t) es → fault ≡ At scope.source place ValueTwice
    → IsFirst (faults ++ value_faults scope place u es) fault
value_twice faults scope place t u es v fault none same there is =
    let test : list_any (λ (w : Term × Fraction). same_term u w.0) es ≡ true =
    ap (λ x. list_any (λ (w : Term × Fraction). same_term x w.0) es) (sym same) ∙ found_any (same_term t) es ∙ ap is_some (sym there) in
    first_same (faults ++ value_faults scope place u es) (fault ∷ []) fault
    (ap (λ fs. fs ++ value_faults scope place u es) none ∙ ap (λ b. if b then fault_at scope ValueTwice place else []) test ∙ ap (λ x. x ∷ []) (sym is))
    (first_here fault [])

-- it has none
pub value_once : (faults : List TypeFault) (scope : Scope) (place : Place) (t u : Term) (es : List (Term × Fraction))
    → faults ≡ [] → t ≡ u → None ≡ lookup (same_term t) es → faults ++ value_faults scope place u es ≡ []
value_once faults scope place t u es none same absent =
    let test : list_any (λ (w : Term × Fraction). same_term u w.0) es ≡ false =
    ap (λ x. list_any (λ (w : Term × Fraction). same_term x w.0) es) (sym same) ∙ found_any (same_term t) es ∙ ap is_some (sym absent) in
    ap (λ fs. fs ++ value_faults scope place u es) none ∙ ap (λ b. if b then fault_at scope ValueTwice place else []) test

pub value_put : (t u : Term) (x y : Fraction) (es new : List (Term × Fraction))
    → t ≡ u → x ≡ y → None ≡ lookup (same_term t) es → new ≡ insert_entry same_term es t x → new ≡ es ++ (u, y) ∷ []
value_put t u x y es new same equal absent is =
    is ∙ insert_new t x es absent ∙ ap (λ k. es ++ (k, x) ∷ []) same ∙ ap (λ v. es ++ (u, v) ∷ []) equal

-- ---- facts so far, with one more

module _ (scope : Scope) where
  atoms_after : (before : List Fact) (f : Fact) → atoms_of scope (before ++ f ∷ []) ≡ fold (with_atom scope) (atoms_of scope before) (fact_atoms scope f)
  atoms_after before f =
      ap (fold (with_atom scope) []) (flat_map-append (fact_atoms scope) before (f ∷ []) ∙ ap (λ xs. flat_map (fact_atoms scope) before ++ xs) (append-nil (fact_atoms scope f)))
      ∙ fold-append (with_atom scope) [] (flat_map (fact_atoms scope) before) (fact_atoms scope f)

  values_after : (before : List Fact) (f : Fact) → values_of scope (before ++ f ∷ []) ≡ values_of scope before ++ fact_values scope f
  values_after before f =
      flat_map-append (fact_values scope) before (f ∷ []) ∙ ap (λ xs. values_of scope before ++ xs) (append-nil (fact_values scope f))

  facts_more : (before : List Fact) (f : Fact) (old new : Facts) → HasFacts scope before old
      → new.atoms.keys ≡ fold (with_atom scope) old.atoms.keys (fact_atoms scope f) → new.values.entries ≡ old.values.entries ++ fact_values scope f
      → HasFacts scope (before ++ f ∷ []) new
  facts_more before f old new h atoms values = record {
    atoms = atoms ∙ ap (λ xs. fold (with_atom scope) xs (fact_atoms scope f)) h.atoms ∙ sym (atoms_after before f);
    values = values ∙ ap (λ xs. xs ++ fact_values scope f) h.values ∙ sym (values_after before f);
  }

  pub with_fact_atom : (before : List Fact) (f : Fact) (w : Word) (words : List Word) (old new : Facts) → f ≡ fact.Atom w words → HasFacts scope before old
      → new.atoms.keys ≡ with_atom scope old.atoms.keys (atom_of scope w words) → new.values.entries ≡ old.values.entries
      → HasFacts scope (before ++ f ∷ []) new
  with_fact_atom before f w words old new is h atoms values =
      facts_more before f old new h
      (atoms ∙ ap (λ x. fold (with_atom scope) old.atoms.keys (fact_atoms scope x)) (sym is))
      (values ∙ sym (append-nil old.values.entries) ∙ ap (λ x. old.values.entries ++ fact_values scope x) (sym is))

  pub with_fact_not : (before : List Fact) (f : Fact) (w : Word) (words : List Word) (old : Facts) → f ≡ fact.NotAtom w words → HasFacts scope before old
      → HasFacts scope (before ++ f ∷ []) old
  with_fact_not before f w words old is h =
      facts_more before f old old h
      (ap (λ x. fold (with_atom scope) old.atoms.keys (fact_atoms scope x)) (sym is))
      (sym (append-nil old.values.entries) ∙ ap (λ x. old.values.entries ++ fact_values scope x) (sym is))

  pub with_fact_value : (before : List Fact) (f : Fact) (w : Word) (words : List Word) (alone : Bool) (number : Decimal) (old new : Facts)
      → f ≡ fact.Value w words alone number → HasFacts scope before old
      → new.atoms.keys ≡ old.atoms.keys → new.values.entries ≡ old.values.entries ++ (term_of scope w words, fraction_of number) ∷ []
      → HasFacts scope (before ++ f ∷ []) new
  with_fact_value before f w words alone number old new is h atoms values =
      facts_more before f old new h
      (atoms ∙ ap (λ x. fold (with_atom scope) old.atoms.keys (fact_atoms scope x)) (sym is))
      (values ∙ ap (λ x. old.values.entries ++ fact_values scope x) (sym is))

  -- its faults
  pub faults_value : (before : List Fact) (f : Fact) (w : Word) (words : List Word) (alone : Bool) (number : Decimal) (old : Facts)
      → f ≡ fact.Value w words alone number → HasFacts scope before old
      → fact_faults scope before f ≡ function_faults scope false w (map ident.Name words) ++ value_faults scope w.place (term_of scope w words) old.values.entries
  faults_value before f w words alone number old is h =
      ap (fact_faults scope before) is
      ∙ ap (λ es. function_faults scope false w (map ident.Name words) ++ value_faults scope w.place (term_of scope w words) es) (sym h.values)
