-- Facts without faults: the atoms and the values that they give.
use Rattle.std.proofs.Common.{◌≡◌, Bool, true, false, List, [], ◌∷◌, ◌++◌, map, flat_map, fold, if◌then◌else◌, refl, sym, subst, ap, ◌∙◌, append_assoc, append-nil}
use Rattle.std.specs.List.{AllByRecursion}
use Rattle.std.proofs.lemmas.List.{map-append}
use Rattle.std.proofs.lemmas.List.Concat.{flat_map-append}
use Rattle.np_frac.specs.Fractions.{Fraction}
use Rattle.np_model.specs.declared.task.Atom.{Atom}
use Rattle.np_model.specs.declared.task.Term.{Term}
use Rattle.np_model.specs.declared.task.TaskParts.{TaskParts}
use Rattle.np_model.specs.Ground.{same_atom, same_term, same_atom-Decides, same_term-Decides}
use Rattle.np_model.specs.States.{is_among}
use Rattle.np_model.specs.Tasks.{AreDistinct, is_call, is_ground_atom, is_ground_term}
use Rattle.np_model.specs.Tasks as tasks
use Rattle.np_model.specs.Types.{type_of}
use Rattle.np_model.proofs.Distinct.{distinct_none}
use Rattle.np_words.specs.declared.word.Word.{Word}
use Rattle.np_words.specs.declared.word.Ident.TheVariants as ident
use Rattle.np_problem.specs.declared.problem.Fact.{Fact}
use Rattle.np_problem.specs.declared.problem.Fact.TheVariants as fact
use Rattle.np_names.specs.Names.{each_after, number_of}
use Rattle.np_typing.specs.Scopes.{Scope}
use Rattle.np_declared.specs.Symbols.{object_names}
use Rattle.np_typing.specs.Uses.{function_faults, predicate_faults}
use Rattle.np_typing.specs.Resolved.{predicate_number, function_number, refs_of}
use Rattle.np_typing.specs.Facts.{objects_of, atom_of, term_of, fact_atoms, fact_values, with_atom, atoms_of, values_of, has_value, fact_faults}
use Rattle.np_typing.proofs.keeping.UsedLists.{both_none, each_append, unless, push_distinct, any_map}
use Rattle.np_typing.proofs.keeping.UsedSymbols.{Agrees, predicate_fits, function_fits}

-- ---- each atom once

module _ (scope : Scope) where
  kept_atoms : (P : Atom → Type 0) (atoms more : List Atom) → AllByRecursion P atoms → AllByRecursion P more → AllByRecursion P (fold (with_atom scope) atoms more)
  kept_atoms P atoms [] h k = h
  kept_atoms P atoms (a ∷ more) h k = kept_atoms P (with_atom scope atoms a) more (by (is_among atoms a)) k.1
    where
      by : (b : Bool) → AllByRecursion P (if b then atoms else atoms ++ a ∷ [])
      by true = h
      by false = each_append P atoms (a ∷ []) h (k.0, tt)

  distinct_from : (atoms more : List Atom) → AreDistinct atoms → AreDistinct (fold (with_atom scope) atoms more)
  distinct_from atoms [] h = h
  distinct_from atoms (a ∷ more) h = distinct_from (with_atom scope atoms a) more (by (is_among atoms a) refl)
    where
      by : (b : Bool) → is_among atoms a ≡ b → AreDistinct (if b then atoms else atoms ++ a ∷ [])
      by true e = h
      by false e = push_distinct same_atom same_atom-Decides atoms a h e

  pub atoms_distinct : (facts : List Fact) → AreDistinct (atoms_of scope facts)
  atoms_distinct facts = distinct_from [] (flat_map (fact_atoms scope) facts) distinct_none

-- ---- what is declared

module _ (scope : Scope) (task : TaskParts) (agrees : Agrees scope task []) where
  same_objects : (words : List Word) → map (tasks.type_of_ref task []) (refs_of scope (map ident.Name words)) ≡ map (type_of task.objects) (objects_of scope words)
  same_objects [] = refl
  same_objects (w ∷ words) = ap (λ rest. type_of task.objects (number_of (object_names scope.objects) w.text) ∷ rest) (same_objects words)

  atom_fits : (w : Word) (words : List Word) → predicate_faults scope w (map ident.Name words) ≡ [] → is_ground_atom task (atom_of scope w words) ≡ true
  atom_fits w words h =
      ap (λ given. is_call task task.predicates (predicate_number scope w) given) (sym (same_objects words)) ∙ predicate_fits scope task [] agrees w (map ident.Name words) h

  term_fits : (w : Word) (words : List Word) → function_faults scope false w (map ident.Name words) ≡ [] → is_ground_term task (term_of scope w words) ≡ true
  term_fits w words h =
      ap (λ given. is_call task task.functions (function_number scope w) given) (sym (same_objects words)) ∙ function_fits scope task [] agrees false w (map ident.Name words) h

  abbrev IsAtom : Atom → Type 0
  IsAtom a = is_ground_atom task a ≡ true

  abbrev IsValue : Term × Fraction → Type 0
  IsValue v = is_ground_term task v.0 ≡ true

  fact_atom_fits : (before : List Fact) (f : Fact) → fact_faults scope before f ≡ [] → AllByRecursion IsAtom (fact_atoms scope f)
  fact_atom_fits before (fact.Atom w words) h = (atom_fits w words h, tt)
  fact_atom_fits before (fact.NotAtom w words) h = tt
  fact_atom_fits before (fact.Value w words alone number) h = tt

  fact_value_fits : (before : List Fact) (f : Fact) → fact_faults scope before f ≡ [] → AllByRecursion IsValue (fact_values scope f)
  fact_value_fits before (fact.Atom w words) h = tt
  fact_value_fits before (fact.NotAtom w words) h = tt
  fact_value_fits before (fact.Value w words alone number) h = (term_fits w words (both_none (function_faults scope false w (map ident.Name words)) _ h).0, tt)

  each_atom_fits : (before facts : List Fact) → each_after (fact_faults scope) before facts ≡ [] → AllByRecursion IsAtom (flat_map (fact_atoms scope) facts)
  each_atom_fits before [] h = tt
  each_atom_fits before (f ∷ facts) h =
      let p = both_none (fact_faults scope before f) (each_after (fact_faults scope) (before ++ f ∷ []) facts) h in
      each_append IsAtom (fact_atoms scope f) _ (fact_atom_fits before f p.0) (each_atom_fits (before ++ f ∷ []) facts p.1)

  each_value_fits : (before facts : List Fact) → each_after (fact_faults scope) before facts ≡ [] → AllByRecursion IsValue (values_of scope facts)
  each_value_fits before [] h = tt
  each_value_fits before (f ∷ facts) h =
      let p = both_none (fact_faults scope before f) (each_after (fact_faults scope) (before ++ f ∷ []) facts) h in
      each_append IsValue (fact_values scope f) _ (fact_value_fits before f p.0) (each_value_fits (before ++ f ∷ []) facts p.1)

  pub atoms_fit : (facts : List Fact) → each_after (fact_faults scope) [] facts ≡ [] → AllByRecursion (λ a. is_ground_atom task a ≡ true) (atoms_of scope facts)
  atoms_fit facts h = kept_atoms scope IsAtom [] (flat_map (fact_atoms scope) facts) tt (each_atom_fits [] facts h)

  pub values_fit : (facts : List Fact) → each_after (fact_faults scope) [] facts ≡ [] → AllByRecursion (λ v. is_ground_term task v.0 ≡ true) (values_of scope facts)
  values_fit facts h = each_value_fits [] facts h

-- ---- each term has one value

module _ (scope : Scope) where
  abbrev terms : List Fact → List Term
  terms facts = map (λ v. v.0) (values_of scope facts)

  terms_more : (before : List Fact) (f : Fact) → terms (before ++ f ∷ []) ≡ terms before ++ map (λ v. v.0) (fact_values scope f)
  terms_more before f =
      ap (map (λ v. v.0)) (flat_map-append (fact_values scope) before (f ∷ []) ∙ ap (λ vs. values_of scope before ++ vs) (append-nil (fact_values scope f)))
      ∙ map-append (λ v. v.0) (values_of scope before) (fact_values scope f)

  one_more : (before : List Fact) (f : Fact) → fact_faults scope before f ≡ [] → AreDistinct (terms before) → AreDistinct (terms before ++ map (λ v. v.0) (fact_values scope f))
  one_more before (fact.Atom w words) h k = subst AreDistinct (sym (append-nil (terms before))) k
  one_more before (fact.NotAtom w words) h k = subst AreDistinct (sym (append-nil (terms before))) k
  one_more before (fact.Value w words alone number) h k =
      let t = term_of scope w words in
      let p = both_none (function_faults scope false w (map ident.Name words)) _ h in
      push_distinct same_term same_term-Decides (terms before) t k (any_map (same_term t) (λ (v : Term × Fraction). v.0) (values_of scope before) ∙ unless (has_value scope before t) _ _ p.1)

  distinct_after : (before facts : List Fact) → each_after (fact_faults scope) before facts ≡ [] → AreDistinct (terms before) → AreDistinct (terms (before ++ facts))
  distinct_after before [] h k = subst (λ facts. AreDistinct (terms facts)) (sym (append-nil before)) k
  distinct_after before (f ∷ facts) h k =
      let p = both_none (fact_faults scope before f) (each_after (fact_faults scope) (before ++ f ∷ []) facts) h in
      subst (λ all_facts. AreDistinct (terms all_facts)) (append_assoc before (f ∷ []) facts)
      (distinct_after (before ++ f ∷ []) facts p.1 (subst AreDistinct (sym (terms_more before f)) (one_more before f p.0 k)))

  pub terms_distinct : (facts : List Fact) → each_after (fact_faults scope) [] facts ≡ [] → AreDistinct (map (λ v. v.0) (values_of scope facts))
  terms_distinct facts h = distinct_after [] facts h distinct_none
