-- `:init`: its faults, and the atoms and values that it gives.
use Rattle.std.specs.Prelude.{ℕ, Bool, false, List, [], ◌∷◌, ◌++◌, map, fold, if◌then◌else◌}
use Rattle.std.specs.List.{list_any, flat_map}
use Rattle.np_frac.specs.Fractions.{Fraction}
use Rattle.np_model.specs.declared.task.Atom.{Atom}
use Rattle.np_model.specs.declared.task.Term.{Term}
use Rattle.np_model.specs.Ground.{same_term}
use Rattle.np_model.specs.States as state
use Rattle.np_words.specs.declared.word.Word.{Word}
use Rattle.np_words.specs.declared.word.Ident.TheVariants as ident
use Rattle.np_problem.specs.declared.problem.Fact.{Fact}
use Rattle.np_problem.specs.declared.problem.Fact.TheVariants as fact
use Rattle.np_names.specs.declared.fault.TypeFault.{TypeFault}
use Rattle.np_names.specs.declared.fault.TypeWhy.TheVariants.{ValueTwice}
use Rattle.np_names.specs.Names.{number_of}
use Rattle.np_words.specs.Numbers.{fraction_of}
use Rattle.np_typing.specs.Scopes.{Scope}
use Rattle.np_declared.specs.Symbols.{object_names}
use Rattle.np_typing.specs.Uses.{fault_at, predicate_faults, function_faults}
use Rattle.np_typing.specs.Resolved.{predicate_number, function_number}

module _ (scope : Scope) where
  abbrev pub objects_of : List Word → List ℕ
  objects_of words = map (λ w. number_of (object_names scope.objects) w.text) words

  abbrev pub atom_of : Word → List Word → Atom
  atom_of w words = record { predicate = predicate_number scope w; objects = objects_of words }

  abbrev pub term_of : Word → List Word → Term
  term_of w words = record { function = function_number scope w; objects = objects_of words }

  -- ---- what is true, and what has a value; `not` says nothing

  abbrev pub fact_atoms : Fact → List Atom
  fact_atoms (fact.Atom w words) = atom_of w words ∷ []
  fact_atoms (fact.NotAtom w words) = []
  fact_atoms (fact.Value w words alone number) = []

  abbrev pub fact_values : Fact → List (Term × Fraction)
  fact_values (fact.Atom w words) = []
  fact_values (fact.NotAtom w words) = []
  fact_values (fact.Value w words alone number) = (term_of w words, fraction_of number) ∷ []

  -- the atoms with one more, unless it is among them
  abbrev pub with_atom : List Atom → Atom → List Atom
  with_atom atoms a = if state.is_among atoms a then atoms else atoms ++ a ∷ []

  -- each atom once, in the order in which they first come
  abbrev pub atoms_of : List Fact → List Atom
  atoms_of facts = fold with_atom [] (flat_map fact_atoms facts)

  abbrev pub values_of : List Fact → List (Term × Fraction)
  values_of facts = flat_map fact_values facts

  -- ---- faults

  -- whether a value before gives the term one
  abbrev pub has_value : List Fact → Term → Bool
  has_value before t = list_any (λ v. same_term t v.0) (values_of before)

  -- A term that has a value before has no fault at its symbol or its arguments that the one before hasn't, so that it doesn't matter
  -- for the first fault that this fault, whose place is the symbol's, is listed after theirs.
  abbrev pub fact_faults : List Fact → Fact → List TypeFault
  fact_faults before (fact.Atom w words) = predicate_faults scope w (map ident.Name words)
  fact_faults before (fact.NotAtom w words) = predicate_faults scope w (map ident.Name words)
  fact_faults before (fact.Value w words alone number) =
      function_faults scope false w (map ident.Name words) ++ (if has_value before (term_of w words) then fault_at scope ValueTwice w.place else [])
