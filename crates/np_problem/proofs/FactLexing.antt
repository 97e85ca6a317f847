-- What a lexer takes is read as a fact.
use Rattle.std.proofs.Common.{◌≡◌, List, Result, codes}
use Rattle.np_lex.specs.declared.reading.Lexer.{Lexer}
use Rattle.np_lex.specs.Lexers.{items_left, Leaves, Takes}
use Rattle.np_lex.specs.Tokens.{Item, left, named}
use Rattle.np_problem.specs.declared.problem.Fact.{Fact}
use Rattle.np_problem.specs.FactForm.{Start, bare_start, called_start, start, some_atom, value, from_value, not_atom, from_not}
use Rattle.np_problem.proofs.Facts.{equals, starting_bare_start, starting_some_atom, starting_from_value}
use Rattle.np_read.specs.declared.fault.ReadFault.{ReadFault}
use Rattle.np_read.specs.ItemAnswers.{Gives}
use Rattle.np_read.specs.ItemReaders.{Outcome}
use Rattle.np_words.proofs.ExprLexing.{gives_first, gives_second}

abbrev Given : {A : Type 0} → List Item → Result A ReadFault → Outcome A → Type 0
Given rest r read = Gives (λ x. x) rest r read

module _ (old new : Lexer) (rest : List Item) where
  pub start_called : (r : Result Start ReadFault) → Takes old new left → Given rest r (called_start (items_left new)) → Given rest r (start (items_left old))
  unfolding start
  start_called r takes gives = gives_first left called_start bare_start old new (λ x. x) rest r takes gives

  pub start_alone : (r : Result Start ReadFault) → Leaves old new (λ found. found ≡ left) → Given rest r (bare_start (items_left new)) → Given rest r (start (items_left old))
  unfolding start
  start_alone r leaves gives = gives_second left called_start bare_start old new (λ x. x) rest r (starting_bare_start 0).tries.nothing leaves gives

  module _ (r : Result Fact ReadFault) where
    pub value_taken : Takes old new equals → Given rest r (value (items_left new)) → Given rest r (from_value (items_left old))
    unfolding from_value
    value_taken takes gives = gives_first equals value some_atom old new (λ x. x) rest r takes gives

    pub value_left : Leaves old new (λ found. found ≡ equals) → Given rest r (some_atom (items_left new)) → Given rest r (from_value (items_left old))
    unfolding from_value
    value_left leaves gives = gives_second equals value some_atom old new (λ x. x) rest r (starting_some_atom 0).tries.nothing leaves gives

    pub not_taken : Takes old new (named (codes "not")) → Given rest r (not_atom (items_left new)) → Given rest r (from_not (items_left old))
    unfolding from_not
    not_taken takes gives = gives_first (named (codes "not")) not_atom from_value old new (λ x. x) rest r takes gives

    pub not_left : Leaves old new (λ found. found ≡ named (codes "not")) → Given rest r (from_value (items_left new)) → Given rest r (from_not (items_left old))
    unfolding from_not
    not_left leaves gives = gives_second (named (codes "not")) not_atom from_value old new (λ x. x) rest r (starting_from_value 0).tries.nothing leaves gives
