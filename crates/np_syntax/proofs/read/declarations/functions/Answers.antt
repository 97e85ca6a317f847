use Rattle.std.proofs.Common.{Bool, List, [], ◌∷◌, ◌++◌, map, Option, Ok, ap, refl, ◌∙◌}
use Rattle.std.proofs.lemmas.List.{append-nil}
use Rattle.std.proofs.lemmas.Result.{err_from_is_err_and}
use Rattle.np_lex.specs.Lexers.{items_left}
use Rattle.np_read.specs.ItemReaders.{expect}
use Rattle.np_syntax.specs.declared.domain.Declared.{Declared}
use Rattle.np_words.specs.Text.{minus}
use Rattle.np_syntax.specs.DomainForm.{declared, number_word, numbered, mark_of, functions}
use Rattle.np_syntax.proofs.Declarations.{starting_declared, starting_number_word, function_more}
use Rattle.np_syntax.proofs.TypedLists.{minus_differs}
use Rattle.np_words.proofs.TailedLexing.{entries_go_on, entries_stop, entries_done, entries_shorter}
use Rattle.np_syntax.proofs.read.declarations.functions.Goals as goal

abbrev so_far : List (Declared × Bool) → List (Declared × Option (Unit {0})) → List (Declared × Bool)
so_far found more = found ++ map numbered more

pub row-init : goal.row-init
unfolding functions
row-init c = rw c.new-found.ensures refl

pub returns-in_err-value : goal.returns-in_err-value
returns-in_err-value c =
    let p = err_from_is_err_and c.from_residual.result c.from_residual.ensures.1 in
    rw (p.1, p.2)
    (entries_stop declared minus (expect number_word) starting_declared starting_number_word minus_differs so_far c.in_err-value.field-0.0 c.row.found c.row.lexer c.take_right.new.self (items_left c.function.new.lexer) (functions (items_left c.args.lexer.now))
    (c.take_right.ensures.other c.row-test.true) c.in_err-value.ensures c.row.invariant)

pub row-smaller : goal.row-smaller
row-smaller c =
    entries_shorter declared minus (expect number_word) starting_declared starting_number_word minus_differs c.row.lexer c.take_right.new.self c.function.new.lexer (c.in_ok-value.value.0, mark_of c.in_ok-value.value.1)
    (c.take_right.ensures.other c.row-test.true) c.in_ok-value.ensures

pub row-preserved : goal.row-preserved
row-preserved c =
    rw c.in_ok-push.ensures.ok
    (entries_go_on declared minus (expect number_word) starting_declared starting_number_word minus_differs so_far c.row.found (c.row.found ++ c.in_ok-value.value ∷ []) c.row.lexer c.take_right.new.self c.function.new.lexer
    (c.in_ok-value.value.0, mark_of c.in_ok-value.value.1) (functions (items_left c.args.lexer.now)) (function_more c.row.found c.in_ok-value.value.0 c.in_ok-value.value.1) (c.take_right.ensures.other c.row-test.true) c.in_ok-value.ensures c.row.invariant)

pub returns : goal.returns
returns c =
    entries_done declared minus (expect number_word) starting_declared starting_number_word minus_differs so_far c.row.found c.row.lexer c.take_right.new.self (functions (items_left c.args.lexer.now)) (c.take_right.ensures.taken c.row-test.false) c.row.invariant
    ∙ ap (λ (found : List (Declared × Bool)). Ok (found, items_left c.take_right.new.self)) (append-nil c.row.found)
