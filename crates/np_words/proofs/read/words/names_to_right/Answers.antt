use Rattle.std.proofs.lemmas.Result.{err_from_is_err_and}
use Rattle.np_lex.specs.Lexers.{items_left}
use Rattle.np_read.specs.ItemReaders.{row}
use Rattle.np_read.proofs.ItemLexing.{row_goes_on, row_stops, row_done, row_shorter}
use Rattle.np_words.specs.ReadingForm.{name}
use Rattle.np_words.proofs.ReadingWords.{starting_name}
use Rattle.np_words.proofs.read.words.names_to_right.Goals as goal

pub returns-in_err-value : goal.returns-in_err-value
returns-in_err-value c =
    let p = err_from_is_err_and c.from_residual.result c.from_residual.ensures.1 in
    rw (p.1, p.2)
    (row_stops name starting_name c.in_err-value.field-0.0 c.row.found c.row.lexer c.take_right.new.self (items_left c.name.new.lexer) (row name (items_left c.args.lexer.now)) (c.take_right.ensures.other c.row-test.true) c.in_err-value.ensures c.row.invariant)

pub row-smaller : goal.row-smaller
row-smaller c = row_shorter name starting_name c.row.lexer c.take_right.new.self c.name.new.lexer c.in_ok-value.value (c.take_right.ensures.other c.row-test.true) c.in_ok-value.ensures

pub row-preserved : goal.row-preserved
row-preserved c =
    rw c.in_ok-push.ensures.ok
    (row_goes_on name starting_name c.row.found c.row.lexer c.take_right.new.self c.name.new.lexer c.in_ok-value.value (row name (items_left c.args.lexer.now)) (c.take_right.ensures.other c.row-test.true) c.in_ok-value.ensures c.row.invariant)

pub returns : goal.returns
returns c = row_done name starting_name c.row.found c.row.lexer c.take_right.new.self (row name (items_left c.args.lexer.now)) (c.take_right.ensures.taken c.row-test.false) c.row.invariant
