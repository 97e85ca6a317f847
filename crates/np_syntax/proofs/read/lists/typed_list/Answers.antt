use Rattle.std.proofs.Common.{Ok, List, ap, sym, refl, ◌∙◌}
use Rattle.std.proofs.lemmas.Result.{err_from_is_err_and}
use Rattle.np_lex.specs.Lexers.{items_left}
use Rattle.np_words.specs.declared.word.Group.{Group}
use Rattle.np_syntax.specs.declared.read.lists.Part.{Part}
use Rattle.np_words.specs.ReadingForm.{name}
use Rattle.np_words.specs.Text.{minus}
use Rattle.np_syntax.specs.DomainForm.{list_word, groups_after, typed_list}
use Rattle.np_words.proofs.ReadingWords.{starting_name}
use Rattle.np_syntax.proofs.TypedLists.{starting_word, minus_differs}
use Rattle.np_words.proofs.TailedLexing.{entries_go_on, entries_stop, entries_done, entries_shorter}
use Rattle.np_syntax.proofs.read.lists.typed_list.Goals as goal

pub list-init : goal.list-init
unfolding typed_list
list-init c = rw (c.new.ensures, c.new-2.ensures) refl

pub returns-in_err-word : goal.returns-in_err-word
returns-in_err-word c =
    let k = c.args.list_kind in
    let p = err_from_is_err_and c.from_residual.result c.from_residual.ensures.1 in
    rw (p.1, p.2)
    (entries_stop (list_word k) minus name (starting_word k) starting_name minus_differs groups_after c.in_err-word.field-0.0 c.list.part c.list.lexer c.take_right.new.self (items_left c.entry.new.lexer) (typed_list k (items_left c.args.lexer.now))
    (c.take_right.ensures.other c.list-test.true) c.in_err-word.ensures c.list.invariant)

pub list-smaller : goal.list-smaller
list-smaller c =
    let k = c.args.list_kind in
    entries_shorter (list_word k) minus name (starting_word k) starting_name minus_differs c.list.lexer c.take_right.new.self c.entry.new.lexer (c.in_ok-word.word, c.in_ok-word.of) (c.take_right.ensures.other c.list-test.true) c.in_ok-word.ensures

pub list-preserved : goal.list-preserved
list-preserved c =
    let k = c.args.list_kind in
    entries_go_on (list_word k) minus name (starting_word k) starting_name minus_differs groups_after c.list.part c.in_ok-part.part c.list.lexer c.take_right.new.self c.entry.new.lexer (c.in_ok-word.word, c.in_ok-word.of) (typed_list k (items_left c.args.lexer.now))
    (λ more. ap (λ (part : Part). groups_after part more) (sym c.in_ok-part.ensures)) (c.take_right.ensures.other c.list-test.true) c.in_ok-word.ensures c.list.invariant

pub returns : goal.returns
returns c =
    let k = c.args.list_kind in
    entries_done (list_word k) minus name (starting_word k) starting_name minus_differs groups_after c.list.part c.list.lexer c.take_right.new.self (typed_list k (items_left c.args.lexer.now)) (c.take_right.ensures.taken c.list-test.false) c.list.invariant
    ∙ ap (λ (groups : List Group). Ok (groups, items_left c.take_right.new.self)) (sym c.in_ok-groups.ensures)
