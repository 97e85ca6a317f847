use Rattle.std.proofs.Common.{rules, refl, ◌∙◌, ap}
use Rattle.std.specs.List.{slice_range}
use Rattle.np_lex.specs.Tokens.{items_of}
use Rattle.np_lex.specs.Lexers.{items_left}
use Rattle.np_words.proofs.WideItems.{one_passed, all_short, first_of, item_of, wide_item, other_item}
use Rattle.np_words.proofs.read.wide.first_wide.Goals as goal
use Rattle.np_words.proofs.read.wide.first_wide.Goals.{else-eq-via-then-eq+else-is_wide, else-eq-via-else-eq}

pub returns-then-is_wide-clause-found : goal.returns-then-is_wide-clause-found
returns-then-is_wide-clause-found c =
    let old = c.tokens.lexer in
    let token = c.in-Ok-Some.token in
    let gives = rw c.in-Ok-Some.field-0-is at c.in-Ok-Some.ensures.token in
    first_of (items_of c.args.bytes.now) (items_left old) (item_of old token) (items_left c.next.new.self) c.tokens.invariant gives.items
    (wide_item old token c.text.result.now c.is_wide.result (search rules) (c.text.ensures ∙ ap (λ bytes. slice_range bytes token.from token.to) c.next.ensures.bytes) c.is_wide.ensures ∙ c.if-is_wide.true)

pub tokens-preserved : goal.tokens-preserved
tokens-preserved c =
    let old = c.tokens.lexer in
    let token = c.in-Ok-Some.token in
    let gives = rw c.in-Ok-Some.field-0-is at c.in-Ok-Some.ensures.token in
    one_passed (items_of c.args.bytes.now) (items_left old) (item_of old token) (items_left c.next.new.self) c.tokens.invariant gives.items
    (elim c.else-eq.branch [
      | else-eq-via-then-eq+else-is_wide w ↦ wide_item old token w.text.result.now w.is_wide.result (let e = w.if-eq.true in search rules) (w.text.ensures ∙ ap (λ bytes. slice_range bytes token.from token.to) c.next.ensures.bytes) w.is_wide.ensures ∙ w.if-is_wide.false
      | else-eq-via-else-eq w ↦ other_item old token (λ is. let e = w.if-eq.false in search rules)
    ])

pub returns-in-Ok-None-clause-none : goal.returns-in-Ok-None-clause-none
returns-in-Ok-None-clause-none c =
    let finds = rw c.in-Ok-None.field-0-is at c.in-Ok-None.ensures.end in
    all_short (items_of c.args.bytes.now) (items_left c.tokens.lexer) _ c.tokens.invariant finds.items refl

pub returns-in-Err-clause-none : goal.returns-in-Err-clause-none
returns-in-Err-clause-none c =
    let finds = c.in-Err.ensures.bad_byte in
    all_short (items_of c.args.bytes.now) (items_left c.tokens.lexer) _ c.tokens.invariant finds.items refl
