use Rattle.std.proofs.Common.{ℕ, Bor, Some, sym, ap, ◌∙◌}
use Rattle.std.specs.List.{slice_get}
use Rattle.std.specs.Option.{option_map}
use Rattle.std.proofs.lemmas.Option.{slice_get-get_or, slice_get_past}
use Rattle.np_model.specs.declared.task.Signature.{Signature}
use Rattle.np_typing.specs.Scopes.{Scope}
use Rattle.np_typing.specs.Resolved.{function_number}
use Rattle.np_typing.proofs.UsesSymbols.{not_found, found_number}
use Rattle.np_typing.proofs.scope.Scope.function.Goals as goal

pub returns-in_err-number-clause-found : goal.returns-in_err-number-clause-found
returns-in_err-number-clause-found c =
    ap (option_map (λ (x : ℕ × Bor Signature). x.1.now)) c.from_residual.ensures
    ∙ sym (not_found c.self.inside.functions.now c.self.inside.function_names.now c.args.word.now.text c.self.invariant.functions_are c.in_err-number.ensures)
    ∙ ap (λ (s : Scope). slice_get s.functions (function_number s c.args.word.now)) c.self.view_is

pub returns-in_err-signature-clause-found : goal.returns-in_err-signature-clause-found
returns-in_err-signature-clause-found c =
    let all = c.self.inside.functions.now in
    let number = found_number all c.self.inside.function_names.now c.args.word.now.text c.in_ok-number.number c.self.invariant.functions_are c.in_ok-number.ensures in
    ap (option_map (λ (x : ℕ × Bor Signature). x.1.now)) c.from_residual-in_err-signature.ensures
    ∙ sym (slice_get_past all c.in_ok-number.number c.in_err-signature.ensures.lookup.3)
    ∙ ap (slice_get all) number
    ∙ ap (λ (s : Scope). slice_get s.functions (function_number s c.args.word.now)) c.self.view_is

pub returns-clause-found : goal.returns-clause-found
returns-clause-found c =
    let all = c.self.inside.functions.now in
    let n = c.in_ok-number.number in
    let s = c.in_ok-signature.signature.now in
    let number = found_number all c.self.inside.function_names.now c.args.word.now.text n c.self.invariant.functions_are c.in_ok-number.ensures in
    ap (λ (t : Signature). Some t) (c.in_ok-signature.ensures.lookup.3.1 s)
    ∙ sym (slice_get-get_or all n s c.in_ok-signature.ensures.lookup.3.0)
    ∙ ap (slice_get all) number
    ∙ ap (λ (t : Scope). slice_get t.functions (function_number t c.args.word.now)) c.self.view_is
