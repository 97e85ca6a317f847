use Rattle.std.proofs.Common.{string_bytes, ◌≡◌, ◌++◌, take}
use Rattle.std.specs.List.{flat_map}
use Rattle.np_list.specs.ListText.{form_term_text}
use Rattle.np_list.proofs.subgoals.push_form_terms.Given as goal

abbrev pub invariant-loop-term : goal.invariant-loop-term
invariant-loop-term l = string_bytes l.text ≡ string_bytes l.initial.text ++ flat_map form_term_text (take l.term-index l.terms)
