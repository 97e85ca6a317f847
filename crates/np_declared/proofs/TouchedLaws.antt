-- The symbols that a list of effects names.
use Rattle.std.proofs.Common.{◌≡◌, ℕ, List, [], ◌∷◌, ◌++◌, map, fold, Result, Ok, Err, refl, sym, ap, ◌∙◌}
use Rattle.std.specs.List.{flat_map}
use Rattle.np_words.specs.declared.word.Word.{Word}
use Rattle.np_conditions.specs.declared.effect.Effect.{Effect}
use Rattle.np_conditions.specs.declared.effect.Effect.TheFolds.{fold-roll-Effect}
use Rattle.np_conditions.specs.declared.effect.Effect.TheOpen.{Effect-F}
use Rattle.np_conditions.specs.declared.effect.Effect.TheVariants as e
use Rattle.np_names.specs.declared.fault.TypeFault.{TypeFault}
use Rattle.np_names.specs.Answers.{Answers}
use Rattle.np_names.specs.Names.{with_name, texts}
use Rattle.np_declared.specs.Symbols.{touched, touched_from, changed, changed_from}

joined : (f : Effect → List Word) (parts : List Effect) → flat_map (λ part. part) (map f parts) ≡ flat_map f parts
joined f [] = refl
joined f (part ∷ parts) = ap (λ ws. f part ++ ws) (joined f parts)

touched_parts : (parts : List Effect) → touched (e.And parts) ≡ flat_map touched parts
touched_parts parts = ap touched (sym (e.rolls-And parts)) ∙ (fold-roll-Effect (List Word) touched_from (Effect-F.And parts) ∙ joined touched parts)

changed_parts : (parts : List Effect) → changed (e.And parts) ≡ flat_map changed parts
changed_parts parts = ap changed (sym (e.rolls-And parts)) ∙ (fold-roll-Effect (List Word) changed_from (Effect-F.And parts) ∙ joined changed parts)

-- `and` names what its parts name
pub touched_and : (parts : List Effect) (old_predicates old_functions new_predicates new_functions : List (List ℕ)) (r : Result (Unit {0}) TypeFault)
    → Answers [] (λ _. (new_predicates ≡ fold with_name old_predicates (texts (flat_map touched parts))) × (new_functions ≡ fold with_name old_functions (texts (flat_map changed parts)))) r
    → Answers [] (λ _. (new_predicates ≡ fold with_name old_predicates (texts (touched (e.And parts)))) × (new_functions ≡ fold with_name old_functions (texts (changed (e.And parts))))) r
touched_and parts old_predicates old_functions new_predicates new_functions (Ok u) h = (
  h.0,
  (
    h.1.0 ∙ ap (λ ws. fold with_name old_predicates (texts ws)) (sym (touched_parts parts)),
    h.1.1 ∙ ap (λ ws. fold with_name old_functions (texts ws)) (sym (changed_parts parts)),
  ),
)
touched_and parts old_predicates old_functions new_predicates new_functions (Err fault) h = h
