-- Faults of typing: where, and why.
use Rattle.std.specs.Prelude.{Bool, true, false, List, [], ◌∷◌, map, Option, None, Some}
use Rattle.np_lex.specs.declared.token.Place.{Place}
use Rattle.np_words.specs.declared.word.Word.{Word}
use Rattle.np_names.specs.declared.fault.TypeFault.{TypeFault}
use Rattle.np_names.specs.declared.fault.TypeFault.TheVariants.{At, Memory}
use Rattle.np_names.specs.declared.fault.Source.{Source}
use Rattle.np_names.specs.declared.fault.TypeWhy.{TypeWhy}

-- a fault at each of these places
abbrev pub faults_at : Source → TypeWhy → List Place → List TypeFault
faults_at source why places = map (λ place. At source place why) places

-- a fault at each of these words
abbrev pub faults_of : Source → TypeWhy → List Word → List TypeFault
faults_of source why words = map (λ w. At source w.place why) words

-- the first fault of a list
abbrev pub first_of : List TypeFault → Option TypeFault
first_of [] = None
first_of (fault ∷ faults) = Some fault

-- whether memory ran out
abbrev pub is_memory : TypeFault → Bool
is_memory (At source place why) = false
is_memory Memory = true
