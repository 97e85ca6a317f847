-- Marks: the lexemes of something, each with the places that the value keeps for it.
use Rattle.std.specs.Prelude.{◌≡◌, List, [], ◌∷◌}
use Rattle.std.specs.List.{AllByRecursion}
use Rattle.np_lex.specs.declared.token.Place.{Place}
use Rattle.np_lex.specs.Tokens.{Lexeme, word, Item}

-- a lexeme, and the places that are kept for it: mostly one or none; two where a value keeps a token's place twice
pub record Mark : Type 0 where
  pub lexeme : Lexeme
  pub places : List Place

-- the marks of something before others
abbrev pub Marking : Type 0
Marking = List Mark → List Mark

-- the item is the lexeme, and stands at the kept places
pub record IsMarked (item : Item) (mark : Mark) : Type 0 where
  pub piece : item.piece ≡ word mark.lexeme
  pub places : AllByRecursion (λ place. place ≡ item.place) mark.places

-- the items begin with the marked ones, and the rest follows
abbrev pub Fits : List Item → List Mark → List Item → Type 0
Fits items [] rest = items ≡ rest
Fits [] (mark ∷ marks) rest = ⊥
Fits (item ∷ items) (mark ∷ marks) rest = IsMarked item mark × Fits items marks rest

-- one after the other, of whatever a token is made into
abbrev pub each : {T A : Type 0} → (A → List T → List T) → List A → List T → List T
each print [] rest = rest
each print (x ∷ xs) rest = print x (each print xs rest)
