-- What a text of a problem spells, where the places are that a problem keeps, and which problem is read.
use Rattle.std.specs.Prelude.{◌≡◌, ℕ, List, [], Ok}
use Rattle.np_lex.specs.Tokens.{Lexeme, items_of}
use Rattle.np_problem.specs.declared.problem.Problem.{Problem}
use Rattle.np_problem.specs.ProblemForm as form
use Rattle.np_problem.specs.ProblemText.{problem, IsProblem}
use Rattle.np_read.specs.ItemReaders.{whole}
use Rattle.np_read.specs.Marks.{Mark}
use Rattle.np_words.specs.Text.{spelled, marked}
use Rattle.np_words.specs.Texts.{IsSpelled, KeepsPlaces}

-- the lexemes of a problem
abbrev pub problem_text : Problem → List Lexeme
problem_text p = problem spelled p []

-- its lexemes with the places that it keeps for them
abbrev pub problem_marks : Problem → List Mark
problem_marks p = problem marked p []

-- the bytes spell this problem: their lexemes are its own, and no number has too many digits
abbrev pub Spells : List ℕ → Problem → Type 0
Spells = IsSpelled IsProblem problem_text

-- each place that the problem keeps is that of its token in the bytes
abbrev pub IsPlaced : List ℕ → Problem → Type 0
IsPlaced = KeepsPlaces problem_marks

-- reading the items of the bytes, one after the other, gives this problem, with the places of its tokens: of one text at most one is read
abbrev pub IsRead : List ℕ → Problem → Type 0
IsRead bytes p = whole form.problem (items_of bytes) ≡ Ok (p, [])
