-- Whether two lexemes are the same.
use Rattle.std.specs.Prelude.{Bool, true, false, ◌&&◌, bytes_eq}
use Rattle.np_lex.specs.Tokens.{Lexeme}
use Rattle.np_lex.specs.declared.token.Kind.{Kind}
use Rattle.np_lex.specs.declared.token.Kind.TheVariants.{Left, Right, Name, Variable, Keyword, Colon, Number, Op}

-- whether two kinds are the same
abbrev pub same_kind : Kind → Kind → Bool
same_kind Left Left = true
same_kind Right Right = true
same_kind Name Name = true
same_kind Variable Variable = true
same_kind Keyword Keyword = true
same_kind Colon Colon = true
same_kind Number Number = true
same_kind Op Op = true
same_kind _ _ = false

-- whether two lexemes are the same
abbrev pub same_lexeme : Lexeme → Lexeme → Bool
same_lexeme found wanted = same_kind found.kind wanted.kind && bytes_eq found.text wanted.text
