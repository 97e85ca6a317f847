-- Which values have a text.
use Rattle.std.specs.Prelude.{◌≡◌, ℕ, ◌<◌, Bool, true, not, ◌&&◌, IsTrue, bytes_eq, List, [], ◌∷◌, length, All, Option, None, Some}
use Rattle.np_lex.specs.LongestToken.{is_name, is_digits}
use Rattle.np_lex.specs.Tokens.{lower}
use Rattle.np_model.specs.Names.{is_reserved}
use Rattle.np_words.specs.declared.word.Word.{Word}
use Rattle.np_words.specs.declared.word.Ident.{Ident}
use Rattle.np_words.specs.declared.word.Ident.TheVariants as ident
use Rattle.np_words.specs.declared.word.Decimal.{Decimal}
use Rattle.np_words.specs.declared.word.Group.{Group}
use Rattle.np_words.specs.declared.word.ListKind.{ListKind}
use Rattle.np_words.specs.declared.word.ListKind.TheVariants.{Names, Variables}

-- whether a text is a name in small letters, reserved or not
unfoldable pub is_small_name : List ℕ → Bool
is_small_name text = is_name text && bytes_eq (lower text) text

-- whether it is one that isn't reserved
unfoldable pub is_free_name : List ℕ → Bool
is_free_name text = is_small_name text && not (is_reserved text)

-- the word of a variable or a keyword
abbrev pub IsWord : Word → Type 0
IsWord w = IsTrue (is_small_name w.text)

-- a name, which isn't reserved
abbrev pub IsName : Word → Type 0
IsName w = IsTrue (is_free_name w.text)

abbrev pub IsIdent : Ident → Type 0
IsIdent (ident.Name w) = IsName w
IsIdent (ident.Variable w) = IsWord w

-- whether there are digits after a point, where there is one
abbrev pub is_part : Option (List ℕ) → Bool
is_part None = true
is_part (Some digits) = is_digits digits

-- whether a number has digits, and after a point too
unfoldable pub is_decimal : Decimal → Bool
is_decimal d = is_digits d.whole && is_part d.part

-- a number of any length
abbrev pub IsDecimal : Decimal → Type 0
IsDecimal d = IsTrue (is_decimal d)

-- a name with arguments
abbrev pub IsCall : Word → List Ident → Type 0
IsCall w idents = IsName w × All IsIdent idents

-- a word of a typed list
abbrev pub IsListWord : ListKind → Word → Type 0
IsListWord Names = IsName
IsListWord Variables = IsWord

-- the type after words, where one is given
abbrev pub IsOf : Option Word → Type 0
IsOf None = Unit {0}
IsOf (Some w) = IsName w

-- one word at least, and maybe their type
pub record IsGroup (list_kind : ListKind) (g : Group) : Type 0 where
  pub some : 0 < length g.words
  pub words : All (IsListWord list_kind) g.words
  pub of : IsOf g.of

-- a type is given
abbrev pub IsTyped : Group → Type 0
IsTyped g = g.of ≡ None → ⊥

-- each group but the last has a type
abbrev pub AreTyped : List Group → Type 0
AreTyped [] = Unit {0}
AreTyped (g ∷ []) = Unit {0}
AreTyped (g ∷ h ∷ gs) = IsTyped g × AreTyped (h ∷ gs)

-- a typed list
pub record AreGroups (list_kind : ListKind) (gs : List Group) : Type 0 where
  pub each : All (IsGroup list_kind) gs
  pub typed : AreTyped gs
