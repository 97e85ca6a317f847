-- Declarations are read as they are spelled, and stand where they say.
use Rattle.std.proofs.Common.{◌≡◌, ℕ, Bool, true, false, List, [], ◌∷◌, ◌++◌, map, Option, None, Some, refl, sym, ap, subst, ◌∙◌, true≢false, append_assoc}
use Rattle.std.specs.Prelude.{is_some}
use Rattle.std.specs.List.{All}
use Rattle.std.proofs.lemmas.List.Elements.{All-nil, All-cons, All-head, All-tail}
use Rattle.np_lex.specs.declared.token.Place.{Place}
use Rattle.np_lex.specs.Tokens.{Lexeme, Piece, word, left, right}
use Rattle.np_read.specs.Marks.{each}
use Rattle.np_read.specs.Same.{same_lexeme}
use Rattle.np_read.specs.ItemReaders.{Reader, expect, after, both, made}
use Rattle.np_read.proofs.Same.{same_lexeme-refl}
use Rattle.np_read.proofs.Good.{Starting, Good, good_of}
use Rattle.np_read.proofs.GoodParts.{starts_expect, starts_after, good_both, good_made}
use Rattle.np_read.proofs.ItemChoices.{expect_refused}
use Rattle.np_read.proofs.Spelled.{Reads, Avoids, Made, GoodPair, AllSame, IsAny, SameUnit, SamePair, reads_expect, reads_both, reads_made, reads_after, reads_same}
use Rattle.np_read.proofs.Marked.{Placed, placed_expect, placed_both, placed_made, placed_after, placed_same}
use Rattle.np_read.proofs.PlacedParts.{after_refuses}
use Rattle.np_syntax.specs.declared.domain.Declared.{Declared}
use Rattle.np_words.specs.declared.word.Word.{Word}
use Rattle.np_words.specs.declared.word.Group.{Group}
use Rattle.np_words.specs.declared.word.ListKind.TheVariants.{Variables}
use Rattle.np_words.specs.Written.{IsName, AreGroups}
use Rattle.np_words.specs.Text.{Printer, minus, spelled, marked}
use Rattle.np_words.specs.Text as text
use Rattle.np_syntax.specs.DomainText.{IsDeclared, IsFunction, bare_declared, bare_function}
use Rattle.np_syntax.specs.DomainText as domain_text
use Rattle.np_words.specs.ReadingForm.{name}
use Rattle.np_words.specs.TailedRows.{tailed_row}
use Rattle.np_syntax.specs.DomainForm.{typed_list, declared, number_word, numbered, mark_of, functions}
use Rattle.np_words.proofs.ReadingWords.{SameWord, starting_name, reads_name, placed_name}
use Rattle.np_syntax.proofs.TypedLists.{SameGroups, minus_differs, good_typed_list, reads_typed_list, placed_typed_list}
use Rattle.np_words.proofs.TailedGood.{good_rest}
use Rattle.np_words.proofs.TailedKept.{IfTail, GoodEntry, print_tail, print_row}
use Rattle.np_words.proofs.TailedPlaced.{placed_tailed}
use Rattle.np_words.proofs.TailedSpelled.{SameTail, SameEntry, reads_tailed}

-- ---- one declaration

-- the same but for the places
abbrev pub SameDeclared : Declared → Declared → Type 0
SameDeclared a b = bare_declared a ≡ bare_declared b

abbrev declared_of : Word × List Group → Declared
declared_of x = record { name = x.0; parameters = x.1 }

-- a declaration after its bracket
abbrev inside : {T : Type 0} → (List Place → Lexeme → T) → Declared → Printer T
inside token d rest = text.name token d.name (text.groups token Variables d.parameters rest)

abbrev IsPair : Word × List Group → Type 0
IsPair = GoodPair IsName (AreGroups Variables)

made_declared : (d : Declared) → Made declared_of IsPair d → IsDeclared d
made_declared d h = subst IsDeclared h.1 h.2

declared_made : (d : Declared) → IsDeclared d → Made declared_of IsPair d
declared_made d h = ((d.name, d.parameters), refl, h)

same_declared : (x y : Word × List Group) → SamePair SameWord SameGroups x y → SameDeclared (declared_of x) (declared_of y)
same_declared x y h = λ i. record { name = h.0 i; parameters = h.1 i }

body_good : (k : ℕ) → Good k (made declared_of (both name (typed_list Variables)))
body_good k = good_made k declared_of (both name (typed_list Variables)) (good_both k name (typed_list Variables) (good_of k name (starting_name k)) (good_typed_list Variables k))

pub starting_declared : Starting declared
unfolding declared
starting_declared k = starts_after k (expect left) (made declared_of (both name (typed_list Variables))) (starts_expect k left) (body_good k)

pub reads_declared : Reads IsDeclared (domain_text.declared spelled) SameDeclared declared
unfolding declared
reads_declared =
    reads_same IsDeclared made_declared declared_made
    (reads_after (reads_expect left) (reads_made declared_of (inside spelled) SameDeclared (λ x ls. refl) same_declared (reads_both reads_name (reads_typed_list Variables))))

pub placed_declared : Placed IsDeclared (domain_text.declared marked) declared
unfolding declared
placed_declared =
    placed_same IsDeclared made_declared
    (placed_after (placed_expect left) (placed_made declared_of (inside marked) (λ x ms. refl) (placed_both placed_name (placed_typed_list Variables))))

-- ---- what begins otherwise

pub other_lexeme : (a b : Lexeme) (piece : Piece) → same_lexeme a b ≡ false → piece ≡ word a → piece ≡ word b → ⊥
other_lexeme a b piece differ is also =
    let same : word a ≡ word b = sym is ∙ also in
    let inside_is : a ≡ b = cc in
    true≢false (sym (same_lexeme-refl a) ∙ ap (same_lexeme a) inside_is ∙ differ)

pub after_left_avoids : {A : Type 0} (p : Reader A) (lexeme : Lexeme) → same_lexeme lexeme left ≡ false → Avoids lexeme (after (expect left) p)
after_left_avoids p lexeme differ item items is = after_refuses (expect left) p (item ∷ items) (expect_refused left item items (other_lexeme lexeme left item.piece differ is))

pub declared_avoids : (lexeme : Lexeme) → same_lexeme lexeme left ≡ false → Avoids lexeme declared
unfolding declared
declared_avoids lexeme differ = after_left_avoids (made declared_of (both name (typed_list Variables))) lexeme differ

-- ---- functions

abbrev Entry : Type 0
Entry = Declared × Option (Unit {0})

abbrev Function : Type 0
Function = Declared × Bool

abbrev IsEntry : Entry → Type 0
IsEntry = GoodEntry IsDeclared IsAny

-- the same but for the places
abbrev pub SameFunctions : List Function → List Function → Type 0
SameFunctions fs gs = map bare_function fs ≡ map bare_function gs

abbrev unnumbered : Function → Entry
unnumbered f = (f.0, mark_of f.1)

pub some_marked : (flag : Bool) → is_some (mark_of flag) ≡ flag
some_marked true = refl
some_marked false = refl

numbered_back : (fs : List Function) → map numbered (map unnumbered fs) ≡ fs
numbered_back [] = refl
numbered_back (f ∷ fs) = ap (λ (flag : Bool). (f.0, flag) ∷ map numbered (map unnumbered fs)) (some_marked f.1) ∙ ap (λ (gs : List Function). f ∷ gs) (numbered_back fs)

tail_any : (o : Option (Unit {0})) → IfTail IsAny o
tail_any None = tt
tail_any (Some u) = tt

entries_good : (fs : List Function) → All IsFunction fs → All IsEntry (map unnumbered fs)
entries_good [] h = All-nil IsEntry
entries_good (f ∷ fs) h = All-cons IsEntry (unnumbered f) (map unnumbered fs) (All-head IsFunction f fs h, tail_any (mark_of f.1)) (entries_good fs (All-tail IsFunction f fs h))

functions_good : (es : List Entry) → All IsEntry es → All IsFunction (map numbered es)
functions_good [] h = All-nil IsFunction
functions_good (e ∷ es) h = All-cons IsFunction (numbered e) (map numbered es) (All-head IsEntry e es h).0 (functions_good es (All-tail IsEntry e es h))

made_functions : (fs : List Function) → Made (map numbered) (All IsEntry) fs → All IsFunction fs
made_functions fs h = subst (All IsFunction) h.1 (functions_good h.0 h.2)

functions_made : (fs : List Function) → All IsFunction fs → Made (map numbered) (All IsEntry) fs
functions_made fs h = (map unnumbered fs, numbered_back fs, entries_good fs h)

module _ {T : Type 0} (token : List Place → Lexeme → T) where
  abbrev pub print_functions : List Function → Printer T
  print_functions fs rest = each (domain_text.function token) fs (token [] right ∷ rest)

  abbrev print_number : Unit {0} → Printer T
  print_number u rest = token [] number_word ∷ rest

  abbrev print_entries : List Entry → Printer T
  print_entries = print_row (domain_text.declared token) (token [] minus) (token [] right) print_number

  function_print : (d : Declared) (o : Option (Unit {0})) (rest : List T) → domain_text.function token (d, is_some o) rest ≡ domain_text.declared token d (print_tail (domain_text.declared token) (token [] minus) (token [] right) print_number o rest)
  function_print d None rest = refl
  function_print d (Some u) rest = refl

  functions_print : (es : List Entry) (rest : List T) → print_functions (map numbered es) rest ≡ print_entries es rest
  functions_print [] rest = refl
  functions_print (e ∷ es) rest =
      function_print e.0 e.1 (print_functions (map numbered es) rest)
      ∙ ap (λ (more : List T). domain_text.declared token e.0 (print_tail (domain_text.declared token) (token [] minus) (token [] right) print_number e.1 more)) (functions_print es rest)

same_mark : (a b : Option (Unit {0})) → SameTail SameUnit a b → is_some a ≡ is_some b
same_mark None None h = refl
same_mark None (Some b) h = absurd h
same_mark (Some a) None h = absurd h
same_mark (Some a) (Some b) h = refl

same_functions : (es ds : List Entry) → AllSame (SameEntry SameDeclared SameUnit) es ds → SameFunctions (map numbered es) (map numbered ds)
same_functions [] [] h = refl
same_functions [] (d ∷ ds) h = absurd h
same_functions (e ∷ es) [] h = absurd h
same_functions (e ∷ es) (d ∷ ds) h =
    let first : bare_function (numbered e) ≡ bare_function (numbered d) = λ i. (h.0.0 i, same_mark e.1 d.1 h.0.1 i) in
    ap (λ (f : Function). f ∷ map bare_function (map numbered es)) first ∙ ap (λ (fs : List Function). bare_function (numbered d) ∷ fs) (same_functions es ds h.1)

pub starting_number_word : Starting (expect number_word)
starting_number_word k = starts_expect k number_word

pub good_functions : (k : ℕ) → Good k functions
unfolding functions
good_functions k = good_made k (map numbered) (tailed_row declared minus (expect number_word)) (good_rest declared minus (expect number_word) starting_declared starting_number_word k None)

pub reads_functions : Reads (All IsFunction) (print_functions spelled) SameFunctions functions
unfolding functions
reads_functions =
    reads_same (All IsFunction) made_functions functions_made
    (reads_made (map numbered) (print_functions spelled) SameFunctions (functions_print spelled) same_functions
    (reads_tailed minus minus_differs starting_declared starting_number_word reads_declared (reads_expect number_word) (declared_avoids right refl) (declared_avoids minus refl)))

pub placed_functions : Placed (All IsFunction) (print_functions marked) functions
unfolding functions
placed_functions =
    placed_same (All IsFunction) made_functions
    (placed_made (map numbered) (print_functions marked) (functions_print marked) (placed_tailed minus placed_declared (placed_expect number_word)))

-- one function more
pub function_more : (fs : List Function) (d : Declared) (flag : Bool) (more : List Entry) → fs ++ map numbered ((d, mark_of flag) ∷ more) ≡ (fs ++ (d, flag) ∷ []) ++ map numbered more
function_more fs d flag more =
    ap (λ (same : Bool). fs ++ (d, same) ∷ map numbered more) (some_marked flag) ∙ sym (append_assoc fs ((d, flag) ∷ []) (map numbered more))
