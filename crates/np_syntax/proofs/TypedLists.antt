-- Typed lists are read as they are spelled, and stand where they say.
use Rattle.std.proofs.Common.{◌≡◌, ℕ, ◌<◌, List, [], ◌∷◌, ◌++◌, length, map, Option, None, Some, refl, sym, ap, subst, ◌∙◌, arith, append_assoc, true≢false}
use Rattle.std.specs.List.{All}
use Rattle.std.specs.Option.{option_map}
use Rattle.std.proofs.lemmas.List.{map-append, length-append, append-nil}
use Rattle.std.proofs.lemmas.List.Elements.{All-nil, All-cons, All-head, All-tail, All-append}
use Rattle.np_lex.specs.declared.token.Place.{Place}
use Rattle.np_lex.specs.Tokens.{Lexeme, Piece, word, right}
use Rattle.np_read.specs.Marks.{each}
use Rattle.np_read.specs.Same.{same_lexeme}
use Rattle.np_read.proofs.Same.{same_lexeme-refl}
use Rattle.np_read.proofs.Good.{Starting, Good}
use Rattle.np_read.proofs.GoodParts.{good_made}
use Rattle.np_read.proofs.Spelled.{Reads, Avoids, Made, AllSame, reads_made, reads_same}
use Rattle.np_read.proofs.Marked.{Placed, placed_made, placed_same}
use Rattle.np_words.specs.declared.word.Word.{Word}
use Rattle.np_words.specs.declared.word.Group.{Group}
use Rattle.np_words.specs.declared.word.ListKind.{ListKind}
use Rattle.np_words.specs.declared.word.ListKind.TheVariants.{Names, Variables}
use Rattle.np_syntax.specs.declared.read.lists.Part.{Part}
use Rattle.np_words.specs.Bare.{bare_word, bare_group, bare_groups}
use Rattle.np_words.specs.Written.{IsName, IsListWord, IsOf, IsGroup, IsTyped, AreTyped, AreGroups}
use Rattle.np_words.specs.Text.{Printer, minus, operator_lexeme, spelled, marked}
use Rattle.np_words.specs.Text as text
use Rattle.np_words.specs.ReadingForm.{name}
use Rattle.np_words.specs.TailedRows.{tailed_row}
use Rattle.np_syntax.specs.DomainForm.{list_word, with_word, all_groups, groups_after, grouped, typed_list}
use Rattle.np_words.proofs.ReadingWords.{SameWord, starting_name, reads_name, placed_name, name_avoids, starting_variable, reads_variable, placed_variable, variable_avoids}
use Rattle.np_words.proofs.TailedGood.{good_rest}
use Rattle.np_words.proofs.TailedKept.{IfTail, GoodEntry, print_entry, print_row}
use Rattle.np_words.proofs.TailedPlaced.{placed_tailed}
use Rattle.np_words.proofs.TailedSpelled.{SameTail, SameEntry, reads_tailed}

abbrev Entry : Type 0
Entry = Word × Option Word

-- ---- the words of a list

pub starting_word : (list_kind : ListKind) → Starting (list_word list_kind)
starting_word Names = starting_name
starting_word Variables = starting_variable

reads_list_word : (list_kind : ListKind) → Reads (IsListWord list_kind) (text.list_word spelled list_kind) SameWord (list_word list_kind)
reads_list_word Names = reads_name
reads_list_word Variables = reads_variable

placed_list_word : (list_kind : ListKind) → Placed (IsListWord list_kind) (text.list_word marked list_kind) (list_word list_kind)
placed_list_word Names = placed_name
placed_list_word Variables = placed_variable

word_avoids_right : (list_kind : ListKind) → Avoids right (list_word list_kind)
word_avoids_right Names = name_avoids right (λ place. refl)
word_avoids_right Variables = variable_avoids right (λ place. refl)

word_avoids_minus : (list_kind : ListKind) → Avoids minus (list_word list_kind)
word_avoids_minus Names = name_avoids minus (λ place. refl)
word_avoids_minus Variables = variable_avoids minus (λ place. refl)

pub minus_differs : (piece : Piece) → piece ≡ word minus → piece ≡ word right → ⊥
minus_differs piece is also =
    let same : word minus ≡ word right = sym is ∙ also in
    let inside : minus ≡ right = cc in
    true≢false (sym (same_lexeme-refl minus) ∙ ap (same_lexeme minus) inside)

-- ---- what a list of groups is as words with types

-- the words of a group, the last with the group's type
abbrev entries_of : List Word → Option Word → List Entry
entries_of [] of = []
entries_of (w ∷ []) of = (w, of) ∷ []
entries_of (w ∷ v ∷ ws) of = (w, None) ∷ entries_of (v ∷ ws) of

abbrev ungrouped : List Group → List Entry
ungrouped [] = []
ungrouped (g ∷ gs) = entries_of g.words g.of ++ ungrouped gs

-- the state after a group
abbrev after_group : List Group → List Word → Option Word → Part
after_group groups words None = record { groups = groups; words = words }
after_group groups words (Some of) = record { groups = groups ++ (record { words = words; of = Some of }) ∷ []; words = [] }

word_last : (groups : List Group) (words : List Word) (w : Word) (of : Option Word) → with_word (record { groups = groups; words = words }) w of ≡ after_group groups (words ++ w ∷ []) of
word_last groups words w None = refl
word_last groups words w (Some of) = refl

abbrev so_far : List Group → List Word → Part
so_far groups words = record { groups = groups; words = words }

after_words : (groups : List Group) (words : List Word) (w : Word) (ws : List Word) (of : Option Word) (es : List Entry) → groups_after (so_far groups words) (entries_of (w ∷ ws) of ++ es) ≡ groups_after (after_group groups (words ++ w ∷ ws) of) es
after_words groups words w [] of es = ap (λ (p : Part). groups_after p es) (word_last groups words w of)
after_words groups words w (v ∷ ws) of es =
    after_words groups (words ++ w ∷ []) v ws of es ∙ ap (λ (more : List Word). groups_after (after_group groups more of) es) (append_assoc words (w ∷ []) (v ∷ ws))

not_typed : (g : Group) (h : Group) (gs : List Group) → AreTyped (g ∷ h ∷ gs) → g.of ≡ None → ⊥
not_typed g h gs typed none = typed.0 none

typed_tail : (g : Group) (gs : List Group) → AreTyped (g ∷ gs) → AreTyped gs
typed_tail g [] typed = tt
typed_tail g (h ∷ gs) typed = typed.1

-- the words and types of groups make these groups
module _ (list_kind : ListKind) where
  abbrev AreList : List Group → Type 0
  AreList = All (IsGroup list_kind)

  group_back : (done : List Group) (words : List Word) (of : Option Word) (gs : List Group) → 0 < length words → ((of ≡ None) → gs ≡ []) → ((more : List Group) → groups_after (so_far more []) (ungrouped gs) ≡ more ++ gs)
      → groups_after (so_far done []) (entries_of words of ++ ungrouped gs) ≡ done ++ (record { words = words; of = of }) ∷ gs
  group_back done [] of gs some last back = absurd (omega arith)
  group_back done (w ∷ ws) (Some of) gs some last back =
      after_words done [] w ws (Some of) (ungrouped gs) ∙ back (done ++ (record { words = w ∷ ws; of = Some of }) ∷ []) ∙ append_assoc done ((record { words = w ∷ ws; of = Some of }) ∷ []) gs
  group_back done (w ∷ ws) None gs some last back =
      after_words done [] w ws None (ungrouped gs) ∙ ap (λ (more : List Group). groups_after (so_far done (w ∷ ws)) (ungrouped more)) (last refl)
      ∙ ap (λ (more : List Group). done ++ (record { words = w ∷ ws; of = None }) ∷ more) (sym (last refl))

  last_only : (g : Group) (gs : List Group) → AreTyped (g ∷ gs) → g.of ≡ None → gs ≡ []
  last_only g [] typed none = refl
  last_only g (h ∷ gs) typed none = absurd (typed.0 none)

  groups_back : (gs : List Group) → AreList gs → AreTyped gs → (done : List Group) → groups_after (so_far done []) (ungrouped gs) ≡ done ++ gs
  groups_back [] each_good typed done = sym (append-nil done)
  groups_back (g ∷ gs) each_good typed done =
      group_back done g.words g.of gs (All-head (IsGroup list_kind) g gs each_good).some (last_only g gs typed)
      (groups_back gs (All-tail (IsGroup list_kind) g gs each_good) (typed_tail g gs typed))

  -- ---- which lists are good

  abbrev IsEntry : Entry → Type 0
  IsEntry = GoodEntry (IsListWord list_kind) IsName

  of_good : (of : Option Word) → IsOf of → IfTail IsName of
  of_good None h = tt
  of_good (Some w) h = h

  good_of_it : (of : Option Word) → IfTail IsName of → IsOf of
  good_of_it None h = tt
  good_of_it (Some w) h = h

  entries_good : (ws : List Word) (of : Option Word) → All (IsListWord list_kind) ws → IsOf of → All IsEntry (entries_of ws of)
  entries_good [] of words good = All-nil IsEntry
  entries_good (w ∷ []) of words good = All-cons IsEntry (w, of) [] (All-head (IsListWord list_kind) w [] words, of_good of good) (All-nil IsEntry)
  entries_good (w ∷ v ∷ ws) of words good =
      All-cons IsEntry (w, None) (entries_of (v ∷ ws) of) (All-head (IsListWord list_kind) w (v ∷ ws) words, tt) (entries_good (v ∷ ws) of (All-tail (IsListWord list_kind) w (v ∷ ws) words) good)

  ungrouped_good : (gs : List Group) → AreList gs → All IsEntry (ungrouped gs)
  ungrouped_good [] each_good = All-nil IsEntry
  ungrouped_good (g ∷ gs) each_good =
      let h = All-head (IsGroup list_kind) g gs each_good in
      All-append IsEntry (entries_of g.words g.of) (ungrouped gs) (entries_good g.words g.of h.words h.of) (ungrouped_good gs (All-tail (IsGroup list_kind) g gs each_good))

  -- groups that are done, and the words after them
  record GoodPart (p : Part) : Type 0 where
    groups : AreList p.groups
    typed : All IsTyped p.groups
    words : All (IsListWord list_kind) p.words

  typed_all : (gs : List Group) → All IsTyped gs → AreTyped gs
  typed_all [] h = tt
  typed_all (g ∷ []) h = tt
  typed_all (g ∷ k ∷ gs) h = (All-head IsTyped g (k ∷ gs) h, typed_all (k ∷ gs) (All-tail IsTyped g (k ∷ gs) h))

  typed_front : (gs : List Group) (last : Group) → All IsTyped gs → AreTyped (gs ++ last ∷ [])
  typed_front [] last h = tt
  typed_front (g ∷ []) last h = (All-head IsTyped g [] h, tt)
  typed_front (g ∷ k ∷ gs) last h = (All-head IsTyped g (k ∷ gs) h, typed_front (k ∷ gs) last (All-tail IsTyped g (k ∷ gs) h))

  one_word : (words : List Word) (w : Word) → All (IsListWord list_kind) words → IsListWord list_kind w → All (IsListWord list_kind) (words ++ w ∷ [])
  one_word words w h good = All-append (IsListWord list_kind) words (w ∷ []) h (All-cons (IsListWord list_kind) w [] good (All-nil (IsListWord list_kind)))

  word_good : (p : Part) (w : Word) (of : Option Word) → GoodPart p → IsListWord list_kind w → IfTail IsName of → GoodPart (with_word p w of)
  word_good p w None h good tail = record { groups = h.groups; typed = h.typed; words = one_word p.words w h.words good }
  word_good p w (Some of) h good tail =
      let g : Group = record { words = p.words ++ w ∷ []; of = Some of } in
      record {
        groups = All-append (IsGroup list_kind) p.groups (g ∷ []) h.groups
            (All-cons (IsGroup list_kind) g [] (record { some = omega (arith, length-append p.words (w ∷ [])); words = one_word p.words w h.words good; of = tail }) (All-nil (IsGroup list_kind)));
        typed = All-append IsTyped p.groups (g ∷ []) h.typed (All-cons IsTyped g [] (λ none. absurd cc) (All-nil IsTyped));
        words = All-nil (IsListWord list_kind);
      }

  all_good : (groups : List Group) (words : List Word) → GoodPart (so_far groups words) → AreGroups list_kind (all_groups groups words)
  all_good groups [] h = record { each = h.groups; typed = typed_all groups h.typed }
  all_good groups (w ∷ ws) h =
      let g : Group = record { words = w ∷ ws; of = None } in
      record {
        each = All-append (IsGroup list_kind) groups (g ∷ []) h.groups (All-cons (IsGroup list_kind) g [] (record { some = omega arith; words = h.words; of = tt }) (All-nil (IsGroup list_kind)));
        typed = typed_front groups g h.typed;
      }

  after_good : (es : List Entry) (p : Part) → GoodPart p → All IsEntry es → AreGroups list_kind (groups_after p es)
  after_good [] p h good = all_good p.groups p.words h
  after_good (e ∷ es) p h good =
      let first = All-head IsEntry e es good in
      after_good es (with_word p e.0 e.1) (word_good p e.0 e.1 h first.0 first.1) (All-tail IsEntry e es good)

  none_yet : GoodPart (so_far [] [])
  none_yet = record { groups = All-nil (IsGroup list_kind); typed = All-nil IsTyped; words = All-nil (IsListWord list_kind) }

  to_groups : (gs : List Group) → Made grouped (All IsEntry) gs → AreGroups list_kind gs
  to_groups gs h = subst (AreGroups list_kind) h.1 (after_good h.0 (so_far [] []) none_yet h.2)

  from_groups : (gs : List Group) → AreGroups list_kind gs → Made grouped (All IsEntry) gs
  from_groups gs h = (ungrouped gs, groups_back gs h.each h.typed [], ungrouped_good gs h.each)

-- ---- the text of a list of groups is that of its words and types

each-append : {T A : Type 0} (f : A → List T → List T) (xs ys : List A) (rest : List T) → each f (xs ++ ys) rest ≡ each f xs (each f ys rest)
each-append f [] ys rest = refl
each-append f (x ∷ xs) ys rest = ap (f x) (each-append f xs ys rest)

module _ {T : Type 0} (token : List Place → Lexeme → T) (list_kind : ListKind) where
  abbrev print_word : Word → Printer T
  print_word = text.list_word token list_kind

  abbrev print_group : Group → Printer T
  print_group = text.group token list_kind

  abbrev print_entries : List Entry → Printer T
  print_entries = print_row print_word (token [] minus) (token [] right) (text.name token)

  abbrev print_part : Part → Printer T
  print_part p rest = each print_group p.groups (each print_word p.words rest)

  all_print : (groups : List Group) (words : List Word) (rest : List T) → text.groups token list_kind (all_groups groups words) rest ≡ print_part (so_far groups words) (token [] right ∷ rest)
  all_print groups [] rest = refl
  all_print groups (w ∷ ws) rest = each-append print_group groups ((record { words = w ∷ ws; of = None }) ∷ []) (token [] right ∷ rest)

  word_print : (p : Part) (w : Word) (of : Option Word) (rest : List T) → print_part (with_word p w of) rest ≡ print_part p (print_entry print_word (token [] minus) (token [] right) (text.name token) (w, of) rest)
  word_print p w None rest = ap (each print_group p.groups) (each-append print_word p.words (w ∷ []) rest)
  word_print p w (Some of) rest =
      each-append print_group p.groups ((record { words = p.words ++ w ∷ []; of = Some of }) ∷ []) rest
      ∙ ap (each print_group p.groups) (each-append print_word p.words (w ∷ []) (text.of_type token (Some of) rest))

  after_print : (es : List Entry) (p : Part) (rest : List T) → text.groups token list_kind (groups_after p es) rest ≡ print_part p (print_entries es rest)
  after_print [] p rest = all_print p.groups p.words rest
  after_print (e ∷ es) p rest = after_print es (with_word p e.0 e.1) rest ∙ word_print p e.0 e.1 (print_entries es rest)

  pub grouped_print : (es : List Entry) (rest : List T) → text.groups token list_kind (grouped es) rest ≡ print_entries es rest
  grouped_print es rest = after_print es (so_far [] []) rest

-- ---- without places

abbrev bare_entry : Entry → Entry
bare_entry e = (bare_word e.0, option_map bare_word e.1)

abbrev bare_part : Part → Part
bare_part p = record { groups = bare_groups p.groups; words = map bare_word p.words }

bare_all : (groups : List Group) (words : List Word) → bare_groups (all_groups groups words) ≡ all_groups (bare_groups groups) (map bare_word words)
bare_all groups [] = refl
bare_all groups (w ∷ ws) = map-append bare_group groups ((record { words = w ∷ ws; of = None }) ∷ [])

bare_with : (p : Part) (w : Word) (of : Option Word) → bare_part (with_word p w of) ≡ with_word (bare_part p) (bare_word w) (option_map bare_word of)
bare_with p w None = ap (λ (words : List Word). so_far (bare_groups p.groups) words) (map-append bare_word p.words (w ∷ []))
bare_with p w (Some of) =
    ap (λ (groups : List Group). so_far groups []) (map-append bare_group p.groups ((record { words = p.words ++ w ∷ []; of = Some of }) ∷ []))
    ∙ ap (λ (words : List Word). so_far (bare_groups p.groups ++ (record { words = words; of = Some (bare_word of) }) ∷ []) []) (map-append bare_word p.words (w ∷ []))

bare_after : (es : List Entry) (p : Part) → bare_groups (groups_after p es) ≡ groups_after (bare_part p) (map bare_entry es)
bare_after [] p = bare_all p.groups p.words
bare_after (e ∷ es) p = bare_after es (with_word p e.0 e.1) ∙ ap (λ (q : Part). groups_after q (map bare_entry es)) (bare_with p e.0 e.1)

same_tail : (a b : Option Word) → SameTail SameWord a b → option_map bare_word a ≡ option_map bare_word b
same_tail None None h = refl
same_tail None (Some b) h = absurd h
same_tail (Some a) None h = absurd h
same_tail (Some a) (Some b) h = ap (λ (w : Word). Some w) h

same_entries : (es ds : List Entry) → AllSame (SameEntry SameWord SameWord) es ds → map bare_entry es ≡ map bare_entry ds
same_entries [] [] h = refl
same_entries [] (d ∷ ds) h = absurd h
same_entries (e ∷ es) [] h = absurd h
same_entries (e ∷ es) (d ∷ ds) h =
    let first : bare_entry e ≡ bare_entry d = λ i. (h.0.0 i, same_tail e.1 d.1 h.0.1 i) in
    ap (λ (x : Entry). x ∷ map bare_entry es) first ∙ ap (λ (xs : List Entry). bare_entry d ∷ xs) (same_entries es ds h.1)

-- the same but for the places
abbrev pub SameGroups : List Group → List Group → Type 0
SameGroups gs hs = bare_groups gs ≡ bare_groups hs

same_grouped : (es ds : List Entry) → AllSame (SameEntry SameWord SameWord) es ds → SameGroups (grouped es) (grouped ds)
same_grouped es ds h = bare_after es (so_far [] []) ∙ ap (groups_after (so_far [] [])) (same_entries es ds h) ∙ sym (bare_after ds (so_far [] []))

-- ---- the laws

module _ (list_kind : ListKind) where
  pub good_typed_list : (k : ℕ) → Good k (typed_list list_kind)
  unfolding typed_list
  good_typed_list k =
      good_made k grouped (tailed_row (list_word list_kind) minus name) (good_rest (list_word list_kind) minus name (starting_word list_kind) starting_name k None)

  pub reads_typed_list : Reads (AreGroups list_kind) (text.groups spelled list_kind) SameGroups (typed_list list_kind)
  unfolding typed_list
  reads_typed_list =
      reads_same (AreGroups list_kind) (to_groups list_kind) (from_groups list_kind)
      (reads_made grouped (text.groups spelled list_kind) SameGroups (grouped_print spelled list_kind) same_grouped
      (reads_tailed minus minus_differs (starting_word list_kind) starting_name (reads_list_word list_kind) reads_name (word_avoids_right list_kind) (word_avoids_minus list_kind)))

  pub placed_typed_list : Placed (AreGroups list_kind) (text.groups marked list_kind) (typed_list list_kind)
  unfolding typed_list
  placed_typed_list =
      placed_same (AreGroups list_kind) (to_groups list_kind)
      (placed_made grouped (text.groups marked list_kind) (grouped_print marked list_kind) (placed_tailed minus (placed_list_word list_kind) placed_name))
