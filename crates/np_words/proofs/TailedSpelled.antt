-- A row of values with tails is read as it is spelled.
use Rattle.std.proofs.Common.{◌≡◌, List, [], ◌∷◌, Option, None, Some, Ok, refl, sym, ap, subst, ◌∙◌}
use Rattle.std.specs.List.{All}
use Rattle.std.proofs.lemmas.List.Elements.{All-head, All-tail}
use Rattle.np_lex.specs.Tokens.{Lexeme, Piece, word, Item, right}
use Rattle.np_read.specs.Faults.{pieces_in, onto}
use Rattle.np_read.specs.Printers.{Printed}
use Rattle.np_read.specs.ItemReaders.{Outcome, Reader, and_then, pure, either, made}
use Rattle.np_read.proofs.Good.{Starting}
use Rattle.np_read.proofs.ItemChoices.{either_taken, either_other}
use Rattle.np_read.proofs.Spelled.{Gets, Finds, Spelled, Back, Reads, AllSame, Avoids, then_find, weaker, head_is, tail_is}
use Rattle.np_words.specs.TailedRows.{Tailed, next_value, tail_of, rest_of, tailed_row}
use Rattle.np_words.proofs.TailedGood.{rest_at}
use Rattle.np_words.proofs.TailedKept.{IfTail, GoodEntry, print_tail, print_row, Kept, row_kept}

-- the items' pieces are these lexemes before the others
abbrev Spell : List Item → List Lexeme → List Piece → Type 0
Spell items ls others = pieces_in items ≡ onto ls others

module _ {A : Type 0} (P : A → Type 0) (f : A → Printed) (p : Reader A) where
  spelled_kept : ((items : List Item) → Gets (Spelled P f items) (p items)) → (items : List Item) → Gets (Kept Spell P f items) (p items)
  spelled_kept sound items = weaker (Spelled P f items) (Kept Spell P f items) (p items) (λ a rest h. record { good = h.good; kept = h.spelled }) (sound items)

  kept_spelled : ((items : List Item) → Gets (Kept Spell P f items) (p items)) → (items : List Item) → Gets (Spelled P f items) (p items)
  kept_spelled keeps items = weaker (Kept Spell P f items) (Spelled P f items) (p items) (λ a rest h. record { good = h.good; spelled = h.kept }) (keeps items)

-- two tails are the same
abbrev pub SameTail : {B : Type 0} → (B → B → Type 0) → Option B → Option B → Type 0
SameTail T None None = Unit {0}
SameTail T None (Some b) = ⊥
SameTail T (Some a) None = ⊥
SameTail T (Some a) (Some b) = T a b

abbrev pub SameEntry : {A B : Type 0} → (A → A → Type 0) → (B → B → Type 0) → A × Option B → A × Option B → Type 0
SameEntry S T x y = S x.0 y.0 × SameTail T x.1 y.1

module _ {A B : Type 0} {P : A → Type 0} {Q : B → Type 0} {f : A → Printed} {g : B → Printed} {S : A → A → Type 0} {T : B → B → Type 0} {p : Reader A} {q : Reader B} where
  module _ (lexeme : Lexeme) (differ : (piece : Piece) → piece ≡ word lexeme → piece ≡ word right → ⊥) (starting : Starting p) (starts_tail : Starting q) (one : Reads P f S p) (two : Reads Q g T q) (not_right : Avoids right p) (not_lexeme : Avoids lexeme p) where
    abbrev Entries : Type 0
    Entries = List (A × Option B)

    abbrev AreGood : Entries → Type 0
    AreGood = All (GoodEntry P Q)

    abbrev print : Entries → Printed
    print = print_row f lexeme right g

    abbrev Read : Entries → List Lexeme → List Piece → Entries → List Item → Type 0
    Read xs ls others = Back (AllSame (SameEntry S T)) xs (onto ls others)

    abbrev rest_read : Option A → Reader (Tailed A B)
    rest_read = rest_of p lexeme q

    -- what is spelled so is read, where none waits, and where a value does
    abbrev ReadsRow : Entries → Type 0
    ReadsRow xs = (items : List Item) (ls : List Lexeme) (others : List Piece) → AreGood xs → pieces_in items ≡ onto (print xs ls) others → Finds (Read xs ls others) (rest_read None items)

    abbrev ReadsRest : Entries → Type 0
    ReadsRest xs = (a b : A) → S b a → (tail : Option B) (items : List Item) (ls : List Lexeme) (others : List Piece) → IfTail Q tail → AreGood xs → pieces_in items ≡ onto (print_tail f lexeme right g tail (print xs ls)) others
        → Finds (Read ((a, tail) ∷ xs) ls others) (rest_read (Some b) items)

    abbrev next : Reader (Tailed A B)
    next = next_value p lexeme q rest_read

    abbrev second : A → Reader (Tailed A B)
    second b = made (λ more. (b, None) ∷ more) next

    next_reads : (a : A) (tail : Option B) (xs : Entries) → ReadsRest xs → (items : List Item) (ls : List Lexeme) (others : List Piece) → GoodEntry P Q (a, tail) → AreGood xs → pieces_in items ≡ onto (print ((a, tail) ∷ xs) ls) others
        → Finds (Read ((a, tail) ∷ xs) ls others) (next items)
    next_reads a tail xs reads_rest items ls others h good e =
        then_find (Back S a (onto (print_tail f lexeme right g tail (print xs ls)) others)) (Read ((a, tail) ∷ xs) ls others) (λ b. rest_read (Some b)) (p items)
        (one.back items a (print_tail f lexeme right g tail (print xs ls)) others h.0 e)
        (λ b rest m. reads_rest a b m.same tail rest ls others h.1 good m.left_are)

    -- where a value is read, nothing else is next
    nothing_else : (marker : Lexeme) → Avoids marker p → (item : Item) (items : List Item) (R : Entries → List Item → Type 0) → Finds R (next (item ∷ items)) → item.piece ≡ word marker → ⊥
    nothing_else marker avoids item items R finds is = subst (Finds R) (ap (λ (x : Outcome A). and_then x (λ a. rest_read (Some a))) (avoids item items is)) finds

    some_item : (R : Entries → List Item → Type 0) → Finds R (next []) → ⊥
    some_item R finds = subst (Finds R) (ap (λ (x : Outcome A). and_then x (λ a. rest_read (Some a))) (starting 0).tries.nothing) finds

    -- the bracket is next
    at_bracket : (waiting : Option A) (xs : Entries) (second_read : Reader (Tailed A B)) (value : Entries) (items : List Item) (ls : List Lexeme) (others : List Piece) → ((rest : List Item) → rest_read waiting rest ≡ either right (pure value) second_read rest) → AllSame (SameEntry S T) value xs
        → pieces_in items ≡ word right ∷ onto ls others → Finds (Read xs ls others) (rest_read waiting items)
    at_bracket waiting xs second_read value [] ls others is same e = absurd cc
    at_bracket waiting xs second_read value (item ∷ items) ls others is same e =
        subst (Finds (Read xs ls others)) (sym (is (item ∷ items) ∙ either_taken right (pure value) second_read item items (head_is item.piece (word right) (pieces_in items) (onto ls others) e)))
        (record { same = same; left_are = tail_is item.piece (word right) (pieces_in items) (onto ls others) e })

    none_at : (rest : List Item) → rest_read None rest ≡ either right (pure []) next rest
    none_at rest = rest_at p lexeme q starting starts_tail None rest

    one_at : (b : A) (rest : List Item) → rest_read (Some b) rest ≡ either right (pure ((b, None) ∷ [])) (either lexeme (tail_of p lexeme q b rest_read) (second b)) rest
    one_at b rest = rest_at p lexeme q starting starts_tail (Some b) rest

    row_goes_on : (R : Entries → List Item → Type 0) (items : List Item) → Finds R (next items) → Finds R (rest_read None items)
    row_goes_on R [] finds = absurd (some_item R finds)
    row_goes_on R (item ∷ items) finds =
        subst (Finds R) (sym (none_at (item ∷ items) ∙ either_other right (pure []) next item items (nothing_else right not_right item items R finds))) finds

    row_reads : (xs : Entries) → ((x : A × Option B) (more : Entries) → xs ≡ x ∷ more → ReadsRest more) → ReadsRow xs
    row_reads [] rests items ls others good e = at_bracket None [] next [] items ls others none_at tt e
    row_reads (x ∷ xs) rests items ls others good e =
        row_goes_on (Read (x ∷ xs) ls others) items
        (next_reads x.0 x.1 xs (rests x xs refl) items ls others (All-head (GoodEntry P Q) x xs good) (All-tail (GoodEntry P Q) x xs good) e)

    -- a value waits, and others come
    second_goes_on : (b : A) (R : Entries → List Item → Type 0) (W : Entries → List Item → Type 0) → ((more : Entries) (last : List Item) → W more last → R ((b, None) ∷ more) last) → (items : List Item) → Finds W (next items) → Finds R (rest_read (Some b) items)
    second_goes_on b R W go [] finds = absurd (some_item W finds)
    second_goes_on b R W go (item ∷ items) finds =
        subst (Finds R)
        (sym (one_at b (item ∷ items) ∙ either_other right (pure ((b, None) ∷ [])) (either lexeme (tail_of p lexeme q b rest_read) (second b)) item items (nothing_else right not_right item items W finds)
        ∙ either_other lexeme (tail_of p lexeme q b rest_read) (second b) item items (nothing_else lexeme not_lexeme item items W finds)))
        (then_find W R (λ more last. Ok ((b, None) ∷ more, last)) (next (item ∷ items)) finds go)

    -- a value waits, and its tail comes
    tail_reads : (xs : Entries) → ReadsRow xs → (a b : A) → S b a → (t : B) (items : List Item) (ls : List Lexeme) (others : List Piece) → Q t → AreGood xs → pieces_in items ≡ word lexeme ∷ onto (g t (print xs ls)) others → Finds (Read ((a, Some t) ∷ xs) ls others) (rest_read (Some b) items)
    tail_reads xs reads_row a b same t [] ls others h good e = absurd cc
    tail_reads xs reads_row a b same t (item ∷ items) ls others h good e =
        let is = head_is item.piece (word lexeme) (pieces_in items) (onto (g t (print xs ls)) others) e in
        subst (Finds (Read ((a, Some t) ∷ xs) ls others))
        (sym (one_at b (item ∷ items) ∙ either_other right (pure ((b, None) ∷ [])) (either lexeme (tail_of p lexeme q b rest_read) (second b)) item items (differ item.piece is)
        ∙ either_taken lexeme (tail_of p lexeme q b rest_read) (second b) item items is))
        (then_find (Back T t (onto (print xs ls) others)) (Read ((a, Some t) ∷ xs) ls others) (λ u. made (λ more. (b, Some u) ∷ more) (rest_read None)) (q items)
        (two.back items t (print xs ls) others h (tail_is item.piece (word lexeme) (pieces_in items) (onto (g t (print xs ls)) others) e))
        (λ u rest m. then_find (Read xs ls others) (Read ((a, Some t) ∷ xs) ls others) (λ more last. Ok ((b, Some u) ∷ more, last)) (rest_read None rest) (reads_row rest ls others good m.left_are)
        (λ more last n. record { same = ((same, m.same), n.same); left_are = n.left_are })))

    rest_reads : (xs : Entries) → ReadsRow xs → ((x : A × Option B) (more : Entries) → xs ≡ x ∷ more → ReadsRest more) → ReadsRest xs
    rest_reads xs reads_row rests a b same (Some t) items ls others h good e = tail_reads xs reads_row a b same t items ls others h good e
    rest_reads [] reads_row rests a b same None items ls others h good e =
        at_bracket (Some b) ((a, None) ∷ []) (either lexeme (tail_of p lexeme q b rest_read) (second b)) ((b, None) ∷ []) items ls others (one_at b) ((same, tt), tt) e
    rest_reads (x ∷ xs) reads_row rests a b same None items ls others h good e =
        second_goes_on b (Read ((a, None) ∷ x ∷ xs) ls others) (Read (x ∷ xs) ls others) (λ more last m. record { same = ((same, tt), m.same); left_are = m.left_are }) items
        (next_reads x.0 x.1 xs (rests x xs refl) items ls others (All-head (GoodEntry P Q) x xs good) (All-tail (GoodEntry P Q) x xs good) e)

    abbrev tail_in : Entries → Entries
    tail_in [] = []
    tail_in (x ∷ xs) = xs

    reads_both_ways : (xs : Entries) → ReadsRow xs × ReadsRest xs
    reads_both_ways [] =
        let row = row_reads [] (λ x more e. absurd cc) in
        (row, rest_reads [] row (λ x more e. absurd cc))
    reads_both_ways (x ∷ xs) =
        let below = reads_both_ways xs in
        let rests : (y : A × Option B) (more : Entries) → x ∷ xs ≡ y ∷ more → ReadsRest more = λ y more e. subst ReadsRest (ap tail_in e) below.1 in
        let row = row_reads (x ∷ xs) rests in
        (row, rest_reads (x ∷ xs) row rests)

    tailed_sound : (items : List Item) → Gets (Spelled AreGood print items) (tailed_row p lexeme q items)
    tailed_sound =
        kept_spelled AreGood print (tailed_row p lexeme q)
        (row_kept Spell P Q f g lexeme (λ l. l) (λ marker item rest ls others is e. ap (λ (piece : Piece). piece ∷ pieces_in rest) is ∙ ap (λ (ps : List Piece). word marker ∷ ps) e) p q
        (spelled_kept P f p one.sound) (spelled_kept Q g q two.sound))

    pub reads_tailed : Reads AreGood print (AllSame (SameEntry S T)) (tailed_row p lexeme q)
    reads_tailed = record { sound = tailed_sound; back = λ items xs ls others good e. (reads_both_ways xs).0 items ls others good e }
