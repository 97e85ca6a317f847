-- Facts are read as they are spelled, and keep the places of their words and numbers.
use Rattle.std.proofs.Common.{◌≡◌, inl, inr, ℕ, Bool, true, false, List, [], ◌∷◌, map, None, refl, sym, subst, codes}
use Rattle.std.specs.List.{All}
use Rattle.np_lex.specs.declared.token.Place.{Place}
use Rattle.np_lex.specs.Tokens.{Lexeme, left, right, named}
use Rattle.np_problem.specs.declared.problem.Fact.{Fact}
use Rattle.np_problem.specs.declared.problem.Fact.TheVariants as f
use Rattle.np_problem.specs.FactForm.{Start, names, bare_start, called_start, start, last_number, some_atom, value, from_value, not_atom, from_not, fact}
use Rattle.np_problem.specs.FactText.{IsStart, IsFact, bare_fact, fact_inside}
use Rattle.np_problem.specs.FactText as printed
use Rattle.np_read.specs.Marks.{Marking}
use Rattle.np_read.specs.Printers.{Printed}
use Rattle.np_read.specs.Same.{same_lexeme}
use Rattle.np_read.specs.ItemReaders.{expect, after, both, row}
use Rattle.np_read.proofs.EachRows.{reads_each_row}
use Rattle.np_read.proofs.Good.{Good, Starting, good_of}
use Rattle.np_read.proofs.GoodParts.{starts_expect, starts_either, starts_after, starts_both, starts_made, good_after, good_before, good_both, good_made, good_row}
use Rattle.np_read.proofs.Marked.{Placed, placed_expect, placed_same, placed_both, placed_made, placed_after, placed_before, placed_row}
use Rattle.np_read.proofs.PlacedParts.{MadeOr, reads_either_made, placed_either_made, made_refuses, both_refuses, either_avoids}
use Rattle.np_read.proofs.Spelled.{Reads, Avoids, Made, GoodPair, SamePair, reads_expect, reads_same, reads_both, reads_made, reads_after, reads_before}
use Rattle.np_words.specs.declared.word.Decimal.{Decimal}
use Rattle.np_words.specs.declared.word.Word.{Word}
use Rattle.np_words.specs.Bare.{bare_word}
use Rattle.np_conditions.specs.ConditionForm.{closed}
use Rattle.np_words.specs.ReadingForm.{name, name_of, number}
use Rattle.np_words.specs.Text.{spelled, marked, operator_lexeme}
use Rattle.np_words.specs.Text as text
use Rattle.np_words.specs.Written.{IsName, IsDecimal}
use Rattle.np_conditions.proofs.ConditionReads.{not_reserved}
use Rattle.np_syntax.proofs.Declarations.{after_left_avoids}
use Rattle.np_words.proofs.ExprStarts.{closes}
use Rattle.np_words.proofs.ReadingNumbers.{SameDecimal, starting_decimal, reads_decimal, placed_decimal}
use Rattle.np_words.proofs.ReadingWords.{SameWord, starting_name, reads_name, placed_name, name_avoids}

abbrev pub equals : Lexeme
equals = operator_lexeme (codes "=")

-- ---- how values are made, and which

abbrev pub alone_made : Word → Start
alone_made w = (w, [], true)

abbrev pub called_made : Word × List Word → Start
called_made x = (x.0, x.1, false)

abbrev pub atom_made : Word × List Word → Fact
atom_made x = f.Atom x.0 x.1

abbrev pub not_made : Word × List Word → Fact
not_made x = f.NotAtom x.0 x.1

abbrev pub value_made : Start × Decimal → Fact
value_made x = f.Value x.0.0 x.0.1 x.0.2 x.1

abbrev GoodNames : Word × List Word → Type 0
GoodNames = GoodPair IsName (All IsName)

abbrev GoodStart : Start → Type 0
GoodStart x = IsStart x.0 x.1 x.2

abbrev IsAlone : Start → Type 0
IsAlone = Made alone_made IsName

abbrev EitherStart : Start → Type 0
EitherStart = MadeOr called_made GoodNames IsAlone

start_is : (x : Start) → EitherStart x → GoodStart x
start_is x (inl h) = subst GoodStart h.2 h.4
start_is x (inr h) = subst GoodStart h.1 (h.2, refl)

is_start_by : (w : Word) (words : List Word) (alone : Bool) → IsStart w words alone → EitherStart (w, words, alone)
is_start_by w words true h = inr (subst (λ (ws : List Word). IsAlone (w, ws, true)) (sym h.1) (w, refl, h.0))
is_start_by w words false h = inl (tt, (w, words), refl, tt, h)

is_start : (x : Start) → GoodStart x → EitherStart x
is_start x h = is_start_by x.0 x.1 x.2 h

abbrev GoodValue : Start × Decimal → Type 0
GoodValue = GoodPair GoodStart IsDecimal

abbrev IsAtom : Fact → Type 0
IsAtom = Made atom_made GoodNames

abbrev FromValue : Fact → Type 0
FromValue = MadeOr value_made GoodValue IsAtom

abbrev FromNot : Fact → Type 0
FromNot = MadeOr not_made GoodNames FromValue

fact_is : (v : Fact) → FromNot v → IsFact v
fact_is v (inl h) = subst IsFact h.2 h.4
fact_is v (inr (inl h)) = subst IsFact h.2 h.4
fact_is v (inr (inr h)) = subst IsFact h.1 h.2

is_fact : (v : Fact) → IsFact v → FromNot v
is_fact (f.Atom w words) h = inr (inr ((w, words), refl, h))
is_fact (f.NotAtom w words) h = inl (tt, (w, words), refl, tt, h)
is_fact (f.Value w words alone d) h = inr (inl (tt, ((w, words, alone), d), refl, tt, h))

-- ---- the readers go by the next item, and are good

starting_names : Starting names
unfolding names
starting_names k = starts_both k name (row name) (starting_name k) (good_row name starting_name k)

good_names : (k : ℕ) → Good k names
good_names k = good_of k names (starting_names k)

pub starting_bare_start : Starting bare_start
unfolding bare_start
starting_bare_start k = starts_made k alone_made name (starting_name k)

starting_start : Starting start
unfolding start called_start
starting_start k = starts_either k left called_start bare_start (good_made k called_made names (good_names k)) (starting_bare_start k).tries

good_last_number : (k : ℕ) → Good k last_number
unfolding last_number
good_last_number k = good_before k number (expect right) (good_of k number (starting_decimal k)) (closes k)

pub starting_some_atom : Starting some_atom
unfolding some_atom
starting_some_atom k = starts_made k atom_made names (starting_names k)

good_value : (k : ℕ) → Good k value
unfolding value
good_value k = good_made k value_made (both start last_number) (good_both k start last_number (good_of k start (starting_start k)) (good_last_number k))

pub starting_from_value : Starting from_value
unfolding from_value
starting_from_value k = starts_either k equals value some_atom (good_value k) (starting_some_atom k).tries

good_not_atom : (k : ℕ) → Good k not_atom
unfolding not_atom
good_not_atom k =
    good_made k not_made (after (expect left) (closed names))
    (good_after k (expect left) (closed names) (good_of k (expect left) (starts_expect k left)) (good_before k names (expect right) (good_names k) (closes k)))

starting_from_not : Starting from_not
unfolding from_not
starting_from_not k = starts_either k (named (codes "not")) not_atom from_value (good_not_atom k) (starting_from_value k).tries

pub starting_fact : Starting fact
unfolding fact
starting_fact k = starts_after k (expect left) from_not (starts_expect k left) (good_of k from_not (starting_from_not k))

-- ---- read as they are spelled

-- no name is such a lexeme
abbrev NoName : Lexeme → Type 0
NoName lexeme = (place : Place) → name_of place lexeme ≡ None

abbrev print_names : Word × List Word → Printed
print_names x ls = printed.names spelled x.0 x.1 ls

abbrev SameNames : Word × List Word → Word × List Word → Type 0
SameNames = SamePair SameWord (λ xs ys. map bare_word xs ≡ map bare_word ys)

reads_names : Reads GoodNames print_names SameNames names
unfolding names
reads_names = reads_both reads_name (reads_each_row bare_word starting_name reads_name (name_avoids right (λ place. refl)))

names_refuse : (lexeme : Lexeme) → NoName lexeme → Avoids lexeme names
unfolding names
names_refuse lexeme none item items is = both_refuses name (row name) (item ∷ items) (name_avoids lexeme none item items is)

abbrev print_start : Start → Printed
print_start x ls = printed.start spelled x.0 x.1 x.2 ls

abbrev SameStart : Start → Start → Type 0
SameStart x y = SameWord x.0 y.0 × (map bare_word x.1 ≡ map bare_word y.1) × (x.2 ≡ y.2)

reads_alone : Reads IsAlone print_start SameStart bare_start
unfolding bare_start
reads_alone = reads_made alone_made print_start SameStart (λ w ls. refl) (λ a b h. (h, refl, refl)) reads_name

alone_avoids : (lexeme : Lexeme) → NoName lexeme → Avoids lexeme bare_start
unfolding bare_start
alone_avoids lexeme none item items is = made_refuses alone_made name (item ∷ items) (name_avoids lexeme none item items is)

reads_start : Reads GoodStart print_start SameStart start
unfolding start called_start
reads_start =
    reads_same GoodStart start_is is_start
    (reads_either_made left called_made (λ x ls. refl) (λ x y h. (h.0, h.1, refl)) reads_names reads_alone (starting_bare_start 0).tries.nothing (alone_avoids left (λ place. refl)))

-- the same but for places
abbrev pub SameFact : Fact → Fact → Type 0
SameFact a b = bare_fact a ≡ bare_fact b

abbrev SameValue : Start × Decimal → Start × Decimal → Type 0
SameValue = SamePair SameStart SameDecimal

same_atom : (x y : Word × List Word) → SameNames x y → SameFact (atom_made x) (atom_made y)
same_atom x y h = λ i. f.Atom (h.0 i) (h.1 i)

same_not : (x y : Word × List Word) → SameNames x y → SameFact (not_made x) (not_made y)
same_not x y h = λ i. f.NotAtom (h.0 i) (h.1 i)

same_value : (x y : Start × Decimal) → SameValue x y → SameFact (value_made x) (value_made y)
same_value x y h = λ i. f.Value (h.0.0 i) (h.0.1 i) (h.0.2 i) (h.1 i)

reads_last_number : Reads IsDecimal (λ (d : Decimal) ls. text.number spelled d (right ∷ ls)) SameDecimal last_number
unfolding last_number
reads_last_number = reads_before reads_decimal (reads_expect right)

reads_some_atom : Reads IsAtom (fact_inside spelled) SameFact some_atom
unfolding some_atom
reads_some_atom = reads_made atom_made (fact_inside spelled) SameFact (λ x ls. refl) same_atom reads_names

atom_avoids : (lexeme : Lexeme) → NoName lexeme → Avoids lexeme some_atom
unfolding some_atom
atom_avoids lexeme none item items is = made_refuses atom_made names (item ∷ items) (names_refuse lexeme none item items is)

reads_from_value : Reads FromValue (fact_inside spelled) SameFact from_value
unfolding from_value value
reads_from_value =
    reads_either_made equals value_made (λ x ls. refl) same_value (reads_both reads_start reads_last_number) reads_some_atom (starting_some_atom 0).tries.nothing (atom_avoids equals (λ place. refl))

value_avoids : (lexeme : Lexeme) → same_lexeme lexeme equals ≡ false → NoName lexeme → Avoids lexeme from_value
unfolding from_value
value_avoids lexeme differ none = either_avoids lexeme equals value some_atom differ (atom_avoids lexeme none)

reads_from_not : Reads FromNot (fact_inside spelled) SameFact from_not
unfolding from_not not_atom
reads_from_not =
    reads_either_made (named (codes "not")) not_made (λ x ls. refl) same_not (reads_after (reads_expect left) (reads_before reads_names (reads_expect right))) reads_from_value
    (starting_from_value 0).tries.nothing (value_avoids (named (codes "not")) refl not_reserved)

pub reads_fact : Reads IsFact (printed.fact spelled) SameFact fact
unfolding fact
reads_fact = reads_same IsFact fact_is is_fact (reads_after (reads_expect left) reads_from_not)

pub fact_ends : Avoids right fact
unfolding fact
fact_ends = after_left_avoids from_not right refl

-- ---- at their places

abbrev mark_names : Word × List Word → Marking
mark_names x ms = printed.names marked x.0 x.1 ms

placed_names : Placed GoodNames mark_names names
unfolding names
placed_names = placed_both placed_name (placed_row placed_name)

abbrev mark_start : Start → Marking
mark_start x ms = printed.start marked x.0 x.1 x.2 ms

placed_alone : Placed IsAlone mark_start bare_start
unfolding bare_start
placed_alone = placed_made alone_made mark_start (λ w ms. refl) placed_name

placed_start : Placed GoodStart mark_start start
unfolding start called_start
placed_start = placed_same GoodStart start_is (placed_either_made left called_made (λ x ms. refl) placed_names placed_alone)

placed_some_atom : Placed IsAtom (fact_inside marked) some_atom
unfolding some_atom
placed_some_atom = placed_made atom_made (fact_inside marked) (λ x ms. refl) placed_names

placed_from_value : Placed FromValue (fact_inside marked) from_value
unfolding from_value value last_number
placed_from_value =
    placed_either_made equals value_made (λ x ms. refl) (placed_both placed_start (placed_before placed_decimal (placed_expect right))) placed_some_atom

placed_from_not : Placed FromNot (fact_inside marked) from_not
unfolding from_not not_atom
placed_from_not =
    placed_either_made (named (codes "not")) not_made (λ x ms. refl) (placed_after (placed_expect left) (placed_before placed_names (placed_expect right))) placed_from_value

pub placed_fact : Placed IsFact (printed.fact marked) fact
unfolding fact
placed_fact = placed_same IsFact fact_is (placed_after (placed_expect left) placed_from_not)
