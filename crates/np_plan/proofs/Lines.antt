-- Lines are read by the items alone, as they are spelled, and stand at their places.
use Rattle.std.proofs.Common.{◌≡◌, Bool, true, false, cond, List, [], ◌∷◌, map, Option, None, Some, refl, sym, ap, subst, ◌∙◌, codes}
use Rattle.std.specs.List.{All}
use Rattle.std.specs.Option.{option_map}
use Rattle.std.specs.Prelude.{option_and_then}
use Rattle.np_lex.specs.declared.token.Place.{Place}
use Rattle.np_lex.specs.Tokens.{Lexeme, end, Item, left, right, numeral}
use Rattle.np_read.specs.Faults.{onto}
use Rattle.np_read.specs.Marks.{Mark, each}
use Rattle.np_read.specs.Printers.{Printed}
use Rattle.np_read.specs.ItemReaders.{expect, both, made, says, row}
use Rattle.np_read.specs.PlacedReaders.{token_by, place_if, placed}
use Rattle.np_read.proofs.Good.{Starting, good_of}
use Rattle.np_read.proofs.GoodParts.{starts_expect, starts_before, good_both, starts_both, starts_made, good_row}
use Rattle.np_read.proofs.Spelled.{Reads, Made, GoodPair, SamePair, reads_expect, reads_before, reads_both, reads_made, reads_same}
use Rattle.np_read.proofs.EachRows.{reads_each_row}
use Rattle.np_read.proofs.Marked.{Placed, plain, placed_expect, placed_before, placed_both, placed_made, placed_same, placed_row}
use Rattle.np_read.proofs.PlacedParts.{IsAnyPlace, SamePlace, starts_token, starts_placed, reads_token, placed_token, says_spelled, says_marked, token_refuses, before_refuses, both_refuses, made_refuses, reads_placed, placed_placed}
use Rattle.np_words.specs.declared.word.Decimal.{Decimal}
use Rattle.np_words.specs.declared.word.Word.{Word}
use Rattle.np_words.specs.Bare.{nowhere, bare_word, bare_decimal}
use Rattle.np_words.specs.ReadingForm.{number_of, number, name}
use Rattle.np_words.specs.Text.{decimal_text, spelled, marked}
use Rattle.np_words.specs.Text as words
use Rattle.np_words.specs.Written.{is_decimal, IsName}
use Rattle.np_words.proofs.ReadingNumbers.{SameDecimal, decimal_at, decimal_back, reads_decimal, placed_decimal}
use Rattle.np_words.proofs.ReadingWords.{starting_name, reads_name, placed_name, name_avoids}
use Rattle.np_plan.specs.declared.plan.PlanLine.{PlanLine}
use Rattle.np_plan.specs.PlanForm.{colon, if_unsigned, unsigned_of, unsigned, stamp, stamp_if, call, line_of, line}
use Rattle.np_plan.specs.PlanText.{IsStamp, IsStampIf, IsLine, bare_line}
use Rattle.np_plan.specs.PlanText as text
use Rattle.np_plan.proofs.ToEnd.{AvoidsEnd}

-- ---- numbers without a sign

unsigned_by : (c d : Decimal) (negative : Bool) → c.negative ≡ negative → cond negative None (Some c) ≡ Some d → (c ≡ d) × (c.negative ≡ false)
unsigned_by c d true is e = absurd cc
unsigned_by c d false is e = ((let same : c ≡ d = cc in same), is)

unsigned_parts : (o : Option Decimal) (d : Decimal) → option_and_then if_unsigned o ≡ Some d → (o ≡ Some d) × (d.negative ≡ false)
unsigned_parts None d e = absurd cc
unsigned_parts (Some c) d e =
    let h = unsigned_by c d c.negative refl e in
    (ap (λ (x : Decimal). Some x) h.0, subst (λ (x : Decimal). x.negative ≡ false) h.0 h.1)

unsigned_said : (o : Option Decimal) (d : Decimal) → o ≡ Some d → d.negative ≡ false → option_and_then if_unsigned o ≡ Some d
unsigned_said o d e is = ap (option_and_then if_unsigned) e ∙ ap (λ (negative : Bool). cond negative None (Some d)) is

abbrev stamp_lexeme : Decimal → Lexeme
stamp_lexeme d = numeral (decimal_text d)

stamp_spelled : (place : Place) (lexeme : Lexeme) (d : Decimal) → unsigned_of place lexeme ≡ Some d → IsStamp d × (lexeme ≡ stamp_lexeme d)
unfolding number
stamp_spelled place lexeme d e =
    let h = unsigned_parts (number_of place lexeme) d e in
    let k = says_spelled number_of stamp_lexeme SameDecimal reads_decimal place lexeme d h.0 in
    ((k.0, h.1), k.1)

stamp_back : (place : Place) (d : Decimal) → IsStamp d → unsigned_of place (stamp_lexeme d) ≡ Some (decimal_at place d)
stamp_back place d h = unsigned_said (number_of place (stamp_lexeme d)) (decimal_at place d) (decimal_back place d h.0) h.1

reads_unsigned : Reads IsStamp (words.number spelled) SameDecimal unsigned
unfolding unsigned
reads_unsigned = reads_token unsigned_of IsStamp stamp_lexeme SameDecimal stamp_spelled (λ place d h. (decimal_at place d, stamp_back place d h, refl))

placed_unsigned : Placed IsStamp (words.number marked) unsigned
unfolding unsigned number
placed_unsigned =
    placed_token unsigned_of IsStamp (λ d. marked (d.place ∷ []) (stamp_lexeme d))
    (λ place lexeme d e.
    let h = unsigned_parts (number_of place lexeme) d e in
    let k = says_marked number_of (λ d. marked (d.place ∷ []) (stamp_lexeme d)) placed_decimal place lexeme d h.0 in
    ((k.0, h.1), k.1))

zero_stamp : Decimal
zero_stamp = record { negative = false; whole = codes "0"; part = None; place = nowhere }

is_zero_stamp : IsStamp zero_stamp
unfolding zero_stamp is_decimal
is_zero_stamp = (refl, refl)

starting_unsigned : Starting unsigned
unfolding unsigned
starting_unsigned k = starts_token k unsigned_of nowhere (stamp_lexeme zero_stamp) (decimal_at nowhere zero_stamp) (stamp_back nowhere zero_stamp is_zero_stamp)

-- ---- stamps

starting_stamp : Starting stamp
unfolding stamp
starting_stamp k = starts_before k unsigned (expect colon) (starting_unsigned k) (good_of k (expect colon) (starts_expect k colon))

abbrev stamp_print : Decimal → Printed
stamp_print d ls = words.number spelled d (colon ∷ ls)

reads_stamp : Reads IsStamp stamp_print SameDecimal stamp
unfolding stamp
reads_stamp = reads_before reads_unsigned (reads_expect colon)

placed_stamp : Placed IsStamp (λ (d : Decimal) (ms : List Mark). words.number marked d (plain colon ∷ ms)) stamp
unfolding stamp
placed_stamp = placed_before placed_unsigned (placed_expect colon)

abbrev SameStamp : Option Decimal → Option Decimal → Type 0
SameStamp a b = option_map bare_decimal a ≡ option_map bare_decimal b

some_stamp : (s : Option Decimal) → Made (λ d. Some d) IsStamp s → IsStampIf true s
some_stamp s h = subst (IsStampIf true) h.1 h.2

stamp_some : (s : Option Decimal) → IsStampIf true s → Made (λ d. Some d) IsStamp s
stamp_some None h = absurd h
stamp_some (Some d) h = (d, refl, h)

reads_stamp_if : (stamped : Bool) → Reads (IsStampIf stamped) (text.stamp spelled) SameStamp (stamp_if stamped)
reads_stamp_if true =
    reads_same (IsStampIf true) some_stamp stamp_some (reads_made (λ d. Some d) (text.stamp spelled) SameStamp (λ d ls. refl) (λ a b same. ap (λ (d : Decimal). Some d) same) reads_stamp)
reads_stamp_if false = record {
  sound = λ items. record { good = refl; spelled = λ ls others e. e };
  back = λ items s ls others h e. record { same = ap (option_map bare_decimal) (sym h); left_are = e ∙ ap (λ (t : Option Decimal). onto (text.stamp spelled t ls) others) h };
}

placed_stamp_if : (stamped : Bool) → Placed (IsStampIf stamped) (text.stamp marked) (stamp_if stamped)
placed_stamp_if true = placed_same (IsStampIf true) some_stamp (placed_made (λ d. Some d) (text.stamp marked) (λ d ms. refl) placed_stamp)
placed_stamp_if false = record { placed = λ items. record { good = refl; fits = λ ms others h. h } }

-- ---- calls

starting_call : Starting call
unfolding call
starting_call k = starts_both k (placed left) (both name (row name)) (starts_placed k left) (good_both k name (row name) (good_of k name (starting_name k)) (good_row name starting_name k))

abbrev Parts : Type 0
Parts = Place × (Word × List Word)

abbrev IsParts : Parts → Type 0
IsParts = GoodPair IsAnyPlace (GoodPair IsName (All IsName))

abbrev call_print : Parts → Printed
call_print x ls = left ∷ words.name spelled x.1.0 (each (words.name spelled) x.1.1 (right ∷ ls))

abbrev SameParts : Parts → Parts → Type 0
SameParts = SamePair SamePlace (SamePair (λ a b. bare_word a ≡ bare_word b) (λ as_ bs. map bare_word as_ ≡ map bare_word bs))

reads_call : Reads IsParts call_print SameParts call
unfolding call
reads_call = reads_both (reads_placed left) (reads_both reads_name (reads_each_row bare_word starting_name reads_name (name_avoids right (λ place. refl))))

placed_call : Placed IsParts (λ (x : Parts) (ms : List Mark). marked (x.0 ∷ []) left ∷ words.name marked x.1.0 (each (words.name marked) x.1.1 (plain right ∷ ms))) call
unfolding call
placed_call = placed_both (placed_placed left) (placed_both placed_name (placed_row placed_name))

-- ---- lines

starting_line_by : (stamped : Bool) → Starting (line stamped)
unfolding line
starting_line_by true k =
    starts_made k line_of (both (stamp_if true) call)
    (starts_both k (stamp_if true) call (starts_made k (λ d. Some d) stamp (starting_stamp k)) (good_of k call (starting_call k)))
starting_line_by false k = starts_made k line_of (made (λ x. (None, x)) call) (starts_made k (λ x. (None, x)) call (starting_call k))

pub starting_line : (stamped : Bool) → Starting (line stamped)
starting_line stamped = starting_line_by stamped

abbrev pub SameLine : PlanLine → PlanLine → Type 0
SameLine a b = bare_line a ≡ bare_line b

abbrev All_parts : Bool → Option Decimal × Parts → Type 0
All_parts stamped = GoodPair (IsStampIf stamped) IsParts

made_line : (stamped : Bool) (l : PlanLine) → Made line_of (All_parts stamped) l → IsLine stamped l
made_line stamped l h = subst (IsLine stamped) h.1 (record { stamp = h.2.0; action = h.2.1.1.0; objects = h.2.1.1.1 })

line_made : (stamped : Bool) (l : PlanLine) → IsLine stamped l → Made line_of (All_parts stamped) l
line_made stamped l h = ((l.stamp, (l.place, (l.action, l.objects))), refl, (h.stamp, (tt, (h.action, h.objects))))

same_line : (a b : Option Decimal × Parts) → SamePair SameStamp SameParts a b → SameLine (line_of a) (line_of b)
same_line a b h = λ i. record { stamp = h.0 i; place = nowhere; action = h.1.1.0 i; objects = h.1.1.1 i }

pub reads_line : (stamped : Bool) → Reads (IsLine stamped) (text.line spelled) SameLine (line stamped)
unfolding line
reads_line stamped =
    reads_same (IsLine stamped) (made_line stamped) (line_made stamped)
    (reads_made line_of (text.line spelled) SameLine (λ x ls. refl) same_line (reads_both (reads_stamp_if stamped) reads_call))

pub placed_line : (stamped : Bool) → Placed (IsLine stamped) (text.line marked) (line stamped)
unfolding line
placed_line stamped = placed_same (IsLine stamped) (made_line stamped) (placed_made line_of (text.line marked) (λ x ms. refl) (placed_both (placed_stamp_if stamped) placed_call))

-- ---- the end is no line

silent_end : {A : Type 0} (value : Place → Lexeme → Option A) (item : Item) → item.piece ≡ end → says (value item.place) item.piece ≡ None
silent_end value item is = ap (says (value item.place)) is

stamp_avoids_end : AvoidsEnd stamp
unfolding stamp unsigned
stamp_avoids_end item items is = before_refuses (token_by unsigned_of) (expect colon) (item ∷ items) (token_refuses unsigned_of item items (silent_end unsigned_of item is))

call_avoids_end : AvoidsEnd call
unfolding call
call_avoids_end item items is = both_refuses (placed left) (both name (row name)) (item ∷ items) (left_refuses item items is)
  where
    left_refuses : AvoidsEnd (placed left)
    left_refuses item items is = token_refuses (place_if left) item items (silent_end (place_if left) item is)

pub line_avoids_end : (stamped : Bool) → AvoidsEnd (line stamped)
unfolding line
line_avoids_end true item items is =
    made_refuses line_of (both (stamp_if true) call) (item ∷ items) (both_refuses (stamp_if true) call (item ∷ items) (made_refuses (λ d. Some d) stamp (item ∷ items) (stamp_avoids_end item items is)))
line_avoids_end false item items is =
    made_refuses line_of (made (λ x. (None, x)) call) (item ∷ items) (made_refuses (λ x. (None, x)) call (item ∷ items) (call_avoids_end item items is))
