-- Each part of a certificate: what is read is spelled so, and what is spelled so is read.
use Rattle.std.proofs.Common.{◌≡◌, ℕ, ◌^◌, ◌<◌, ◌⊎◌, inl, inr, ℤ, false, List, [], ◌∷◌, length, Ok, Err, refl, sym, ap, subst, ◌∙◌, arith, codes, true≢false}
use Rattle.std.specs.Prelude.{unsigned_abs}
use Rattle.std.specs.List.{All}
use Rattle.std.proofs.lemmas.Fmt.{decimal_digit}
use Rattle.np_lex.specs.Tokens.{Lexeme, left, right, named, numeral}
use Rattle.np_lex.specs.Tokens as tokens
use Rattle.np_count.specs.declared.proof.Row.{Row}
use Rattle.np_count.specs.declared.proof.Row.TheVariants.{Demand, Flow, FlowNot, Floor, Cut}
use Rattle.np_count.specs.declared.proof.Proof.{Proof}
use Rattle.np_cert.specs.declared.certificate.Limit.{Limit}
use Rattle.np_cert.specs.declared.certificate.Limit.TheVariants.{Number, Absent}
use Rattle.np_cert.specs.declared.certificate.Why.{Why}
use Rattle.np_cert.specs.declared.certificate.Why.TheVariants as why
use Rattle.np_cert.specs.declared.certificate.Entry.{Entry}
use Rattle.np_cert.specs.declared.certificate.Certificate.{Certificate}
use Rattle.np_cert.specs.Text.{most, IsWord, IsLimit, IsWrittenRow, IsWrittenItem, IsWrittenProof, IsWrittenNumber, IsWrittenReason, IsWrittenEntry, IsWritten}
use Rattle.np_cert.specs.Text as printed
use Rattle.np_read.specs.Same.{same_lexeme}
use Rattle.np_read.specs.Faults.{onto}
use Rattle.np_read.specs.Printers.{Printed, all}
use Rattle.np_read.specs.Printers as printers
use Rattle.np_read.specs.ItemReaders.{Outcome, Reader, and_then, pure, refuse, expect, open_with, after, before, both, made, further}
use Rattle.np_read.specs.ItemReaders as steps
use Rattle.np_cert.specs.ReadingForm.{natural, limit, number, last_number, demand, flow, flow_not, floor, cut, from_cut, from_floor, from_flow_not, from_flow, row, item, proof, proofs, number_of, table, proof_number, proof_or_table, long_reason, reason, facts, values, entry, claim, entries, certificate}
use Rattle.np_read.proofs.Same.{same_lexeme-refl}
use Rattle.np_read.proofs.Good.{Starting}
use Rattle.np_read.proofs.ItemChoices.{expect_refused, expect_nothing, either_other}
use Rattle.np_read.proofs.GoodParts.{either_nothing}
use Rattle.np_read.proofs.Spelled.{Reads, Spelled, Back, weaker, weaker_find, Avoids, Made, GoodPair, SamePair, print_pair, HasOne, all_same, reads_pure, reads_expect, reads_open, reads_either, reads_same, reads_both, reads_made, reads_after, reads_before, reads_row, reads_some}
use Rattle.np_cert.proofs.ReadingNumbers.{reads_natural, reads_integer, natural_avoids, integer_avoids, starts_integer}
use Rattle.np_cert.proofs.ReadingStarts.{starting_fact, starting_number, starting_number_of, starting_item, starting_proof, starting_entry}

-- ---- what begins otherwise

other_lexemes : (a b : Lexeme) → same_lexeme a b ≡ false → a ≡ b → ⊥
other_lexemes a b differ e = true≢false (sym (same_lexeme-refl a) ∙ ap (same_lexeme a) e ∙ differ)

pub other_words : (a b : Lexeme) (piece : tokens.Piece) → same_lexeme a b ≡ false → piece ≡ tokens.word a → piece ≡ tokens.word b → ⊥
other_words a b piece differ is also = other_lexemes a b differ (let same : tokens.word a ≡ tokens.word b = sym is ∙ also in let inside : a ≡ b = cc in inside)

expect_avoids : (lexeme other : Lexeme) → same_lexeme lexeme other ≡ false → Avoids lexeme (expect other)
expect_avoids lexeme other differ item items is = expect_refused other item items (other_words lexeme other item.piece differ is)

after_avoids : {A : Type 0} (lexeme : Lexeme) (first : Reader (Unit {0})) (p : Reader A) → Avoids lexeme first → Avoids lexeme (after first p)
after_avoids lexeme first p avoids item items is = ap (λ (x : Outcome (Unit {0})). and_then x (λ _. p)) (avoids item items is)

open_avoids : {A : Type 0} (other : Lexeme) (p : Reader A) → Avoids right (after (open_with other) p)
open_avoids other p = after_avoids right (open_with other) p (after_avoids right (expect left) (expect other) (expect_avoids right left refl))

either_avoids : {A : Type 0} (lexeme other : Lexeme) (first second : Reader A) → same_lexeme lexeme other ≡ false → Avoids lexeme second → Avoids lexeme (steps.either other first second)
either_avoids lexeme other first second differ avoids item items is =
    either_other other first second item items (other_words lexeme other item.piece differ is) ∙ avoids item items is

pub after_nothing : {A : Type 0} (other : Lexeme) (p : Reader A) → after (expect other) p [] ≡ Err []
after_nothing other p = ap (λ (x : Outcome (Unit {0})). and_then x (λ _. p)) (expect_nothing other)

-- ---- the laws, said of values as they are

module _ {A : Type 0} {P : A → Type 0} {f : A → Printed} {S : A → A → Type 0} {p : Reader A} (one : Reads P f S p) where
  exactly : ((a b : A) → S a b → a ≡ b) → Reads P f ◌≡◌ p
  exactly same = record {
    sound = one.sound;
    back = λ items a ls others h e.
        weaker_find (Back S a (onto ls others)) (Back ◌≡◌ a (onto ls others)) (p items) (λ b rest m. record { same = same b a m.same; left_are = m.left_are }) (one.back items a ls others h e);
  }

  -- by another printer that prints the same
  reprinted : (g : A → Printed) → ((a : A) (ls : List Lexeme) → P a → g a ls ≡ f a ls) → Reads P g S p
  reprinted g prints = record {
    sound = λ items.
        weaker (Spelled P f items) (Spelled P g items) (p items)
        (λ a rest h. record { good = h.good; spelled = λ ls others e. h.spelled ls others e ∙ ap (λ (all_of : List Lexeme). onto all_of others) (sym (prints a ls h.good)) }) (one.sound items);
    back = λ items a ls others h e. one.back items a ls others h (e ∙ ap (λ (all_of : List Lexeme). onto all_of others) (prints a ls h));
  }

-- a value that is made of what is read
reads_value : {A B : Type 0} {P : A → Type 0} {f : A → Printed} {p : Reader A} (make : A → B) (print : B → Printed) → ((a : A) (ls : List Lexeme) → print (make a) ls ≡ f a ls) → Reads P f ◌≡◌ p → Reads (Made make P) print ◌≡◌ (made make p)
reads_value make print prints one = reads_made make print ◌≡◌ prints (λ a b e. ap make e) one

-- what is so of the values that are made of good ones is so of a value
of_made : {A B : Type 0} (make : A → B) (P : A → Type 0) (Q : B → Type 0) → ((a : A) → P a → Q (make a)) → (b : B) → Made make P b → Q b
of_made make P Q holds b h = subst Q h.1 (holds h.0 h.2)

pair_same : {A B : Type 0} (x y : A × B) → SamePair ◌≡◌ ◌≡◌ x y → x ≡ y
pair_same x y h = λ i. (h.0 i, h.1 i)

reads_pair : {A B : Type 0} {P : A → Type 0} {Q : B → Type 0} {f : A → Printed} {g : B → Printed} {p : Reader A} {q : Reader B} → Reads P f ◌≡◌ p → Reads Q g ◌≡◌ q → Reads (GoodPair P Q) (print_pair f g) ◌≡◌ (both p q)
reads_pair one two = exactly (reads_both one two) pair_same

reads_list : {A : Type 0} {P : A → Type 0} {f : A → Printed} {p : Reader A} → Starting p → Reads P f ◌≡◌ p → Avoids right p → Reads (All P) (λ (xs : List A) (ls : List Lexeme). all f xs (right ∷ ls)) ◌≡◌ (steps.row p)
reads_list starting one avoids = exactly (reads_row starting one avoids) all_same

-- ---- limits

limit_nothing : made (λ n. Number n) (natural most) [] ≡ Err []
unfolding natural steps.number_by
limit_nothing = refl

number_after_none : Avoids (named (codes "none")) (made (λ n. Number n) (natural most))
number_after_none item items is = ap (λ (x : Outcome ℕ). and_then x (λ n rest. Ok (Number n, rest))) (natural_avoids (named (codes "none")) refl most item items is)

abbrev AnyLimit : Limit → Type 0
AnyLimit a = (a ≡ Absent) ⊎ Made (λ n. Number n) (λ n. n < most) a

written_limit : (a : Limit) → AnyLimit a → IsLimit a
written_limit a (inl e) = subst IsLimit (sym e) tt
written_limit a (inr h) = of_made (λ n. Number n) (λ n. n < most) IsLimit (λ n below. below) a h

any_limit : (a : Limit) → IsLimit a → AnyLimit a
any_limit (Number n) h = inr (n, refl, h)
any_limit Absent h = inl refl

reads_limit : Reads IsLimit printed.limit ◌≡◌ limit
unfolding limit
reads_limit =
    reads_same IsLimit written_limit any_limit
    (reads_either (named (codes "none")) (reads_pure Absent) (reads_value (λ n. Number n) printed.limit (λ n ls. refl) (reads_natural most (omega arith)))
    (λ a ls e. ap (λ (l : Limit). printed.limit l ls) e) limit_nothing number_after_none)

-- ---- rows

-- what follows the word of a row
abbrev after_word : Row → Printed
after_word (Demand form) rest = printed.natural form (printers.right rest)
after_word (Flow fact) rest = printed.natural fact (printers.right rest)
after_word (FlowNot fact) rest = printed.natural fact (printers.right rest)
after_word (Floor form least) rest = printed.natural form (printed.integer least (printers.right rest))
after_word (Cut subgoals) rest = all printed.natural subgoals (printers.right rest)

-- the numbers of a floor, without the bracket
abbrev floor_print : Row → Printed
floor_print (Floor form least) rest = printed.natural form (printed.integer least rest)
floor_print (Demand form) rest = rest
floor_print (Flow fact) rest = rest
floor_print (FlowNot fact) rest = rest
floor_print (Cut subgoals) rest = rest

abbrev IsBelow : ℤ → Type 0
IsBelow v = unsigned_abs v < most

abbrev floor_of : ℕ × ℤ → Row
floor_of x = Floor x.0 x.1

abbrev IsSome : List ℕ → Type 0
IsSome xs = HasOne xs × All IsWord xs

-- the kinds, each with those that are tried after it
abbrev IsDemand : Row → Type 0
IsDemand = Made (λ n. Demand n) IsWord

abbrev IsFlow : Row → Type 0
IsFlow = Made (λ n. Flow n) IsWord

abbrev IsFlowNot : Row → Type 0
IsFlowNot = Made (λ n. FlowNot n) IsWord

abbrev IsFloor : Row → Type 0
IsFloor = Made floor_of (GoodPair IsWord IsBelow)

abbrev IsCut : Row → Type 0
IsCut = Made (λ us. Cut us) IsSome

abbrev FromFloor : Row → Type 0
FromFloor a = IsFloor a ⊎ IsCut a

abbrev FromFlowNot : Row → Type 0
FromFlowNot a = IsFlowNot a ⊎ FromFloor a

abbrev FromFlow : Row → Type 0
FromFlow a = IsFlow a ⊎ FromFlowNot a

abbrev AnyRow : Row → Type 0
AnyRow a = IsDemand a ⊎ FromFlow a

reads_number : Reads IsWord printed.natural ◌≡◌ number
reads_number = reads_natural (2 ^ 64) (omega arith)

reads_last : Reads IsWord (λ (n : ℕ) (ls : List Lexeme). printed.natural n (right ∷ ls)) ◌≡◌ last_number
unfolding last_number
reads_last = reads_before reads_number (reads_expect right)

reads_demand : Reads IsDemand after_word ◌≡◌ demand
unfolding demand
reads_demand = reads_value (λ n. Demand n) after_word (λ n ls. refl) reads_last

reads_flow : Reads IsFlow after_word ◌≡◌ flow
unfolding flow
reads_flow = reads_value (λ n. Flow n) after_word (λ n ls. refl) reads_last

reads_flow_not : Reads IsFlowNot after_word ◌≡◌ flow_not
unfolding flow_not
reads_flow_not = reads_value (λ n. FlowNot n) after_word (λ n ls. refl) reads_last

reads_floor : Reads IsFloor after_word ◌≡◌ floor
unfolding floor
reads_floor =
    reprinted (reads_before (reads_value floor_of floor_print (λ x ls. refl) (reads_pair reads_number reads_integer)) (reads_expect right)) after_word
    (λ a ls h. subst (λ (r : Row). after_word r ls ≡ floor_print r (right ∷ ls)) h.1 refl)

reads_cut : Reads IsCut after_word ◌≡◌ cut
unfolding cut
reads_cut =
    reads_value (λ us. Cut us) after_word (λ us ls. refl)
    (exactly (reads_some starting_number reads_number (natural_avoids right refl (2 ^ 64))) all_same)

reads_from_cut : Reads IsCut printed.row ◌≡◌ from_cut
unfolding from_cut
reads_from_cut =
    reprinted (reads_after (reads_expect (named (codes "cut"))) reads_cut) printed.row
    (λ a ls h. subst (λ (r : Row). printed.row r ls ≡ named (codes "cut") ∷ after_word r ls) h.1 refl)

cut_avoids : (lexeme : Lexeme) → same_lexeme lexeme (named (codes "cut")) ≡ false → Avoids lexeme from_cut
unfolding from_cut
cut_avoids lexeme differ = after_avoids lexeme (expect (named (codes "cut"))) cut (expect_avoids lexeme (named (codes "cut")) differ)

pub cut_nothing : from_cut [] ≡ Err []
unfolding from_cut
cut_nothing = after_nothing (named (codes "cut")) cut

reads_from_floor : Reads FromFloor printed.row ◌≡◌ from_floor
unfolding from_floor
reads_from_floor =
    reads_either (named (codes "floor")) reads_floor reads_from_cut (λ a ls h. subst (λ (r : Row). printed.row r ls ≡ named (codes "floor") ∷ after_word r ls) h.1 refl) cut_nothing
    (cut_avoids (named (codes "floor")) refl)

floor_avoids : (lexeme : Lexeme) → same_lexeme lexeme (named (codes "floor")) ≡ false → same_lexeme lexeme (named (codes "cut")) ≡ false → Avoids lexeme from_floor
unfolding from_floor
floor_avoids lexeme differ more = either_avoids lexeme (named (codes "floor")) floor from_cut differ (cut_avoids lexeme more)

pub floor_nothing : from_floor [] ≡ Err []
unfolding from_floor
floor_nothing = either_nothing (named (codes "floor")) floor from_cut

reads_from_flow_not : Reads FromFlowNot printed.row ◌≡◌ from_flow_not
unfolding from_flow_not
reads_from_flow_not =
    reads_either (named (codes "flow-not")) reads_flow_not reads_from_floor (λ a ls h. subst (λ (r : Row). printed.row r ls ≡ named (codes "flow-not") ∷ after_word r ls) h.1 refl) floor_nothing
    (floor_avoids (named (codes "flow-not")) refl refl)

flow_not_avoids : (lexeme : Lexeme) → same_lexeme lexeme (named (codes "flow-not")) ≡ false → Avoids lexeme from_floor → Avoids lexeme from_flow_not
unfolding from_flow_not
flow_not_avoids lexeme differ more = either_avoids lexeme (named (codes "flow-not")) flow_not from_floor differ more

pub flow_not_nothing : from_flow_not [] ≡ Err []
unfolding from_flow_not
flow_not_nothing = either_nothing (named (codes "flow-not")) flow_not from_floor

reads_from_flow : Reads FromFlow printed.row ◌≡◌ from_flow
unfolding from_flow
reads_from_flow =
    reads_either (named (codes "flow")) reads_flow reads_from_flow_not (λ a ls h. subst (λ (r : Row). printed.row r ls ≡ named (codes "flow") ∷ after_word r ls) h.1 refl) flow_not_nothing
    (flow_not_avoids (named (codes "flow")) refl (floor_avoids (named (codes "flow")) refl refl))

flow_avoids : (lexeme : Lexeme) → same_lexeme lexeme (named (codes "flow")) ≡ false → Avoids lexeme from_flow_not → Avoids lexeme from_flow
unfolding from_flow
flow_avoids lexeme differ more = either_avoids lexeme (named (codes "flow")) flow from_flow_not differ more

pub flow_nothing : from_flow [] ≡ Err []
unfolding from_flow
flow_nothing = either_nothing (named (codes "flow")) flow from_flow_not

has_one : (us : List ℕ) → HasOne us → 0 < length us
has_one [] h = absurd h
has_one (u ∷ us) h = omega arith

some_one : (us : List ℕ) → 0 < length us → HasOne us
some_one [] h = absurd (omega arith)
some_one (u ∷ us) h = tt

written_row : (a : Row) → AnyRow a → IsWrittenRow a
written_row a (inl h) = of_made (λ n. Demand n) IsWord IsWrittenRow (λ n word. word) a h
written_row a (inr (inl h)) = of_made (λ n. Flow n) IsWord IsWrittenRow (λ n word. word) a h
written_row a (inr (inr (inl h))) = of_made (λ n. FlowNot n) IsWord IsWrittenRow (λ n word. word) a h
written_row a (inr (inr (inr (inl h)))) = of_made floor_of (GoodPair IsWord IsBelow) IsWrittenRow (λ x pair. pair) a h
written_row a (inr (inr (inr (inr h)))) = of_made (λ us. Cut us) IsSome IsWrittenRow (λ us some. (has_one us some.0, some.1)) a h

any_row : (a : Row) → IsWrittenRow a → AnyRow a
any_row (Demand n) h = inl (n, refl, h)
any_row (Flow n) h = inr (inl (n, refl, h))
any_row (FlowNot n) h = inr (inr (inl (n, refl, h)))
any_row (Floor n least) h = inr (inr (inr (inl ((n, least), refl, h))))
any_row (Cut us) h = inr (inr (inr (inr (us, refl, (some_one us h.0, h.1)))))

reads_kind : Reads IsWrittenRow printed.row ◌≡◌ row
unfolding row
reads_kind =
    reads_same IsWrittenRow written_row any_row
    (reads_either (named (codes "demand")) reads_demand reads_from_flow (λ a ls h. subst (λ (r : Row). printed.row r ls ≡ named (codes "demand") ∷ after_word r ls) h.1 refl) flow_nothing
    (flow_avoids (named (codes "demand")) refl (flow_not_avoids (named (codes "demand")) refl (floor_avoids (named (codes "demand")) refl refl))))

-- ---- proofs

reads_item : Reads IsWrittenItem printed.item ◌≡◌ item
unfolding item
reads_item = reads_after (reads_expect left) (reads_pair reads_number reads_kind)

item_avoids : Avoids right item
unfolding item
item_avoids = after_avoids right (expect left) (both number row) (expect_avoids right left refl)

abbrev proof_of : ℕ × List (ℕ × Row) → Proof
proof_of x = record { divisor = x.0; items = x.1 }

abbrev proof_print : Proof → Printed
proof_print p rest = printed.natural p.divisor (all printed.item p.items (printers.right rest))

reads_proof : Reads IsWrittenProof printed.proof ◌≡◌ proof
unfolding proof
reads_proof =
    reads_after (reads_open (named (codes "proof")))
    (reads_same IsWrittenProof (of_made proof_of (GoodPair IsWord (All IsWrittenItem)) IsWrittenProof (λ x h. h)) (λ p h. ((p.divisor, p.items), refl, h))
    (reads_value proof_of proof_print (λ x ls. refl) (reads_pair reads_number (reads_list starting_item reads_item item_avoids))))

proof_avoids : Avoids right proof
unfolding proof
proof_avoids = open_avoids (named (codes "proof")) (made proof_of (both number (steps.row item)))

reads_proofs : Reads (All IsWrittenProof) (λ (ps : List Proof) (ls : List Lexeme). left ∷ named (codes "proofs") ∷ all printed.proof ps (right ∷ ls)) ◌≡◌ proofs
unfolding proofs
reads_proofs = reads_after (reads_open (named (codes "proofs"))) (reads_list starting_proof reads_proof proof_avoids)

-- ---- reasons

reads_any : Reads (λ n. n < most) printed.natural ◌≡◌ (natural most)
reads_any = reads_natural most (omega arith)

reads_number_of : Reads IsWrittenNumber printed.number_of ◌≡◌ number_of
unfolding number_of
reads_number_of = reads_after (reads_expect left) (reads_before (reads_pair reads_any reads_limit) (reads_expect right))

number_of_avoids : Avoids right number_of
unfolding number_of
number_of_avoids = after_avoids right (expect left) (before (both (natural most) limit) (expect right)) (expect_avoids right left refl)

-- what follows the bracket and the word of a reason
abbrev after_reason : Why → Printed
after_reason why.Expanded rest = rest
after_reason (why.Proof number) rest = printed.natural number (printers.right rest)
after_reason (why.Table numbers) rest = all printed.number_of numbers (printers.right rest)

-- what follows the bracket
abbrev after_left : Why → Printed
after_left why.Expanded rest = rest
after_left (why.Proof number) rest = printers.name (codes "proof") (printed.natural number (printers.right rest))
after_left (why.Table numbers) rest = printers.name (codes "table") (all printed.number_of numbers (printers.right rest))

-- a proof's number, without the bracket
abbrev number_alone : Why → Printed
number_alone why.Expanded rest = rest
number_alone (why.Proof number) rest = printed.natural number rest
number_alone (why.Table numbers) rest = rest

abbrev ByProof : Why → Type 0
ByProof = Made (λ n. why.Proof n) (λ n. n < most)

abbrev ByTable : Why → Type 0
ByTable = Made (λ ns. why.Table ns) (All IsWrittenNumber)

reads_proof_number : Reads ByProof after_reason ◌≡◌ proof_number
unfolding proof_number
reads_proof_number =
    reprinted (reads_before (reads_value (λ n. why.Proof n) number_alone (λ n ls. refl) reads_any) (reads_expect right)) after_reason
    (λ a ls h. subst (λ (w : Why). after_reason w ls ≡ number_alone w (right ∷ ls)) h.1 refl)

reads_table : Reads ByTable after_reason ◌≡◌ table
unfolding table
reads_table = reads_value (λ ns. why.Table ns) after_reason (λ ns ls. refl) (reads_list starting_number_of reads_number_of number_of_avoids)

reads_by_table : Reads ByTable after_left ◌≡◌ (after (expect (named (codes "table"))) table)
reads_by_table =
    reprinted (reads_after (reads_expect (named (codes "table"))) reads_table) after_left
    (λ a ls h. subst (λ (w : Why). after_left w ls ≡ named (codes "table") ∷ after_reason w ls) h.1 refl)

abbrev IsLong : Why → Type 0
IsLong a = ByProof a ⊎ ByTable a

reads_proof_or_table : Reads IsLong after_left ◌≡◌ proof_or_table
unfolding proof_or_table
reads_proof_or_table =
    reads_either (named (codes "proof")) reads_proof_number reads_by_table (λ a ls h. subst (λ (w : Why). after_left w ls ≡ named (codes "proof") ∷ after_reason w ls) h.1 refl)
    (after_nothing (named (codes "table")) table) (after_avoids (named (codes "proof")) (expect (named (codes "table"))) table (expect_avoids (named (codes "proof")) (named (codes "table")) refl))

long_print : (a : Why) (ls : List Lexeme) → IsLong a → printed.reason a ls ≡ left ∷ after_left a ls
long_print a ls (inl h) = subst (λ (w : Why). printed.reason w ls ≡ left ∷ after_left w ls) h.1 refl
long_print a ls (inr h) = subst (λ (w : Why). printed.reason w ls ≡ left ∷ after_left w ls) h.1 refl

reads_long_reason : Reads IsLong printed.reason ◌≡◌ long_reason
unfolding long_reason
reads_long_reason = reprinted (reads_after (reads_expect left) reads_proof_or_table) printed.reason long_print

long_avoids : Avoids (named (codes "expanded")) long_reason
unfolding long_reason
long_avoids = after_avoids (named (codes "expanded")) (expect left) proof_or_table (expect_avoids (named (codes "expanded")) left refl)

pub long_nothing : long_reason [] ≡ Err []
unfolding long_reason
long_nothing = after_nothing left proof_or_table

abbrev AnyReason : Why → Type 0
AnyReason a = (a ≡ why.Expanded) ⊎ IsLong a

written_reason : (a : Why) → AnyReason a → IsWrittenReason a
written_reason a (inl e) = subst IsWrittenReason (sym e) tt
written_reason a (inr (inl h)) = of_made (λ n. why.Proof n) (λ n. n < most) IsWrittenReason (λ n below. below) a h
written_reason a (inr (inr h)) = of_made (λ ns. why.Table ns) (All IsWrittenNumber) IsWrittenReason (λ ns good. good) a h

any_reason : (a : Why) → IsWrittenReason a → AnyReason a
any_reason why.Expanded h = inl refl
any_reason (why.Proof n) h = inr (inl (n, refl, h))
any_reason (why.Table ns) h = inr (inr (ns, refl, h))

reads_reason : Reads IsWrittenReason printed.reason ◌≡◌ reason
unfolding reason
reads_reason =
    reads_same IsWrittenReason written_reason any_reason
    (reads_either (named (codes "expanded")) (reads_pure why.Expanded) reads_long_reason (λ a ls e. ap (λ (w : Why). printed.reason w ls) e) long_nothing long_avoids)

-- ---- entries

reads_facts : Reads (All (λ p. p < 2 ^ 32)) (λ (ps : List ℕ) (ls : List Lexeme). left ∷ named (codes "facts") ∷ all printed.natural ps (right ∷ ls)) ◌≡◌ facts
unfolding facts
reads_facts = reads_after (reads_open (named (codes "facts"))) (reads_list starting_fact (reads_natural (2 ^ 32) (omega arith)) (natural_avoids right refl (2 ^ 32)))

reads_values : Reads (All IsBelow) (λ (vs : List ℤ) (ls : List Lexeme). left ∷ named (codes "values") ∷ all printed.integer vs (right ∷ ls)) ◌≡◌ values
unfolding values
reads_values = reads_after (reads_open (named (codes "values"))) (reads_list starts_integer reads_integer integer_avoids)

abbrev entry_of : List ℕ × (List ℤ × (Limit × Why)) → Entry
entry_of x = record { state = record { facts = x.0; values = x.1.0 }; bound = x.1.1.0; why = x.1.1.1 }

abbrev GoodEntry : List ℕ × (List ℤ × (Limit × Why)) → Type 0
GoodEntry = GoodPair (All (λ p. p < 2 ^ 32)) (GoodPair (All IsBelow) (GoodPair IsLimit IsWrittenReason))

abbrev entry_print : Entry → Printed
entry_print e rest =
    left ∷ named (codes "facts") ∷ all printed.natural e.state.facts (right ∷ left ∷ named (codes "values") ∷ all printed.integer e.state.values (right ∷ printed.limit e.bound (printed.reason e.why rest)))

reads_entry : Reads IsWrittenEntry printed.entry ◌≡◌ entry
unfolding entry
reads_entry =
    reads_after (reads_open (named (codes "entry"))) (reads_before
    (reads_same IsWrittenEntry
    (of_made entry_of GoodEntry IsWrittenEntry (λ x h. record { facts = h.0; values = h.1.0; bound = h.1.1.0; reason = h.1.1.1 }))
    (λ e h. ((e.state.facts, (e.state.values, (e.bound, e.why))), refl, (h.facts, (h.values, (h.bound, h.reason)))))
    (reads_value entry_of entry_print (λ x ls. refl) (reads_pair reads_facts (reads_pair reads_values (reads_pair reads_limit reads_reason))))) (reads_expect right))

entry_avoids : Avoids right entry
unfolding entry
entry_avoids = open_avoids (named (codes "entry")) (before (made entry_of (both facts (both values (both limit reason)))) (expect right))

-- ---- certificates

reads_claim : Reads IsLimit (λ (l : Limit) (ls : List Lexeme). left ∷ named (codes "claim") ∷ printed.limit l (right ∷ ls)) ◌≡◌ claim
unfolding claim
reads_claim = reads_after (reads_open (named (codes "claim"))) (reads_before reads_limit (reads_expect right))

reads_entries : Reads (All IsWrittenEntry) (λ (es : List Entry) (ls : List Lexeme). left ∷ named (codes "entries") ∷ all printed.entry es (right ∷ ls)) ◌≡◌ entries
unfolding entries
reads_entries = reads_after (reads_open (named (codes "entries"))) (reads_list starting_entry reads_entry entry_avoids)

abbrev certificate_of : Limit × (List Proof × List Entry) → Certificate
certificate_of x = record { claim = x.0; proofs = x.1.0; entries = x.1.1 }

abbrev GoodCertificate : Limit × (List Proof × List Entry) → Type 0
GoodCertificate = GoodPair IsLimit (GoodPair (All IsWrittenProof) (All IsWrittenEntry))

abbrev parts_print : Certificate → Printed
parts_print c rest =
    left ∷ named (codes "claim") ∷ printed.limit c.claim (right ∷ left ∷ named (codes "proofs") ∷ all printed.proof c.proofs (right ∷ left ∷ named (codes "entries") ∷ all printed.entry c.entries (right ∷ rest)))

-- the lexemes of a certificate, before others
abbrev pub certificate_print : Certificate → Printed
certificate_print c rest = left ∷ named (codes "certificate") ∷ printed.natural 1 (parts_print c (right ∷ rest))

pub reads_certificate : Reads IsWritten certificate_print ◌≡◌ certificate
unfolding certificate
reads_certificate =
    reprinted (reads_after (reads_open (named (codes "certificate"))) (reads_after (reads_expect (numeral (codes "1"))) (reads_before
    (reads_same IsWritten
    (of_made certificate_of GoodCertificate IsWritten (λ x h. record { claim = h.0; proofs = h.1.0; entries = h.1.1 }))
    (λ c h. ((c.claim, (c.proofs, c.entries)), refl, (h.claim, (h.proofs, h.entries))))
    (reads_value certificate_of parts_print (λ x ls. refl) (reads_pair reads_claim (reads_pair reads_proofs reads_entries)))) (reads_expect right)))) certificate_print
    (λ c ls h. ap (λ (text : List ℕ). left ∷ named (codes "certificate") ∷ numeral text ∷ parts_print c (right ∷ ls)) (decimal_digit 1 (omega arith)))
