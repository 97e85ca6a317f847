-- A printed certificate has the lexemes of the certificate.
use Rattle.std.proofs.Common.{◌≡◌, ℕ, suc, ◌+◌, ◌%◌, ◌^◌, ◌<◌, ◌≤◌, ℤ, pos, negsuc, true, ◌&&◌, List, [], ◌∷◌, ◌++◌, map, refl, sym, ◌∙◌, ap, subst, inl, inr, arith, codes, append_assoc}
use Rattle.std.specs.Prelude.{unsigned_abs, decimal, All}
use Rattle.std.specs.Char.{to_ascii_lowercase}
use Rattle.std.specs.List.{flat_map, list_all}
use Rattle.std.proofs.lemmas.Bool.Decides.{nat_tests}
use Rattle.std.proofs.lemmas.Fmt.{decimal_by_steps_wide, decimal_digit}
use Rattle.std.proofs.lemmas.List.{map-append}
use Rattle.std.proofs.lemmas.List.Elements.{All-head, All-tail}
use Rattle.np_lex.specs.declared.token.Kind.{Kind}
use Rattle.np_lex.specs.declared.token.Kind.TheVariants.{Left, Right, Name, Number}
use Rattle.np_lex.specs.Blanks.{is_blank}
use Rattle.np_lex.specs.FirstToken.{is_digit}
use Rattle.np_lex.specs.LongestToken.{IsToken, is_name, is_digits}
use Rattle.np_lex.specs.Tokens.{Lexeme, lower}
use Rattle.np_read.specs.Pieces.{word, pieces}
use Rattle.np_lex.proofs.LongestLaw.{and_first, and_second, list_all-append}
use Rattle.np_read.proofs.Shifts.{pieces-step}
use Rattle.np_read.proofs.Pieces.{lexemes-pieces}
use Rattle.np_read.proofs.Printed.{Separates, pieces-token, pieces-blank, pieces-nil}
use Rattle.np_count.specs.declared.proof.Row.{Row}
use Rattle.np_count.specs.declared.proof.Row.TheVariants as kind
use Rattle.np_count.specs.declared.proof.Proof.{Proof}
use Rattle.np_cert.specs.declared.certificate.Limit.{Limit}
use Rattle.np_cert.specs.declared.certificate.Limit.TheVariants as limit
use Rattle.np_cert.specs.declared.certificate.Why.{Why}
use Rattle.np_cert.specs.declared.certificate.Why.TheVariants as why
use Rattle.np_cert.specs.declared.certificate.Entry.{Entry}
use Rattle.np_cert.specs.declared.certificate.Certificate.{Certificate}
use Rattle.np_cert.specs.Text.{most, IsWord, IsLimit, IsWrittenRow, IsWrittenItem, IsWrittenProof, IsWrittenNumber, IsWrittenReason, IsWrittenEntry, IsWritten, Spells, integer_text}
use Rattle.np_read.specs.Printers.{Printed, all}
use Rattle.np_read.specs.Printers as printers
use Rattle.np_cert.specs.Text as printed
use Rattle.np_cert.specs.Layout.{limit_text, natural_text, value_text, row_text, item_text, proof_text, number_text, reason_text, entry_text, certificate_text}

-- ---- tokens

-- the text has these lexemes, and no bad byte
pub record Shows (text : List ℕ) (ls : List Lexeme) : Type 0 where
  pub pieces_are : pieces text ≡ map word ls

-- an empty text has no lexemes
shows_nothing : Shows [] []
shows_nothing = record { pieces_are = pieces-nil }

-- a leading blank adds no lexeme
shows_blank : {rest : List ℕ} {ls : List Lexeme} (b : ℕ) → is_blank b ≡ true → Shows rest ls → Shows (b ∷ rest) ls
shows_blank {rest} b blank e = record { pieces_are = pieces-blank b rest blank ∙ e.pieces_are }

-- a bracket may be before anything
shows_left : {rest : List ℕ} {ls : List Lexeme} → Shows rest ls → Shows (40 ∷ rest) (printers.left ls)
shows_left {rest} e = record {
  pieces_are = pieces-step (40 ∷ rest) ∙ ap (λ ps. word (record { kind = Left; text = codes "(" }) ∷ ps) e.pieces_are;
}

shows_right : {rest : List ℕ} {ls : List Lexeme} → Shows rest ls → Shows (41 ∷ rest) (printers.right ls)
shows_right {rest} e = record {
  pieces_are = pieces-step (41 ∷ rest) ∙ ap (λ ps. word (record { kind = Right; text = codes ")" }) ∷ ps) e.pieces_are;
}

-- a token without capitals, before what separates
shows_token : {rest : List ℕ} {ls : List Lexeme} (kind : Kind) (text : List ℕ) → IsToken kind text → lower text ≡ text → Shows rest ls → Separates rest → Shows (text ++ rest) ((record { kind = kind; text = text }) ∷ ls)
shows_token {rest} kind text token small e separates = record {
  pieces_are = pieces-token kind text rest token separates ∙ (λ i. word (record { kind = kind; text = small i }) ∷ e.pieces_are i);
}

shows_word : {rest : List ℕ} {ls : List Lexeme} (text : List ℕ) → is_name text ≡ true → lower text ≡ text → Shows rest ls → Separates rest → Shows (text ++ rest) (printers.name text ls)
shows_word text name small e separates = shows_token Name text name small e separates

-- ---- numbers

-- digits, which stay as they are in lower case
record IsPlain (text : List ℕ) : Type 0 where
  digits : is_digits text ≡ true
  small : lower text ≡ text

-- a number is printed in digits
one_digit : (n : ℕ) → n < 10 → IsPlain ((48 + n) ∷ [])
one_digit n few = record { digits = grind (arith, nat_tests); small = ap (λ b. b ∷ []) (grind (arith, nat_tests)) }

digits_more : (ds : List ℕ) (b : ℕ) → is_digits ds ≡ true → is_digit b ≡ true → is_digits (ds ++ b ∷ []) ≡ true
digits_more [] b digits digit = cc
digits_more (d ∷ ds) b digits digit =
    let first = and_first (is_digit d) (list_all is_digit ds) digits in
    let last : list_all is_digit (b ∷ []) ≡ true = ap (λ x. x && true) digit in
    ap (λ x. x && list_all is_digit (ds ++ b ∷ [])) first ∙ list_all-append is_digit ds (b ∷ []) (and_second (is_digit d) (list_all is_digit ds) digits) last

more_digits : (ds : List ℕ) (n : ℕ) → n < 10 → IsPlain ds → IsPlain (ds ++ (48 + n) ∷ [])
more_digits ds n few plain = record {
  digits = digits_more ds (48 + n) plain.digits (grind (arith, nat_tests));
  small = map-append to_ascii_lowercase ds ((48 + n) ∷ []) ∙ (λ i. plain.small i ++ (one_digit n few).small i);
}

decimal_is_plain : (n : ℕ) → n < most → IsPlain (decimal n)
decimal_is_plain n small = decimal_by_steps_wide (λ n ds. IsPlain ds) one_digit (λ n ds ten plain. more_digits ds (n % 10) (omega arith) plain) n (omega arith)

-- numbers without sign, with one, and limits
shows_natural : {rest : List ℕ} {ls : List Lexeme} (n : ℕ) → n < most → Shows rest ls → Separates rest → Shows (decimal n ++ rest) (printed.natural n ls)
shows_natural n small e separates =
    let plain = decimal_is_plain n small in
    shows_token Number (decimal n) (inl (inl plain.digits)) plain.small e separates

shows_one : {rest : List ℕ} {ls : List Lexeme} → Shows rest ls → Separates rest → Shows (49 ∷ rest) (printed.natural 1 ls)
shows_one {rest} {ls} e separates =
    subst (λ (text : List ℕ). Shows (text ++ rest) (printed.natural 1 ls)) (decimal_digit 1 (omega arith)) (shows_natural 1 (omega arith) e separates)

shows_integer : {rest : List ℕ} {ls : List Lexeme} (z : ℤ) → unsigned_abs z < most → Shows rest ls → Separates rest → Shows (integer_text z ++ rest) (printed.integer z ls)
shows_integer (pos n) small e separates = shows_natural n small e separates
shows_integer (negsuc n) small e separates =
    let plain = decimal_is_plain (suc n) small in
    shows_token Number (45 ∷ decimal (suc n)) (inr (record { rest = decimal (suc n); text_is = refl; holds = inl plain.digits })) (ap (λ ds. 45 ∷ ds) plain.small) e separates

shows_limit : {rest : List ℕ} {ls : List Lexeme} (l : Limit) → IsLimit l → Shows rest ls → Separates rest → Shows (limit_text l ++ rest) (printed.limit l ls)
shows_limit (limit.Number n) small e separates = shows_natural n small e separates
shows_limit limit.Absent small e separates = shows_word (codes "none") refl refl e separates

-- ---- lists

-- each text begins with what separates, and has its lexemes before those of what follows
record IsShown {A : Type 0} (P : A → Type 0) (text : A → List ℕ) (print : A → Printed) : Type 0 where
  first : (a : A) (rest : List ℕ) → Separates (text a ++ rest)
  each : (a : A) (rest : List ℕ) (ls : List Lexeme) → P a → Shows rest ls → Separates rest → Shows (text a ++ rest) (print a ls)

-- texts one after the other begin with what separates, where what follows does
separates_all : {A : Type 0} {P : A → Type 0} {text : A → List ℕ} {print : A → Printed} → IsShown P text print → (items : List A) (rest : List ℕ) → Separates rest → Separates (flat_map text items ++ rest)
separates_all shown [] rest separates = separates
separates_all {text} shown (a ∷ more) rest separates = subst Separates (sym (append_assoc (text a) (flat_map text more) rest)) (shown.first a (flat_map text more ++ rest))

-- and have the lexemes of each in turn
shows_all : {A : Type 0} {P : A → Type 0} {text : A → List ℕ} {print : A → Printed} → IsShown P text print → {rest : List ℕ} {ls : List Lexeme} (items : List A) → All P items → Shows rest ls → Separates rest → Shows (flat_map text items ++ rest) (all print items ls)
shows_all shown [] holds e separates = e
shows_all {P} {text} {print} shown {rest} {ls} (a ∷ more) holds e separates =
    subst (λ (bytes : List ℕ). Shows bytes (print a (all print more ls))) (sym (append_assoc (text a) (flat_map text more) rest))
    (shown.each a (flat_map text more ++ rest) (all print more ls) (All-head P a more holds) (shows_all shown more (All-tail P a more holds) e separates) (separates_all shown more rest separates))

-- numbers, each after a space
shown_naturals : (bound : ℕ) → bound ≤ most → IsShown (λ n. n < bound) natural_text printed.natural
shown_naturals bound few = record { first = λ n rest. refl; each = λ n rest ls small e separates. shows_blank 32 refl (shows_natural n (omega arith) e separates) }

shown_values : IsShown (λ v. unsigned_abs v < most) value_text printed.integer
shown_values = record { first = λ v rest. refl; each = λ v rest ls small e separates. shows_blank 32 refl (shows_integer v small e separates) }

-- texts with what follows them
three_texts : (a b c rest : List ℕ) → (a ++ b ++ c) ++ rest ≡ a ++ (b ++ (c ++ rest))
three_texts a b c rest = simp append_assoc

four_texts : (a b c d rest : List ℕ) → (a ++ b ++ c ++ d) ++ rest ≡ a ++ (b ++ (c ++ (d ++ rest)))
four_texts a b c d rest = simp append_assoc

five_texts : (a b c d e rest : List ℕ) → (a ++ b ++ c ++ d ++ e) ++ rest ≡ a ++ (b ++ (c ++ (d ++ (e ++ rest))))
five_texts a b c d e rest = simp append_assoc

eight_texts : (a b c d e f g h rest : List ℕ) → (a ++ b ++ c ++ d ++ e ++ f ++ g ++ h) ++ rest ≡ a ++ (b ++ (c ++ (d ++ (e ++ (f ++ (g ++ (h ++ rest)))))))
eight_texts a b c d e f g h rest = simp append_assoc

-- ---- proofs

-- a row, with the bracket that closes it
row_separates : (row : Row) (rest : List ℕ) → Separates (row_text row ++ rest)
row_separates (kind.Demand form) rest = refl
row_separates (kind.Flow fact) rest = refl
row_separates (kind.FlowNot fact) rest = refl
row_separates (kind.Floor form least) rest = refl
row_separates (kind.Cut subgoals) rest = refl

module _ {rest : List ℕ} {ls : List Lexeme} (e : Shows rest ls) where
  closed : Shows (41 ∷ rest) (printers.right ls)
  closed = shows_right e

  -- a number after a space, and a closing bracket
  one_number : (n : ℕ) → IsWord n → Shows (32 ∷ (decimal n ++ 41 ∷ rest)) (printed.natural n (printers.right ls))
  one_number n small = shows_blank 32 refl (shows_natural n (omega arith) closed refl)

  shows_row : (row : Row) → IsWrittenRow row → Shows (row_text row ++ 41 ∷ rest) (printed.row row ls)
  shows_row (kind.Demand form) h = shows_blank 32 refl (shows_word (codes "demand") refl refl (one_number form h) refl)
  shows_row (kind.Flow fact) h = shows_blank 32 refl (shows_word (codes "flow") refl refl (one_number fact h) refl)
  shows_row (kind.FlowNot fact) h = shows_blank 32 refl (shows_word (codes "flow-not") refl refl (one_number fact h) refl)
  shows_row (kind.Floor form least) h =
      let value = shows_blank 32 refl (shows_integer least h.1 closed refl) in
      let numbers = shows_blank 32 refl (shows_natural form (let word = h.0 in omega arith) value refl) in
      subst (λ (bytes : List ℕ). Shows bytes (printed.row (kind.Floor form least) ls)) (sym (three_texts (codes " floor") (natural_text form) (value_text least) (41 ∷ rest)))
      (shows_blank 32 refl (shows_word (codes "floor") refl refl numbers refl))
  shows_row (kind.Cut subgoals) h =
      let shown = shown_naturals (2 ^ 64) (omega arith) in
      shows_blank 32 refl (shows_word (codes "cut") refl refl (shows_all shown subgoals h.1 closed refl) (separates_all shown subgoals (41 ∷ rest) refl))

  shows_item : (item : ℕ × Row) → IsWrittenItem item → Shows (item_text item ++ rest) (printed.item item ls)
  shows_item item h =
      subst (λ (bytes : List ℕ). Shows bytes (printed.item item ls)) (sym (four_texts (codes " (") (decimal item.0) (row_text item.1) (codes ")") rest))
      (shows_blank 32 refl (shows_left (shows_natural item.0 (let word = h.0 in omega arith) (shows_row item.1 h.1) (row_separates item.1 (41 ∷ rest)))))

shown_items : IsShown IsWrittenItem item_text printed.item
shown_items = record { first = λ item rest. refl; each = λ item rest ls h e separates. shows_item e item h }

shows_proof : (proof : Proof) (rest : List ℕ) (ls : List Lexeme) → IsWrittenProof proof → Shows rest ls → Separates rest → Shows (proof_text proof ++ rest) (printed.proof proof ls)
shows_proof proof rest ls h e separates =
    let items = shows_all shown_items proof.items h.1 (shows_right e) refl in
    let divisor = shows_natural proof.divisor (let word = h.0 in omega arith) items (separates_all shown_items proof.items (41 ∷ rest) refl) in
    subst (λ (bytes : List ℕ). Shows bytes (printed.proof proof ls)) (sym (four_texts (codes "\n(proof ") (decimal proof.divisor) (flat_map item_text proof.items) (codes ")") rest))
    (shows_blank 10 refl (shows_left (shows_word (codes "proof") refl refl (shows_blank 32 refl divisor) refl)))

shown_proofs : IsShown IsWrittenProof proof_text printed.proof
shown_proofs = record { first = λ proof rest. refl; each = shows_proof }

-- ---- reasons

shows_numbered : (numbered : ℕ × Limit) (rest : List ℕ) (ls : List Lexeme) → IsWrittenNumber numbered → Shows rest ls → Separates rest → Shows (number_text numbered ++ rest) (printed.number_of numbered ls)
shows_numbered numbered rest ls h e separates =
    let bound = shows_blank 32 refl (shows_limit numbered.1 h.1 (shows_right e) refl) in
    subst (λ (bytes : List ℕ). Shows bytes (printed.number_of numbered ls)) (sym (five_texts (codes " (") (decimal numbered.0) (codes " ") (limit_text numbered.1) (codes ")") rest))
    (shows_blank 32 refl (shows_left (shows_natural numbered.0 h.0 bound refl)))

shown_numbers : IsShown IsWrittenNumber number_text printed.number_of
shown_numbers = record { first = λ numbered rest. refl; each = shows_numbered }

reason_separates : (w : Why) (rest : List ℕ) → Separates (reason_text w ++ rest)
reason_separates why.Expanded rest = refl
reason_separates (why.Proof number) rest = refl
reason_separates (why.Table numbers) rest = refl

shows_reason : {rest : List ℕ} {ls : List Lexeme} (w : Why) → IsWrittenReason w → Shows rest ls → Separates rest → Shows (reason_text w ++ rest) (printed.reason w ls)
shows_reason why.Expanded h e separates = shows_blank 32 refl (shows_word (codes "expanded") refl refl e separates)
shows_reason {rest} {ls} (why.Proof number) h e separates =
    subst (λ (bytes : List ℕ). Shows bytes (printed.reason (why.Proof number) ls)) (sym (three_texts (codes " (proof ") (decimal number) (codes ")") rest))
    (shows_blank 32 refl (shows_left (shows_word (codes "proof") refl refl (shows_blank 32 refl (shows_natural number h (shows_right e) refl)) refl)))
shows_reason {rest} {ls} (why.Table numbers) h e separates =
    let all_of = shows_all shown_numbers numbers h (shows_right e) refl in
    subst (λ (bytes : List ℕ). Shows bytes (printed.reason (why.Table numbers) ls)) (sym (three_texts (codes " (table") (flat_map number_text numbers) (codes ")") rest))
    (shows_blank 32 refl (shows_left (shows_word (codes "table") refl refl all_of (separates_all shown_numbers numbers (41 ∷ rest) refl))))

-- ---- certificates

-- an entry
shows_entry : (entry : Entry) (rest : List ℕ) (ls : List Lexeme) → IsWrittenEntry entry → Shows rest ls → Separates rest → Shows (entry_text entry ++ rest) (printed.entry entry ls)
shows_entry entry rest ls h e separates =
    let shown_facts = shown_naturals (2 ^ 32) (omega arith) in
    let reason = shows_reason entry.why h.reason (shows_right e) refl in
    let bound = shows_right (shows_blank 32 refl (shows_limit entry.bound h.bound reason (reason_separates entry.why (41 ∷ rest)))) in
    let values = shows_all shown_values entry.state.values h.values bound refl in
    let middle = shows_right (shows_blank 32 refl (shows_left (shows_word (codes "values") refl refl values (separates_all shown_values entry.state.values _ refl)))) in
    let facts = shows_all shown_facts entry.state.facts h.facts middle refl in
    let begin = shows_blank 10 refl (shows_left (shows_word (codes "entry") refl refl (shows_blank 32 refl (shows_left (shows_word (codes "facts") refl refl facts (separates_all shown_facts entry.state.facts _ refl)))) refl)) in
    subst (λ (bytes : List ℕ). Shows bytes (printed.entry entry ls))
    (sym (eight_texts (codes "\n(entry (facts") (flat_map natural_text entry.state.facts) (codes ") (values") (flat_map value_text entry.state.values) (codes ") ") (limit_text entry.bound) (reason_text entry.why) (codes ")") rest)) begin

shown_entries : IsShown IsWrittenEntry entry_text printed.entry
shown_entries = record { first = λ entry rest. refl; each = shows_entry }

-- a certificate
seven_texts : (a b c d e f g : List ℕ) → a ++ b ++ c ++ d ++ e ++ f ++ g ≡ a ++ (b ++ (c ++ (d ++ (e ++ (f ++ g)))))
seven_texts a b c d e f g = simp append_assoc

shows_certificate : (c : Certificate) → IsWritten c → Shows (certificate_text c) (printed.certificate c)
shows_certificate c h =
    let end = shows_right (shows_right (shows_blank 10 refl shows_nothing)) in
    let entries = shows_all shown_entries c.entries h.entries end refl in
    let before_entries = shows_right (shows_blank 10 refl (shows_left (shows_word (codes "entries") refl refl entries (separates_all shown_entries c.entries _ refl)))) in
    let all_proofs = shows_all shown_proofs c.proofs h.proofs before_entries refl in
    let proofs = shows_blank 10 refl (shows_left (shows_word (codes "proofs") refl refl all_proofs (separates_all shown_proofs c.proofs _ refl))) in
    let claim = shows_limit c.claim h.claim (shows_right proofs) refl in
    let begin = shows_left (shows_word (codes "certificate") refl refl (shows_blank 32 refl (shows_one (shows_blank 32 refl (shows_left (shows_word (codes "claim") refl refl (shows_blank 32 refl claim) refl))) refl)) refl) in
    subst (λ (bytes : List ℕ). Shows bytes (printed.certificate c))
    (sym (seven_texts (codes "(certificate 1 (claim ") (limit_text c.claim) (codes ")\n(proofs") (flat_map proof_text c.proofs) (codes ")\n(entries") (flat_map entry_text c.entries) (codes "))\n"))) begin

-- the printed text of a certificate spells it
pub certificate_text_spells : (c : Certificate) → IsWritten c → Spells (certificate_text c) c
certificate_text_spells c h = record { written = h; lexemes_are = (lexemes-pieces (certificate_text c) (printed.certificate c)).1 (shows_certificate c h).pieces_are }
