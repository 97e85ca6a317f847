-- The text of a plan: what is read is spelled so, and back, it stands at its places, and where reading stops the first fault is.
use Rattle.std.proofs.Common.{◌≡◌, inl, inr, ℕ, ◌<◌, ◌≤◌, Bool, true, false, not, List, [], ◌∷◌, Option, None, Some, Ok, refl, sym, ap, subst, ◌∙◌}
use Rattle.std.specs.Prelude.{is_some}
use Rattle.std.specs.List.{All}
use Rattle.std.proofs.lemmas.List.Elements.{All-nil, All-head}
use Rattle.np_lex.specs.declared.token.Place.{Place}
use Rattle.np_lex.specs.Tokens.{Lexeme, Piece, word, end, Item, items_of, left, numeral}
use Rattle.np_read.specs.Faults.{pieces_in, onto, IsFirstFault}
use Rattle.np_read.specs.Marks.{Mark, each}
use Rattle.np_read.specs.ItemReaders.{made, says, wanted}
use Rattle.np_read.proofs.Good.{Goes, Good, Starting, good_of}
use Rattle.np_read.proofs.GoodParts.{at, starts_made}
use Rattle.np_read.proofs.Spelled.{Gets, Finds, Back, AllSame, then_at, then_find, gets, head_is}
use Rattle.np_read.proofs.EachRows.{all_mapped}
use Rattle.np_words.specs.declared.fault.ReadFault.TheVariants as text_fault
use Rattle.np_words.specs.declared.word.Decimal.{Decimal}
use Rattle.np_words.specs.Text.{decimal_text, spelled, marked}
use Rattle.np_words.specs.Text as words
use Rattle.np_words.specs.Wide.{IsShort, IsFirstWide}
use Rattle.np_words.proofs.TextAnswers.{short_spelled, wide_unspelled, short_fault, wide_fault, later_fault, spelled_wide}
use Rattle.np_plan.specs.declared.plan.PlanLine.{PlanLine}
use Rattle.np_plan.specs.declared.plan.PlanText.{PlanText}
use Rattle.np_plan.specs.Faults.{StopsAt, IsUnspelled, IsTextFault}
use Rattle.np_plan.specs.PlanForm.{colon, to_end, line, begins_with_left, lines, text_of, plan}
use Rattle.np_plan.specs.PlanText.{IsStampIf, IsLine, IsPlan, plan_text, plan_marks, bare_line, bare_plan, SpellsText, IsPlaced}
use Rattle.np_plan.specs.PlanText as text
use Rattle.np_plan.proofs.ToEnd.{SpelledToEnd, ReadsToEnd, Stands, starting_to_end, end_alone, to_end_nothing, reads_to_end, to_end_stands}
use Rattle.np_plan.proofs.WholeTexts.{text_spells, text_alone, text_unspelled, first_fault}
use Rattle.np_plan.proofs.Lines.{SameLine, starting_line, reads_line, placed_line, line_avoids_end}

-- ---- by the items alone

lines_go : Goes lines []
unfolding lines
lines_go = record { more = at end ∷ []; value = []; reads = λ other. end_alone (line true) (starting_line true) other }

starting_lines : Starting lines
unfolding lines
starting_lines k = record {
  tries = record {
    nothing = to_end_nothing (line true) (starting_line true);
    each = λ item. let stamped = not (is_some (says (wanted left) item.piece)) in (starting_to_end (line stamped) (starting_line stamped) k).tries.each item;
  };
  some = lines_go;
}

good_plan : (k : ℕ) → Good k plan
unfolding plan
good_plan k = good_of k (made text_of lines) (starts_made k text_of lines (starting_lines k))

-- ---- as it is spelled

abbrev pub SamePlan : PlanText → PlanText → Type 0
SamePlan a b = bare_plan a ≡ bare_plan b

abbrev lines_text : List PlanLine → List Lexeme
lines_text ls = each (text.line spelled) ls []

abbrev lines_marks : List PlanLine → List Mark
lines_marks ls = each (text.line marked) ls []

reads_lines : (stamped : Bool) → ReadsToEnd (All (IsLine stamped)) lines_text (AllSame SameLine) (to_end (line stamped))
reads_lines stamped = reads_to_end (starting_line stamped) (reads_line stamped) (line_avoids_end stamped)

is_plan : (stamped : Bool) (ls : List PlanLine) → All (IsLine stamped) ls → IsPlan (text_of ls)
is_plan true ls h = inl h
is_plan false ls h = inr h

sound_by : (stamped : Bool) (items : List Item) → Gets (SpelledToEnd IsPlan plan_text items) (made text_of (to_end (line stamped)) items)
sound_by stamped items =
    then_at (SpelledToEnd (All (IsLine stamped)) lines_text items) (SpelledToEnd IsPlan plan_text items) (λ ls rest. Ok (text_of ls, rest)) (to_end (line stamped) items) ((reads_lines stamped).sound items)
    (λ ls rest h. record { good = is_plan stamped ls h.good; spelled = h.spelled })

sound : (items : List Item) → Gets (SpelledToEnd IsPlan plan_text items) (plan items)
unfolding plan lines
sound items = sound_by (not (begins_with_left items)) items

back_by : (stamped : Bool) (items : List Item) (ls : List PlanLine) (others : List Piece) → All (IsLine stamped) ls → pieces_in items ≡ onto (lines_text ls) (end ∷ others) → Finds (Back SamePlan (text_of ls) others) (made text_of (to_end (line stamped)) items)
back_by stamped items ls others h e =
    then_find (Back (AllSame SameLine) ls others) (Back SamePlan (text_of ls) others) (λ ms rest. Ok (text_of ms, rest)) (to_end (line stamped) items) ((reads_lines stamped).back items ls others h e)
    (λ ms rest m. record { same = ap text_of (all_mapped bare_line ms ls m.same); left_are = m.left_are })

-- by whether the first piece is a bracket
chosen_by : (stamped : Bool) (items : List Item) (Q : PlanText → List Item → Type 0) → begins_with_left items ≡ not stamped → Finds Q (made text_of (to_end (line stamped)) items) → Finds Q (plan items)
unfolding plan lines
chosen_by true items Q e finds = subst (λ (b : Bool). Finds Q (made text_of (to_end (line (not b))) items)) (sym e) finds
chosen_by false items Q e finds = subst (λ (b : Bool). Finds Q (made text_of (to_end (line (not b))) items)) (sym e) finds

first_is : (items : List Item) (piece : Piece) (more : List Piece) → pieces_in items ≡ piece ∷ more → begins_with_left items ≡ is_some (says (wanted left) piece)
first_is [] piece more e = absurd cc
first_is (item ∷ items) piece more e = ap (λ (p : Piece). is_some (says (wanted left) p)) (head_is item.piece piece (pieces_in items) more e)

-- the text of a line begins with its stamp, or with a bracket
abbrev call_text : PlanLine → List Lexeme → List Lexeme
call_text l ls = left ∷ words.name spelled l.action (each (words.name spelled) l.objects (words.right spelled ls))

abbrev line_pieces : PlanLine → List Lexeme → List Piece → Option Decimal → List Piece
line_pieces l ls others s = onto (text.stamp spelled s (call_text l ls)) others

stamp_first : (items : List Item) (l : PlanLine) (ls : List Lexeme) (others : List Piece) (s : Option Decimal) → l.stamp ≡ s → IsStampIf true s → pieces_in items ≡ onto (text.line spelled l ls) others → begins_with_left items ≡ false
stamp_first items l ls others None is h e = absurd h
stamp_first items l ls others (Some d) is h e = first_is items (word (numeral (decimal_text d))) (onto (colon ∷ call_text l ls) others) (e ∙ ap (line_pieces l ls others) is)

bracket_first : (items : List Item) (l : PlanLine) (ls : List Lexeme) (others : List Piece) → l.stamp ≡ None → pieces_in items ≡ onto (text.line spelled l ls) others → begins_with_left items ≡ true
bracket_first items l ls others is e =
    first_is items (word left) (onto (words.name spelled l.action (each (words.name spelled) l.objects (words.right spelled ls))) others) (e ∙ ap (line_pieces l ls others) is)

none_back : (items : List Item) (others : List Piece) → pieces_in items ≡ end ∷ others → Finds (Back SamePlan (text_of []) others) (plan items)
none_back items others e = chosen_by true items (Back SamePlan (text_of []) others) (first_is items end others e) (back_by true items [] others (All-nil (IsLine true)) e)

stamped_back : (items : List Item) (others : List Piece) (ls : List PlanLine) → All (IsLine true) ls → pieces_in items ≡ onto (lines_text ls) (end ∷ others) → Finds (Back SamePlan (text_of ls) others) (plan items)
stamped_back items others [] h e = none_back items others e
stamped_back items others (l ∷ ls) h e =
    chosen_by true items (Back SamePlan (text_of (l ∷ ls)) others) (stamp_first items l (lines_text ls) (end ∷ others) l.stamp refl (All-head (IsLine true) l ls h).stamp e) (back_by true items (l ∷ ls) others h e)

bracket_back : (items : List Item) (others : List Piece) (ls : List PlanLine) → All (IsLine false) ls → pieces_in items ≡ onto (lines_text ls) (end ∷ others) → Finds (Back SamePlan (text_of ls) others) (plan items)
bracket_back items others [] h e = none_back items others e
bracket_back items others (l ∷ ls) h e =
    chosen_by false items (Back SamePlan (text_of (l ∷ ls)) others) (bracket_first items l (lines_text ls) (end ∷ others) (All-head (IsLine false) l ls h).stamp e) (back_by false items (l ∷ ls) others h e)

back : (items : List Item) (p : PlanText) (others : List Piece) → IsPlan p → pieces_in items ≡ onto (plan_text p) (end ∷ others) → Finds (Back SamePlan p others) (plan items)
back items p others (inl h) e = stamped_back items others p.lines h e
back items p others (inr h) e = bracket_back items others p.lines h e

pub reads_plan : ReadsToEnd IsPlan plan_text SamePlan plan
reads_plan = record { sound = sound; back = back }

-- ---- at its places

stands_by : (stamped : Bool) (items : List Item) → Gets (λ p rest. Stands plan_marks items p) (made text_of (to_end (line stamped)) items)
stands_by stamped items =
    then_at (λ ls rest. Stands lines_marks items ls) (λ p rest. Stands plan_marks items p) (λ ls rest. Ok (text_of ls, rest)) (to_end (line stamped) items) (to_end_stands (placed_line stamped) items)
    (λ ls rest h. h)

stands : (items : List Item) → Gets (λ p rest. Stands plan_marks items p) (plan items)
unfolding plan lines
stands items = stands_by (not (begins_with_left items)) items

-- ---- what is said of a text

module _ (bytes : List ℕ) (p : PlanText) (rest : List Item) (read : plan (items_of bytes) ≡ Ok (p, rest)) where
  pub spelled_by : All IsShort (items_of bytes) → SpellsText bytes p
  spelled_by short =
      let h = text_spells reads_plan bytes p rest read in
      record { is_plan = h.0; lexemes_are = h.1; short = short_spelled bytes (plan_text p) h.1 short }

  pub placed_by : IsPlaced bytes p
  placed_by = let h = gets (λ q more. Stands plan_marks (items_of bytes) q) (plan (items_of bytes)) p rest (stands (items_of bytes)) read in record { rest = h.0; fits = h.1 }

  pub only_by : (other : PlanText) → SpellsText bytes other → bare_plan other ≡ bare_plan p
  only_by other spells = sym (text_alone reads_plan bytes p other rest read spells.is_plan spells.lexemes_are)

  pub wide_by : (place : Place) → IsFirstWide (items_of bytes) place → IsTextFault bytes (text_fault.NumberWide place)
  wide_by place first =
      let h = text_spells reads_plan bytes p rest read in
      (spelled_wide {P = IsPlan} {spelling = plan_text} bytes p h.0 h.1 place first, λ other spells. wide_unspelled bytes (plan_text other) place first spells.lexemes_are spells.short)

module _ (bytes : List ℕ) (stop : Place) (stops : StopsAt bytes stop) where
  fault_at_stop : IsFirstFault IsPlan plan_text (items_of bytes) stop
  fault_at_stop = first_fault good_plan reads_plan (items_of bytes) stops.rest stop stops.read stops.at_place

  unspelled : IsUnspelled bytes
  unspelled p spells = text_unspelled reads_plan bytes stops.rest stops.read p spells.is_plan spells.lexemes_are

  pub stop_short : All IsShort (items_of bytes) → IsTextFault bytes (text_fault.At stop)
  stop_short short = (short_fault {P = IsPlan} {spelling = plan_text} bytes stop fault_at_stop short, unspelled)

  pub stop_wide : (place : Place) → IsFirstWide (items_of bytes) place → place.offset < stop.offset → IsTextFault bytes (text_fault.NumberWide place)
  stop_wide place first lt = (wide_fault {P = IsPlan} {spelling = plan_text} bytes stop place fault_at_stop first lt, unspelled)

  pub stop_before : (place : Place) → IsFirstWide (items_of bytes) place → stop.offset ≤ place.offset → IsTextFault bytes (text_fault.At stop)
  stop_before place first le = (later_fault {P = IsPlan} {spelling = plan_text} bytes stop place fault_at_stop first le, unspelled)
