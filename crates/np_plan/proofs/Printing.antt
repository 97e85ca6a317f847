-- The printed text of steps spells them.
use Rattle.std.proofs.Common.{◌≡◌, inr, ℕ, ◌<◌, length, Bool, true, false, not, ◌&&◌, List, [], ◌∷◌, ◌++◌, map, Option, None, Some, refl, sym, ap, subst, ◌∙◌, append_assoc, arith, codes, cond}
use Rattle.std.specs.Prelude.{IsTrue, slice_get, is_some, option_and_then}
use Rattle.std.specs.Char.{to_ascii_lowercase}
use Rattle.std.specs.List.{All, list_all}
use Rattle.std.specs.Option.{option_map, option_map_or}
use Rattle.std.proofs.lemmas.Bool.Decides.{nat_tests}
use Rattle.std.proofs.lemmas.List.Elements.{All-nil, All-cons, All-head, All-tail}
use Rattle.std.proofs.lemmas.Option.{slice_get-map, slice_get_within, get_or_from_slice_get}
use Rattle.std.proofs.lemmas.Slice.Eq.{bytes_eq-Decides}
use Rattle.np_lex.specs.declared.token.Kind.TheVariants.{Name}
use Rattle.np_lex.specs.Blanks.{is_blank}
use Rattle.np_lex.specs.FirstToken as lex
use Rattle.np_lex.specs.LongestToken as tokens
use Rattle.np_lex.specs.Tokens.{Lexeme, lower, left, right, named}
use Rattle.np_lex.proofs.LongestLaw.{list_all-weaken}
use Rattle.np_read.specs.Marks.{each}
use Rattle.np_read.specs.Pieces.{word, pieces}
use Rattle.np_read.proofs.Shifts.{pieces-step}
use Rattle.np_read.proofs.Pieces.{lexemes-pieces}
use Rattle.np_read.proofs.Printed.{Separates, pieces-token, pieces-blank, pieces-nil}
use Rattle.np_read.proofs.Same.{both_true}
use Rattle.np_model.specs.declared.task.Action.{Action}
use Rattle.np_model.specs.declared.task.Object.{Object}
use Rattle.np_model.specs.declared.task.Step.{Step}
use Rattle.np_model.specs.declared.task.TaskParts.{TaskParts}
use Rattle.np_model.specs.Names as names
use Rattle.np_model.specs.Steps.{takes, is_step}
use Rattle.np_model.specs.Tasks.{IsTask}
use Rattle.np_model.specs.Types.{type_of, fits, all_fit}
use Rattle.np_words.specs.declared.word.Word.{Word}
use Rattle.np_words.specs.Bare.{nowhere}
use Rattle.np_words.specs.Text.{spelled}
use Rattle.np_words.specs.Text as words
use Rattle.np_words.specs.Wide.{IsShortLexeme}
use Rattle.np_words.specs.Written.{is_small_name, is_free_name, IsName}
use Rattle.np_plan.specs.declared.plan.PlanLine.{PlanLine}
use Rattle.np_plan.specs.declared.plan.PlanText.{PlanText}
use Rattle.np_plan.specs.Layout.{action_text, object_text, objects_text, step_text, steps_text}
use Rattle.np_plan.specs.PlanText.{IsLine, plan_text, SpellsText}
use Rattle.np_plan.specs.PlanText as text
use Rattle.np_plan.specs.Plans.{RiseAfter, object_name, Names, NameAll, Spells}

-- ---- tokens

-- the text has these lexemes, and no bad byte
record Shows (bytes : List ℕ) (ls : List Lexeme) : Type 0 where
  pieces_are : pieces bytes ≡ map word ls

shows_nothing : Shows [] []
shows_nothing = record { pieces_are = pieces-nil }

shows_blank : {rest : List ℕ} {ls : List Lexeme} (b : ℕ) → is_blank b ≡ true → Shows rest ls → Shows (b ∷ rest) ls
shows_blank {rest} b blank e = record { pieces_are = pieces-blank b rest blank ∙ e.pieces_are }

shows_left : {rest : List ℕ} {ls : List Lexeme} → Shows rest ls → Shows (40 ∷ rest) (left ∷ ls)
shows_left {rest} e = record { pieces_are = pieces-step (40 ∷ rest) ∙ ap (λ ps. word left ∷ ps) e.pieces_are }

shows_right : {rest : List ℕ} {ls : List Lexeme} → Shows rest ls → Shows (41 ∷ rest) (right ∷ ls)
shows_right {rest} e = record { pieces_are = pieces-step (41 ∷ rest) ∙ ap (λ ps. word right ∷ ps) e.pieces_are }

-- a name in small letters, before what separates
shows_name : {rest : List ℕ} {ls : List Lexeme} (name : List ℕ) → tokens.is_name name ≡ true → lower name ≡ name → Shows rest ls → Separates rest → Shows (name ++ rest) (named name ∷ ls)
shows_name {rest} name is small e separates = record {
  pieces_are = pieces-token Name name rest is separates ∙ (λ i. word (named (small i)) ∷ e.pieces_are i);
}

-- ---- the names of a task are names of the grammar

letter_is : (c : ℕ) → names.is_letter c ≡ true → lex.is_letter c ≡ true
letter_is c e = grind (arith, nat_tests)

byte_is : (c : ℕ) → names.is_name_byte c ≡ true → lex.is_name_byte c ≡ true
byte_is c e = grind (arith, nat_tests)

letter_small : (c : ℕ) → names.is_letter c ≡ true → to_ascii_lowercase c ≡ c
letter_small c e = grind (arith, nat_tests)

byte_small : (c : ℕ) → names.is_name_byte c ≡ true → to_ascii_lowercase c ≡ c
byte_small c e = grind (arith, nat_tests)

bytes_small : (cs : List ℕ) → list_all names.is_name_byte cs ≡ true → lower cs ≡ cs
bytes_small [] e = refl
bytes_small (c ∷ cs) e =
    let h = both_true (names.is_name_byte c) (list_all names.is_name_byte cs) e in
    ap (λ (b : ℕ). b ∷ lower cs) (byte_small c h.0) ∙ ap (λ (bs : List ℕ). c ∷ bs) (bytes_small cs h.1)

-- a name in small letters that isn't reserved
record IsWritten (name : List ℕ) : Type 0 where
  is_name : tokens.is_name name ≡ true
  small : lower name ≡ name
  free : not (names.is_reserved name) ≡ true

and_true : (a b : Bool) → a ≡ true → b ≡ true → (a && b) ≡ true
and_true a b e f = cc

written : (name : List ℕ) → names.is_name name ≡ true → IsWritten name
written [] e = absurd cc
written (c ∷ cs) e =
    let h = both_true (names.is_letter c && list_all names.is_name_byte cs) (not (names.is_reserved (c ∷ cs))) e in
    let k = both_true (names.is_letter c) (list_all names.is_name_byte cs) h.0 in
    record {
      is_name = and_true (lex.is_letter c) (list_all lex.is_name_byte cs) (letter_is c k.0) (list_all-weaken names.is_name_byte lex.is_name_byte byte_is cs k.1);
      small = ap (λ (b : ℕ). b ∷ lower cs) (letter_small c k.0) ∙ ap (λ (bs : List ℕ). c ∷ bs) (bytes_small cs k.1);
      free = h.1;
    }

abbrev word_of : List ℕ → Word
word_of name = record { text = name; place = nowhere }

is_name_of : (name : List ℕ) → IsWritten name → IsName (word_of name)
unfolding is_free_name is_small_name
is_name_of name h = and_true _ _ (and_true _ _ h.is_name ((bytes_eq-Decides (lower name) name).1 h.small)) h.free

-- ---- steps of a task

record HasAction (task : TaskParts) (n : ℕ) : Type 0 where
  action : Action
  is : slice_get task.actions n ≡ Some action
  name_is : IsWritten action.name

record HasObject (task : TaskParts) (n : ℕ) : Type 0 where
  object : Object
  is : slice_get task.objects n ≡ Some object
  name_is : IsWritten object.name

all_at : {A : Type 0} (name : A → List ℕ) (xs : List A) (n : ℕ) (x : A) → All (λ (m : List ℕ). IsTrue (names.is_name m)) (map name xs) → slice_get xs n ≡ Some x → IsWritten (name x)
all_at name xs n x h e =
    let k : slice_get (map name xs) n ≡ Some (name x) = slice_get-map name xs n ∙ ap (option_map name) e in
    written (name x) (subst (λ (m : List ℕ). IsTrue (names.is_name m)) (get_or_from_slice_get (map name xs) n (name x) (name x) k) (h n (name x) (slice_get_within (map name xs) n (name x) k)))

fits_none : (task : TaskParts) (wanted : ℕ) (o : Option Object) → fits task.types wanted (option_map (λ (x : Object). x.of) o) ≡ true → (x : Object) × (o ≡ Some x)
fits_none task wanted None e = absurd cc
fits_none task wanted (Some x) e = (x, refl)

-- each object is one of the task
data HasObjects (task : TaskParts) : List ℕ → Type 0 where
  no_objects : HasObjects task []
  one_object : (n : ℕ) (ns : List ℕ) → HasObject task n → HasObjects task ns → HasObjects task (n ∷ ns)

objects_there : (task : TaskParts) → IsTask task → (wanted ns : List ℕ) → all_fit task.types wanted (map (type_of task.objects) ns) ≡ true → HasObjects task ns
objects_there task good wanted [] e = no_objects
objects_there task good [] (n ∷ ns) e = absurd cc
objects_there task good (w ∷ wanted) (n ∷ ns) e =
    let h = both_true (fits task.types w (type_of task.objects n)) (all_fit task.types wanted (map (type_of task.objects) ns)) e in
    let o = fits_none task w (slice_get task.objects n) h.0 in
    one_object n ns (record { object = o.0; is = o.1; name_is = all_at (λ (x : Object). x.name) task.objects n o.0 good.named.objects.spelled o.1 }) (objects_there task good wanted ns h.1)

record HasParts (task : TaskParts) (step : Step) : Type 0 where
  action : HasAction task step.action
  objects : HasObjects task step.objects

abbrev if_taken : TaskParts → List ℕ → Action → Option Action
if_taken task objects action = cond (takes task action objects) (Some action) None

taken_by : (task : TaskParts) → IsTask task → (step : Step) (a : Action) (good : Bool) → slice_get task.actions step.action ≡ Some a → takes task a step.objects ≡ good → is_some (cond good (Some a) None) ≡ true → HasParts task step
taken_by task good step a true e is some = record {
  action = record { action = a; is = e; name_is = all_at (λ (x : Action). x.name) task.actions step.action a good.named.actions.spelled e };
  objects = objects_there task good a.parameters step.objects is;
}
taken_by task good step a false e is some = absurd cc

parts_by : (task : TaskParts) → IsTask task → (step : Step) (o : Option Action) → slice_get task.actions step.action ≡ o → is_some (option_and_then (if_taken task step.objects) o) ≡ true → HasParts task step
parts_by task good step None e some = absurd cc
parts_by task good step (Some a) e some = taken_by task good step a (takes task a step.objects) e refl some

parts_of : (task : TaskParts) → IsTask task → (step : Step) → is_step task step ≡ true → HasParts task step
parts_of task good step e = parts_by task good step (slice_get task.actions step.action) refl e

-- where the action and the objects are in their lists
pub action_within : (task : TaskParts) (step : Step) → is_step task step ≡ true → step.action < length task.actions
action_within task step e = by (slice_get task.actions step.action) refl e
  where
    by : (o : Option Action) → slice_get task.actions step.action ≡ o → is_some (option_and_then (if_taken task step.objects) o) ≡ true → step.action < length task.actions
    by None e some = absurd cc
    by (Some a) e some = slice_get_within task.actions step.action a e

-- ---- the line of a step

abbrev object_words : TaskParts → List ℕ → List Word
object_words task ns = map (λ n. word_of (object_text task n)) ns

abbrev line_of : TaskParts → Step → PlanLine
line_of task step = record { stamp = None; place = nowhere; action = word_of (action_text task step.action); objects = object_words task step.objects }

abbrev text_of : TaskParts → List Step → PlanText
text_of task steps = record { lines = map (line_of task) steps }

module _ (task : TaskParts) where
  action_is : (n : ℕ) → (h : HasAction task n) → action_text task n ≡ h.action.name
  action_is n h = ap (λ (o : Option Action). option_map_or (λ (a : Action). a.name) o []) h.is

  object_is : (n : ℕ) → (h : HasObject task n) → object_text task n ≡ h.object.name
  object_is n h = ap (λ (o : Option Object). option_map_or (λ (x : Object). x.name) o []) h.is

  action_written : (n : ℕ) → HasAction task n → IsWritten (action_text task n)
  action_written n h = subst IsWritten (sym (action_is n h)) h.name_is

  object_written : (n : ℕ) → HasObject task n → IsWritten (object_text task n)
  object_written n h = subst IsWritten (sym (object_is n h)) h.name_is

  words_are : (ns : List ℕ) → HasObjects task ns → All IsName (object_words task ns)
  words_are _ no_objects = All-nil IsName
  words_are _ (one_object n ns h more) = All-cons IsName (word_of (object_text task n)) (object_words task ns) (is_name_of (object_text task n) (object_written n h)) (words_are ns more)

  line_is : (step : Step) → HasParts task step → IsLine false (line_of task step)
  line_is step h = record { stamp = refl; action = is_name_of (action_text task step.action) (action_written step.action h.action); objects = words_are step.objects h.objects }

  -- it names the step
  objects_name : (ns : List ℕ) → HasObjects task ns → map (object_name task) ns ≡ map (λ (w : Word). Some w.text) (object_words task ns)
  objects_name _ no_objects = refl
  objects_name _ (one_object n ns h more) =
      ap (λ (o : Option Object). option_map (λ (x : Object). x.name) o ∷ map (object_name task) ns) h.is
      ∙ ap (λ (name : List ℕ). Some name ∷ map (object_name task) ns) (sym (object_is n h)) ∙ ap (λ (os : List (Option (List ℕ))). Some (object_text task n) ∷ os) (objects_name ns more)

  line_names : (step : Step) → HasParts task step → is_step task step ≡ true → Names task (line_of task step) step
  line_names step h e = record {
    action = ap (option_map (λ (a : Action). a.name)) h.action.is ∙ ap (λ (name : List ℕ). Some name) (sym (action_is step.action h.action));
    objects = objects_name step.objects h.objects;
    is_step = e;
  }

  -- its text has its lexemes
  abbrev words_text : List ℕ → List Lexeme → List Lexeme
  words_text ns ls = each (words.name spelled) (object_words task ns) ls

  objects_separate : (ns rest : List ℕ) → Separates rest → Separates (objects_text task ns ++ rest)
  objects_separate [] rest h = h
  objects_separate (n ∷ ns) rest h = refl

  shows_objects : {rest : List ℕ} {ls : List Lexeme} (ns : List ℕ) → HasObjects task ns → Shows rest ls → Separates rest → Shows (objects_text task ns ++ rest) (words_text ns ls)
  shows_objects _ no_objects e separates = e
  shows_objects {rest} {ls} _ (one_object n ns h more) e separates =
      let name = object_written n h in
      subst (λ (bytes : List ℕ). Shows bytes (words_text (n ∷ ns) ls)) (sym (append_assoc (codes " " ++ object_text task n) (objects_text task ns) rest))
      (shows_blank 32 refl (shows_name (object_text task n) name.is_name name.small (shows_objects ns more e separates) (objects_separate ns rest separates)))

  four_texts : (a b c d rest : List ℕ) → (a ++ b ++ c ++ d) ++ rest ≡ a ++ (b ++ (c ++ (d ++ rest)))
  four_texts a b c d rest = simp append_assoc

  shows_step : {rest : List ℕ} {ls : List Lexeme} (step : Step) → HasParts task step → Shows rest ls → Shows (step_text task step ++ rest) (text.line spelled (line_of task step) ls)
  shows_step {rest} {ls} step h e =
      let name = action_written step.action h.action in
      let last = shows_right (shows_blank 10 refl e) in
      subst (λ (bytes : List ℕ). Shows bytes (text.line spelled (line_of task step) ls)) (sym (four_texts (codes "(") (action_text task step.action) (objects_text task step.objects) (codes ")\n") rest))
      (shows_left (shows_name (action_text task step.action) name.is_name name.small (shows_objects step.objects h.objects last refl) (objects_separate step.objects (codes ")\n" ++ rest) refl)))

  -- none of its lexemes is a number
  abbrev AreShort : List Lexeme → Type 0
  AreShort ls = All IsShortLexeme ls

  short_words : (ws : List Word) (ls : List Lexeme) → AreShort ls → AreShort (each (words.name spelled) ws ls)
  short_words [] ls h = h
  short_words (w ∷ ws) ls h = All-cons IsShortLexeme (named w.text) (each (words.name spelled) ws ls) refl (short_words ws ls h)

  short_line : (step : Step) (ls : List Lexeme) → AreShort ls → AreShort (text.line spelled (line_of task step) ls)
  short_line step ls h =
      let objects = each (words.name spelled) (object_words task step.objects) (right ∷ ls) in
      All-cons IsShortLexeme left (named (action_text task step.action) ∷ objects) refl
      (All-cons IsShortLexeme (named (action_text task step.action)) objects refl (short_words (object_words task step.objects) (right ∷ ls) (All-cons IsShortLexeme right ls refl h)))

  -- ---- all steps

  module _ (good : IsTask task) where
    abbrev AreSteps : List Step → Type 0
    AreSteps steps = All (λ step. IsTrue (is_step task step)) steps

    lines_are : (steps : List Step) → AreSteps steps → All (IsLine false) (map (line_of task) steps)
    lines_are [] h = All-nil (IsLine false)
    lines_are (s ∷ ss) h =
        All-cons (IsLine false) (line_of task s) (map (line_of task) ss) (line_is s (parts_of task good s (All-head (λ step. IsTrue (is_step task step)) s ss h)))
        (lines_are ss (All-tail (λ step. IsTrue (is_step task step)) s ss h))

    lines_name : (steps : List Step) → AreSteps steps → NameAll task (map (line_of task) steps) steps
    lines_name [] h = tt
    lines_name (s ∷ ss) h =
        let is = All-head (λ step. IsTrue (is_step task step)) s ss h in
        (line_names s (parts_of task good s is) is, lines_name ss (All-tail (λ step. IsTrue (is_step task step)) s ss h))

    no_stamps : (steps : List Step) → RiseAfter None (map (line_of task) steps)
    no_stamps [] = tt
    no_stamps (s ∷ ss) = (tt, no_stamps ss)

    abbrev lines_text : List Step → List Lexeme
    lines_text steps = each (text.line spelled) (map (line_of task) steps) []

    shows_all : (steps : List Step) → AreSteps steps → Shows (steps_text task steps) (lines_text steps)
    shows_all [] h = shows_nothing
    shows_all (s ∷ ss) h =
        shows_step s (parts_of task good s (All-head (λ step. IsTrue (is_step task step)) s ss h)) (shows_all ss (All-tail (λ step. IsTrue (is_step task step)) s ss h))

    short_all : (steps : List Step) → AreShort (lines_text steps)
    short_all [] = All-nil IsShortLexeme
    short_all (s ∷ ss) = short_line s (lines_text ss) (short_all ss)

    -- the printed text of steps spells them
    pub steps_text_spells : (steps : List Step) → AreSteps steps → Spells task (steps_text task steps) steps
    steps_text_spells steps h = record {
      text = text_of task steps;
      spelled = record {
        is_plan = inr (lines_are steps h);
        lexemes_are = (lexemes-pieces (steps_text task steps) (lines_text steps)).1 (shows_all steps h).pieces_are;
        short = short_all steps;
      };
      rise = no_stamps steps;
      named = lines_name steps h;
    }

  -- the objects of a step are in their list
  objects_in : (ns : List ℕ) → HasObjects task ns → All (λ n. n < length task.objects) ns
  objects_in _ no_objects = All-nil (λ n. n < length task.objects)
  objects_in _ (one_object n ns h more) = All-cons (λ m. m < length task.objects) n ns (slice_get_within task.objects n h.object h.is) (objects_in ns more)

  pub objects_within : IsTask task → (step : Step) → is_step task step ≡ true → All (λ n. n < length task.objects) step.objects
  objects_within good step e = objects_in step.objects (parts_of task good step e).objects
