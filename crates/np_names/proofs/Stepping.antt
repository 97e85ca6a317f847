-- Loops that put names and look for those that come again.
use Rattle.std.proofs.Common.{◌≡◌, ℕ, ◌+◌, ◌<◌, List, [], ◌∷◌, ◌++◌, length, get_or, take, drop, None, sym, subst, ap, ◌∙◌, append_assoc}
use Rattle.std.proofs.lemmas.List.{take_more}
use Rattle.std.proofs.lemmas.Grind.{flat_map-append}
use Rattle.std.specs.List.{flat_map}
use Rattle.np_problem.specs.declared.problem.ProblemSection.{ProblemSection}
use Rattle.std.proofs.lemmas.List.Elements.{filter-append}
use Rattle.std.specs.Prelude.{not}
use Rattle.np_words.specs.declared.word.Word.{Word}
use Rattle.np_words.specs.declared.word.Group.{Group}
use Rattle.np_syntax.specs.declared.domain.Declared.{Declared}
use Rattle.np_names.specs.declared.fault.TypeFault.{TypeFault}
use Rattle.np_names.specs.declared.fault.Source.{Source}
use Rattle.np_names.specs.declared.fault.TypeWhy.{TypeWhy}
use Rattle.np_names.specs.Answers.{IsFirst}
use Rattle.np_names.specs.Declarations.{object_groups, listed_under, listed_types, declared_repeats}
use Rattle.np_names.specs.Faults.{faults_of}
use Rattle.np_names.specs.Names.{each_after, repeats, texts, words_of, is_object}
use Rattle.np_names.proofs.Lists.{next_item}
use Rattle.np_names.proofs.Repeats.{faults_first, no_fault, texts_more, repeats_more}

-- what items repeat one after the other, after names: of each item something, and then the rest after its names
module _ {X : Type 0} (one : List (List ℕ) → X → List Word) (all : List (List ℕ) → List X → List Word) (names_one : X → List (List ℕ)) (names_all : List X → List (List ℕ))
    (all_cons : (names : List (List ℕ)) (x : X) (xs : List X) → all names (x ∷ xs) ≡ one names x ++ all (names ++ names_one x) xs)
    (names_cons : (x : X) (xs : List X) → names_all (x ∷ xs) ≡ names_one x ++ names_all xs)
    (source : Source) (why : TypeWhy) (init names : List (List ℕ)) (xs : List X) (i : ℕ) (x : X) (within : i < length xs) (is : x ≡ get_or xs i x) where
  next : all names (drop i xs) ≡ one names x ++ all (names ++ names_one x) (drop (i + 1) xs)
  next = ap (all names) (next_item xs i x within is) ∙ all_cons names x (drop (i + 1) xs)

  -- the first fault of an item is the first of all
  pub step_first : all init xs ≡ all names (drop i xs) → (fault : TypeFault) → IsFirst (faults_of source why (one names x)) fault → IsFirst (faults_of source why (all init xs)) fault
  step_first e fault h = rw (e ∙ next) (faults_first source why (one names x) (all (names ++ names_one x) (drop (i + 1) xs)) fault h)

  -- an item without a fault is put
  pub step_kept : (new : List (List ℕ)) → (init ++ names_all xs ≡ names ++ names_all (drop i xs)) × (all init xs ≡ all names (drop i xs))
      → faults_of source why (one names x) ≡ [] → new ≡ names ++ names_one x
      → (init ++ names_all xs ≡ new ++ names_all (drop (i + 1) xs)) × (all init xs ≡ all new (drop (i + 1) xs))
  step_kept new h none put = (
    h.0 ∙ (ap (λ ys. names ++ names_all ys) (next_item xs i x within is)
        ∙ (ap (λ ns. names ++ ns) (names_cons x (drop (i + 1) xs))
        ∙ (sym (append_assoc names (names_one x) (names_all (drop (i + 1) xs))) ∙ ap (λ ns. ns ++ names_all (drop (i + 1) xs)) (sym put)))),
    h.1 ∙ (next ∙ (ap (λ ws. ws ++ all (names ++ names_one x) (drop (i + 1) xs)) (no_fault source why (one names x) none)
        ∙ ap (λ ns. all ns (drop (i + 1) xs)) (sym put))),
  )

-- the same where the items are those of a list by another name
module _ {X : Type 0} (one : List (List ℕ) → X → List Word) (all : List (List ℕ) → List X → List Word) (names_one : X → List (List ℕ)) (names_all : List X → List (List ℕ))
    (all_cons : (names : List (List ℕ)) (x : X) (xs : List X) → all names (x ∷ xs) ≡ one names x ++ all (names ++ names_one x) xs)
    (names_cons : (x : X) (xs : List X) → names_all (x ∷ xs) ≡ names_one x ++ names_all xs)
    (source : Source) (why : TypeWhy) (init names : List (List ℕ)) (whole xs : List X) (same : xs ≡ whole) (i : ℕ) (x : X) (within : i < length xs) (is : x ≡ get_or xs i x) where
  pub step_first_in : all init whole ≡ all names (drop i xs) → (fault : TypeFault) → IsFirst (faults_of source why (one names x)) fault → IsFirst (faults_of source why (all init whole)) fault
  step_first_in e fault h =
      let P : List X → Type 0 = λ ys. IsFirst (faults_of source why (all init ys)) fault in
      subst P same (step_first one all names_one names_all all_cons names_cons source why init names xs i x within is (ap (all init) same ∙ e) fault h)

  pub step_kept_in : (new : List (List ℕ)) → (init ++ names_all whole ≡ names ++ names_all (drop i xs)) × (all init whole ≡ all names (drop i xs))
      → faults_of source why (one names x) ≡ [] → new ≡ names ++ names_one x
      → (init ++ names_all whole ≡ new ++ names_all (drop (i + 1) xs)) × (all init whole ≡ all new (drop (i + 1) xs))
  step_kept_in new h none put =
      let kept = step_kept one all names_one names_all all_cons names_cons source why init names xs i x within is new
      (ap (λ ys. init ++ names_all ys) same ∙ h.0, ap (all init) same ∙ h.1) none put in
      (ap (λ ys. init ++ names_all ys) (sym same) ∙ kept.0, ap (all init) (sym same) ∙ kept.1)

-- ---- such lists

pub objects_cons : (names : List (List ℕ)) (s : ProblemSection) (ss : List ProblemSection)
    → repeats names (words_of (flat_map object_groups (s ∷ ss))) ≡ repeats names (words_of (object_groups s)) ++ repeats (names ++ texts (words_of (object_groups s))) (words_of (flat_map object_groups ss))
objects_cons names s ss = ap (repeats names) (flat_map-append (λ g. g.words) (object_groups s) (flat_map object_groups ss)) ∙ repeats_more names (words_of (object_groups s)) (words_of (flat_map object_groups ss))

pub objects_names_cons : (s : ProblemSection) (ss : List ProblemSection)
    → texts (words_of (flat_map object_groups (s ∷ ss))) ≡ texts (words_of (object_groups s)) ++ texts (words_of (flat_map object_groups ss))
objects_names_cons s ss = ap texts (flat_map-append (λ g. g.words) (object_groups s) (flat_map object_groups ss)) ∙ texts_more (words_of (object_groups s)) (words_of (flat_map object_groups ss))

pub listed_cons : (names : List (List ℕ)) (g : Group) (gs : List Group)
    → repeats names (listed_types (g ∷ gs)) ≡ repeats names (listed_under g.of g.words) ++ repeats (names ++ texts (listed_under g.of g.words)) (listed_types gs)
listed_cons names g gs = repeats_more names (listed_under g.of g.words) (listed_types gs)

pub listed_names_cons : (g : Group) (gs : List Group) → texts (listed_types (g ∷ gs)) ≡ texts (listed_under g.of g.words) ++ texts (listed_types gs)
listed_names_cons g gs = texts_more (listed_under g.of g.words) (listed_types gs)

untyped_more : (w : Word) (ws : List Word) → listed_under None (w ∷ ws) ≡ listed_under None (w ∷ []) ++ listed_under None ws
untyped_more w ws = filter-append (λ w. not (is_object w)) (w ∷ []) ws

pub untyped_cons : (names : List (List ℕ)) (w : Word) (ws : List Word)
    → repeats names (listed_under None (w ∷ ws)) ≡ repeats names (listed_under None (w ∷ [])) ++ repeats (names ++ texts (listed_under None (w ∷ []))) (listed_under None ws)
untyped_cons names w ws = ap (repeats names) (untyped_more w ws) ∙ repeats_more names (listed_under None (w ∷ [])) (listed_under None ws)

pub untyped_names_cons : (w : Word) (ws : List Word) → texts (listed_under None (w ∷ ws)) ≡ texts (listed_under None (w ∷ [])) ++ texts (listed_under None ws)
untyped_names_cons w ws = ap texts (untyped_more w ws) ∙ texts_more (listed_under None (w ∷ [])) (listed_under None ws)

-- what a declaration repeats
abbrev pub declared_one : List (List ℕ) → Declared → List Word
declared_one names x = repeats names (x.name ∷ []) ++ repeats [] (words_of x.parameters)

pub declared_cons : (names : List (List ℕ)) (x : Declared) (xs : List Declared)
    → declared_repeats names (x ∷ xs) ≡ declared_one names x ++ declared_repeats (names ++ x.name.text ∷ []) xs
declared_cons names x xs = sym (append_assoc (repeats names (x.name ∷ [])) (repeats [] (words_of x.parameters)) (declared_repeats (names ++ x.name.text ∷ []) xs))

-- ---- lists whose items depend on those before

module _ {A B : Type 0} (f : List A → A → List B) (xs : List A) (i : ℕ) (x : A) (within : i < length xs) (is : x ≡ get_or xs i x) where
  pub taken : take (i + 1) xs ≡ take i xs ++ x ∷ []
  taken = take_more xs i x within ∙ ap (λ y. take i xs ++ y ∷ []) (sym is)

  pub each_after_next : each_after f (take i xs) (drop i xs) ≡ f (take i xs) x ++ each_after f (take (i + 1) xs) (drop (i + 1) xs)
  each_after_next = ap (each_after f (take i xs)) (next_item xs i x within is) ∙ ap (λ before. f (take i xs) x ++ each_after f before (drop (i + 1) xs)) (sym taken)
