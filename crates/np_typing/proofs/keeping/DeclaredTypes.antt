-- The types of a pair without faults: `object` is the first, and all lie under it.
use Rattle.std.proofs.Common.{◌≡◌, ℕ, suc, ◌<◌, Bool, true, false, refl, sym, ◌∙◌, ap, arith, List, [], ◌∷◌, ◌++◌, length, map, get_or, Option, Some, None, true≢false}
use Rattle.std.specs.Prelude.{◌⊎◌, bytes_eq, fold, filter, slice_get, if◌then◌else◌, codes}
use Rattle.std.specs.Option.{option_map, option_map_or}
use Rattle.std.specs.List.{flat_map}
use mathlib.Core.Logic.{inl, inr}
use Rattle.std.proofs.lemmas.Bool.{or_left, or_right}
use Rattle.std.proofs.lemmas.Grind.{fold-append}
use Rattle.std.proofs.lemmas.List.Elements.{All-map}
use Rattle.std.proofs.lemmas.List.{length-map, map-id}
use Rattle.std.proofs.lemmas.Option.{slice_get-map, slice_get-get_or}
use Rattle.np_model.specs.declared.task.TypeName.{TypeName}
use Rattle.np_model.specs.Types.{parent_of, is_under}
use Rattle.np_model.specs.Tasks.{AreTypeNames}
use Rattle.np_words.specs.declared.word.Word.{Word}
use Rattle.np_words.specs.declared.word.Group.{Group}
use Rattle.np_syntax.specs.declared.domain.Domain.{Domain}
use Rattle.np_problem.specs.declared.problem.Problem.{Problem}
use Rattle.np_names.specs.Names.{texts, is_among, number_of, given_word, typed, typed_words, object, is_object}
use Rattle.np_declared.specs.Types.{type_words, type_names, supertype_with, supertype, type_named, types_of}
use Rattle.np_names.specs.Declarations.{all_types}
use Rattle.np_declared.specs.TypeRules.{is_under_itself, is_cyclic, cyclic_words}
use Rattle.np_typing.specs.TaskOf.{task_of}
use Rattle.np_typing.proofs.keeping.DeclaredParts.{first_empty, second_empty, map_empty, BreaksNoRule}
use Rattle.np_typing.proofs.keeping.DeclaredLists.{map_twice, filter_none, among_append}
use Rattle.np_typing.proofs.keeping.DeclaredNumbers.{same_text, text_same, number_below, number_at, firsts_have, firsts_distinct, firsts_begin}
use Rattle.np_typing.proofs.keeping.DeclaredHops.{all_lead}

-- ---- the names of the types

pub types_names : (groups : List Group) → map (λ t. t.name) (types_of groups) ≡ type_names groups
types_names groups = map_twice (type_named groups) (λ (t : TypeName). t.name) (type_names groups) ∙ map-id (type_names groups)

-- ---- the supertype of a name

-- a name that is listed under a type: it isn't `object`, and it is no type under itself
pub record IsStraight (all : List Group) (name : List ℕ) : Type 0 where
  pub other : bytes_eq name object ≡ false
  pub straight : is_under_itself (types_of all) (number_of (type_names all) name) ≡ false

module _ (all : List Group) (name : List ℕ) where
  straight_word : (t w : Word) → bytes_eq name w.text ≡ true → is_cyclic (types_of all) (Some t) w ≡ false → IsStraight all name
  straight_word t w same e = by (is_object w) refl e
    where
      by : (b : Bool) → is_object w ≡ b → (if b then true else is_under_itself (types_of all) (number_of (map (λ t. t.name) (types_of all)) w.text)) ≡ false → IsStraight all name
      by true is e = absurd (true≢false e)
      by false is straight = record {
        other = ap (λ n. bytes_eq n object) (same_text name w.text same) ∙ is;
        straight =
            ap (λ n. is_under_itself (types_of all) (number_of (type_names all) n)) (same_text name w.text same)
            ∙ ap (λ names. is_under_itself (types_of all) (number_of names w.text)) (sym (types_names all)) ∙ straight;
      }

  words_under : (over : List ℕ) (t : Word) (words : List Word) → filter (is_cyclic (types_of all) (Some t)) words ≡ []
      → (fold (supertype_with name) over (typed (Some t) words) ≡ over) ⊎ IsStraight all name
  words_under over t [] e = inl refl
  words_under over t (w ∷ words) e = by (bytes_eq name w.text) refl (words_under over t words (filter_none (is_cyclic (types_of all) (Some t)) w words e).1)
    where
      by : (b : Bool) → bytes_eq name w.text ≡ b → ((fold (supertype_with name) over (typed (Some t) words) ≡ over) ⊎ IsStraight all name)
          → (fold (supertype_with name) (if b then t.text else over) (typed (Some t) words) ≡ over) ⊎ IsStraight all name
      by true is rest = inr (straight_word t w is (filter_none (is_cyclic (types_of all) (Some t)) w words e).0)
      by false is rest = rest

  words_alone : (over : List ℕ) (words : List Word) → fold (supertype_with name) over (typed None words) ≡ over
  words_alone over [] = refl
  words_alone over (w ∷ words) = words_alone over words

  group_under : (over : List ℕ) (of : Option Word) (words : List Word) → filter (is_cyclic (types_of all) of) words ≡ []
      → (fold (supertype_with name) over (typed of words) ≡ over) ⊎ IsStraight all name
  group_under over None words e = inl (words_alone over words)
  group_under over (Some t) words e = words_under over t words e

  -- it is the one before, or the name is listed under a type
  groups_under : (over : List ℕ) (groups : List Group) → cyclic_words (types_of all) groups ≡ []
      → (fold (supertype_with name) over (typed_words groups) ≡ over) ⊎ IsStraight all name
  groups_under over [] e = inl refl
  groups_under over (g ∷ groups) e =
      by (group_under over g.of g.words (first_empty _ _ e)) (groups_under over groups (second_empty (filter (is_cyclic (types_of all) g.of) g.words) _ e))
    where
      by : ((fold (supertype_with name) over (typed g.of g.words) ≡ over) ⊎ IsStraight all name)
          → ((fold (supertype_with name) over (typed_words groups) ≡ over) ⊎ IsStraight all name)
          → (fold (supertype_with name) over (typed g.of g.words ++ typed_words groups) ≡ over) ⊎ IsStraight all name
      by (inr s) rest = inr s
      by (inl same) (inr s) = inr s
      by (inl same) (inl rest) =
          inl (fold-append (supertype_with name) over (typed g.of g.words) (typed_words groups) ∙ ap (λ o. fold (supertype_with name) o (typed_words groups)) same ∙ rest)

-- ---- it is among the types

-- what holds of `object` and of each supertype holds of that of a name
module _ (P : List ℕ → Type 0) (name : List ℕ) where
  kept_words : (over : List ℕ) (of : Option Word) (words : List Word) → P over → ((m : List ℕ) → is_among m (texts (given_word of)) ≡ true → P m)
      → P (fold (supertype_with name) over (typed of words))
  kept_words over of [] h k = h
  kept_words over None (w ∷ words) h k = kept_words over None words h k
  kept_words over (Some t) (w ∷ words) h k = kept_words (supertype_with name over (w, Some t)) (Some t) words (by (bytes_eq name w.text)) k
    where
      by : (b : Bool) → P (if b then t.text else over)
      by true = k t.text (or_left _ _ (text_same t.text))
      by false = h

  kept_groups : (over : List ℕ) (groups : List Group) → P over → ((m : List ℕ) → is_among m (texts (flat_map type_words groups)) ≡ true → P m)
      → P (fold (supertype_with name) over (typed_words groups))
  kept_groups over [] h k = h
  kept_groups over (g ∷ groups) h k =
      rw (fold-append (supertype_with name) over (typed g.of g.words) (typed_words groups))
      (kept_groups (fold (supertype_with name) over (typed g.of g.words)) groups
      (kept_words over g.of g.words h (λ m e. k m (among_append m (type_words g) (flat_map type_words groups) ∙ or_left _ _ (among_append m g.words (given_word g.of) ∙ or_right _ _ e))))
      (λ m e. k m (among_append m (type_words g) (flat_map type_words groups) ∙ or_right _ _ e)))

pub supertype_among : (groups : List Group) (name : List ℕ) → is_among (supertype groups name) (type_names groups) ≡ true
supertype_among groups name =
    kept_groups (λ m. is_among m (type_names groups) ≡ true) name object groups
    (firsts_have (object ∷ texts (flat_map type_words groups)) object (or_left (bytes_eq object object) (is_among object (texts (flat_map type_words groups))) (text_same object)))
    (λ m e. firsts_have (object ∷ texts (flat_map type_words groups)) m (or_right _ _ e))

-- ---- the types

pub types_begin : (groups : List Group) → (others : List (List ℕ)) × (type_names groups ≡ object ∷ others)
types_begin groups = firsts_begin object (texts (flat_map type_words groups))

-- `object` has number 0
pub object_first : (groups : List Group) → number_of (type_names groups) object ≡ 0
object_first groups = ap (λ names. number_of names object) (types_begin groups).1 ∙ by (bytes_eq object object) (text_same object)
  where
    by : (b : Bool) → b ≡ true → (if b then 0 else suc (number_of (types_begin groups).0 object)) ≡ 0
    by true e = refl
    by false e = absurd (true≢false (sym e))

pub types_length : (groups : List Group) → length (types_of groups) ≡ length (type_names groups)
types_length groups = length-map (type_names groups) (type_named groups)

pub name_at : (groups : List Group) (of : ℕ) → of < length (types_of groups) → slice_get (type_names groups) of ≡ Some (get_or (type_names groups) of [])
name_at groups of h = let e = types_length groups in slice_get-get_or (type_names groups) of [] (omega arith)

parent_at : (groups : List Group) (of : ℕ) (n : List ℕ) → slice_get (type_names groups) of ≡ Some n → parent_of (types_of groups) of ≡ number_of (type_names groups) (supertype groups n)
parent_at groups of n e =
    ap (λ (o : Option TypeName). option_map_or (λ t. t.parent) o of) (slice_get-map (type_named groups) (type_names groups) of ∙ ap (option_map (type_named groups)) e)

parent_below : (groups : List Group) (name : List ℕ) → number_of (type_names groups) (supertype groups name) < length (types_of groups)
parent_below groups name = let e = types_length groups in let h = number_below (type_names groups) (supertype groups name) (supertype_among groups name) in omega arith

module _ (groups : List Group) (none : cyclic_words (types_of groups) groups ≡ []) where
  object_under : supertype groups object ≡ object
  object_under = by (groups_under groups object object groups none)
    where
      by : ((supertype groups object ≡ object) ⊎ IsStraight groups object) → supertype groups object ≡ object
      by (inl e) = e
      by (inr s) = absurd (true≢false (sym (text_same object) ∙ s.other))

  types_first : slice_get (types_of groups) 0 ≡ Some (record { name = codes "object"; parent = 0 })
  types_first =
      ap (λ names. slice_get (map (type_named groups) names) 0) (types_begin groups).1
      ∙ ap (λ (p : ℕ). Some (record { name = object; parent = p })) (ap (number_of (type_names groups)) object_under ∙ object_first groups)

  apart : (of : ℕ) → of < length (types_of groups) → (parent_of (types_of groups) of ≡ 0) ⊎ (is_under (types_of groups) (parent_of (types_of groups) of) of ≡ false)
  apart of h = by (groups_under groups (get_or (type_names groups) of []) object groups none)
    where
      there : slice_get (type_names groups) of ≡ Some (get_or (type_names groups) of [])
      there = name_at groups of h

      by : ((supertype groups (get_or (type_names groups) of []) ≡ object) ⊎ IsStraight groups (get_or (type_names groups) of []))
          → (parent_of (types_of groups) of ≡ 0) ⊎ (is_under (types_of groups) (parent_of (types_of groups) of) of ≡ false)
      by (inl e) = inl (parent_at groups of (get_or (type_names groups) of []) there ∙ ap (number_of (type_names groups)) e ∙ object_first groups)
      by (inr s) = inr (ap (is_under_itself (types_of groups)) (sym (number_at (type_names groups) of (get_or (type_names groups) of []) (firsts_distinct (object ∷ texts (flat_map type_words groups))) there)) ∙ s.straight)

  within : (of : ℕ) → of < length (types_of groups) → parent_of (types_of groups) of < length (types_of groups)
  within of h = rw (parent_at groups of _ (name_at groups of h)) (parent_below groups _)

  types_keep : AreTypeNames (types_of groups)
  types_keep = record {
    first = types_first;
    parents = All-map (λ t. t.parent < length (types_of groups)) (type_named groups) (type_names groups) (λ k d h. parent_below groups _);
    rooted = λ of h. all_lead (types_of groups) within apart of h;
  }

pub declared_types : (domain : Domain) (problem : Problem) → BreaksNoRule domain problem → AreTypeNames (task_of domain problem).types
declared_types domain problem h = types_keep (all_types domain) (map_empty _ _ h.no_cycles)
