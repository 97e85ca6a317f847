-- Words that come again, in lists one after the other.
use Rattle.std.proofs.Common.{◌≡◌, ℕ, ◌+◌, ◌<◌, List, [], ◌∷◌, ◌++◌, length, get_or, drop, fold, refl, sym, ap, ◌∙◌, append_assoc, append-nil, if◌then◌else◌}
use Rattle.std.specs.List.{flat_map}
use Rattle.np_words.specs.declared.word.Word.{Word}
use Rattle.np_names.specs.declared.fault.TypeFault.{TypeFault}
use Rattle.np_names.specs.declared.fault.TypeFault.TheVariants.{At}
use Rattle.np_names.specs.declared.fault.Source.{Source}
use Rattle.np_names.specs.declared.fault.TypeWhy.{TypeWhy}
use Rattle.np_names.specs.Answers.{IsFirst}
use Rattle.np_names.specs.Faults.{faults_of}
use Rattle.np_names.specs.Names.{repeats, texts, is_among}
use Rattle.np_names.proofs.Answering.{first_front}
use Rattle.np_names.proofs.Lists.{flat_map_next, part_next}
use Rattle.np_names.specs.Names.{with_name}

-- faults at words, in two lists
pub faults_more : (source : Source) (why : TypeWhy) (xs ys : List Word) → faults_of source why (xs ++ ys) ≡ faults_of source why xs ++ faults_of source why ys
faults_more source why [] ys = refl
faults_more source why (x ∷ xs) ys = ap (λ fs. At source x.place why ∷ fs) (faults_more source why xs ys)

-- without a fault there is no word
pub no_fault : (source : Source) (why : TypeWhy) (xs : List Word) → faults_of source why xs ≡ [] → xs ≡ []
no_fault source why [] e = refl
no_fault source why (x ∷ xs) e = absurd cc

pub faults_first : (source : Source) (why : TypeWhy) (xs ys : List Word) (fault : TypeFault)
    → IsFirst (faults_of source why xs) fault → IsFirst (faults_of source why (xs ++ ys)) fault
faults_first source why xs ys fault h = rw (faults_more source why xs ys) (first_front _ _ fault h)

pub texts_more : (xs ys : List Word) → texts (xs ++ ys) ≡ texts xs ++ texts ys
texts_more [] ys = refl
texts_more (x ∷ xs) ys = ap (λ ts. x.text ∷ ts) (texts_more xs ys)

-- what two lists repeat, one after the other
pub repeats_more : (names : List (List ℕ)) (xs ys : List Word) → repeats names (xs ++ ys) ≡ repeats names xs ++ repeats (names ++ texts xs) ys
repeats_more names [] ys = ap (λ ns. repeats ns ys) (sym (append-nil names))
repeats_more names (x ∷ xs) ys =
    ap (λ rest. (if is_among x.text names then x ∷ [] else []) ++ rest)
    (repeats_more (names ++ x.text ∷ []) xs ys ∙ ap (λ ns. repeats (names ++ x.text ∷ []) xs ++ repeats ns ys) (append_assoc names (x.text ∷ []) (texts xs)))
    ∙ sym (append_assoc (if is_among x.text names then x ∷ [] else []) (repeats (names ++ x.text ∷ []) xs) (repeats (names ++ x.text ∷ texts xs) ys))

module _ (source : Source) (why : TypeWhy) (names : List (List ℕ)) (xs ys : List Word) where
  pub repeats_first : (fault : TypeFault) → IsFirst (faults_of source why (repeats names xs)) fault → IsFirst (faults_of source why (repeats names (xs ++ ys))) fault
  repeats_first fault h = rw (repeats_more names xs ys) (faults_first source why (repeats names xs) _ fault h)

  pub repeats_after : faults_of source why (repeats names xs) ≡ [] → repeats names (xs ++ ys) ≡ repeats (names ++ texts xs) ys
  repeats_after e = repeats_more names xs ys ∙ ap (λ front. front ++ repeats (names ++ texts xs) ys) (no_fault source why (repeats names xs) e)

  -- the same of a list without a fault, which is known to have none
  pub repeats_none : faults_of source why (repeats names xs) ≡ [] → faults_of source why (repeats (names ++ texts xs) ys) ≡ [] → faults_of source why (repeats names (xs ++ ys)) ≡ []
  repeats_none e f = ap (λ ws. faults_of source why ws) (repeats_after e) ∙ f

-- names with those of two lists
pub names_more : (names : List (List ℕ)) (xs ys : List Word) → names ++ texts (xs ++ ys) ≡ (names ++ texts xs) ++ texts ys
names_more names xs ys = ap (λ ts. names ++ ts) (texts_more xs ys) ∙ sym (append_assoc names (texts xs) (texts ys))

module _ (source : Source) (why : TypeWhy) (names : List (List ℕ)) (xs ys : List Word) where
  -- faults of words that come again, in two lists
  pub repeat_faults_more : faults_of source why (repeats names (xs ++ ys)) ≡ faults_of source why (repeats names xs) ++ faults_of source why (repeats (names ++ texts xs) ys)
  repeat_faults_more = ap (λ ws. faults_of source why ws) (repeats_more names xs ys) ∙ faults_more source why (repeats names xs) (repeats (names ++ texts xs) ys)

-- an item that gives no fault is past
module _ {X : Type 0} (source : Source) (why : TypeWhy) (f : X → List Word) (xs : List X) (i : ℕ) (x : X) (within : i < length xs) (is : x ≡ get_or xs i x) where
  pub past_item : faults_of source why (f x) ≡ [] → flat_map f (drop i xs) ≡ flat_map f (drop (i + 1) xs)
  past_item none = flat_map_next f xs i x within is ∙ ap (λ ws. ws ++ flat_map f (drop (i + 1) xs)) (no_fault source why (f x) none)

-- nor the parts of an item
module _ {X A : Type 0} (source : Source) (why : TypeWhy) (F : List A → List Word) (more : (xs ys : List A) → F (xs ++ ys) ≡ F xs ++ F ys) (part : X → List A) (xs : List X) (i : ℕ) (x : X)
    (within : i < length xs) (is : x ≡ get_or xs i x) where
  pub past_part : faults_of source why (F (part x)) ≡ [] → F (flat_map part (drop i xs)) ≡ F (flat_map part (drop (i + 1) xs))
  past_part none = part_next F more part xs i x within is ∙ ap (λ ws. ws ++ F (flat_map part (drop (i + 1) xs))) (no_fault source why (F (part x)) none)

-- adding names of two lists
fold_names : (names xs ys : List (List ℕ)) → fold with_name names (xs ++ ys) ≡ fold with_name (fold with_name names xs) ys
fold_names names [] ys = refl
fold_names names (x ∷ xs) ys = fold_names (with_name names x) xs ys

pub add_front : (names new : List (List ℕ)) (xs ys : List Word) → new ≡ fold with_name names (texts xs) → fold with_name names (texts (xs ++ ys)) ≡ fold with_name new (texts ys)
add_front names new xs ys e = ap (fold with_name names) (texts_more xs ys) ∙ (fold_names names (texts xs) (texts ys) ∙ ap (λ ns. fold with_name ns (texts ys)) (sym e))

-- adding what an item gives, and then the rest
pub add_next : {X : Type 0} (f : X → List Word) (names new : List (List ℕ)) (xs : List X) (i : ℕ) (x : X) → i < length xs → x ≡ get_or xs i x
    → new ≡ fold with_name names (texts (f x))
    → fold with_name names (texts (flat_map f (drop i xs))) ≡ fold with_name new (texts (flat_map f (drop (i + 1) xs)))
add_next f names new xs i x within is e =
    ap (λ ws. fold with_name names (texts ws)) (flat_map_next f xs i x within is) ∙ add_front names new (f x) (flat_map f (drop (i + 1) xs)) e
