-- Lists whose items have faults that depend on the items before them: no fault so far, and what holds so far.
use Rattle.std.proofs.Common.{◌≡◌, ℕ, ◌+◌, ◌<◌, ◌≤◌, List, [], ◌∷◌, ◌++◌, take, drop, length, get_or, sym, ap, subst, ◌∙◌}
use Rattle.std.proofs.lemmas.List.{append-nil, append_assoc, take_more, take_all, at_drop_all}
use Rattle.np_names.specs.declared.fault.TypeFault.{TypeFault}
use Rattle.np_names.specs.Answers.{IsFirst}
use Rattle.np_names.specs.Names.{each_after}
use Rattle.np_names.proofs.Answering.{first_front}
use Rattle.np_names.proofs.Lists.{next_item}
use Rattle.np_typing.proofs.UsesAnswers.{first_same}

module _ {A S : Type 0} (f : List A → A → List TypeFault) (H : List A → S → Type 0) where
  -- the first i items have no fault, and this holds of what comes of them
  abbrev pub SoFar : List A → List A → ℕ → S → Type 0
  SoFar before xs i s = (each_after f before xs ≡ each_after f (before ++ take i xs) (drop i xs)) × H (before ++ take i xs) s

  -- one more item
  longer : (before xs : List A) (i : ℕ) (x : A) → i < length xs → x ≡ get_or xs i x → (before ++ take i xs) ++ x ∷ [] ≡ before ++ take (i + 1) xs
  longer before xs i x within is =
      append_assoc before (take i xs) (x ∷ []) ∙ ap (λ y. before ++ (take i xs ++ y ∷ [])) is ∙ ap (λ ys. before ++ ys) (sym (take_more xs i x within))

  next : (before xs : List A) (i : ℕ) (x : A) → i < length xs → x ≡ get_or xs i x
      → each_after f (before ++ take i xs) (drop i xs) ≡ f (before ++ take i xs) x ++ each_after f (before ++ take (i + 1) xs) (drop (i + 1) xs)
  next before xs i x within is =
      ap (each_after f (before ++ take i xs)) (next_item xs i x within is)
      ∙ ap (λ bs. f (before ++ take i xs) x ++ each_after f bs (drop (i + 1) xs)) (longer before xs i x within is)

  pub each_start : (before xs : List A) (s : S) → H before s → SoFar before xs 0 s
  each_start before xs s h = (ap (λ bs. each_after f bs xs) (sym (append-nil before)), subst (λ bs. H bs s) (sym (append-nil before)) h)

  pub each_step : (before xs : List A) (i : ℕ) (x : A) (old new : S) → i < length xs → x ≡ get_or xs i x → SoFar before xs i old
      → ((bs : List A) → H bs old → (f bs x ≡ []) × H (bs ++ x ∷ []) new) → SoFar before xs (i + 1) new
  each_step before xs i x old new within is h put =
      let one = put (before ++ take i xs) h.1 in (
        h.0 ∙ next before xs i x within is ∙ ap (λ fs. fs ++ each_after f (before ++ take (i + 1) xs) (drop (i + 1) xs)) one.0,
        subst (λ bs. H bs new) (longer before xs i x within is) one.1,
      )

  pub each_fault : (before xs : List A) (i : ℕ) (x : A) (old : S) (fault : TypeFault) → i < length xs → x ≡ get_or xs i x → SoFar before xs i old
      → ((bs : List A) → H bs old → IsFirst (f bs x) fault) → IsFirst (each_after f before xs) fault
  each_fault before xs i x old fault within is h put =
      first_same (each_after f before xs) (f (before ++ take i xs) x ++ each_after f (before ++ take (i + 1) xs) (drop (i + 1) xs)) fault
      (h.0 ∙ next before xs i x within is)
      (first_front (f (before ++ take i xs) x) (each_after f (before ++ take (i + 1) xs) (drop (i + 1) xs)) fault (put (before ++ take i xs) h.1))

  pub each_all : (before xs : List A) (i : ℕ) (s : S) → length xs ≤ i → SoFar before xs i s → (each_after f before xs ≡ []) × H (before ++ xs) s
  each_all before xs i s past h = (
    h.0 ∙ at_drop_all (each_after f (before ++ take i xs)) xs i past,
    subst (λ ys. H (before ++ ys) s) (take_all i xs past) h.1,
  )
