-- The places of a text have no part in what it says.
use Rattle.std.proofs.Common.{◌≡◌, ℕ, List, [], ◌∷◌, map, length, Option, None, Some, refl, sym, ap, subst, ◌∙◌}
use Rattle.std.specs.Option.{option_map}
use Rattle.std.proofs.lemmas.List.{length-map}
use Rattle.np_frac.specs.Fractions.{Fraction}
use Rattle.np_model.specs.declared.task.Step.{Step}
use Rattle.np_model.specs.declared.task.TaskParts.{TaskParts}
use Rattle.np_words.specs.declared.word.Decimal.{Decimal}
use Rattle.np_words.specs.declared.word.Word.{Word}
use Rattle.np_words.specs.Bare.{bare_word, bare_decimal}
use Rattle.np_words.specs.Numbers.{fraction_of}
use Rattle.np_plan.specs.declared.plan.PlanLine.{PlanLine}
use Rattle.np_plan.specs.declared.plan.PlanText.{PlanText}
use Rattle.np_plan.specs.PlanText.{bare_line, bare_plan}
use Rattle.np_plan.specs.Plans.{stamp_of, IsAbove, RiseAfter, Rise, NameAll}

-- ---- stamps

fraction_bare : (d : Decimal) → fraction_of (bare_decimal d) ≡ fraction_of d
unfolding fraction_of
fraction_bare d = refl

stamp_bare_by : (s : Option Decimal) → option_map fraction_of (option_map bare_decimal s) ≡ option_map fraction_of s
stamp_bare_by None = refl
stamp_bare_by (Some d) = ap (λ (f : Fraction). Some f) (fraction_bare d)

stamp_bare : (l : PlanLine) → stamp_of (bare_line l) ≡ stamp_of l
stamp_bare l = stamp_bare_by l.stamp

rise_bare : (before : Option Fraction) (ls : List PlanLine) → RiseAfter before ls → RiseAfter before (map bare_line ls)
rise_bare before [] h = tt
rise_bare before (l ∷ ls) h =
    (subst (IsAbove before) (sym (stamp_bare l)) h.0, subst (λ (s : Option Fraction). RiseAfter s (map bare_line ls)) (sym (stamp_bare l)) (rise_bare (stamp_of l) ls h.1))

bare_rise : (before : Option Fraction) (ls : List PlanLine) → RiseAfter before (map bare_line ls) → RiseAfter before ls
bare_rise before [] h = tt
bare_rise before (l ∷ ls) h =
    (subst (IsAbove before) (stamp_bare l) h.0, bare_rise (stamp_of l) ls (subst (λ (s : Option Fraction). RiseAfter s (map bare_line ls)) (stamp_bare l) h.1))

-- ---- steps

abbrev texts : List Word → List (Option (List ℕ))
texts ws = map (λ w. Some w.text) ws

texts_bare : (ws : List Word) → texts (map bare_word ws) ≡ texts ws
texts_bare [] = refl
texts_bare (w ∷ ws) = ap (λ (xs : List (Option (List ℕ))). Some w.text ∷ xs) (texts_bare ws)

module _ (task : TaskParts) where
  names_bare : (ls : List PlanLine) (ss : List Step) → NameAll task ls ss → NameAll task (map bare_line ls) ss
  names_bare [] [] h = tt
  names_bare [] (s ∷ ss) h = h
  names_bare (l ∷ ls) [] h = h
  names_bare (l ∷ ls) (s ∷ ss) h = (record { action = h.0.action; objects = h.0.objects ∙ sym (texts_bare l.objects); is_step = h.0.is_step }, names_bare ls ss h.1)

  bare_names : (ls : List PlanLine) (ss : List Step) → NameAll task (map bare_line ls) ss → NameAll task ls ss
  bare_names [] [] h = tt
  bare_names [] (s ∷ ss) h = h
  bare_names (l ∷ ls) [] h = h
  bare_names (l ∷ ls) (s ∷ ss) h = (record { action = h.0.action; objects = h.0.objects ∙ texts_bare l.objects; is_step = h.0.is_step }, bare_names ls ss h.1)

module _ (p q : PlanText) (same : bare_plan p ≡ bare_plan q) where
  bare_lines : map bare_line p.lines ≡ map bare_line q.lines
  bare_lines = ap (λ (t : PlanText). t.lines) same

  pub rise_also : Rise p.lines → Rise q.lines
  rise_also h = bare_rise None q.lines (subst (RiseAfter None) bare_lines (rise_bare None p.lines h))

  pub names_also : (task : TaskParts) (ss : List Step) → NameAll task p.lines ss → NameAll task q.lines ss
  names_also task ss h = bare_names task q.lines ss (subst (λ (ls : List PlanLine). NameAll task ls ss) bare_lines (names_bare task p.lines ss h))

  pub long_also : length p.lines ≡ length q.lines
  long_also = sym (length-map p.lines bare_line) ∙ ap length bare_lines ∙ length-map q.lines bare_line
