-- A row's right side falls by no more than the coefficient of the step that is taken, and is at most 0 at the goal.
use Rattle.std.proofs.Common.{◌≡◌, ℕ, ℤ, pos, ◌+ℤ◌, ◌-ℤ◌, ◌^◌, Bool, true, false, not, ◌&&◌, ◌||◌, eqb, List, [], ◌∷◌, length, get_or, All, refl, sym, ap, ◌∙◌, subst, inl, inr, arith, Option, Some, None}
use Rattle.std.specs.Prelude.{filter, ◌≤ℤ◌, int_le, int_lt, slice_get, is_some, Contains}
use Rattle.std.specs.Int.{int_min}
use Rattle.std.specs.Ordering.{int_eq}
use Rattle.std.specs.Cmp.{signed_Decides}
use Rattle.std.specs.List.{list_all, list_any}
use Rattle.std.specs.Option.{option_map_or, option_and_then}
use Rattle.std.proofs.lemmas.Int.{ints, clamps}
use Rattle.std.proofs.lemmas.Bool.{eqb-true, or_cases, and_parts, true≢false, false≢true, false_from_ne_true}
use Rattle.std.proofs.lemmas.List.Folds.{Any-from_list_any}
use Rattle.std.proofs.lemmas.List.Elements.{All-contains}
use Rattle.np_flat.specs.declared.state.FlatState.{FlatState}
use Rattle.np_flat.specs.declared.parts.Form.{Form}
use Rattle.np_flat.specs.declared.parts.Subgoal.{Subgoal}
use Rattle.np_flat.specs.declared.parts.Subgoal.TheVariants as subgoal
use Rattle.np_flat.specs.declared.parts.FlatStep.{FlatStep}
use Rattle.np_flat.specs.declared.parts.Parts.{Parts}
use Rattle.np_flat.specs.Flats.{IsStep}
use Rattle.np_flat.specs.States.{has, terms_value, form_value, subgoal_holds, holds, is_goal, meets, state_after}
use Rattle.np_flat.proofs.Ascending.{has_put_all}
use Rattle.np_count.specs.declared.proof.Row.{Row}
use Rattle.np_count.specs.declared.proof.Row.TheVariants as row
use Rattle.np_flat.specs.Achieving.{net, achieves, achieves_at, is_fact, names_fact, as_form, form_at}
use Rattle.np_count.specs.Rows.{makes, is_so, one_if, one_way, flow, coefficient, value_of, right, same_terms, guards, is_guarded, is_allowed}
use Rattle.np_flat.proofs.NetChanges.{form_changed}
use Rattle.np_count.proofs.Tests.{any_all, all_has, any_from, any_new, has_filter}

-- ---- numbers

demand_falls : (v n w : ℤ) → w ≡ v +ℤ n → (pos 0 -ℤ v) ≤ℤ (n +ℤ (pos 0 -ℤ w))
demand_falls v n w e = omega (arith, ints)

demand_ends : (v : ℤ) → int_le (pos 0) v ≡ true → (pos 0 -ℤ v) ≤ℤ pos 0
demand_ends v h = grind (arith, ints)

floor_stays : (m v n w : ℤ) → w ≡ v +ℤ n → pos 0 ≤ℤ n → int_min (pos 0) (m -ℤ v) ≤ℤ (n +ℤ int_min (pos 0) (m -ℤ w))
floor_stays m v n w e h = omega (arith, ints, clamps)

floor_falls : (m v n w : ℤ) → w ≡ v +ℤ n → (m -ℤ n) ≤ℤ v → int_min (pos 0) (m -ℤ v) ≤ℤ (n +ℤ int_min (pos 0) (m -ℤ w))
floor_falls m v n w e h = omega (arith, ints, clamps)

floor_ends : (x : ℤ) → int_min (pos 0) x ≤ℤ pos 0
floor_ends x = omega (arith, ints, clamps)

flow_falls : (a d n x y : Bool) (g : ℤ) → (a ≡ true → d ≡ false) → (n ≡ true → x ≡ true) → y ≡ (a || (not d && x)) → (g -ℤ one_if x) ≤ℤ (one_way (a && not n) (n && d) +ℤ (g -ℤ one_if y))
flow_falls true true n x y g apart needs e = absurd (true≢false (apart refl))
flow_falls true false true true y g apart needs e = rw e (omega (arith, ints))
flow_falls true false true false y g apart needs e = absurd (false≢true (needs refl))
flow_falls true false false true y g apart needs e = rw e (omega (arith, ints))
flow_falls true false false false y g apart needs e = rw e (omega (arith, ints))
flow_falls false true true true y g apart needs e = rw e (omega (arith, ints))
flow_falls false true true false y g apart needs e = absurd (false≢true (needs refl))
flow_falls false true false true y g apart needs e = rw e (omega (arith, ints))
flow_falls false true false false y g apart needs e = rw e (omega (arith, ints))
flow_falls false false true true y g apart needs e = rw e (omega (arith, ints))
flow_falls false false true false y g apart needs e = absurd (false≢true (needs refl))
flow_falls false false false true y g apart needs e = rw e (omega (arith, ints))
flow_falls false false false false y g apart needs e = rw e (omega (arith, ints))

flow_ends : (g x : Bool) → (g ≡ true → x ≡ true) → (one_if g -ℤ one_if x) ≤ℤ pos 0
flow_ends true true by = omega (arith, ints)
flow_ends true false by = absurd (false≢true (by refl))
flow_ends false true by = omega (arith, ints)
flow_ends false false by = omega (arith, ints)

-- h and t: whether one of them holds before and after; a: whether the step achieves one; r: whether it requires one
cut_falls : (h t g a r : Bool) → (h ≡ false → t ≡ true → a ≡ true) → (h ≡ false → r ≡ false) → one_if (not h && g) ≤ℤ (one_if (a && not r) +ℤ one_if (not t && g))
cut_falls false true true a r new none = rw (new refl refl, none refl) (omega (arith, ints))
cut_falls false true false a r new none = rw (new refl refl, none refl) (omega (arith, ints))
cut_falls false false true true r new none = rw (none refl) (omega (arith, ints))
cut_falls false false true false r new none = omega (arith, ints)
cut_falls false false false true r new none = rw (none refl) (omega (arith, ints))
cut_falls false false false false r new none = omega (arith, ints)
cut_falls true t g a r new none = at_least (a && not r) (not t && g)
  where
    at_least : (x y : Bool) → pos 0 ≤ℤ (one_if x +ℤ one_if y)
    at_least true true = omega (arith, ints)
    at_least true false = omega (arith, ints)
    at_least false true = omega (arith, ints)
    at_least false false = omega (arith, ints)

cut_ends : (h g : Bool) → (g ≡ true → h ≡ true) → one_if (not h && g) ≤ℤ pos 0
cut_ends true g by = omega (arith, ints)
cut_ends false true by = absurd (false≢true (by refl))
cut_ends false false by = omega (arith, ints)

-- ---- facts

-- a fact after a step
has_after : (step : FlatStep) (s : FlatState) (p : ℕ) → has (state_after step s).facts p ≡ (has step.adds p || (not (has step.deletes p) && has s.facts p))
has_after step s p =
    has_put_all step.adds (filter (λ q. not (has step.deletes q)) s.facts) p ∙ ap (λ b. has step.adds p || b) (has_filter (λ q. not (has step.deletes q)) s.facts p)

has_contains : (xs : List ℕ) (p : ℕ) → has xs p ≡ true → Contains xs p
has_contains xs p there =
    let at = Any-from_list_any (λ m. eqb m p) xs there in
    (at.0, at.2, subst (λ y. get_or xs at.0 y ≡ y) (eqb-true at.1 p at.4) at.3)

-- no fact is both added and deleted
apart_at : (adds : List ℕ) (deletes : List ℕ) (p : ℕ) → All (λ q. Contains adds q → ⊥) deletes → has adds p ≡ true → has deletes p ≡ false
apart_at adds deletes p apart there =
    false_from_ne_true (has deletes p) (λ both. All-contains (λ q. Contains adds q → ⊥) deletes p apart (has_contains deletes p both) (has_contains adds p there))

apart_way : (positive : Bool) (step : FlatStep) (p : ℕ) → All (λ q. Contains step.adds q → ⊥) step.deletes → makes positive step p ≡ true → makes (not positive) step p ≡ false
apart_way true step p apart there = apart_at step.adds step.deletes p apart there
apart_way false step p apart there = false_from_ne_true (has step.adds p) (λ both. true≢false (sym there ∙ apart_at step.adds step.deletes p apart both))

-- the truth of a fact after a step
so_after : (positive : Bool) (step : FlatStep) (s : FlatState) (p : ℕ) → (makes positive step p ≡ true → makes (not positive) step p ≡ false) → is_so positive (state_after step s) p ≡ (makes positive step p || (not (makes (not positive) step p) && is_so positive s p))
so_after true step s p apart = has_after step s p
so_after false step s p apart = ap not (has_after step s p) ∙ turned (has step.adds p) (has step.deletes p) (has s.facts p) apart
  where
    turned : (a d h : Bool) → (d ≡ true → a ≡ false) → not (a || (not d && h)) ≡ (d || (not a && not h))
    turned true true h by = absurd (true≢false (by refl))
    turned true false h by = refl
    turned false true h by = refl
    turned false false h by = refl

-- a subgoal that is this fact says whether it is true
fact_there : (positive : Bool) (p : ℕ) (s : FlatState) (o : Option Subgoal) → option_map_or (is_fact positive p) o false ≡ true → option_map_or (subgoal_holds s) o false ≡ true → is_so positive s p ≡ true
fact_there true p s (Some (subgoal.Fact f)) e h = subst (λ k. has s.facts k ≡ true) (eqb-true f p e) h
fact_there true p s (Some (subgoal.NotFact f)) e h = absurd (false≢true e)
fact_there true p s (Some (subgoal.Form form)) e h = absurd (false≢true e)
fact_there false p s (Some (subgoal.Fact f)) e h = absurd (false≢true e)
fact_there false p s (Some (subgoal.NotFact f)) e h = subst (λ k. not (has s.facts k) ≡ true) (eqb-true f p e) h
fact_there false p s (Some (subgoal.Form form)) e h = absurd (false≢true e)
fact_there positive p s None e h = absurd (false≢true e)

asked_there : (task : Parts) (positive : Bool) (p : ℕ) (s : FlatState) (numbers : List ℕ) → list_all (holds task s) numbers ≡ true → names_fact task positive p numbers ≡ true → is_so positive s p ≡ true
asked_there task positive p s numbers all asks =
    any_all (λ q. option_map_or (is_fact positive p) (slice_get task.subgoals q) false) (holds task s) numbers asks all
    (λ q e h. fact_there positive p s (slice_get task.subgoals q) e h)

flow_row : (task : Parts) (positive : Bool) (p : ℕ) (step : FlatStep) (s : FlatState) (g : ℤ) → All (λ q. Contains step.adds q → ⊥) step.deletes → meets task s step ≡ true
    → (g -ℤ one_if (is_so positive s p)) ≤ℤ (flow task positive p step +ℤ (g -ℤ one_if (is_so positive (state_after step s) p)))
flow_row task positive p step s g apart met =
    flow_falls (makes positive step p) (makes (not positive) step p) (names_fact task positive p step.needs) (is_so positive s p) (is_so positive (state_after step s) p) g
    (apart_way positive step p apart) (asked_there task positive p s step.needs met) (so_after positive step s p (apart_way positive step p apart))

-- ---- forms

value_in : FlatState → Option Form → ℤ
value_in s o = option_map_or (λ form. form_value form s) o (pos 0)

demand_row : (step : FlatStep) (s t : FlatState) (o : Option Form) → ((form : Form) → form_value form t ≡ form_value form s +ℤ net step form)
    → (pos 0 -ℤ option_map_or (λ form. form_value form s) o (pos 0)) ≤ℤ (option_map_or (net step) o (pos 0) +ℤ (pos 0 -ℤ option_map_or (λ form. form_value form t) o (pos 0)))
demand_row step s t (Some form) by = demand_falls (form_value form s) (net step form) (form_value form t) (by form)
demand_row step s t None by = omega (arith, ints)

demand_end : (s : FlatState) (o : Option Subgoal) → option_map_or (subgoal_holds s) o false ≡ true → (pos 0 -ℤ option_map_or (λ form. form_value form s) (option_and_then as_form o) (pos 0)) ≤ℤ pos 0
demand_end s (Some (subgoal.Fact p)) h = omega (arith, ints)
demand_end s (Some (subgoal.NotFact p)) h = omega (arith, ints)
demand_end s (Some (subgoal.Form form)) h = demand_ends (form_value form s) h
demand_end s None h = omega (arith, ints)

same_value : (values : List ℤ) (xs ys : List (ℕ × ℤ)) → same_terms xs ys ≡ true → terms_value values xs ≡ terms_value values ys
same_value values [] [] e = refl
same_value values [] (y ∷ ys) e = absurd (false≢true e)
same_value values (x ∷ xs) [] e = absurd (false≢true e)
same_value values (x ∷ xs) (y ∷ ys) e =
    let parts = and_parts (eqb x.0 y.0 && int_eq x.1 y.1) (same_terms xs ys) e in
    let first = and_parts (eqb x.0 y.0) (int_eq x.1 y.1) parts.0 in
    let number = eqb-true x.0 y.0 first.0 in
    let amount = (signed_Decides x.1 y.1).0 first.1 in
    rw (number, amount, same_value values xs ys parts.1) refl

guard_number : (c d t least : ℤ) → int_le (pos 0) (d +ℤ t) ≡ true → int_le least (c -ℤ d) ≡ true → least ≤ℤ (c +ℤ t)
guard_number c d t least h g = grind (arith, ints)

-- a guard that holds keeps the form at or above the number
guard_keeps : (form : Form) (least : ℤ) (s : FlatState) (o : Option Subgoal)
    → option_map_or (λ g. same_terms g.terms form.terms && int_le least (form.constant -ℤ g.constant)) (option_and_then as_form o) false ≡ true
    → option_map_or (subgoal_holds s) o false ≡ true → least ≤ℤ form_value form s
guard_keeps form least s (Some (subgoal.Fact p)) e h = absurd (false≢true e)
guard_keeps form least s (Some (subgoal.NotFact p)) e h = absurd (false≢true e)
guard_keeps form least s (Some (subgoal.Form g)) e h =
    let parts = and_parts (same_terms g.terms form.terms) (int_le least (form.constant -ℤ g.constant)) e in
    let same : terms_value s.values g.terms ≡ terms_value s.values form.terms = same_value s.values g.terms form.terms parts.0 in
    guard_number form.constant g.constant (terms_value s.values form.terms) least (subst (λ t. int_le (pos 0) (g.constant +ℤ t) ≡ true) same h) parts.1
guard_keeps form least s None e h = absurd (false≢true e)

not_below : (n : ℤ) → int_le (pos 0) n ≡ true → pos 0 ≤ℤ n
not_below n h = grind (arith, ints)

floor_row : (task : Parts) (step : FlatStep) (s t : FlatState) (m : ℤ) (o : Option Form) → ((form : Form) → form_value form t ≡ form_value form s +ℤ net step form) → meets task s step ≡ true
    → option_map_or (λ form. is_guarded task form m step) o false ≡ true
    → int_min (pos 0) (m -ℤ option_map_or (λ form. form_value form s) o (pos 0)) ≤ℤ (option_map_or (net step) o (pos 0) +ℤ int_min (pos 0) (m -ℤ option_map_or (λ form. form_value form t) o (pos 0)))
floor_row task step s t m (Some form) by met guarded =
    elim (or_cases (int_le (pos 0) (net step form)) (list_any (guards task form (m -ℤ net step form)) step.needs) guarded) [
      | inl up ↦ floor_stays m (form_value form s) (net step form) (form_value form t) (by form) (not_below (net step form) up)
      | inr guard ↦
          floor_falls m (form_value form s) (net step form) (form_value form t) (by form)
          (any_all (guards task form (m -ℤ net step form)) (holds task s) step.needs guard met
          (λ q e h. guard_keeps form (m -ℤ net step form) s (slice_get task.subgoals q) e h))
    ]
floor_row task step s t m None by met guarded = absurd (false≢true guarded)

-- ---- cuts

achieved_number : (v n w : ℤ) → w ≡ v +ℤ n → int_le (pos 0) v ≡ false → int_le (pos 0) w ≡ true → int_lt (pos 0) n ≡ true
achieved_number v n w e f h = grind (arith, ints)

added : (a d x : Bool) → x ≡ false → (a || (not d && x)) ≡ true → a ≡ true
added true d x e h = refl
added false true x e h = h
added false false x e h = absurd (false≢true (sym e ∙ h))

deleted : (a d x : Bool) → not x ≡ false → not (a || (not d && x)) ≡ true → d ≡ true
deleted a true x e h = refl
deleted true false x e h = absurd (false≢true h)
deleted false false x e h = absurd (false≢true (sym e ∙ h))

-- what is false before and true after is achieved
achieved : (step : FlatStep) (s : FlatState) (o : Option Subgoal) → ((form : Form) → form_value form (state_after step s) ≡ form_value form s +ℤ net step form)
    → option_map_or (subgoal_holds s) o false ≡ false → option_map_or (subgoal_holds (state_after step s)) o false ≡ true → option_map_or (achieves step) o false ≡ true
achieved step s (Some (subgoal.Fact p)) by f h = added (has step.adds p) (has step.deletes p) (has s.facts p) f (sym (has_after step s p) ∙ h)
achieved step s (Some (subgoal.NotFact p)) by f h = deleted (has step.adds p) (has step.deletes p) (has s.facts p) f (sym (ap not (has_after step s p)) ∙ h)
achieved step s (Some (subgoal.Form form)) by f h = achieved_number (form_value form s) (net step form) (form_value form (state_after step s)) (by form) f h
achieved step s None by f h = absurd (false≢true h)

cut_row : (task : Parts) (step : FlatStep) (s : FlatState) (us : List ℕ) → ((form : Form) → form_value form (state_after step s) ≡ form_value form s +ℤ net step form) → meets task s step ≡ true
    → one_if (not (list_any (holds task s) us) && list_any (has task.goal) us)
    ≤ℤ (one_if (list_any (achieves_at task step) us && not (list_any (has step.needs) us)) +ℤ one_if (not (list_any (holds task (state_after step s)) us) && list_any (has task.goal) us))
cut_row task step s us by met =
    cut_falls (list_any (holds task s) us) (list_any (holds task (state_after step s)) us) (list_any (has task.goal) us) (list_any (achieves_at task step) us) (list_any (has step.needs) us)
    (any_new (holds task s) (holds task (state_after step s)) (achieves_at task step) us (λ u f h. achieved step s (slice_get task.subgoals u) by f h))
    (λ none. false_from_ne_true (list_any (has step.needs) us) (λ some. true≢false (sym (any_from (has step.needs) (holds task s) us (λ u e. all_has (holds task s) step.needs u met e) some) ∙ none)))

-- ---- every row

-- whether a row is allowed as far as this step is concerned
unfoldable pub fits_step : Parts → FlatStep → Row → Bool
fits_step task step (row.Demand q) = true
fits_step task step (row.Flow p) = true
fits_step task step (row.FlowNot p) = true
fits_step task step (row.Floor q m) = option_map_or (λ form. is_guarded task form m step) (form_at task q) false
fits_step task step (row.Cut us) = true

pub row_falls : (task : Parts) (facts values subgoals : ℕ) (step : FlatStep) (s : FlatState) (r : Row) → IsStep facts values subgoals step → length s.values ≡ values → meets task s step ≡ true → fits_step task step r ≡ true
    → right task s r ≤ℤ (coefficient task step r +ℤ right task (state_after step s) r)
unfolding fits_step
row_falls task facts values subgoals step s (row.Demand q) of count met fits =
    demand_row step s (state_after step s) (form_at task q) (λ form. form_changed values (2 ^ 62) step form s of.changes count)
row_falls task facts values subgoals step s (row.Flow p) of count met fits = flow_row task true p step s (one_if (names_fact task true p task.goal)) of.apart met
row_falls task facts values subgoals step s (row.FlowNot p) of count met fits = flow_row task false p step s (one_if (names_fact task false p task.goal)) of.apart met
row_falls task facts values subgoals step s (row.Floor q m) of count met fits =
    floor_row task step s (state_after step s) m (form_at task q) (λ form. form_changed values (2 ^ 62) step form s of.changes count) met fits
row_falls task facts values subgoals step s (row.Cut us) of count met fits = cut_row task step s us (λ form. form_changed values (2 ^ 62) step form s of.changes count) met

pub row_ends : (task : Parts) (s : FlatState) (r : Row) → is_allowed task r ≡ true → is_goal task s ≡ true → right task s r ≤ℤ pos 0
row_ends task s (row.Demand q) allowed goal =
    let parts = and_parts (has task.goal q) (is_some (form_at task q)) allowed in
    demand_end s (slice_get task.subgoals q) (all_has (holds task s) task.goal q goal parts.0)
row_ends task s (row.Flow p) allowed goal = flow_ends (names_fact task true p task.goal) (is_so true s p) (asked_there task true p s task.goal goal)
row_ends task s (row.FlowNot p) allowed goal = flow_ends (names_fact task false p task.goal) (is_so false s p) (asked_there task false p s task.goal goal)
row_ends task s (row.Floor q m) allowed goal = floor_ends (m -ℤ value_of task q s)
row_ends task s (row.Cut us) allowed goal =
    cut_ends (list_any (holds task s) us) (list_any (has task.goal) us) (any_from (has task.goal) (holds task s) us (λ u e. all_has (holds task s) task.goal u goal e))
