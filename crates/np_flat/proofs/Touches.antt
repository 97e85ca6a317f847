-- A step achieves one of some subgoals exactly where one that reads something that the step touches is among them, and is achieved.
use Rattle.std.proofs.Common.{◌≡◌, ℕ, ℤ, Bool, true, false, ◌||◌, ◌&&◌, eqb, List, [], ◌∷◌, ◌++◌, length, flat_map, refl, sym, ap, ◌∙◌, subst, inl, inr}
use Rattle.std.specs.List.{list_any}
use Rattle.std.proofs.lemmas.Bool.{eq-eqb, eqb-true, and_parts, or_cases, or_left, or_right, false≢true}
use Rattle.std.proofs.lemmas.List.Folds.{list_any-append}
use Rattle.np_flat.specs.declared.parts.FlatStep.{FlatStep}
use Rattle.np_flat.specs.declared.parts.Parts.{Parts}
use Rattle.np_flat.specs.declared.readers.Readers.{Readers}
use Rattle.np_flat.specs.Flats.{IsStep, IsFlat}
use Rattle.np_flat.specs.States.{has}
use Rattle.np_flat.specs.Achieving.{achieves_at}
use Rattle.np_flat.specs.Readers.{rows, row, touched, IsIndex}
use Rattle.np_flat.proofs.Index.{achieved_touched}

-- a member that passes
any_has : (f : ℕ → Bool) (xs : List ℕ) (q : ℕ) → has xs q ≡ true → f q ≡ true → list_any f xs ≡ true
any_has f [] q there so = absurd (false≢true there)
any_has f (x ∷ xs) q there so =
    elim (or_cases (eqb x q) (has xs q) there) [
      | inl e ↦ or_left (f x) (list_any f xs) (subst (λ y. f y ≡ true) (sym (eqb-true x q e)) so)
      | inr more ↦ or_right (f x) (list_any f xs) (any_has f xs q more so)
    ]

forth : (us ts : List ℕ) (g : ℕ → Bool) → list_any (λ q. has us q && g q) ts ≡ true → list_any g us ≡ true
forth us [] g some = absurd (false≢true some)
forth us (t ∷ ts) g some =
    elim (or_cases (has us t && g t) (list_any (λ q. has us q && g q) ts) some) [
      | inl here ↦ let parts = and_parts (has us t) (g t) here in any_has g us t parts.0 parts.1
      | inr there ↦ forth us ts g there
    ]

both_true : (a b : Bool) → a ≡ true → b ≡ true → (a && b) ≡ true
both_true true b e f = f
both_true false b e f = absurd (false≢true e)

back : (us among ts : List ℕ) (g : ℕ → Bool) → ((q : ℕ) → has us q ≡ true → has among q ≡ true) → ((q : ℕ) → g q ≡ true → has ts q ≡ true) → list_any g us ≡ true → list_any (λ q. has among q && g q) ts ≡ true
back [] among ts g all there some = absurd (false≢true some)
back (u ∷ us) among ts g all there some =
    elim (or_cases (g u) (list_any g us) some) [
      | inl here ↦ any_has (λ q. has among q && g q) ts u (there u here) (both_true (has among u) (g u) (all u (or_left (eqb u u) (has us u) (eq-eqb u u refl))) here)
      | inr more ↦ back us among ts g (λ q h. all q (or_right (eqb u q) (has us q) h)) there more
    ]

same : (a b : Bool) → (a ≡ true → b ≡ true) → (b ≡ true → a ≡ true) → a ≡ b
same true b to from = sym (to refl)
same false true to from = from refl
same false false to from = refl

any_flat_map : {X : Type 0} (test : ℕ → Bool) (f : X → List ℕ) (xs : List X) → list_any test (flat_map f xs) ≡ list_any (λ x. list_any test (f x)) xs
any_flat_map test f [] = refl
any_flat_map test f (x ∷ xs) = list_any-append test (f x) (flat_map f xs) ∙ ap (λ b. list_any test (f x) || b) (any_flat_map test f xs)

-- the whole is so by its first part, and is its last part where the first isn't so
pub by_first : (v first last whole : Bool) → (first || last) ≡ whole → v ≡ first → v ≡ true → v ≡ whole
by_first v first last whole is same so = so ∙ subst (λ b. (b || last) ≡ whole) (sym same ∙ so) is

pub by_last : (v first last whole : Bool) → (first || last) ≡ whole → v ≡ first → v ≡ false → last ≡ whole
by_last v first last whole is same out = subst (λ b. (b || last) ≡ whole) (sym same ∙ out) is

module _ (task : Parts) (readers : Readers) (step : FlatStep) (flat : IsFlat task) (index : IsIndex task readers) (of : IsStep (length task.facts) (length task.values) (length task.subgoals) step) (us : List ℕ) where
  -- whether a subgoal is among them, and achieved
  abbrev pub is_one : ℕ → Bool
  is_one q = has us q && achieves_at task step q

  abbrev pub by_facts : List ℕ → Bool
  by_facts ps = list_any (λ p. list_any is_one (row (rows readers.by_fact.items) p)) ps

  abbrev pub by_changes : List (ℕ × ℤ) → Bool
  by_changes cs = list_any (λ (c : ℕ × ℤ). list_any is_one (row (rows readers.by_value.items) c.0)) cs

  touched_ones : list_any is_one (touched readers step) ≡ ((by_facts step.adds || by_facts step.deletes) || by_changes step.changes)
  touched_ones =
      let facts = row (rows readers.by_fact.items) in
      list_any-append is_one (flat_map facts step.adds ++ flat_map facts step.deletes) (flat_map (λ (c : ℕ × ℤ). row (rows readers.by_value.items) c.0) step.changes)
      ∙ ap (λ b. b || list_any is_one (flat_map (λ (c : ℕ × ℤ). row (rows readers.by_value.items) c.0) step.changes)) (list_any-append is_one (flat_map facts step.adds) (flat_map facts step.deletes))
      ∙ (rw (any_flat_map is_one facts step.adds, any_flat_map is_one facts step.deletes, any_flat_map is_one (λ (c : ℕ × ℤ). row (rows readers.by_value.items) c.0) step.changes) refl)

  pub one_touched : ((by_facts step.adds || by_facts step.deletes) || by_changes step.changes) ≡ list_any (achieves_at task step) us
  one_touched =
      sym touched_ones
      ∙ same (list_any is_one (touched readers step)) (list_any (achieves_at task step) us)
      (forth us (touched readers step) (achieves_at task step))
      (back us us (touched readers step) (achieves_at task step) (λ q h. h) (achieved_touched task readers step flat index of))
