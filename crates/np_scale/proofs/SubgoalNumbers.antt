-- Conditions hold exactly where the subgoals of their numbers do.
use Rattle.std.proofs.Common.{◌≡◌, ℕ, Bool, true, false, ◌&&◌, cond, eqb, ltb, refl, sym, ◌∙◌, ap, ap₂, subst, List, [], ◌∷◌, map}
use Rattle.std.specs.Option.{option_map_or}
use Rattle.std.specs.List.{AllByRecursion, list_all, list_any}
use Rattle.std.proofs.Math.Bool.{and-true}
use Rattle.std.proofs.lemmas.Bool.{cond_both, eqb-true}
use Rattle.std.proofs.lemmas.List.Folds.{list_all-append}
use Rattle.np_model.specs.declared.task.Atom.{Atom}
use Rattle.np_model.specs.declared.task.Term.{Term}
use Rattle.np_model.specs.States.{State}
use Rattle.np_flat.specs.declared.state.FlatState.{FlatState}
use Rattle.np_flat.specs.declared.parts.Subgoal.{Subgoal}
use Rattle.np_flat.specs.declared.parts.Parts.{Parts}
use Rattle.np_flat.specs.States.{put_in, put_all, subgoal_holds, holds}
use Rattle.np_bind.specs.declared.bound.BoundCond.{BoundCond}
use Rattle.np_bind.specs.BoundPlans.{bound_holds}
use Rattle.np_scale.specs.Tables.{number_of}
use Rattle.np_scale.specs.Forms.{subgoals_in}
use Rattle.np_scale.specs.FlatOf.{FlatTables, same_subgoal, all_subgoals, subgoal_numbers}
use Rattle.np_scale.proofs.Every.{each_flat_from}
use Rattle.np_scale.proofs.Once.{number_names}
use Rattle.np_scale.proofs.SameSubgoals.{same_subgoal-Decides}

-- ---- numbers in their places

and_twice : (a b : Bool) → (a && b) ≡ (a && (a && b))
and_twice true b = refl
and_twice false b = refl

and_swapped : (a b c : Bool) → (a && (b && c)) ≡ (b && (a && c))
and_swapped true b c = refl
and_swapped false true c = refl
and_swapped false false c = refl

and_bracketed : (a b c : Bool) → (a && (b && c)) ≡ ((a && b) && c)
and_bracketed true b c = refl
and_bracketed false b c = refl

-- a test of all numbers doesn't care for order and repeats
all_put_in : (test : ℕ → Bool) (n : ℕ) (ms : List ℕ) → list_all test (put_in n ms) ≡ (test n && list_all test ms)
all_put_in test n [] = refl
all_put_in test n (m ∷ ms) =
    cond_both (ltb n m) (n ∷ m ∷ ms) (cond (eqb n m) (m ∷ ms) (m ∷ put_in n ms)) (λ l. list_all test l ≡ (test n && list_all test (m ∷ ms)))
    (λ e. refl)
    (λ e. cond_both (eqb n m) (m ∷ ms) (m ∷ put_in n ms) (λ l. list_all test l ≡ (test n && list_all test (m ∷ ms)))
    (λ f. subst (λ k. list_all test (m ∷ ms) ≡ (test k && list_all test (m ∷ ms))) (sym (eqb-true n m f)) (and_twice (test m) (list_all test ms)))
    (λ f. ap (λ b. test m && b) (all_put_in test n ms) ∙ and_swapped (test m) (test n) (list_all test ms)))

all_put_all : (test : ℕ → Bool) (ns ms : List ℕ) → list_all test (put_all ns ms) ≡ (list_all test ns && list_all test ms)
all_put_all test [] ms = refl
all_put_all test (n ∷ ns) ms =
    all_put_all test ns (put_in n ms)
    ∙ ap (λ b. list_all test ns && b) (all_put_in test n ms)
    ∙ and_swapped (list_all test ns) (test n) (list_all test ms)
    ∙ and_bracketed (test n) (list_all test ns) (list_all test ms)

-- ---- subgoals by number

-- each subgoal is in a table
abbrev pub AreListed : List Subgoal → List Subgoal → Type 0
AreListed known qs = AllByRecursion (λ q. list_any (same_subgoal q) known ≡ true) qs

-- the number of a listed subgoal holds exactly where the subgoal does
holds_by_number : (flat : Parts) (f : FlatState) (qs : List Subgoal) → AreListed flat.subgoals qs
    → list_all (holds flat f) (map (number_of same_subgoal flat.subgoals) qs) ≡ list_all (subgoal_holds f) qs
holds_by_number flat f [] there = refl
holds_by_number flat f (q ∷ qs) there =
    ap₂ (λ a b. a && b)
    (ap (λ o. option_map_or (subgoal_holds f) o false) (number_names same_subgoal same_subgoal-Decides flat.subgoals q there.0))
    (holds_by_number flat f qs there.1)

-- a condition holds in a state exactly where its subgoals hold in a flat state
abbrev pub Agrees : List Atom → List Term → ℕ → State → FlatState → BoundCond → Type 0
Agrees facts terms unit s f c = bound_holds s c ≡ list_all (subgoal_holds f) (subgoals_in facts terms unit c)

-- so do several
all_agree : (facts : List Atom) (terms : List Term) (unit : ℕ) (s : State) (f : FlatState) (cs : List BoundCond) → AllByRecursion (Agrees facts terms unit s f) cs
    → list_all (bound_holds s) cs ≡ list_all (subgoal_holds f) (all_subgoals facts terms unit cs)
all_agree facts terms unit s f [] agree = refl
all_agree facts terms unit s f (c ∷ cs) agree =
    ap₂ (λ a b. a && b) agree.0 (all_agree facts terms unit s f cs agree.1)
    ∙ sym (list_all-append (subgoal_holds f) (subgoals_in facts terms unit c) (all_subgoals facts terms unit cs))

-- conditions hold exactly where their numbers do
pub hold_by_number : (n : FlatTables) (flat : Parts) (s : State) (f : FlatState) (cs : List BoundCond) → flat.subgoals ≡ n.subgoals
    → AllByRecursion (Agrees n.facts n.terms n.unit s f) cs → AllByRecursion (λ c. AreListed n.subgoals (subgoals_in n.facts n.terms n.unit c)) cs
    → list_all (bound_holds s) cs ≡ list_all (holds flat f) (subgoal_numbers n cs)
hold_by_number n flat s f cs table agree listed =
    let qs : List Subgoal = all_subgoals n.facts n.terms n.unit cs in
    let all : AreListed n.subgoals qs = each_flat_from (λ q. list_any (same_subgoal q) n.subgoals ≡ true) (subgoals_in n.facts n.terms n.unit) cs listed in
    all_agree n.facts n.terms n.unit s f cs agree
    ∙ sym (holds_by_number flat f qs (subst (λ known. AreListed known qs) (sym table) all))
    ∙ ap (λ known. list_all (holds flat f) (map (number_of same_subgoal known) qs)) table
    ∙ sym (all_put_all (holds flat f) (map (number_of same_subgoal n.subgoals) qs) [] ∙ and-true (list_all (holds flat f) (map (number_of same_subgoal n.subgoals) qs)))
