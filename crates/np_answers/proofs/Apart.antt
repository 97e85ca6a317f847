-- That the words of `solve` name files that differ.
use Rattle.std.proofs.Common.{◌≡◌, ℕ, Bool, true, false, not, ◌&&◌, true≢false, List, [], ◌∷◌, codes, Option, Some, None, option_map, if◌then◌else◌, refl, sym, ap, subst}
use Rattle.std.specs.Option.{option_or}
use Rattle.std.specs.Str.{bytes_eq}
use Rattle.std.proofs.lemmas.Option.{same_Some}
use Rattle.np_answers.specs.Words.{Inputs, Solve, Check, Run, Command, solving, checking, running, listing, is_apart, budget_of, solve_of, check_of, run_of, list_of, command_of}

-- the names that are written differ from each other and from those that are read
pub record AreApart (command : Solve) : Type 0 where
  pub plan_domain : bytes_eq command.plan command.inputs.domain ≡ false
  pub plan_problem : bytes_eq command.plan command.inputs.problem ≡ false
  pub certificate_domain : bytes_eq command.certificate command.inputs.domain ≡ false
  pub certificate_problem : bytes_eq command.certificate command.inputs.problem ≡ false
  pub plan_certificate : bytes_eq command.plan command.certificate ≡ false

all_false : (a b c d e : Bool) → (not a && (not b && (not c && (not d && not e)))) ≡ true → (a ≡ false) × ((b ≡ false) × ((c ≡ false) × ((d ≡ false) × (e ≡ false))))
all_false false false false false false h = (refl, (refl, (refl, (refl, refl))))
all_false true b c d e h = absurd (true≢false (sym h))
all_false false true c d e h = absurd (true≢false (sym h))
all_false false false true d e h = absurd (true≢false (sym h))
all_false false false false true e h = absurd (true≢false (sym h))
all_false false false false false true h = absurd (true≢false (sym h))

abbrev is_some : {A : Type 0} → Option A → Bool
is_some None = false
is_some (Some x) = true

none_is_not : {A : Type 0} (x : A) → None ≡ Some x → ⊥
none_is_not x e = true≢false (sym (ap is_some e))

-- what follows a test that was passed
behind_test : (a b : Bool) (o : Option Solve) (s : Solve) → (if a && b then o else None) ≡ Some s → (b ≡ true) × (o ≡ Some s)
behind_test true true o s e = (refl, e)
behind_test true false o s e = absurd (none_is_not s e)
behind_test false b o s e = absurd (none_is_not s e)

-- what a function made of something
made : {A : Type 0} (f : ℕ → A) (o : Option ℕ) (x : A) → option_map f o ≡ Some x → (n : ℕ) × (f n ≡ x)
made f None x e = absurd (none_is_not x e)
made f (Some n) x e = (n, same_Some (f n) x e)

solve_apart : (words : List (List ℕ)) (s : Solve) → solve_of words ≡ Some s → AreApart s
solve_apart [] s e = absurd (none_is_not s e)
solve_apart (a ∷ []) s e = absurd (none_is_not s e)
solve_apart (a ∷ b ∷ []) s e = absurd (none_is_not s e)
solve_apart (a ∷ b ∷ c ∷ []) s e = absurd (none_is_not s e)
solve_apart (a ∷ b ∷ c ∷ d ∷ []) s e = absurd (none_is_not s e)
solve_apart (command ∷ domain ∷ problem ∷ plan ∷ certificate ∷ words) s e =
    let passed = behind_test (bytes_eq command (codes "solve")) (is_apart domain problem plan certificate) _ s e in
    let told = made _ (budget_of words) s passed.1 in
    let parts = all_false (bytes_eq plan domain) (bytes_eq plan problem) (bytes_eq certificate domain) (bytes_eq certificate problem) (bytes_eq plan certificate) passed.0 in
    subst AreApart told.1 (record {
      plan_domain = parts.0;
      plan_problem = parts.1.0;
      certificate_domain = parts.1.1.0;
      certificate_problem = parts.1.1.1.0;
      plan_certificate = parts.1.1.1.1;
    })

abbrev solve_in : Option Command → Option Solve
solve_in (Some (solving s)) = Some s
solve_in o = None

is_solve : (o : Option Solve) (q : Option Check) (r : Option Run) (l : Option Inputs) (s : Solve)
    → option_or (option_map solving o) (option_or (option_map checking q) (option_or (option_map running r) (option_map listing l))) ≡ Some (solving s) → o ≡ Some s
is_solve None None None None s e = ap solve_in e
is_solve None None None (Some l) s e = ap solve_in e
is_solve None None (Some r) l s e = ap solve_in e
is_solve None (Some c) r l s e = ap solve_in e
is_solve (Some t) q r l s e = ap solve_in e

pub solving_apart : (words : List (List ℕ)) (s : Solve) → command_of words ≡ Some (solving s) → AreApart s
solving_apart words s e = solve_apart words s (is_solve (solve_of words) (check_of words) (run_of words) (list_of words) s e)
