-- The test for equal subgoals decides whether they are equal.
use Rattle.std.proofs.Common.{◌≡◌, ℕ, true, false, sym, ap, Decides}
use Rattle.std.proofs.lemmas.Bool.{false≢true, eqb-true, eq-eqb}
use Rattle.np_flat.specs.declared.parts.Form.{Form}
use Rattle.np_flat.specs.declared.parts.Subgoal.{Subgoal}
use Rattle.np_flat.specs.declared.parts.Subgoal.TheVariants as subgoal
use Rattle.np_flat.specs.Same.{same_form-Decides}
use Rattle.np_scale.specs.FlatOf.{same_subgoal}

fact_of : (p q : ℕ) → ◌≡◌ {A = Subgoal} (subgoal.Fact p) (subgoal.Fact q) → p ≡ q
fact_of p q e = cc

not_fact_of : (p q : ℕ) → ◌≡◌ {A = Subgoal} (subgoal.NotFact p) (subgoal.NotFact q) → p ≡ q
not_fact_of p q e = cc

form_of : (f g : Form) → ◌≡◌ {A = Subgoal} (subgoal.Form f) (subgoal.Form g) → f ≡ g
form_of f g e = cc

fact_not : (p q : ℕ) → ◌≡◌ {A = Subgoal} (subgoal.Fact p) (subgoal.NotFact q) → false ≡ true
fact_not p q e = cc

fact_form : (p : ℕ) (g : Form) → ◌≡◌ {A = Subgoal} (subgoal.Fact p) (subgoal.Form g) → false ≡ true
fact_form p g e = cc

not_form : (p : ℕ) (g : Form) → ◌≡◌ {A = Subgoal} (subgoal.NotFact p) (subgoal.Form g) → false ≡ true
not_form p g e = cc

pub same_subgoal-Decides : (a b : Subgoal) → Decides (same_subgoal a b) (a ≡ b)
same_subgoal-Decides (subgoal.Fact p) (subgoal.Fact q) = ((λ e. ap (λ n. subgoal.Fact n) (eqb-true p q e)), (λ e. eq-eqb p q (fact_of p q e)))
same_subgoal-Decides (subgoal.Fact p) (subgoal.NotFact q) = ((λ e. absurd (false≢true e)), fact_not p q)
same_subgoal-Decides (subgoal.Fact p) (subgoal.Form g) = ((λ e. absurd (false≢true e)), fact_form p g)
same_subgoal-Decides (subgoal.NotFact p) (subgoal.Fact q) = ((λ e. absurd (false≢true e)), (λ e. fact_not q p (sym e)))
same_subgoal-Decides (subgoal.NotFact p) (subgoal.NotFact q) = ((λ e. ap (λ n. subgoal.NotFact n) (eqb-true p q e)), (λ e. eq-eqb p q (not_fact_of p q e)))
same_subgoal-Decides (subgoal.NotFact p) (subgoal.Form g) = ((λ e. absurd (false≢true e)), not_form p g)
same_subgoal-Decides (subgoal.Form f) (subgoal.Fact q) = ((λ e. absurd (false≢true e)), (λ e. fact_form q f (sym e)))
same_subgoal-Decides (subgoal.Form f) (subgoal.NotFact q) = ((λ e. absurd (false≢true e)), (λ e. not_form q f (sym e)))
same_subgoal-Decides (subgoal.Form f) (subgoal.Form g) = ((λ e. ap (λ x. subgoal.Form x) ((same_form-Decides f g).0 e)), (λ e. (same_form-Decides f g).1 (form_of f g e)))
