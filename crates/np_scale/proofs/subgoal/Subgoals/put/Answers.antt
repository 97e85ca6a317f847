use Rattle.std.proofs.Common.{◌≡◌, ◌∙◌, subst, refl}
use Rattle.np_flat.specs.declared.parts.Subgoal.{Subgoal}
use Rattle.np_flat.specs.declared.parts.Subgoal.TheVariants.{Fact, NotFact, Form}
use Rattle.np_flat.specs.contracts.parts.SubgoalPartialEq.TheImpl.{eq-value}
use Rattle.np_scale.specs.FlatOf.{same_subgoal}
use Rattle.np_scale.specs.Code.{IsStartOf}
use Rattle.np_scale.proofs.Known.{put_number_by}
use Rattle.np_scale.proofs.subgoal.Subgoals.put.Goals as goal

-- the derived test is the defined one
alike : (x y : Subgoal) → eq-value.it x y ≡ same_subgoal x y
alike (Fact p) (Fact q) = refl
alike (Fact p) (NotFact q) = refl
alike (Fact p) (Form g) = refl
alike (NotFact p) (Fact q) = refl
alike (NotFact p) (NotFact q) = refl
alike (NotFact p) (Form g) = refl
alike (Form f) (Fact q) = refl
alike (Form f) (NotFact q) = refl
alike (Form f) (Form g) = refl

pub returns-clause-number : goal.returns-clause-number
returns-clause-number c =
    λ final s. c.in_ok-number.ensures.index ∙ put_number_by eq-value.it alike c.self.inside.set.keys final c.args.subgoal (subst (λ l. IsStartOf l final) c.in_ok-number.ensures.keys s)
