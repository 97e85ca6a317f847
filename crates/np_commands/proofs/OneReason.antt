-- A task, the bytes of a certificate and those of a plan have one reason at most for which they are refused.
use Rattle.std.proofs.Common.{◌≡◌, ℕ, ◌⊎◌, inl, inr, List, ◌∷◌, ◌++◌, Option, Some, None, Result, Ok, Err, refl, sym, ap, subst, ◌∙◌, arith}
use Rattle.std.proofs.lemmas.Option.{same_Some, none-some}
use Rattle.np_frac.specs.Fractions.{Fraction}
use Rattle.np_lex.specs.declared.token.Place.{Place}
use Rattle.np_lex.specs.Tokens.{items_of}
use Rattle.np_model.specs.declared.task.Step.{Step}
use Rattle.np_model.specs.declared.task.TaskParts.{TaskParts}
use Rattle.np_words.specs.declared.word.Decimal.{Decimal}
use Rattle.np_words.specs.Wide.{IsSyntaxFault, IsWideFault}
use Rattle.np_words.proofs.TextAnswers.{wide_unspelled}
use Rattle.np_plan.specs.declared.fault.PlanFault.{PlanFault}
use Rattle.np_plan.specs.declared.fault.PlanFault.TheVariants as plan_fault
use Rattle.np_plan.specs.declared.plan.PlanLine.{PlanLine}
use Rattle.np_plan.specs.declared.plan.PlanText.{PlanText}
use Rattle.np_plan.specs.PlanText.{IsPlan, plan_text, SpellsText}
use Rattle.np_plan.specs.Plans.{stamp_of, IsAbove, Rise, last_stamp, Names, NameAll}
use Rattle.np_plan.specs.Faults.{IsStampFault, IsStepFault, IsFirstAmong, IsLinesFault, IsTooLong, IsFaulty, HasCause}
use Rattle.np_plan.proofs.Bare.{long_also}
use Rattle.np_plan.proofs.Naming.{middle_names}
use Rattle.np_plan.proofs.Rising.{middle_above}
use Rattle.np_bind.specs.Binding.{bind_task}
use Rattle.np_scale.specs.Scaling.{scale_task}
use Rattle.np_cert.specs.Text.{IsWritten}
use Rattle.np_cert.specs.Text as certificate_text
use Rattle.np_answers.specs.declared.answer.File.TheVariants as file
use Rattle.np_answers.specs.declared.answer.refusal.Refusal.{Refusal}
use Rattle.np_answers.specs.declared.answer.refusal.Refusal.TheVariants.{TooLong, Syntax, NumberWide, StampOrder, UnknownStep}
use Rattle.np_commands.specs.FlatTasks.{bind_refusal, scale_refusal, IsUnbound, IsUnscaled, IsTaskReason}
use Rattle.np_commands.specs.Checking.{SpellNone, IsCertificateReason}
use Rattle.np_commands.specs.Plans.{IsPlanReason}
use Rattle.np_commands.specs.Laws.{OneTaskReason, OneCertificateReason, OnePlanReason}
use Rattle.np_commands.proofs.Cuts.{Cuts, before, here, later, cuts}
use Rattle.np_commands.proofs.OneFault.{one_wide, one_first, not_wide, not_spelled}
use Rattle.np_commands.proofs.OnePlanText.{one_text, one_placed}

-- ---- a task

one_error : {A E : Type 0} (r : Result A E) (e f : E) → r ≡ Err e → r ≡ Err f → e ≡ f
one_error r e f is also = (let both : Err e ≡ Err f = sym is ∙ also in cc)

one_value : {A E : Type 0} (r : Result A E) (a b : A) → r ≡ Ok a → r ≡ Ok b → a ≡ b
one_value r a b is also = (let both : Ok a ≡ Ok b = sym is ∙ also in cc)

no_both : {A E : Type 0} (r : Result A E) (a : A) (e : E) → r ≡ Ok a → r ≡ Err e → ⊥
no_both r a e is also = absurd (let both : Ok a ≡ Err e = sym is ∙ also in cc)

module _ (task : TaskParts) (r s : Refusal) where
  unbound : IsUnbound task r → IsUnbound task s → r ≡ s
  unbound a b =
      let same : a.fault ≡ b.fault = one_error (bind_task task) a.fault b.fault a.unbound b.unbound in
      same_Some r s (sym a.refusal_is ∙ ap (bind_refusal task) same ∙ b.refusal_is)

  unscaled : IsUnscaled task r → IsUnscaled task s → r ≡ s
  unscaled a b =
      let bound : a.bound ≡ b.bound = one_value (bind_task task) a.bound b.bound a.bound_is b.bound_is in
      let same : a.fault ≡ b.fault = one_error (scale_task b.bound) a.fault b.fault (ap scale_task (sym bound) ∙ a.unscaled) b.unscaled in
      same_Some r s (sym a.refusal_is ∙ ap (scale_refusal task) same ∙ b.refusal_is)

  task_reason : IsTaskReason task r → IsTaskReason task s → r ≡ s
  task_reason (inl a) (inl b) = unbound a b
  task_reason (inl a) (inr b) = absurd (no_both (bind_task task) b.bound a.fault b.bound_is a.unbound)
  task_reason (inr a) (inl b) = absurd (no_both (bind_task task) a.bound b.fault a.bound_is b.unbound)
  task_reason (inr a) (inr b) = unscaled a b

pub one_task_reason : OneTaskReason
one_task_reason = task_reason

-- ---- a certificate

module _ (bytes : List ℕ) where
  beside_place : (p : Place) → SpellNone bytes p → (s : Refusal) → IsCertificateReason bytes s → Syntax file.Certificate p ≡ s
  beside_place p a (Syntax file.Certificate q) b =
      ap (Syntax file.Certificate) (one_first IsWritten certificate_text.certificate (items_of bytes) p q a.first_fault b.first_fault)
  beside_place p a s b = absurd b

  certificate_reason : (r s : Refusal) → IsCertificateReason bytes r → IsCertificateReason bytes s → r ≡ s
  certificate_reason (Syntax file.Certificate p) s a b = beside_place p a s b
  certificate_reason r s a b = absurd a

pub one_certificate_reason : OneCertificateReason
one_certificate_reason = certificate_reason

-- ---- the lines of a plan

-- of the first lines that have this fault and that, each the first, it is the same line
record IsOneLine (Has Other : Option Fraction → PlanLine → Type 0) : Type 0 where
  stamp : Option Fraction
  line : PlanLine
  one : Has stamp line
  two : Other stamp line

module _ (task : TaskParts) (lines : List PlanLine) where
  -- a line with a fault isn't one whose stamp is above that of the line before, and that names a step
  abbrev Stops : (Option Fraction → PlanLine → Type 0) → Type 0
  Stops Has = (stamp : Option Fraction) (l : PlanLine) → Has stamp l → IsAbove stamp (stamp_of l) → (s : Step) → Names task l s → ⊥

  passed : (Has : Option Fraction → PlanLine → Type 0) → Stops Has → (front : List PlanLine) (l : PlanLine) → Has (last_stamp front) l
      → (middle other : List PlanLine) (steps : List Step) → other ≡ front ++ l ∷ middle → Rise other → NameAll task other steps → ⊥
  passed Has stops front l has middle other steps is rise named =
      let name = middle_names task front l middle steps (subst (λ (ls : List PlanLine). NameAll task ls steps) is named) in
      stops (last_stamp front) l has (middle_above front l middle (subst Rise is rise)) name.0 name.1

  one_line : (Has Other : Option Fraction → PlanLine → Type 0) → Stops Has → Stops Other → IsFirstAmong task Has lines → IsFirstAmong task Other lines → IsOneLine Has Other
  one_line Has Other stops other_stops a b = by (cuts a.front a.faulty a.after b.front b.faulty b.after (sym a.lines_are ∙ b.lines_are))
    where
      by : Cuts a.front a.faulty b.front b.faulty → IsOneLine Has Other
      by (before middle is) = absurd (passed Has stops a.front a.faulty a.fault middle b.front b.steps is b.rise b.named)
      by (here fronts is) = record {
        stamp = last_stamp b.front;
        line = b.faulty;
        one = subst (λ (l : PlanLine). Has (last_stamp b.front) l) is (subst (λ (ls : List PlanLine). Has (last_stamp ls) a.faulty) fronts a.fault);
        two = b.fault;
      }
      by (later middle is) = absurd (passed Other other_stops b.front b.faulty b.fault middle a.front a.steps is a.rise a.named)

  stamp_stops : (p : Place) → Stops (IsStampFault p)
  stamp_stops p stamp l has above s names = has.not_above above

  step_stops : (p : Place) → Stops (IsStepFault task p)
  step_stops p stamp l has above s names = has.unknown s names

  one_stamp : (l : PlanLine) (d e : Decimal) → l.stamp ≡ Some d → l.stamp ≡ Some e → d ≡ e
  one_stamp l d e is also = same_Some d e (sym is ∙ also)

  stamps : (p q : Place) → IsFirstAmong task (IsStampFault p) lines → IsFirstAmong task (IsStampFault q) lines → p ≡ q
  stamps p q a b =
      let l = one_line (IsStampFault p) (IsStampFault q) (stamp_stops p) (stamp_stops q) a b in
      sym l.one.place_is ∙ ap (λ (d : Decimal). d.place) (one_stamp l.line l.one.stamp l.two.stamp l.one.stamp_is l.two.stamp_is) ∙ l.two.place_is

  unknown : (p q : Place) → IsFirstAmong task (IsStepFault task p) lines → IsFirstAmong task (IsStepFault task q) lines → p ≡ q
  unknown p q a b =
      let l = one_line (IsStepFault task p) (IsStepFault task q) (step_stops p) (step_stops q) a b in
      sym l.one.place_is ∙ l.two.place_is

  stamp_or_step : (p q : Place) → IsFirstAmong task (IsStampFault p) lines → IsFirstAmong task (IsStepFault task q) lines → ⊥
  stamp_or_step p q a b =
      let l = one_line (IsStampFault p) (IsStepFault task q) (stamp_stops p) (step_stops q) a b in
      l.one.not_above l.two.above

-- ---- a plan

module _ (task : TaskParts) (bytes : List ℕ) where
  -- a text that is spelled has no fault
  no_fault : (t : PlanText) → SpellsText bytes t → (p : Place) → IsSyntaxFault IsPlan plan_text (items_of bytes) p → ⊥
  no_fault t is p f = not_spelled IsPlan plan_text bytes t is.is_plan is.lexemes_are p f.fault

  no_wide : (t : PlanText) → SpellsText bytes t → (p : Place) → IsWideFault IsPlan plan_text (items_of bytes) p → ⊥
  no_wide t is p f = wide_unspelled bytes (plan_text t) p f.first is.lexemes_are is.short

  not_long : (f : PlanFault) → IsTooLong bytes → IsFaulty task bytes f → ⊥
  not_long f a b = omega (arith, a.long, b.few, long_also b.text a.text (one_text bytes a.text b.text a.spelled b.spelled))

  -- two faults of lines are of the same lines
  module _ (f g : PlanFault) (a : IsFaulty task bytes f) (b : IsFaulty task bytes g) where
    here_too : IsLinesFault task b.text.lines f
    here_too = subst (λ (ls : List PlanLine). IsLinesFault task ls f) (one_placed bytes a.text b.text a.spelled b.spelled a.placed b.placed) a.faulty

  -- the cause is this fault and no other; memory running out has none
  abbrev Only : PlanFault → Type 0
  Only f = (g : PlanFault) → HasCause task bytes g → (g ≡ plan_fault.Memory) ⊎ (f ≡ g)

  only_at : (p : Place) → IsSyntaxFault IsPlan plan_text (items_of bytes) p → Only (plan_fault.At p)
  only_at p a (plan_fault.At q) b = inr (ap plan_fault.At (one_first IsPlan plan_text (items_of bytes) p q a.fault b.fault))
  only_at p a (plan_fault.NumberWide q) b = absurd (not_wide IsPlan plan_text (items_of bytes) p q a b)
  only_at p a plan_fault.TooLong b = absurd (no_fault b.text b.spelled p a)
  only_at p a (plan_fault.StampOrder q) b = absurd (no_fault b.text b.spelled p a)
  only_at p a (plan_fault.UnknownStep q) b = absurd (no_fault b.text b.spelled p a)
  only_at p a plan_fault.Memory b = inl refl

  only_wide : (p : Place) → IsWideFault IsPlan plan_text (items_of bytes) p → Only (plan_fault.NumberWide p)
  only_wide p a (plan_fault.At q) b = absurd (not_wide IsPlan plan_text (items_of bytes) q p b a)
  only_wide p a (plan_fault.NumberWide q) b = inr (ap plan_fault.NumberWide (one_wide (items_of bytes) p q a.first b.first))
  only_wide p a plan_fault.TooLong b = absurd (no_wide b.text b.spelled p a)
  only_wide p a (plan_fault.StampOrder q) b = absurd (no_wide b.text b.spelled p a)
  only_wide p a (plan_fault.UnknownStep q) b = absurd (no_wide b.text b.spelled p a)
  only_wide p a plan_fault.Memory b = inl refl

  only_long : IsTooLong bytes → Only plan_fault.TooLong
  only_long a (plan_fault.At q) b = absurd (no_fault a.text a.spelled q b)
  only_long a (plan_fault.NumberWide q) b = absurd (no_wide a.text a.spelled q b)
  only_long a plan_fault.TooLong b = inr refl
  only_long a (plan_fault.StampOrder q) b = absurd (not_long (plan_fault.StampOrder q) a b)
  only_long a (plan_fault.UnknownStep q) b = absurd (not_long (plan_fault.UnknownStep q) a b)
  only_long a plan_fault.Memory b = inl refl

  only_stamp : (p : Place) → IsFaulty task bytes (plan_fault.StampOrder p) → Only (plan_fault.StampOrder p)
  only_stamp p a (plan_fault.At q) b = absurd (no_fault a.text a.spelled q b)
  only_stamp p a (plan_fault.NumberWide q) b = absurd (no_wide a.text a.spelled q b)
  only_stamp p a plan_fault.TooLong b = absurd (not_long (plan_fault.StampOrder p) b a)
  only_stamp p a (plan_fault.StampOrder q) b =
      inr (ap plan_fault.StampOrder (stamps task b.text.lines p q (here_too (plan_fault.StampOrder p) (plan_fault.StampOrder q) a b) b.faulty))
  only_stamp p a (plan_fault.UnknownStep q) b =
      absurd (stamp_or_step task b.text.lines p q (here_too (plan_fault.StampOrder p) (plan_fault.UnknownStep q) a b) b.faulty)
  only_stamp p a plan_fault.Memory b = inl refl

  only_step : (p : Place) → IsFaulty task bytes (plan_fault.UnknownStep p) → Only (plan_fault.UnknownStep p)
  only_step p a (plan_fault.At q) b = absurd (no_fault a.text a.spelled q b)
  only_step p a (plan_fault.NumberWide q) b = absurd (no_wide a.text a.spelled q b)
  only_step p a plan_fault.TooLong b = absurd (not_long (plan_fault.UnknownStep p) b a)
  only_step p a (plan_fault.StampOrder q) b =
      absurd (stamp_or_step task a.text.lines q p (here_too (plan_fault.StampOrder q) (plan_fault.UnknownStep p) b a) a.faulty)
  only_step p a (plan_fault.UnknownStep q) b =
      inr (ap plan_fault.UnknownStep (unknown task b.text.lines p q (here_too (plan_fault.UnknownStep p) (plan_fault.UnknownStep q) a b) b.faulty))
  only_step p a plan_fault.Memory b = inl refl

  -- the refusal for a fault; none where memory ran out
  abbrev refusal_of : PlanFault → Option Refusal
  refusal_of (plan_fault.At p) = Some (Syntax file.Plan p)
  refusal_of (plan_fault.NumberWide p) = Some (NumberWide file.Plan p)
  refusal_of plan_fault.TooLong = Some (TooLong file.Plan)
  refusal_of (plan_fault.StampOrder p) = Some (StampOrder p)
  refusal_of (plan_fault.UnknownStep p) = Some (UnknownStep p)
  refusal_of plan_fault.Memory = None

  -- the fault that a reason is for
  record IsFor (r : Refusal) : Type 0 where
    fault : PlanFault
    refusal_is : refusal_of fault ≡ Some r
    cause : HasCause task bytes fault
    only : Only fault

  is_for : (r : Refusal) → IsPlanReason task bytes r → IsFor r
  is_for (TooLong file.Plan) a = record { fault = plan_fault.TooLong; refusal_is = refl; cause = a.cause; only = only_long a.cause }
  is_for (Syntax file.Plan p) a = record { fault = plan_fault.At p; refusal_is = refl; cause = a.cause; only = only_at p a.cause }
  is_for (NumberWide file.Plan p) a = record { fault = plan_fault.NumberWide p; refusal_is = refl; cause = a.cause; only = only_wide p a.cause }
  is_for (StampOrder p) a = record { fault = plan_fault.StampOrder p; refusal_is = refl; cause = a.cause; only = only_stamp p a.cause }
  is_for (UnknownStep p) a = record { fault = plan_fault.UnknownStep p; refusal_is = refl; cause = a.cause; only = only_step p a.cause }
  is_for r a = absurd a

  same_refusal : (r s : Refusal) (a : IsFor r) (b : IsFor s) → (b.fault ≡ plan_fault.Memory) ⊎ (a.fault ≡ b.fault) → r ≡ s
  same_refusal r s a b (inl memory) = absurd (none-some s (ap refusal_of (sym memory) ∙ b.refusal_is))
  same_refusal r s a b (inr same) = same_Some r s (sym a.refusal_is ∙ ap refusal_of same ∙ b.refusal_is)

  plan_reason : (r s : Refusal) → IsPlanReason task bytes r → IsPlanReason task bytes s → r ≡ s
  plan_reason r s a b =
      let one = is_for r a in
      let two = is_for s b in
      same_refusal r s one two (one.only two.fault two.cause)

pub one_plan_reason : OnePlanReason
one_plan_reason = plan_reason
