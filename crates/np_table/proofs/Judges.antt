-- Entries that are fit and within what is allowed are a table, and each table has such entries.
use Rattle.std.proofs.Common.{◌≡◌, ℕ, ◌+◌, ◌<◌, ◌≤◌, ◌^◌, min, Bool, true, false, List, [], length, refl, sym, ap, ◌∙◌, subst, inl, inr, arith, Some, None, leb-true, le-leb}
use Rattle.std.specs.Prelude.{slice_get}
use Rattle.std.specs.List.{list_all}
use Rattle.std.specs.Option.{option_map_or}
use Rattle.std.proofs.lemmas.Bool.{cases_lt, cases_Bool, eqb-true, and_parts, and_from, false≢true}
use Rattle.std.proofs.lemmas.List.{get_or_past}
use Rattle.std.proofs.lemmas.Option.{same_Some, slice_get_within, slice_get_cases, none-some}
use Rattle.np_flat.specs.declared.state.FlatState.{FlatState}
use Rattle.np_flat.specs.declared.parts.Form.{Form}
use Rattle.np_flat.specs.declared.parts.Subgoal.{Subgoal}
use Rattle.np_flat.specs.declared.parts.Subgoal.TheVariants as subgoal
use Rattle.np_flat.specs.declared.parts.FlatStep.{FlatStep}
use Rattle.np_flat.specs.declared.parts.Parts.{Parts}
use Rattle.np_flat.specs.States.{holds, subgoal_holds}
use Rattle.np_flat.specs.Plans.{cost_of}
use Rattle.np_flat.specs.Achieving.{achieves, achieves_at, achieved_by}
use Rattle.np_relax.specs.Needing.{needs_of}
use Rattle.np_relax.proofs.Closes.{map_or_true}
use Rattle.np_table.specs.Tables.{Entry, IsAtMost, reach, share, Achiever, IsEntry, IsTable, at}
use Rattle.np_table.specs.Lowering.{unit_at, capped, weight_by, AreUnits}
use Rattle.np_table.specs.Given.{allowed, is_at_most, is_number, is_fit, limit_by, is_good, IsNoted}
use Rattle.np_table.proofs.Allows.{numbers_reach}

fit_small : (b : Bool) (e : Entry) → is_fit b e ≡ true → (n : ℕ) → e ≡ Some n → n < 2 ^ 62
fit_small true None h n i = absurd (false≢true h)
fit_small true (Some m) h n i = let zero : m ≡ 0 = eqb-true m 0 h in let same : m ≡ n = same_Some m n i in omega arith
fit_small false None h n i = absurd (none-some n i)
fit_small false (Some m) h n i = let le : m ≤ 4611686018427387903 = leb-true m 4611686018427387903 h in let same : m ≡ n = same_Some m n i in omega arith

fit_zero : (e : Entry) → is_fit true e ≡ true → e ≡ Some 0
fit_zero None h = absurd (false≢true h)
fit_zero (Some m) h = ap (λ k. Some k) (eqb-true m 0 h)

fit_of : (b : Bool) (e : Entry) → (b ≡ true → e ≡ Some 0) → ((n : ℕ) → e ≡ Some n → n < 2 ^ 62) → is_fit b e ≡ true
fit_of true e zero small = subst (λ x. is_fit true x ≡ true) (sym (zero refl)) refl
fit_of false None zero small = refl
fit_of false (Some n) zero small = let lt : n < 2 ^ 62 = small n refl in le-leb n 4611686018427387903 (omega arith)

zero_at_most : (e : Entry) → is_at_most (Some 0) e ≡ true
zero_at_most None = refl
zero_at_most (Some n) = le-leb 0 n (omega arith)

at_most_limit : (e : Entry) (x y : ℕ) → IsAtMost e (Some x) → ((n : ℕ) → e ≡ Some n → n < 2 ^ 62) → min 4611686018427387903 x ≤ y → is_at_most e (Some y) ≡ true
at_most_limit None x y h small le = absurd h
at_most_limit (Some n) x y h small le = let lt : n < 2 ^ 62 = small n refl in le-leb n y (omega arith)

within_limit : (e r : Entry) (rest f x : ℕ) → is_at_most e (limit_by r rest) ≡ true → IsAtMost r (Some f) → f + rest ≤ x → IsAtMost e (Some x)
within_limit e None rest f x h k le = absurd k
within_limit None (Some r) rest f x h k le = absurd (false≢true h)
within_limit (Some n) (Some r) rest f x h k le = let m : n ≤ capped (r + rest) = leb-true n (capped (r + rest)) h in omega arith

number_is : (e : Entry) → is_number e ≡ true → (n : ℕ) × (e ≡ Some n)
number_is None h = absurd (false≢true h)
number_is (Some n) h = (n, refl)

module _ (task : Parts) (entries : ℕ → Entry) (q : ℕ) (goal : Subgoal) (of : slice_get task.subgoals q ≡ Some goal) where
  needed : (n : ℕ) (o : FlatStep) → slice_get task.steps n ≡ Some o → needs_of task n ≡ o.needs
  needed n o found = ap (λ x. option_map_or (λ (y : FlatStep). y.needs) x []) found

  costs : (n : ℕ) (o : FlatStep) → slice_get task.steps n ≡ Some o → cost_of task n ≡ o.cost
  costs n o found = ap (λ x. option_map_or (λ (y : FlatStep). y.cost) x 0) found

  achieved_is : (n : ℕ) (o : FlatStep) → slice_get task.steps n ≡ Some o → achieved_by task n q ≡ achieves o goal
  achieved_is n o found = ap (λ x. option_map_or (λ (y : FlatStep). achieves_at task y q) x false) found ∙ ap (λ x. option_map_or (achieves o) x false) of

  achiever : (n r : ℕ) → reach entries (needs_of task n) ≡ Some r → achieved_by task n q ≡ true → (o : FlatStep) × Achiever task entries goal o r × (cost_of task n ≡ o.cost)
  achiever n r far h =
      let found = map_or_true (λ (y : FlatStep). achieves_at task y q) (slice_get task.steps n) h in (
        found.0,
        record {
          number = n;
          at = found.1;
          reaches = sym (ap (reach entries) (needed n found.0 found.1)) ∙ far;
          achieves = sym (achieved_is n found.0 found.1) ∙ h;
        },
        costs n found.0 found.1,
      )

  noted_least : (reaches : List Entry) → IsNoted task entries reaches (length task.steps) → (o : FlatStep) (r : ℕ) → Achiever task entries goal o r → IsAtMost (at reaches q) (Some (allowed task o.cost r q))
  noted_least reaches is o r by =
      subst (λ c. IsAtMost (at reaches q) (Some (allowed task c r q))) (costs by.number o by.at)
      (is.least by.number q r (slice_get_within task.steps by.number o by.at) (ap (reach entries) (needed by.number o by.at) ∙ by.reaches) (achieved_is by.number o by.at ∙ by.achieves))

module _ (task : Parts) (s : FlatState) (entries reaches : List Entry) (units : List ℕ) (noted : IsNoted task (at entries) reaches (length task.steps)) (paid : AreUnits task s (λ q. is_number (at entries q)) units) where
  zero_entry : (goal : Subgoal) → IsEntry task s (at entries) (Some 0) goal
  zero_entry (subgoal.Fact p) = λ o r by. omega arith
  zero_entry (subgoal.NotFact p) = λ o r by. omega arith
  zero_entry (subgoal.Form form) = λ o u r t by also. omega arith

  abbrev Within : ℕ → Type 0
  Within q = is_at_most (at entries q) (limit_by (at reaches q) (weight_by (slice_get task.subgoals q) 0 (unit_at units q))) ≡ true

  plain : (q : ℕ) (goal : Subgoal) → slice_get task.subgoals q ≡ Some goal → ((c u : ℕ) → weight_by (Some goal) c u ≡ c) → Within q → (o : FlatStep) (r : ℕ) → Achiever task (at entries) goal o r → IsAtMost (at entries q) (Some (o.cost + r))
  plain q goal of none within o r by =
      let cost : weight_by (slice_get task.subgoals q) o.cost 0 ≡ o.cost = ap (λ g. weight_by g o.cost 0) of ∙ none o.cost 0 in
      let rest : weight_by (slice_get task.subgoals q) 0 (unit_at units q) ≡ 0 = ap (λ g. weight_by g 0 (unit_at units q)) of ∙ none 0 (unit_at units q) in
      within_limit (at entries q) (at reaches q) (weight_by (slice_get task.subgoals q) 0 (unit_at units q)) (allowed task o.cost r q) (o.cost + r) within (noted_least task (at entries) q goal of reaches noted o r by) (omega arith)

  form_entry : (q : ℕ) (form : Form) → slice_get task.subgoals q ≡ Some (subgoal.Form form) → holds task s q ≡ false → Within q → (o u : FlatStep) (r t : ℕ) → Achiever task (at entries) (subgoal.Form form) o r → Achiever task (at entries) (subgoal.Form form) u t
      → IsAtMost (at entries q) (Some (r + share s form u))
  form_entry q form of late within o u r t by also =
      let cost : weight_by (slice_get task.subgoals q) o.cost 0 ≡ 0 = ap (λ g. weight_by g o.cost 0) of in
      let rest : weight_by (slice_get task.subgoals q) 0 (unit_at units q) ≡ unit_at units q = ap (λ g. weight_by g 0 (unit_at units q)) of in
      let usable : list_all (λ p. is_number (at entries p)) u.needs ≡ true = numbers_reach (at entries) u.needs ∙ ap is_number also.reaches in
      let least : unit_at units q ≤ share s form u = paid.least q also.number form u of late also.at usable also.achieves in
      within_limit (at entries q) (at reaches q) (weight_by (slice_get task.subgoals q) 0 (unit_at units q)) (allowed task o.cost r q) (r + share s form u) within (noted_least task (at entries) q (subgoal.Form form) of reaches noted o r by) (omega arith)

  entry_of : (q : ℕ) (goal : Subgoal) → slice_get task.subgoals q ≡ Some goal → holds task s q ≡ false → Within q → IsEntry task s (at entries) (at entries q) goal
  entry_of q (subgoal.Fact p) of late within = plain q (subgoal.Fact p) of (λ c u. refl) within
  entry_of q (subgoal.NotFact p) of late within = plain q (subgoal.NotFact p) of (λ c u. refl) within
  entry_of q (subgoal.Form form) of late within = form_entry q form of late within

  abbrev Good : ℕ → Type 0
  Good q = is_good task (holds task s q) (at entries q) (at reaches q) (unit_at units q) q ≡ true

  pub table_of : length entries ≡ length task.subgoals → ((q : ℕ) → q < length task.subgoals → Good q) → IsTable task s (at entries)
  table_of count good = record {
    small = λ q n i. elim (cases_lt q (length entries)) [
      | inl lt ↦ fit_small (holds task s q) (at entries q) (fit q (subst (λ k. q < k) count lt)) n i
      | inr ge ↦ absurd (none-some n (sym (get_or_past entries q None ge) ∙ i))
    ];
    true_ones = λ q h. zero q h;
    bounded = λ q goal of. elim (cases_Bool (holds task s q)) [
      | inl early ↦ subst (λ e. IsEntry task s (at entries) e goal) (sym (zero q early)) (zero_entry goal)
      | inr late ↦ entry_of q goal of late (parts q (slice_get_within task.subgoals q goal of)).1
    ];
  }
    where
      parts : (q : ℕ) → q < length task.subgoals → (is_fit (holds task s q) (at entries q) ≡ true) × Within q
      parts q lt = and_parts (is_fit (holds task s q) (at entries q)) (is_at_most (at entries q) (limit_by (at reaches q) (weight_by (slice_get task.subgoals q) 0 (unit_at units q)))) (good q lt)

      fit : (q : ℕ) → q < length task.subgoals → is_fit (holds task s q) (at entries q) ≡ true
      fit q lt = (parts q lt).0

      zero : (q : ℕ) → holds task s q ≡ true → at entries q ≡ Some 0
      zero q h =
          let goal = map_or_true (subgoal_holds s) (slice_get task.subgoals q) h in
          fit_zero (at entries q) (subst (λ b. is_fit b (at entries q) ≡ true) h (fit q (slice_get_within task.subgoals q goal.0 goal.1)))

  module _ (is : IsTable task s (at entries)) where
    goal_within : (q n r : ℕ) (goal : Subgoal) → slice_get task.subgoals q ≡ Some goal → holds task s q ≡ false → reach (at entries) (needs_of task n) ≡ Some r → achieved_by task n q ≡ true
        → is_at_most (at entries q) (Some (capped (allowed task (cost_of task n) r q + weight_by (slice_get task.subgoals q) 0 (unit_at units q)))) ≡ true
    goal_within q n r (subgoal.Fact p) of late far h =
        let by = achiever task (at entries) q (subgoal.Fact p) of n r far h in
        let cost : weight_by (slice_get task.subgoals q) (cost_of task n) 0 ≡ cost_of task n = ap (λ g. weight_by g (cost_of task n) 0) of in
        let same : cost_of task n ≡ by.0.cost = by.2 in
        at_most_limit (at entries q) (by.0.cost + r) (capped (allowed task (cost_of task n) r q + weight_by (slice_get task.subgoals q) 0 (unit_at units q))) (is.bounded q (subgoal.Fact p) of by.0 r by.1) (is.small q) (omega arith)
    goal_within q n r (subgoal.NotFact p) of late far h =
        let by = achiever task (at entries) q (subgoal.NotFact p) of n r far h in
        let cost : weight_by (slice_get task.subgoals q) (cost_of task n) 0 ≡ cost_of task n = ap (λ g. weight_by g (cost_of task n) 0) of in
        let same : cost_of task n ≡ by.0.cost = by.2 in
        at_most_limit (at entries q) (by.0.cost + r) (capped (allowed task (cost_of task n) r q + weight_by (slice_get task.subgoals q) 0 (unit_at units q))) (is.bounded q (subgoal.NotFact p) of by.0 r by.1) (is.small q) (omega arith)
    goal_within q n r (subgoal.Form form) of late far h =
        let by = achiever task (at entries) q (subgoal.Form form) of n r far h in
        let cost : weight_by (slice_get task.subgoals q) (cost_of task n) 0 ≡ 0 = ap (λ g. weight_by g (cost_of task n) 0) of in
        let rest : weight_by (slice_get task.subgoals q) 0 (unit_at units q) ≡ unit_at units q = ap (λ g. weight_by g 0 (unit_at units q)) of in
        elim (paid.reached q form of late) [
          | inl most ↦ at_most_limit (at entries q) (r + share s form by.0) (capped (allowed task (cost_of task n) r q + weight_by (slice_get task.subgoals q) 0 (unit_at units q)))
              (is.bounded q (subgoal.Form form) of by.0 by.0 r r by.1 by.1) (is.small q) (omega arith)
          | inr some ↦
              let far_too = number_is (reach (at entries) some.1.needs) (sym (numbers_reach (at entries) some.1.needs) ∙ some.3) in
              let least : unit_at units q ≡ share s form some.1 = some.5 in
              at_most_limit (at entries q) (r + share s form some.1) (capped (allowed task (cost_of task n) r q + weight_by (slice_get task.subgoals q) 0 (unit_at units q)))
              (is.bounded q (subgoal.Form form) of by.0 some.1 r far_too.0 by.1 record { number = some.0; at = some.2; reaches = far_too.1; achieves = some.4 }) (is.small q) (omega arith)
        ]

    late_within : (q : ℕ) (goal : Subgoal) → slice_get task.subgoals q ≡ Some goal → holds task s q ≡ false → Within q
    late_within q goal of late = elim (noted.one q (slice_get_within task.subgoals q goal of)) [
      | inl none ↦ subst (λ x. is_at_most (at entries q) (limit_by x (weight_by (slice_get task.subgoals q) 0 (unit_at units q))) ≡ true) (sym none) refl
      | inr some ↦ subst (λ x. is_at_most (at entries q) (limit_by x (weight_by (slice_get task.subgoals q) 0 (unit_at units q))) ≡ true) (sym some.5) (goal_within q some.0 some.1 goal of late some.3 some.4)
    ]

    good_of : (q : ℕ) (goal : Subgoal) → slice_get task.subgoals q ≡ Some goal → Good q
    good_of q goal of = and_from (is_fit (holds task s q) (at entries q)) (is_at_most (at entries q) (limit_by (at reaches q) (weight_by (slice_get task.subgoals q) 0 (unit_at units q))))
        (fit_of (holds task s q) (at entries q) (is.true_ones q) (is.small q))
        (elim (cases_Bool (holds task s q)) [
          | inl early ↦ subst (λ e. is_at_most e (limit_by (at reaches q) (weight_by (slice_get task.subgoals q) 0 (unit_at units q))) ≡ true) (sym (is.true_ones q early)) (zero_at_most (limit_by (at reaches q) (weight_by (slice_get task.subgoals q) 0 (unit_at units q))))
          | inr late ↦ late_within q goal of late
        ])

    pub good_there : (q : ℕ) → q < length task.subgoals → Good q
    good_there q lt = elim ((slice_get_cases task.subgoals q).1) [
      | inl found ↦ good_of q found.0 found.2
      | inr past ↦ absurd (below lt past.0)
    ]
      where
        below : q < length task.subgoals → length task.subgoals ≤ q → ⊥
        below h k = omega arith
