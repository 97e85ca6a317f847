-- That `check` says yes to the certificate that `solve` puts, also with the plan.
use Rattle.std.proofs.Common.{◌≡◌, ℕ, Bool, true, false, true≢false, List, Option, Some, None, refl, sym, ap, ◌∙◌, subst}
use Rattle.std.proofs.lemmas.Option.{same_Some}
use Rattle.np_io.specs.Seen.{SeenShelf}
use Rattle.np_syntax.specs.declared.domain.Domain.{Domain}
use Rattle.np_problem.specs.declared.problem.Problem.{Problem}
use Rattle.np_io.specs.Files.{Files, Changes, HasPut, IsHeld}
use Rattle.np_answers.specs.declared.answer.solve.SolveAnswer.{SolveAnswer}
use Rattle.np_answers.specs.declared.answer.solve.SolveAnswer.TheVariants.{Optimal}
use Rattle.np_answers.specs.Words.{Inputs, Solve, Check}
use Rattle.np_commands.specs.Solving.{claim_of}
use Rattle.np_planner.specs.Shelves.{IsRead, HasPutBoth}
use Rattle.np_planner.specs.TaskFiles.{HoldsTask}
use Rattle.np_planner.specs.SolveAnswers.{HasPutFor, IsRightSolve}
use Rattle.np_planner.specs.CheckAnswers.{HoldsValid, HoldsOptimal}
use Rattle.np_planner.specs.Promises.{check_after, check_plan_after}
use Rattle.np_answers.proofs.Apart.{AreApart}

-- the certificate is under CERT, and the pair's files are as before
record Keeps (command : Solve) (certificate : List ℕ) (old new : Files) : Type 0 where
  there : new command.certificate ≡ Some certificate
  domain : new command.inputs.domain ≡ old command.inputs.domain
  problem : new command.inputs.problem ≡ old command.inputs.problem

abbrev is_some : {A : Type 0} → Option A → Bool
is_some None = false
is_some (Some x) = true

-- what a shelf that tells held before
record Told (old : Option Files) (P : Files → Files → Type 0) (f : Files) : Type 0 where
  before : Files
  told : old ≡ Some before
  since : P before f

-- a shelf that tells has told
told_before : (old new : Option Files) (P : Files → Files → Type 0) → Changes old new P → (f : Files) → new ≡ Some f → Told old P f
told_before None None P changes f e = absurd (true≢false (sym (ap is_some e)))
told_before None (Some n) P changes f e = absurd changes
told_before (Some g) None P changes f e = absurd changes
told_before (Some g) (Some n) P changes f e = record { before = g; told = refl; since = subst (λ (x : Files). P g x) (same_Some n f e) changes }

module _ (command : Solve) (names : AreApart command) (certificate plan : List ℕ) where
  put_keeps : (g f : Files) → HasPut command.certificate certificate g f → Keeps command certificate g f
  put_keeps g f put = record {
    there = put.there;
    domain = put.others command.inputs.domain names.certificate_domain;
    problem = put.others command.inputs.problem names.certificate_problem;
  }

  both_keeps : (g f : Files) → HasPutBoth command.certificate certificate command.plan plan g f → Keeps command certificate g f
  both_keeps g f put = record {
    there = put.certificate_there;
    domain = put.others command.inputs.domain names.certificate_domain names.plan_domain;
    problem = put.others command.inputs.problem names.certificate_problem names.plan_problem;
  }

  keeps : (answer : SolveAnswer) (g f : Files) → HasPutFor command certificate plan answer g f → Keeps command certificate g f
  keeps (Optimal cost) g f put = both_keeps g f put
  keeps answer g f put = put_keeps g f put

-- ---- the pair on the new shelf

module _ (old new : SeenShelf) (g f : Files) (before : old.files ≡ Some g) (told : new.files ≡ Some f) where
  -- what is under a name that stays
  held_still : (name bytes : List ℕ) → f name ≡ g name → IsHeld old.files name bytes → IsHeld new.files name bytes
  held_still name bytes stays is =
      subst (λ (x : Option Files). IsHeld x name bytes) (sym told) (stays ∙ subst (λ (x : Option Files). IsHeld x name bytes) before is)

  read_still : (name bytes : List ℕ) → f name ≡ g name → IsRead old name bytes → IsRead new name bytes
  read_still name bytes stays read = record { held = held_still name bytes stays read.held; within = read.within }

  -- the task stays under its names
  task_still : (inputs : Inputs) (d : Domain) (p : Problem) → f inputs.domain ≡ g inputs.domain → f inputs.problem ≡ g inputs.problem → HoldsTask inputs old d p → HoldsTask inputs new d p
  task_still inputs d p domain problem pair =
      let first = pair.both.domain_held in
      let second = pair.both.problem_held in
      record {
        both = record {
          domain_held = record { bytes = first.bytes; read = read_still inputs.domain first.bytes domain first.read; spelled = first.spelled; placed = first.placed; one_value = first.one_value };
          problem_held = record { bytes = second.bytes; read = read_still inputs.problem second.bytes problem second.read; spelled = second.spelled; placed = second.placed; one_value = second.one_value };
        };
        well_formed = pair.well_formed;
        is_task = pair.is_task;
      }

module _ (command : Solve) (names : AreApart command) (answer : SolveAnswer) (old new : SeenShelf) (was : IsRightSolve command answer old new) (given : Option (List ℕ)) where
  -- what `check` is told
  abbrev asked : Check
  asked = record { inputs = command.inputs; certificate = command.certificate; plan = given }

  holds : (g f : Files) → old.files ≡ Some g → new.files ≡ Some f → Keeps command was.certificate g f → HoldsValid asked (claim_of answer) new
  holds g f before told keeps = record {
    files = f;
    told = told;
    domain = was.domain;
    problem = was.problem;
    pair = task_still old new g f before told command.inputs was.domain was.problem keeps.domain keeps.problem was.pair;
    flat = was.flat;
    is_flat = was.is_flat;
    certificate = was.certified.certificate;
    written = record {
      bytes = was.certificate;
      held = subst (λ (x : Option Files). IsHeld x command.certificate was.certificate) (sym told) keeps.there;
      of_bytes = was.certified.by.spelled;
    };
    valid = was.certified.by.valid;
    claim_is = was.certified.by.claim_is;
  }

  valid_after : (f : Files) → new.files ≡ Some f → HoldsValid asked (claim_of answer) new
  valid_after f told =
      let t = told_before old.files new.files (HasPutFor command was.certificate was.plan answer) was.put f told in
      holds t.before f t.told told (keeps command names was.certificate was.plan answer t.before f t.since)

pub checkable : (command : Solve) → AreApart command → (answer : SolveAnswer) (old new : SeenShelf) → IsRightSolve command answer old new → (f : Files) → new.files ≡ Some f → HoldsValid (check_after command) (claim_of answer) new
checkable command names answer old new was f told = valid_after command names answer old new was None f told

pub plan_checkable : (command : Solve) → AreApart command → (cost : ℕ) (old new : SeenShelf) → IsRightSolve command (Optimal cost) old new → (f : Files) → new.files ≡ Some f → HoldsOptimal (check_plan_after command) cost new
unfolding valid_after holds
plan_checkable command names cost old new was f told =
    let t = told_before old.files new.files (HasPutFor command was.certificate was.plan (Optimal cost)) was.put f told in
    record {
      valid = valid_after command names (Optimal cost) old new was (Some command.plan) f told;
      plan = record {
        name = command.plan;
        named = refl;
        steps = was.true_answer.steps;
        held = record {
          bytes = was.plan;
          held = subst (λ (x : Option Files). IsHeld x command.plan was.plan) (sym told) t.since.plan_there;
          of_bytes = was.true_answer.spelled;
        };
        is_plan = was.true_answer.is_plan;
      };
    }
