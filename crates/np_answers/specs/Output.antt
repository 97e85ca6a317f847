-- What becomes of an answer that is pushed to the sink.
use Rattle.std.specs.Prelude.{◌≡◌, ℕ, ◌⊎◌, List}
use Rattle.np_io.specs.Seen.{SeenSink}
use Rattle.np_io.specs.Told.{Changes}
use Rattle.np_io.specs.Pushes.{HasPushed, HasPushedPrefix}
use Rattle.np_io.specs.Counts.{RoseOnce}
use Rattle.np_answers.specs.declared.answer.Answer.{Answer}
use Rattle.np_answers.specs.declared.answer.Answer.TheVariants.{OutOfMemory}
use Rattle.np_answers.specs.Texts.{text_of, status_of}

-- the whole text was pushed, where the sink tells, and no push failed
pub record IsWhole (text : List ℕ) (old new : SeenSink) : Type 0 where
  pub whole : Changes old.pushed new.pushed (HasPushed text)
  pub no_fault : new.faults ≡ old.faults

-- one push failed in this call, and a prefix of the text was pushed
pub record IsCutOff (text : List ℕ) (old new : SeenSink) : Type 0 where
  pub prefix : Changes old.pushed new.pushed (HasPushedPrefix text)
  pub rose : RoseOnce old.faults new.faults

-- a text was pushed, and the call ends with its status; or the push failed, and it ends with 5; or it found no memory, and ends with 7
abbrev pub IsPushed : List ℕ → ℕ → SeenSink → SeenSink → ℕ → Type 0
IsPushed text own old new status =
    ((status ≡ own) × IsWhole text old new) ⊎ (((status ≡ 5) × IsCutOff text old new) ⊎ ((status ≡ 7) × (new ≡ old)))

-- the answer's text is pushed, or in its place, where there is no memory for it, the words `Out of memory`
abbrev pub IsAnsweredBy : Answer → SeenSink → SeenSink → ℕ → Type 0
IsAnsweredBy answer old new status = IsPushed (text_of answer) (status_of answer) old new status ⊎ IsPushed (text_of OutOfMemory) (status_of OutOfMemory) old new status
