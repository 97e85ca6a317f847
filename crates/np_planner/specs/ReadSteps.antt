-- SCAFFOLDING. What the read of one file comes to.
use Rattle.std.specs.Prelude.{◌≡◌, ℕ, List}
use Rattle.np_io.specs.Seen.{SeenShelf}
use Rattle.np_io.specs.Files.{IsLonger}
use Rattle.np_answers.specs.declared.answer.File.{File}
use Rattle.np_answers.specs.declared.answer.refusal.Refusal.TheVariants.{TooLong}
use Rattle.np_answers.specs.declared.answer.Answer.{Answer}
use Rattle.np_answers.specs.declared.answer.Answer.TheVariants.{CannotRead, Refused, OutOfMemory}
use Rattle.np_planner.specs.Shelves.{ReadFailed}

-- the answer for a file of at most so many bytes that can't be had
abbrev pub IsNotRead : File → List ℕ → ℕ → SeenShelf → SeenShelf → Answer → Type 0
IsNotRead file name limit old new (CannotRead f) = (f ≡ file) × ReadFailed name old new
IsNotRead file name limit old new (Refused (TooLong f)) = (f ≡ file) × (new ≡ old) × IsLonger old.files name limit
IsNotRead file name limit old new OutOfMemory = new ≡ old
IsNotRead file name limit old new answer = ⊥

-- the answer for a file that can't be had, however many bytes it has
abbrev pub IsNotFetched : File → List ℕ → SeenShelf → SeenShelf → Answer → Type 0
IsNotFetched file name old new (CannotRead f) = (f ≡ file) × ReadFailed name old new
IsNotFetched file name old new OutOfMemory = new ≡ old
IsNotFetched file name old new answer = ⊥
