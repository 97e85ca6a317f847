-- What contracts say of a shelf of real files.
use Rattle.std.specs.Prelude.{List}
use Rattle.np_io.specs.declared.failure.Failure.{Failure}
use Rattle.np_io.specs.declared.file_shelf.FileShelf.{FileShelf}

-- the failures that were noted
abbrev pub noted : {R : Type 0} → FileShelf R → List Failure
noted shelf = shelf.failed.items
