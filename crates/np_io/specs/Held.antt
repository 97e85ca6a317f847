-- What a map from texts to bytes holds.
use Rattle.std.specs.Prelude.{ℕ, String, Vec}
use Rattle.std.specs.Option.{option_map}
use Rattle.std.specs.declared.alloc.Global.{Global}
use Rattle.indexmap.specs.IndexMap.{IndexMap, get_by_text}
use Rattle.np_io.specs.Files.{Files}

-- the bytes under each text
abbrev pub files_of : {Y S : Type 0} → IndexMap (String Y) (Vec ℕ Global) S → Files
files_of files name = option_map (λ b. b.items) (get_by_text files name)
