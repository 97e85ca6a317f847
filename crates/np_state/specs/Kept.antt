-- Words that are kept in place or in memory.
use Rattle.std.specs.Prelude.{ℕ, List, [], ◌∷◌}
use Rattle.np_state.specs.declared.words.Kept.{Kept}
use Rattle.np_state.specs.declared.words.Kept.TheVariants.{One, More}

-- the words, and how many values are in them
abbrev pub words_in : Kept → List ℕ × ℕ
words_in (One len word) = (word ∷ [], len)
words_in (More many) = (many.value.words.items, many.value.len)
