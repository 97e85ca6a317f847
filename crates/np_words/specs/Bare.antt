-- Values without their places. Two values are the same but for their places where they are the same without.
use Rattle.std.specs.Prelude.{List, map}
use Rattle.std.specs.Option.{option_map}
use Rattle.np_lex.specs.declared.token.Place.{Place}
use Rattle.np_words.specs.declared.word.Word.{Word}
use Rattle.np_words.specs.declared.word.Ident.{Ident}
use Rattle.np_words.specs.declared.word.Ident.TheVariants as ident
use Rattle.np_words.specs.declared.word.Decimal.{Decimal}
use Rattle.np_words.specs.declared.word.Group.{Group}

-- the place that stands for none
abbrev pub nowhere : Place
nowhere = record { offset = 0; line = 0; column = 0 }

abbrev pub bare_word : Word → Word
bare_word w = record { text = w.text; place = nowhere }

abbrev pub bare_ident : Ident → Ident
bare_ident (ident.Name w) = ident.Name (bare_word w)
bare_ident (ident.Variable w) = ident.Variable (bare_word w)

abbrev pub bare_decimal : Decimal → Decimal
bare_decimal d = record { negative = d.negative; whole = d.whole; part = d.part; place = nowhere }

abbrev pub bare_group : Group → Group
bare_group g = record { words = map bare_word g.words; of = option_map bare_word g.of }

abbrev pub bare_groups : List Group → List Group
bare_groups gs = map bare_group gs
