use Rattle.np_lex.proofs.Readings.{first_place-left}
use Rattle.np_lex.proofs.reading.Lexer.place.Goals as goal

pub returns : goal.returns
returns c = first_place-left c.args.self.now c.place_by.result c.place_by.ensures
