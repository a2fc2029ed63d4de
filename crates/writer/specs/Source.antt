-- What is written: a sheet, with the text that its views lie in.
use Rattle.std.specs.Prelude.{List}
use Rattle.tape.specs.declared.token.Token.{Token}
use Rattle.tape.specs.Words.{tokens_in}
use Rattle.writer.specs.declared.source.Source.{Source}

-- its tokens
abbrev pub tokens : Source → List Token
tokens source = tokens_in source.words.now source.count
