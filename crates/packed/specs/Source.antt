-- A sheet that stands in words, or in bytes as a file has it.
use Rattle.std.specs.Prelude.{ℕ, List}
use Rattle.tape.specs.declared.token.Token.{Token}
use Rattle.tape.specs.Words.{tokens_in}
use Rattle.packed.specs.Packed.{behind}
use Rattle.packed.specs.declared.source.Source.{Source}

-- the words that it stands for
abbrev pub words : Source → List ℕ
words source = behind source.words.now source.bytes.now

-- and its tokens
abbrev pub tokens : Source → List Token
tokens source = tokens_in (words source) source.count
