-- What is promised of reading a text.
use Rattle.std.specs.Prelude.{ℕ, ◌<◌, ◌≤◌, List, length, vec_items}
use Rattle.tokens.specs.declared.kind.Token.{Token}
use Rattle.tokens.specs.Cutting.{Cuts}
use Rattle.grammar.specs.declared.occurrence.Occurrence.{Occurrence}
use Rattle.grammar.specs.Law.{Reads, Refuses}
use Rattle.reader.specs.declared.fault.ReadFault.{ReadFault}
use Rattle.reader.specs.declared.fault.ReadFault.TheVariants.{TooLong, Parse}
use Rattle.reader.specs.declared.table.Table.{Table}
use Rattle.reader.specs.Faults.{of_parse}

abbrev pub occurrences_of : Table → List Occurrence
occurrences_of t = vec_items t.occurrences

-- the text is not too long, and its tokens are a program with these occurrences
pub record Accepts (text : List ℕ) (os : List Occurrence) : Type 0 where
  pub short : length text ≤ 4096
  pub tokens : List Token
  pub cuts : Cuts text tokens
  pub reads : Reads tokens os

-- the text is too long, or its tokens are refused
abbrev pub Rejects : List ℕ → ReadFault → Type 0
Rejects text TooLong = 4096 < length text
Rejects text (Parse f) = (length text ≤ 4096) × ((ts : List Token) × Cuts text ts × Refuses ts (of_parse f))
