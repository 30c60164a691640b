-- Worked runs, from the texts of a program and its input to what they come to.
use Rattle.std.specs.Prelude.{◌≡◌, List, [], ◌∷◌}
use Rattle.lang.specs.Outcome.{ok}
use Rattle.texts.specs.Texts.{value_text}
use Rattle.rules.specs.Table.{Row, Stands, table}
use Rattle.program.specs.Loading.{Comes}

-- the program's text comes to the program, the input's text is that of the value, and both runs come to what the row says
pub record Works (r : Row) : Type 0 where
  pub comes : Comes r.program.text (ok r.program.checked)
  pub reads : r.given ≡ value_text r.program.checked.parameter r.input
  pub runs : Stands r

pub data AllWork : List Row → Type 0 where
  no_row : AllWork []
  and_row : {r : Row} {rs : List Row} → Works r → AllWork rs → AllWork (r ∷ rs)

abbrev pub WorkedLaw : Type 0
WorkedLaw = AllWork table
