-- The texts of all rows are tested at once, and the test is computed.
use Rattle.std.proofs.Common.{◌≡◌, List, [], ◌∷◌, refl}
use mathlib.Core.Option.{Option, some}
use Rattle.std.specs.Int.{int_wrap}
use Rattle.std.specs.Fmt.{digits}
use Rattle.texts.specs.Texts.{value_text}
use Rattle.rules.specs.Table as rows
use Rattle.rules.specs.Table.{Row, AllStand, table}
use Rattle.rules.proofs.Table.{table_law}
use Rattle.program.specs.Loading.{Spells}
use Rattle.worked.specs.Worked.{AllWork, no_row, and_row, WorkedLaw}
use Rattle.worked.proofs.Tests.{and_then, shown}
use Rattle.worked.proofs.Tokens.{cut?, run?, word?}
use Rattle.worked.proofs.Trees.{type?, tree?, elements?, program?}
use Rattle.worked.proofs.Texts.{spells?, bytes?}

pub record Written (r : Row) : Type 0 where
  pub spells : Spells r.program.text r.program.tree
  pub reads : r.given ≡ value_text r.program.checked.parameter r.input

data AllWritten : List Row → Type 0 where
  none_left : AllWritten []
  one_more : {r : Row} {rs : List Row} → Written r → AllWritten rs → AllWritten (r ∷ rs)

abbrev written? : (r : Row) → Option (Written r)
written? r =
    and_then (spells? r.program.text r.program.tree) λ s. and_then (bytes? r.given (value_text r.program.checked.parameter r.input)) λ e.
    some (record { spells = s; reads = e })

abbrev all? : (rs : List Row) → Option (AllWritten rs)
all? [] = some none_left
all? (r ∷ rs) = and_then (written? r) λ w. and_then (all? rs) λ ws. some (one_more w ws)

all-written : AllWritten table
unfolding cut? run? word? type? tree? elements? program? int_wrap digits
all-written = shown (all? table) refl

-- a row whose texts are as it says works if its runs stand
works : (rs : List Row) → AllWritten rs → AllStand rs → AllWork rs
works [] ws ss = no_row
works (r ∷ rs) (one_more w ws) (rows.and_row s ss) =
    and_row (record { comes = (r.program.tree, w.spells, s.checks); reads = w.reads; runs = s }) (works rs ws ss)

pub worked : WorkedLaw
worked = works table all-written table_law
