-- The texts of values, without blanks.
use Rattle.std.specs.Prelude.{ℕ, Bool, true, false, List, [], ◌∷◌, ◌++◌, codes}
use Rattle.types.specs.Types.{Ty, int, bool, pair, list}
use Rattle.lang.specs.Values.{Val}
use Rattle.values.specs.Texts.{int_text, list_text}

abbrev pub bool_text : Bool → List ℕ
bool_text true = codes "true"
bool_text false = codes "false"

-- both halves in round brackets, with a comma between
abbrev pub pair_text : {X Y : Type 0} → (X → List ℕ) → (Y → List ℕ) → X × Y → List ℕ
pair_text left right p = 40 ∷ (left p.0 ++ (44 ∷ (right p.1 ++ (41 ∷ []))))

abbrev pub value_text : (t : Ty) → Val t → List ℕ
value_text int v = int_text v
value_text bool v = bool_text v
value_text (pair a b) v = pair_text (value_text a) (value_text b) v
value_text (list a) v = list_text (value_text a) v
