-- Occurrences and their notes together: what each occurrence does, at which place, and the type that stands uppermost there.
use Rattle.std.specs.Prelude.{◌≡◌, ℕ, Bool, true, false, List, [], ◌∷◌, pos}
use Rattle.monoid.specs.declared.int.Int.{Int}
use Rattle.monoid.specs.Ints.{int_of}
use Rattle.grammar.specs.declared.occurrence.Infix.{Infix}
use Rattle.grammar.specs.declared.occurrence.Unary.{Unary}
use Rattle.grammar.specs.declared.occurrence.Operation.{Operation}
use Rattle.grammar.specs.declared.occurrence.What.{What}
use Rattle.grammar.specs.declared.occurrence.Occurrence.{Occurrence}
use Rattle.types.specs.Types.{Ty}
use Rattle.judging.specs.Notes.{Note}

-- what an occurrence does, with no names: a variable is how many stand inside it, a list in brackets how many elements it has
pub data Act : Type 0 where
  number : Int → Act
  truth : Bool → Act
  variable : ℕ → Act
  bind let_end : Act
  if_fork if_else if_join : Act
  each_fork each_filter each_join : Act
  operate : Infix → Act
  apply : Unary → Act
  index group pair : Act
  bracket : ℕ → Act
  empty part : Act
  scan reduce : Operation → Act
  -- a type that is written, and the header
  type_int type_bool type_pair type_list : Act
  parameter result : Act

-- at the place of a node's own token; what is written as a type, and the header, have their place left out, as 0
pub record TypedOccurrence : Type 0 where
  pub act : Act
  pub place : ℕ
  pub type : Ty

abbrev pub at_place : Act → ℕ → Ty → TypedOccurrence
at_place a p t = record { act = a; place = p; type = t }

abbrev pub placeless : Act → Ty → TypedOccurrence
placeless a t = at_place a 0 t

-- an occurrence with its note
abbrev pub noted_as : What → ℕ → Note → TypedOccurrence
noted_as (What.Number v) p n = at_place (number (int_of (pos v))) p n.type
noted_as What.True p n = at_place (truth true) p n.type
noted_as What.False p n = at_place (truth false) p n.type
noted_as (What.Variable _) p n = at_place (variable n.index) p n.type
noted_as (What.Bind _) p n = at_place bind p n.type
noted_as What.LetEnd p n = at_place let_end p n.type
noted_as What.IfFork p n = at_place if_fork p n.type
noted_as What.IfElse p n = at_place if_else p n.type
noted_as What.IfJoin p n = at_place if_join p n.type
noted_as (What.EachFork _) p n = at_place each_fork p n.type
noted_as What.EachFilter p n = at_place each_filter p n.type
noted_as What.EachJoin p n = at_place each_join p n.type
noted_as (What.Operate o) p n = at_place (operate o) p n.type
noted_as (What.Apply o) p n = at_place (apply o) p n.type
noted_as What.Index p n = at_place index p n.type
noted_as What.Group p n = at_place group p n.type
noted_as What.Pair p n = at_place pair p n.type
noted_as (What.List k) p n = at_place (bracket k) p n.type
noted_as What.Empty p n = at_place empty p n.type
noted_as What.Part p n = at_place part p n.type
noted_as (What.Scan o) p n = at_place (scan o) p n.type
noted_as (What.Reduce o) p n = at_place (reduce o) p n.type
noted_as What.TypeInt p n = placeless type_int n.type
noted_as What.TypeBool p n = placeless type_bool n.type
noted_as What.TypePair p n = placeless type_pair n.type
noted_as What.TypeList p n = placeless type_list n.type
noted_as (What.Parameter _) p n = placeless parameter n.type
noted_as What.Result p n = placeless result n.type

abbrev pub resolved : Occurrence → Note → TypedOccurrence
resolved o n = noted_as o.what o.place n

-- occurrences and as many notes, one by one
pub data Resolves : List Occurrence → List Note → List TypedOccurrence → Type 0 where
  none_left : Resolves [] [] []
  one_more : {o : Occurrence} {n : Note} {t : TypedOccurrence} {os : List Occurrence} {ns : List Note} {ts : List TypedOccurrence} →
      resolved o n ≡ t → Resolves os ns ts → Resolves (o ∷ os) (n ∷ ns) (t ∷ ts)
