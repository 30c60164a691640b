-- What the entries that the checker keeps stand for.
use Rattle.std.specs.Prelude.{ℕ, suc, ◌+◌, ◌<◌, ◌≤◌, Bool, false, List, [], ◌∷◌, map, reverse, drop, replicate, slice_index, slice_index_or}
use Rattle.types.specs.Types.{Ty, int}
use Rattle.types.specs.Entries.{ty_of}
use Rattle.lang.specs.Scope.{Binding, bound}
use Rattle.judging.specs.Notes.{Note}
use Rattle.judging.specs.Judging.{State, Fork, used_at}
use Rattle.typing.specs.declared.parts.Binding.{Binding as BindingEntry}
use Rattle.typing.specs.declared.parts.Fork.{Fork as ForkEntry}
use Rattle.typing.specs.declared.parts.Use.{Use}
use Rattle.typing.specs.declared.parts.Note.{Note as NoteEntry}
use Rattle.typing.specs.declared.given.Given.{Given}
use Rattle.typing.specs.declared.given.Given.TheVariants as given

-- all numbers of a list are below n; past its end one reads 0
abbrev pub Under : ℕ → List ℕ → Type 0
Under n xs = (i : ℕ) → slice_index xs i < n

abbrev pub scope_codes : List BindingEntry → List ℕ
scope_codes bs = map (λ b. b.code) bs

abbrev pub note_codes : List NoteEntry → List ℕ
note_codes ns = map (λ n. n.code) ns

abbrev pub starts : List ForkEntry → List ℕ
starts fs = map (λ f. f.start) fs

-- all codes are below n
abbrev pub Coded : ℕ → List BindingEntry → List ℕ → List NoteEntry → Type 0
Coded n sc st ns = Under n (scope_codes sc) × Under n st × Under n (note_codes ns)

abbrev pub depths : List ForkEntry → List ℕ
depths fs = map (λ f. f.depth) fs

-- no fork starts after the last of n uses, or has too many variables
abbrev pub Logged : ℕ → List ForkEntry → Type 0
Logged n fs = Under (suc n) (starts fs) × Under 1025 (depths fs)

-- of n occurrences, each used one variable and made one type at most
abbrev pub Few : ℕ → ℕ → ℕ → Type 0
Few n uses types = (uses ≤ n) × (types ≤ 2 + n)

abbrev pub Rooms : ℕ → ℕ → ℕ → Type 0
Rooms a b c = (1025 ≤ a) × (1025 ≤ b) × (1025 ≤ c)

-- codes by the types of the table
abbrev pub type_at : List Ty → ℕ → Ty
type_at ts i = slice_index_or ts i int

-- the type that is given by its code or by what it is made of
abbrev pub given_type : List Ty → Given → Ty
given_type ts (given.Code i) = type_at ts i
given_type ts (given.Node n) = ty_of ts n

abbrev pub binding_of : List Ty → BindingEntry → Binding
binding_of ts b = bound b.name (type_at ts b.code)

abbrev pub note_of : List Ty → NoteEntry → Note
note_of ts n = record { type = type_at ts n.code; index = n.index }

-- the flags of a fork after these uses
abbrev pub replay : List Use → List Bool → List Bool
replay [] us = us
replay (e ∷ es) us = replay es (used_at e.depth e.index us)

abbrev pub fork_of : List Use → ForkEntry → Fork
fork_of es f = record { filtered = f.filtered; used = replay (drop f.start es) (replicate f.depth false) }

abbrev pub state : List Binding → List Ty → List Fork → List Note → ℕ → State
state sc st fs ns w = record { scope = sc; stack = st; forks = fs; notes = ns; weight = w }

-- the state that entries stand for: of the scope, the stack and the forks the last is the innermost
abbrev pub holding : List Ty → List BindingEntry → List ℕ → List ForkEntry → List Use → List NoteEntry → ℕ → State
holding ts sc st fs es ns w =
    state (map (binding_of ts) (reverse sc)) (map (type_at ts) (reverse st)) (map (fork_of es) (reverse fs)) (map (note_of ts) ns) w
