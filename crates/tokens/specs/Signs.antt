-- The signs.
use Rattle.std.specs.Prelude.{ℕ, cond, ◌&&◌, List, [], ◌∷◌, Some, None, codes, Option, ◌==◌}
use Rattle.tokens.specs.declared.kind.Kind.{Kind}
use Rattle.tokens.specs.declared.kind.Kind.TheVariants.{Open, Close, SquareOpen, SquareClose, CurlyOpen, CurlyClose, Comma, Colon, Bar, Less, Plus, Minus, Times, Divide, Remainder, Equal, Same}
use Rattle.tokens.specs.Kinds.{code}

-- the kind that stands where the byte b does
abbrev pub kind_of : List ℕ → List Kind → ℕ → Option Kind
kind_of [] ks b = None
kind_of (c ∷ cs) [] b = None
kind_of (c ∷ cs) (k ∷ ks) b = cond (b == c) (Some k) (kind_of cs ks b)

-- the signs of one byte, and their kinds
abbrev pub sign_bytes : List ℕ
sign_bytes = codes "()[]{},:|=<+-*/%"

abbrev pub sign_kinds : List Kind
sign_kinds = Open ∷ Close ∷ SquareOpen ∷ SquareClose ∷ CurlyOpen ∷ CurlyClose ∷ Comma ∷ Colon ∷ Bar ∷ Equal ∷ Less ∷ Plus ∷ Minus ∷ Times ∷ Divide ∷ Remainder ∷ []

-- the longest sign that begins with the byte b before the byte n: `==` before `=`
abbrev pub sign_of : ℕ → ℕ → Option Kind
sign_of b n = cond (b == 61 && n == 61) (Some Same) (kind_of sign_bytes sign_kinds b)

-- of the signs only `==` has two bytes
abbrev pub sign_length : Kind → ℕ
sign_length k = cond (code k == code Same) 2 1
