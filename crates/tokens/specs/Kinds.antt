-- The kinds of tokens by number, and the kind and the byte place of a token of a list.
use Rattle.std.specs.Prelude.{◌≡◌, ℕ, ◌+◌, ◌-◌, ◌<◌, Bool, true, false, List, length, nat_lt, slice_index_or}
use Rattle.tokens.specs.declared.kind.Kind.{Kind}
use Rattle.tokens.specs.declared.kind.Kind.TheVariants.{End, NoToken, TooLarge, TooLong, OverLimit, Name as NameOf, Number, Main, Int, Bool as BoolWord, Let, In, If, Then, Else, True, False, Empty, Fst, Snd, Len, Range, Flat, Part, Scan, Reduce, Sum, Max, Or, Lin, House, Open, Close, SquareOpen, SquareClose, CurlyOpen, CurlyClose, Comma, Colon, Bar, Equal, Same, Less, Plus, Minus, Times, Divide, Remainder}
use Rattle.tokens.specs.declared.kind.Token.{Token}

-- a number for each kind of token, to tell them apart
abbrev pub code : Kind → ℕ
code End = 0
code NoToken = 1
code TooLarge = 2
code TooLong = 3
code OverLimit = 4
code (NameOf _) = 5
code (Number _) = 6
code Main = 7
code Int = 8
code BoolWord = 9
code Let = 10
code In = 11
code If = 12
code Then = 13
code Else = 14
code True = 15
code False = 16
code Empty = 17
code Fst = 18
code Snd = 19
code Len = 20
code Range = 21
code Flat = 22
code Part = 23
code Scan = 24
code Reduce = 25
code Sum = 26
code Max = 27
code Or = 28
code Lin = 29
code House = 30
code Open = 31
code Close = 32
code SquareOpen = 33
code SquareClose = 34
code CurlyOpen = 35
code CurlyClose = 36
code Comma = 37
code Colon = 38
code Bar = 39
code Equal = 40
code Same = 41
code Less = 42
code Plus = 43
code Minus = 44
code Times = 45
code Divide = 46
code Remainder = 47

-- what may stand after the last token, and nowhere else
abbrev pub is_stop : Kind → Bool
is_stop k = nat_lt (code k) 5

-- past the last token stands an end
abbrev pub end_token : Token
end_token = record { kind = End; at = 0; end = 0 }

-- the kind of the token at a place of the list
abbrev pub kind_at : List Token → ℕ → Kind
kind_at ts i = (slice_index_or ts i end_token).kind

-- the place in the text of the token at a place of the list
abbrev pub place_at : List Token → ℕ → ℕ
place_at ts i = (slice_index_or ts i end_token).at

-- the last of the list is a stop
abbrev pub stopped : List Token → Type 0
stopped ts = is_stop (kind_at ts (length ts - 1)) ≡ true

-- and none before it is
abbrev pub unstopped : List Token → Type 0
unstopped ts = (i : ℕ) → i + 1 < length ts → is_stop (kind_at ts i) ≡ false
