-- Words, which are never names, and names.
use Rattle.std.specs.Prelude.{◌≡◌, ℕ, ◌-◌, ◌<◌, Bool, ◌&&◌, List, [], ◌∷◌, ◌++◌, length, replicate, codes, nat_lt, slice_index_or}
use Rattle.tokens.specs.declared.kind.Kind.{Kind}
use Rattle.tokens.specs.declared.kind.Kind.TheVariants.{End, NoToken, TooLarge, TooLong, OverLimit, Name as NameOf, Number, Main, Int, Bool as BoolWord, Let, In, If, Then, Else, True, False, Empty, Fst, Snd, Len, Range, Flat, Part, Scan, Reduce, Sum, Max, Or, Lin, House, Open, Close, SquareOpen, SquareClose, CurlyOpen, CurlyClose, Comma, Colon, Bar, Equal, Same, Less, Plus, Minus, Times, Divide, Remainder}
use Rattle.tokens.specs.Kinds.{code}

-- the bytes of a word; nothing for what is no word
abbrev pub spelling : Kind → List ℕ
spelling End = []
spelling NoToken = []
spelling TooLarge = []
spelling TooLong = []
spelling OverLimit = []
spelling (NameOf _) = []
spelling (Number _) = []
spelling Main = codes "main"
spelling Int = codes "int"
spelling BoolWord = codes "bool"
spelling Let = codes "let"
spelling In = codes "in"
spelling If = codes "if"
spelling Then = codes "then"
spelling Else = codes "else"
spelling True = codes "true"
spelling False = codes "false"
spelling Empty = codes "empty"
spelling Fst = codes "fst"
spelling Snd = codes "snd"
spelling Len = codes "len"
spelling Range = codes "range"
spelling Flat = codes "flat"
spelling Part = codes "part"
spelling Scan = codes "scan"
spelling Reduce = codes "reduce"
spelling Sum = codes "sum"
spelling Max = codes "max"
spelling Or = codes "or"
spelling Lin = codes "lin"
spelling House = codes "house"
spelling Open = []
spelling Close = []
spelling SquareOpen = []
spelling SquareClose = []
spelling CurlyOpen = []
spelling CurlyClose = []
spelling Comma = []
spelling Colon = []
spelling Bar = []
spelling Equal = []
spelling Same = []
spelling Less = []
spelling Plus = []
spelling Minus = []
spelling Times = []
spelling Divide = []
spelling Remainder = []

abbrev pub all_words : List Kind
all_words = Main ∷ Int ∷ BoolWord ∷ Let ∷ In ∷ If ∷ Then ∷ Else ∷ True ∷ False ∷ Empty ∷ Fst ∷ Snd ∷ Len ∷ Range ∷ Flat ∷ Part ∷ Scan ∷ Reduce ∷ Sum ∷ Max ∷ Or ∷ Lin ∷ House ∷ []

-- the bytes w are the word k
abbrev pub IsWord : List ℕ → Kind → Type 0
IsWord w k = (n : ℕ) × (n < length all_words) × (slice_index_or all_words n End ≡ k) × (w ≡ spelling k)

-- the kinds of the words
abbrev pub word_kind : Kind → Bool
word_kind k = nat_lt 6 (code k) && nat_lt (code k) 31

-- a name holds its bytes with zeros behind them, sixteen in all
abbrev pub padded : List ℕ → List ℕ
padded w = w ++ replicate (16 - length w) 0
