-- The signs of a list as bytes.
use Rattle.std.specs.Prelude.{◌≡◌, ℕ, Some, None, Option, ◌≢◌}
use Rattle.values.specs.declared.sign.Sign.{Sign}
use Rattle.values.specs.declared.sign.Sign.TheVariants.{Comma, Bracket}

abbrev pub byte_of : Sign → ℕ
byte_of Comma = 44
byte_of Bracket = 93

-- what sign a byte is
abbrev pub Signs : ℕ → Option Sign → Type 0
Signs b (Some sign) = b ≡ byte_of sign
Signs b None = (b ≢ 44) × (b ≢ 93)
