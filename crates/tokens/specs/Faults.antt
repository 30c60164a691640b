-- The number and the place of each refusal.
use Rattle.refusal.specs.declared.Refusal.{Refusal}
use Rattle.tokens.specs.declared.fault.TokenFault.{TokenFault}
use Rattle.tokens.specs.declared.fault.TokenFault.TheVariants.{NoToken, TooLarge, TooLong}
use Rattle.tokens.specs.declared.kind.Kind.{Kind}
use Rattle.tokens.specs.declared.kind.Kind.TheVariants as kind

abbrev pub of_token : TokenFault → Refusal
of_token (NoToken p) = record { number = 2; place = p }
of_token (TooLarge p) = record { number = 2; place = p }
of_token (TooLong p) = record { number = 2; place = p }

-- the kind that stands in the list of tokens
abbrev pub stop_of : TokenFault → Kind
stop_of (NoToken _) = kind.NoToken
stop_of (TooLarge _) = kind.TooLarge
stop_of (TooLong _) = kind.TooLong
