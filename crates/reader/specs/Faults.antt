-- The number and the place of each refusal.
use Rattle.refusal.specs.declared.Refusal.{Refusal}
use Rattle.tokens.specs.Faults.{of_token}
use Rattle.reader.specs.declared.fault.ParseFault.{ParseFault}
use Rattle.reader.specs.declared.fault.ParseFault.TheVariants.{Token, OverLimit, Forbidden}
use Rattle.reader.specs.declared.fault.ReadFault.{ReadFault}
use Rattle.reader.specs.declared.fault.ReadFault.TheVariants.{TooLong, Parse}

abbrev pub of_parse : ParseFault → Refusal
of_parse (Token f) = of_token f
of_parse (OverLimit p) = record { number = 4; place = p }
of_parse (Forbidden p) = record { number = 3; place = p }

abbrev pub of_read : ReadFault → Refusal
of_read TooLong = record { number = 1; place = 4096 }
of_read (Parse f) = of_parse f
