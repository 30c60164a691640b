-- What printing leaves in the output.
use Rattle.std.specs.Prelude.{◌≡◌, ℕ, ◌<◌, List, ◌++◌, length, drop}
use Rattle.refusal.specs.declared.Refusal.{Refusal}
use Rattle.values.specs.declared.print.TooShort.{TooShort}

-- the text stands first in the output, further bytes are as they were, and n is its length
pub record Printed (text : List ℕ) (n : ℕ) (out out' : List ℕ) : Type 0 where
  pub length_is : n ≡ length text
  pub written : out' ≡ text ++ drop (length text) out

-- the output has no room for the text, whose length is needed, and is as it was
pub record Short (text : List ℕ) (needed : ℕ) (out out' : List ℕ) : Type 0 where
  pub length_is : needed ≡ length text
  pub less : length out < needed
  pub same : out' ≡ out

-- the number and the place of this refusal
abbrev pub of_print : TooShort → Refusal
of_print f = record { number = 21; place = f.needed }
