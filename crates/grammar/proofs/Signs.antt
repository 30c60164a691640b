-- The tokens that stand for operations: which phrases they make longer.
use Rattle.std.proofs.Common.{◌≡◌, true, false, refl}
use Rattle.grammar.specs.declared.occurrence.Infix.{Infix}
use Rattle.grammar.specs.Grammar.{sign, Compares, same, less, Chain, Joins, adds, subtracts, multiplies, divides, remains, tests, chains, linked, sums}
use Rattle.grammar.specs.Law.{extends}

pub compares_extends : {o : Infix} → Compares o → extends tests (sign o) ≡ true
compares_extends same = refl
compares_extends less = refl

pub compares_shut : {o : Infix} → Compares o → extends (chains sums) (sign o) ≡ false
compares_shut same = refl
compares_shut less = refl

pub joins_extends : {c : Chain} {o : Infix} → Joins c o → extends (chains c) (sign o) ≡ true
joins_extends adds = refl
joins_extends subtracts = refl
joins_extends multiplies = refl
joins_extends divides = refl
joins_extends remains = refl

pub joins_shut : {c : Chain} {o : Infix} → Joins c o → extends (linked c) (sign o) ≡ false
joins_shut adds = refl
joins_shut subtracts = refl
joins_shut multiplies = refl
joins_shut divides = refl
joins_shut remains = refl
