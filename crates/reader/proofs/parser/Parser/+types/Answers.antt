use Rattle.std.proofs.Common.{sym, refl, ◌∙◌}
use Rattle.std.proofs.lemmas.Result.{MatchResult-weaker}
use Rattle.grammar.specs.Tree.{int, bool}
use Rattle.grammar.specs.Grammar.{by_int, by_bool}
use Rattle.grammar.proofs.Opening.{open_int, open_bool, no_type}
use Rattle.reader.proofs.Ways.{fails, same_state, take_on, type_on, stopped_at, stopped_type}
use Rattle.reader.proofs.Begun.{both_way, many_way}
use Rattle.reader.proofs.Phrases.{leaf_read, both_read, many_read}
use Rattle.reader.proofs.parser.Parser.+types.Goals as goal

-- pairs

pub pair_type-returns-in_err-type_phrase : goal.pair_type-returns-in_err-type_phrase
pair_type-returns-in_err-type_phrase t c = fails _ _ _ c.from_residual.ensures.1 (stopped_type (both_way c.requires c.pass-place.ensures.took) c.in_err-type_phrase.ensures)

pub pair_type-returns-in_err-expect : goal.pair_type-returns-in_err-expect
pair_type-returns-in_err-expect t c = fails _ _ _ c.from_residual-in_err-expect.ensures.1 (stopped_at (type_on (both_way c.requires c.pass-place.ensures.took) c.in_ok-type_phrase.ensures) c.in_err-expect.ensures)

pub pair_type-returns-in_err-type_phrase-2 : goal.pair_type-returns-in_err-type_phrase-2
pair_type-returns-in_err-type_phrase-2 t c = fails _ _ _ c.from_residual-in_err-type_phrase-2.ensures.1 (stopped_type (take_on (type_on (both_way c.requires c.pass-place.ensures.took) c.in_ok-type_phrase.ensures) c.in_ok-expect.ensures) c.in_err-type_phrase-2.ensures)

pub pair_type-returns : goal.pair_type-returns
pair_type-returns t c = MatchResult-weaker c.mark.result c.mark.ensures (λ _ x. both_read c.requires c.pass-place.ensures.took c.pass-place.ensures.place c.in_ok-type_phrase.ensures c.in_ok-expect.ensures c.in_ok-type_phrase-2.ensures x) (λ f n. stopped_at (type_on (take_on (type_on (both_way c.requires c.pass-place.ensures.took) c.in_ok-type_phrase.ensures) c.in_ok-expect.ensures) c.in_ok-type_phrase-2.ensures) n)

-- lists

pub list_type-returns-in_err-type_phrase : goal.list_type-returns-in_err-type_phrase
list_type-returns-in_err-type_phrase t c = fails _ _ _ c.from_residual.ensures.1 (stopped_type (many_way c.requires c.pass-place.ensures.took) c.in_err-type_phrase.ensures)

pub list_type-returns : goal.list_type-returns
list_type-returns t c = MatchResult-weaker c.mark.result c.mark.ensures (λ _ x. many_read c.requires c.pass-place.ensures.took c.pass-place.ensures.place c.in_ok-type_phrase.ensures x) (λ f n. stopped_at (type_on (many_way c.requires c.pass-place.ensures.took) c.in_ok-type_phrase.ensures) n)

-- any type

pub type_phrase-returns-in-Int : goal.type_phrase-returns-in-Int
type_phrase-returns-in-Int t c = let x = sym c.peek.ensures ∙ c.in-Int.is in leaf_read (int _) x c.leaf.ensures (by_int x) (λ γ. open_int x) refl

pub type_phrase-returns-in-Bool : goal.type_phrase-returns-in-Bool
type_phrase-returns-in-Bool t c = let x = sym c.peek.ensures ∙ c.in-Bool.is in leaf_read (bool _) x c.leaf-in-Bool.ensures (by_bool x) (λ γ. open_bool x) refl

pub type_phrase-returns-in_default : goal.type_phrase-returns-in_default
type_phrase-returns-in_default t c = let p = c.peek.ensures in let h = c.in_default in record { kept = same_state; refuses = λ γ free s. no_type c.args.self.now.within (λ x. h.not-Int (p ∙ x)) (λ x. h.not-Bool (p ∙ x)) (λ x. h.not-Open (p ∙ x)) (λ x. h.not-SquareOpen (p ∙ x)) c.refusal.ensures s }
