use Rattle.std.proofs.Common.{[], ◌∷◌, ap, ◌∙◌}
use Rattle.std.proofs.lemmas.Bool.Decides.{Decides-eqb}
use Rattle.std.proofs.lemmas.Slice.Eq.{starts_is}
use Rattle.values.specs.Signs.{byte_of}
use Rattle.values.proofs.Rowing.{none_read, element_stops, comma_opens, bracket_closes, hands_on}
use Rattle.values.proofs.list.read_list.Goals as goal

pub returns-then-starts_with : goal.returns-then-starts_with
returns-then-starts_with g c =
    none_read _ _ _ c.requires _ _ ((starts_is Decides-eqb c.args.text.now (91 ∷ 93 ∷ []) _ c.starts_with-2.ensures.value).0 c.if-starts_with.true)

pub returns-in_err-behind : goal.returns-in_err-behind
returns-in_err-behind g c = hands_on _ _ _ _ (element_stops _ _ _ c.requires _ _ _ c.loop-behind.invariant) _ c.from_residual.ensures.1 c.in_err-behind.ensures.kept

pub loop-behind-preserved : goal.loop-behind-preserved
loop-behind-preserved g c =
    comma_opens _ _ _ c.requires _ _ _ c.loop-behind.invariant _ _ c.in_ok-behind.ensures.kept (c.in_ok-behind.ensures.sign ∙ ap byte_of c.in-Comma.is)

pub returns-in-Bracket : goal.returns-in-Bracket
returns-in-Bracket g c =
    bracket_closes _ _ _ c.requires _ _ _ c.loop-behind.invariant _ _ c.in_ok-behind.ensures.kept (c.in_ok-behind.ensures.sign ∙ ap byte_of c.in-Bracket.is)
