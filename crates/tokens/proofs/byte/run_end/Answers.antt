use Rattle.std.proofs.Common.{◌≡◌, true, false, ◌∙◌, rules, tests}
use Rattle.std.proofs.lemmas.Iterator.{IsFirst-from_position, YieldsList-from_slice}
use Rattle.std.proofs.lemmas.List.{take_rest}
use Rattle.tokens.specs.Bytes.{in_class}
use Rattle.tokens.proofs.Runs.{ended}
use Rattle.tokens.proofs.byte.run_end.Goals as goal

pub returns : goal.returns
returns c =
    let p = c.args.class in
    let first = IsFirst-from_position _ _ c.position.result (λ b. in_class p b ≡ false) (λ b. in_class p b ≡ true) c.position.ensures.ran (YieldsList-from_slice _ (c.iter.ensures.rest ∙ take_rest c.args.text.now c.args.from)) (λ x q k. search (rules, tests)) (λ x q k. search (rules, tests)) in
    ended _ _ _ _ _ c.requires first (search rules)
