use Rattle.std.proofs.Common.{◌++◌, ◌∷◌, [], take, ap, ◌∙◌}
use Rattle.values.specs.Texts.{int_text}
use Rattle.values.proofs.Printing.{element_bytes}
use Rattle.values.proofs.print.write_element.Goals as goal

pub returns-clause-text : goal.returns-clause-text
returns-clause-text c =
    element_bytes c.args.out.now (int_text c.args.x) _ c.args.at _ _ c.write_int.ensures c.int_length.ensures.length c.requires
    ∙ ap (λ b. take c.args.at c.args.out.now ++ (int_text c.args.x ++ (b ∷ []))) c.byte.ensures
