use Rattle.std.proofs.Common.{◌≡◌, string_bytes, ap, ◌∙◌}
use Rattle.std.proofs.lemmas.Result.{IfOk-weaker}
use Rattle.types.specs.TypeRefs.{meant}
use Rattle.program.specs.Spelling.{spelled}
use Rattle.program.proofs.checked.CheckedProgram.result_text.Goals as goal

pub returns : goal.returns
returns c = IfOk-weaker _ (λ s. string_bytes s ≡ spelled (meant c.result.result)) _ (λ s e p h. e ∙ ap spelled (c.result.ensures.is p h)) c.text_of.ensures
