use Rattle.std.proofs.Common.{sym, ◌∙◌, arith}
use Rattle.tokens.proofs.Names.{copied, padded-apart}
use Rattle.tokens.proofs.word.find_name.Goals as goal

pub returns : goal.returns
returns c =
    let is = copied _ c.args.text.now c.copy_from_slice.ensures.after in
    record { bytes = (omega arith, is); only = λ other all e. padded-apart other _ all c.requires (sym e ∙ is) }
