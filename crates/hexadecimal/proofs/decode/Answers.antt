use Rattle.std.proofs.Common.{rules}
use Rattle.std.proofs.lemmas.Result.{IfOk-equal}
use Rattle.hexadecimal.proofs.Spelled.{map-spelled}
use Rattle.hexadecimal.proofs.decode.Goals as goal

pub returns-clause-spelled : goal.returns-clause-spelled
returns-clause-spelled c bytes small spelled =
    let e = map-spelled _ bytes small spelled in
    search (rules, IfOk-equal)
