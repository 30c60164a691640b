use Rattle.std.proofs.Common.{◌≡◌, Decides, rules}
use Rattle.types.proofs.Held.{node_decides}
use Rattle.types.proofs.Same.{agrees}
use Rattle.types.proofs.table.TypeTable.is.Goals as goal

pub returns-in_default : goal.returns-in_default
returns-in_default c =
    let same : Decides c.eq.result (c.node.result ≡ c.known_node.result) = (λ h. search rules, λ h. search rules) in
    let decides = node_decides c.args.self.now c.args.code _ _ c.args.node _ c.node.ensures c.known_node.ensures.within c.known_node.ensures.is same in
    record { decides = decides; agrees = agrees _ _ _ decides }
