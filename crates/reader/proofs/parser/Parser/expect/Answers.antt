use Rattle.std.proofs.Common.{◌≡◌, vec_capacity, ap, subst}
use Rattle.grammar.specs.Law.{refusal_at}
use Rattle.grammar.proofs.Wanting.{lacks}
use Rattle.reader.specs.Faults.{of_parse}
use Rattle.reader.proofs.parser.Parser.expect.Goals as goal

pub returns-else-accept : goal.returns-else-accept
returns-else-accept c =
    let same = c.if-accept.ensures.0 in
    record {
      kept = record { tokens = ap (λ x. x.tokens) same; lender = ap (λ x. x.table.ghost_name) same; capacity = ap (λ x. vec_capacity x.table.now) same };
      refuses = λ γ free s. lacks c.args.self.now.within c.if-accept.ensures.1 (subst (λ x. of_parse c.refusal.result ≡ refusal_at x.tokens.now x.at) same c.refusal.ensures) s;
    }
