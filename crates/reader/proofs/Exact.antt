-- A text has one table at most, and none if it is refused.
use Rattle.std.proofs.Common.{◌≡◌, ℕ, List, sym, ap, ◌∙◌, subst}
use Rattle.tokens.specs.declared.kind.Token.{Token}
use Rattle.tokens.specs.Cutting.{Cuts}
use Rattle.refusal.specs.declared.Refusal.{Refusal}
use Rattle.grammar.specs.declared.occurrence.Occurrence.{Occurrence}
use Rattle.grammar.specs.Tree.{occs}
use Rattle.grammar.specs.Grammar.{Program}
use Rattle.grammar.specs.Law.{Reads, Refuses}
use Rattle.grammar.proofs.Wanting.{refused_none}
use Rattle.grammar.proofs.Alone.{one_tree}
use Rattle.reader.specs.Reading.{Accepts}

one_table : {ts : List Token} {os os' : List Occurrence} → Reads ts os → Reads ts os' → os' ≡ os
one_table r s = s.table ∙ ap occs (one_tree s.program r.program) ∙ sym r.table

pub same-table : {text : List ℕ} {ts : List Token} {os os' : List Occurrence} → ((us : List Token) → Cuts text us → us ≡ ts) → Reads ts os → Accepts text os' → os' ≡ os
same-table {os' = os'} only r h = one_table r (subst (λ us. Reads us os') (only h.tokens h.cuts) h.reads)

pub no_table : {text : List ℕ} {ts : List Token} {os : List Occurrence} {f : Refusal} → ((us : List Token) → Cuts text us → us ≡ ts) → Refuses ts f → Accepts text os → ⊥
no_table only r h = refused_none r (subst Program (only h.tokens h.cuts) h.reads.program)
