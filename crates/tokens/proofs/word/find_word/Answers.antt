use Rattle.std.proofs.Common.{◌≡◌, Some, None, MatchOption, rules}
use Rattle.std.proofs.lemmas.Iterator.{first_from_find, YieldsList-from_slice}
use Rattle.std.proofs.lemmas.Slice.Eq.{bytes_eq-Decides}
use Rattle.tokens.specs.declared.kind.Kind.TheVariants.{End}
use Rattle.tokens.proofs.Tables.{found}
use Rattle.tokens.proofs.word.find_word.Goals as goal

pub returns : goal.returns
returns c =
    let w = c.args.text.now in
    let h = first_from_find _ _ c.find.result (λ p. w ≡ p.0.now) (λ p. w ≡ p.0.now → ⊥) c.find.ensures.ran (YieldsList-from_slice c.iter.result.rest.now (search rules)) (λ x q k. (search (rules, bytes_eq-Decides))) (λ x q k. (search (rules, bytes_eq-Decides))) in
    let g : MatchOption c.find.result (c.map.result ≡ None) (λ x. c.map.result ≡ Some x.now.1) = search rules in
    let k = found (λ p. p.0.now) (λ p. p.1) c.iter.result.rest.now w (c.args.text, End) c.find.result c.map.result (search rules) h g in
    record { word = k.0; kind = k.1 }
