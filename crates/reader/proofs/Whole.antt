-- The whole program.
use Rattle.std.proofs.Common.{◌≡◌, ℕ, ◌+◌, ◌<◌, List, [], ◌∷◌, ◌++◌, length, vec_items, sym, ap, ◌∙◌, subst, refl, inl, inr, arith}
use Rattle.std.proofs.lemmas.Bool.{cases_lt}
use Rattle.tokens.specs.declared.kind.Kind.{Kind}
use Rattle.tokens.specs.declared.kind.Token.{Token}
use Rattle.tokens.specs.Kinds.{kind_at, is_stop, unstopped}
use Rattle.refusal.specs.declared.Refusal.{Refusal}
use Rattle.grammar.specs.Tree.{occs}
use Rattle.grammar.specs.Grammar.{programs, Derives}
use Rattle.grammar.specs.Law.{refusal_at, Refuses, Reads, Wanted, one, some, Stands, Free}
use Rattle.grammar.proofs.Wanting.{lacks}
use Rattle.grammar.proofs.Follow.{clash, free_token}
use Rattle.reader.specs.declared.parser.Parser.{Parser}
use Rattle.reader.specs.Steps.{Read, Stops}
use Rattle.reader.proofs.Begun.{at_on}

-- a program with nothing after it but the end
unfoldable last : List Wanted
last = one Kind.End ∷ []

ended : Free (some programs) last
unfolding last
ended = free_token [] programs Kind.End refl

whole : (ts : List Token) → Stands ts 0 (some programs ∷ last)
unfolding last
whole ts = record {
  makes = λ xs a h. record { upto = h.0; tree = h.1; derives = h.2; ends = h.3.0; all = h.3.1 };
  only = λ xs a h. (h.upto, h.tree, h.derives, (h.ends, h.all));
}

last_one : (ts : List Token) (i : ℕ) → unstopped ts → i < length ts → kind_at ts i ≡ Kind.End → length ts ≡ i + 1
last_one ts i u lt e = elim (cases_lt (i + 1) (length ts)) [ inl h ↦ absurd (clash (sym (ap is_stop e) ∙ u i h)) | inr h ↦ omega arith ]

inside : {p q : Parser} → Read programs p q → q.at < length p.tokens.now
inside {q = q} h = omega (arith, q.within, ap (λ x. length x.now) h.way.kept.tokens)

begun : (p : Parser) → p.at ≡ 0 → Stands p.tokens.now p.at (some programs ∷ last)
begun p e = subst (λ i. Stands p.tokens.now i (some programs ∷ last)) (sym e) (whole p.tokens.now)

pub accepted : {p q : Parser} → Read programs p q → p.at ≡ 0 → vec_items p.table.now ≡ [] → unstopped p.tokens.now → kind_at q.tokens.now q.at ≡ Kind.End → Reads p.tokens.now (vec_items q.table.now)
accepted {p} {q} h e none u k =
    let k' : kind_at p.tokens.now q.at ≡ Kind.End = at_on h.way.kept k in record {
      program = record {
        upto = q.at;
        tree = h.tree;
        derives = subst (λ i. Derives p.tokens.now programs i q.at h.tree) e h.derives;
        ends = k';
        all = last_one p.tokens.now q.at u (inside h) k';
      };
      table = h.way.grown ∙ ap (λ os. os ++ occs h.tree) none;
    }

-- more than a program
pub rejected : {p q : Parser} {f : Refusal} → Read programs p q → p.at ≡ 0 → (kind_at q.tokens.now q.at ≡ Kind.End → ⊥) → f ≡ refusal_at q.tokens.now q.at → Refuses p.tokens.now f
unfolding last
rejected {p} {q} {f} h e never says = lacks (inside h) (λ k. never (subst (λ x. kind_at x.now q.at ≡ Kind.End) (sym h.way.kept.tokens) k)) (subst (λ x. f ≡ refusal_at x.now q.at) h.way.kept.tokens says) (h.way.stands last ended (begun p e))

-- or none
pub broken : {p q : Parser} {f : Refusal} → Stops (some programs) p q f → p.at ≡ 0 → Refuses p.tokens.now f
broken {p} h e = h.refuses last ended (begun p e)

-- fewer occurrences than tokens
pub few : {p q : Parser} → Read programs p q → p.at ≡ 0 → vec_items p.table.now ≡ [] → length (vec_items q.table.now) < length p.tokens.now
few h e none = omega (arith, h.way.few, inside h, ap length (h.way.grown ∙ ap (λ os. os ++ occs h.tree) none))
