-- A text comes to one thing only.
use Rattle.std.proofs.Common.{◌≡◌, ℕ, ◌+◌, ◌<◌, ◌≤◌, ◌⊎◌, List, ◌++◌, take, drop, sym, refl, ap, ◌∙◌, subst, inl, inr, append_assoc, arith}
use Rattle.std.proofs.lemmas.List.{take-append-drop, take-take}
use Rattle.std.proofs.lemmas.Bool.{cases_lt}
use Rattle.tokens.specs.declared.kind.Token.{Token}
use Rattle.refusal.specs.declared.Refusal.{Refusal}
use Rattle.tokens.proofs.Unique.{cuts_same}
use Rattle.grammar.specs.Tree.{Tree}
use Rattle.grammar.specs.Grammar.{Program}
use Rattle.grammar.specs.Law.{Begins, Refuses, refusal_at}
use Rattle.grammar.proofs.Wanting.{refused_none}
use Rattle.grammar.proofs.Alone.{one_tree}
use Rattle.lang.specs.Outcome.{Out, ok, refused}
use Rattle.lang.specs.Check.{Checked, check}
use Rattle.reader.specs.declared.fault.ReadFault.{ReadFault}
use Rattle.reader.specs.declared.fault.ReadFault.TheVariants.{TooLong, Parse}
use Rattle.reader.specs.Faults.{of_parse, of_read}
use Rattle.reader.specs.Reading.{Rejects}
use Rattle.program.specs.Loading.{Spells, OneLaw}

-- fewer tokens of what begins a program begin one
begins_fewer : (ts : List Token) (m n : ℕ) → m ≤ n → Begins (take n ts) → Begins (take m ts)
begins_fewer ts m n h b =
    let e : take m (take n ts) ≡ take m ts = take-take m n ts h in
    let split : take n ts ≡ take m ts ++ drop m (take n ts) = sym (take-append-drop m (take n ts)) ∙ ap (λ l. l ++ drop m (take n ts)) e in
    (drop m (take n ts) ++ b.0, subst Program (ap (λ l. l ++ b.0) split ∙ append_assoc (take m ts) (drop m (take n ts)) b.0) b.1)

refuses_same : (ts : List Token) (f g : Refusal) → Refuses ts f → Refuses ts g → f ≡ g
refuses_same ts f g a b = by (cases_lt a.upto b.upto) (cases_lt b.upto a.upto)
  where
    by : (a.upto < b.upto) ⊎ (b.upto ≤ a.upto) → (b.upto < a.upto) ⊎ (a.upto ≤ b.upto) → f ≡ g
    by (inl h) k = absurd (a.with_it (begins_fewer ts (a.upto + 1) b.upto (omega arith) b.before))
    by (inr h) (inl k) = absurd (b.with_it (begins_fewer ts (b.upto + 1) a.upto (omega arith) a.before))
    by (inr h) (inr k) = let e : a.upto ≡ b.upto = omega arith in a.is ∙ ap (refusal_at ts) e ∙ sym b.is

spells_same : {text : List ℕ} {t u : Tree} → Spells text t → Spells text u → t ≡ u
spells_same a b =
    let e : b.tokens ≡ a.tokens = cuts_same _ _ _ b.cuts a.cuts in
    a.is ∙ tree_at e b.program a.program ∙ sym b.is
  where
    tree_at : {ts us : List Token} → us ≡ ts → (q : Program us) (p : Program ts) → p.tree ≡ q.tree
    tree_at {ts} e q p = subst (λ us. (q : Program us) → p.tree ≡ q.tree) (sym e) (λ q. one_tree p q) q

rejects_none : {text : List ℕ} {t : Tree} (f : ReadFault) → Rejects text f → Spells text t → ⊥
rejects_none TooLong h s = omega (arith, s.short)
rejects_none (Parse f) h s =
    let e : h.1.0 ≡ s.tokens = cuts_same _ _ _ h.1.1 s.cuts in
    refused_none (subst (λ ts. Refuses ts (of_parse f)) e h.1.2) s.program

rejects_same : (text : List ℕ) (f g : ReadFault) → Rejects text f → Rejects text g → of_read f ≡ of_read g
rejects_same text TooLong TooLong h k = refl
rejects_same text TooLong (Parse g) h k = absurd (omega (arith, h, k.0))
rejects_same text (Parse f) TooLong h k = absurd (omega (arith, k, h.0))
rejects_same text (Parse f) (Parse g) h k =
    let e : h.1.0 ≡ k.1.0 = cuts_same _ _ _ h.1.1 k.1.1 in
    refuses_same k.1.0 (of_parse f) (of_parse g) (subst (λ ts. Refuses ts (of_parse f)) e h.1.2) k.1.2

checks_same : {text : List ℕ} {t u : Tree} {a b : Out Checked} → Spells text t → Spells text u → check t ≡ a → check u ≡ b → a ≡ b
checks_same s r p q = sym p ∙ ap check (spells_same s r) ∙ q

pub one : OneLaw
one text (ok a) (ok b) h k = checks_same h.1 k.1 h.2 k.2
one text (ok a) (refused r) h (inl k) = absurd (rejects_none k.0 k.1 h.1)
one text (ok a) (refused r) h (inr k) = checks_same h.1 k.1 h.2 k.2
one text (refused r) (ok b) (inl h) k = absurd (rejects_none h.0 h.1 k.1)
one text (refused r) (ok b) (inr h) k = checks_same h.1 k.1 h.2 k.2
one text (refused r) (refused q) (inl h) (inl k) = ap refused (h.2 ∙ rejects_same text h.0 k.0 h.1 k.1 ∙ sym k.2)
one text (refused r) (refused q) (inl h) (inr k) = absurd (rejects_none h.0 h.1 k.1)
one text (refused r) (refused q) (inr h) (inl k) = absurd (rejects_none k.0 k.1 h.1)
one text (refused r) (refused q) (inr h) (inr k) = checks_same h.1 k.1 h.2 k.2
