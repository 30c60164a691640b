-- Chains, indexes and elements: what a loop reads.
use Rattle.std.proofs.Common.{◌≡◌, ℕ, ◌+◌, List, [], ◌∷◌, ◌++◌, sym, refl, ap, ◌∙◌, subst, append_assoc, arith}
use Rattle.tokens.specs.declared.kind.Kind.{Kind}
use Rattle.grammar.specs.declared.occurrence.Infix.{Infix}
use Rattle.grammar.specs.declared.occurrence.What.{What}
use Rattle.grammar.specs.declared.occurrence.Occurrence.{Occurrence}
use Rattle.grammar.specs.Tree.{Tree, operate, index, list, first, more, count, occ, occs}
use Rattle.grammar.specs.Grammar.{sign, Chain, Joins, Sort, expressions, chains, posts, atoms, elements, linked, Derives, by_link, by_linked, by_index, by_atom, by_list, by_first, by_more}
use Rattle.grammar.specs.Law.{some, rest, Tail, links, indexes, items}
use Rattle.grammar.proofs.Follow.{free_links, free_atoms, free_items}
use Rattle.reader.specs.declared.parser.Parser.{Parser}
use Rattle.reader.specs.Steps.{At, Here, Moved, Took, Way, Read, Loops, Counts}
use Rattle.reader.proofs.Ways.{start, kind_on, phrase_on, mark_on, read_on, read_then, loop_on, count_on, push_on, joined, fewer, reads}
use Rattle.reader.proofs.Begun.{Without, chain_way, post_way, list_way, link, no_link, bracket, no_bracket, another, no_other}
use Rattle.reader.proofs.Phrases.{from_as, upto_as, placed, marked, still}

loops_more : {s : Sort} {r : Tail} {p q q' : Parser} → (xs : List Occurrence) → Loops s r p q → Way (some s) (rest r ∷ []) (rest r ∷ []) 0 xs q q' → ((i : ℕ) (a : Tree) → Derives q.tokens.now s i q.at a → (t : Tree) × Derives q.tokens.now s i q'.at t × (occs t ≡ occs a ++ xs)) → Loops s r p q'
loops_more {s} {q = q} {q' = q'} xs l w step = record {
  added = l.added ++ xs;
  way = joined l.way (λ γ free. free) w;
  reads = λ i a d.
      let x = l.reads i a d in
      let y = step i x.0 (subst (λ ts. Derives ts.now s i q.at x.0) (sym l.way.kept.tokens) x.1) in
      (y.0, subst (λ ts. Derives ts.now s i q'.at y.0) l.way.kept.tokens y.1, y.2 ∙ ap (λ os. os ++ xs) x.2 ∙ append_assoc (occs a) l.added xs);
}

pub link_again : {p q q₁ q₂ q₃ : Parser} {m : ℕ} {o : Infix} → (c : Chain) → Loops (chains c) (links c) p q → Joins c o → At q ≡ sign o → Took (At q) [] q q₁ → m ≡ Here q → Read (linked c) q₁ q₂ → Moved 0 (occ (What.Operate o) m) q₂ q₃ → Loops (chains c) (links c) p q₃
link_again {q = q} {o = o} c l j e t at b u =
    let w₁ = link start j e t in
    loops_more _ l
    (push_on (read_on w₁ (free_links c) b) (placed at u) (omega arith))
    (λ i a d. (operate (Here q) o a b.tree, upto_as (still u.place) (by_link d j e (from_as t.moved.place (phrase_on w₁.kept b))), append_assoc (occs a) (occs b.tree) _))

pub index_again : {p q q₁ q₂ q₃ : Parser} {m : ℕ} → Loops posts indexes p q → At q ≡ Kind.SquareOpen → Took (At q) [] q q₁ → m ≡ Here q → Read expressions q₁ q₂ → Took Kind.SquareClose (occ What.Index m) q₂ q₃ → Loops posts indexes p q₃
index_again {q = q} l e t at b t₂ =
    let w₁ = bracket start e t in
    let w₂ = read_then w₁ refl b in
    loops_more _ l
    (fewer (mark_on w₂ (marked at t₂)))
    (λ i a d. (index (Here q) a b.tree, upto_as (sym t₂.moved.place) (by_index d e (from_as t.moved.place (phrase_on w₁.kept b)) (kind_on w₂.kept t₂)), append_assoc (occs a) (occs b.tree) _))

pub chain_read : {p q₀ q : Parser} → (c : Chain) → Read (linked c) p q₀ → Loops (chains c) (links c) q₀ q → ((o : Infix) → Joins c o → At q ≡ sign o → ⊥) → Read (chains c) p q
chain_read {p} {q₀} {q} c a l n =
    let x = l.reads p.at a.tree (subst (λ ts. Derives ts.now (chains c) p.at q₀.at a.tree) (sym a.way.kept.tokens) (by_linked a.derives)) in
    reads x.0
    (subst (λ ts. Derives ts.now (chains c) p.at q.at x.0) a.way.kept.tokens x.1)
    (no_link (loop_on (read_on (chain_way c) (free_links c) a) (λ γ free. free) l) n)
    (sym x.2)

pub post_read : {p q₀ q : Parser} → Read atoms p q₀ → Loops posts indexes q₀ q → (At q ≡ Kind.SquareOpen → ⊥) → Read posts p q
post_read {p} {q₀} {q} a l n =
    let x = l.reads p.at a.tree (subst (λ ts. Derives ts.now posts p.at q₀.at a.tree) (sym a.way.kept.tokens) (by_atom a.derives)) in
    reads x.0
    (subst (λ ts. Derives ts.now posts p.at q.at x.0) a.way.kept.tokens x.1)
    (no_bracket (loop_on (read_on post_way (λ γ free. free_atoms (rest indexes ∷ γ)) a) (λ γ free. free) l) n)
    (sym x.2)

pub counts_more : {m n : ℕ} {p q q₁ q₂ : Parser} → Counts m n p q → Took Kind.Comma [] q q₁ → Read expressions q₁ q₂ → Counts m (n + 1) p q₂
counts_more {m} {n} {p} {q} {q₁} {q₂} l t b =
    let w₁ = another {f = rest items} start t in
    let w₂ = read_on w₁ (λ γ free. free_items γ) b in
    let ts = l.way.kept.tokens in record {
      added = l.added ++ occs b.tree;
      way = joined l.way (λ γ free. free) (fewer w₂);
      reads = λ i a d.
          let x = l.reads i a d in
          let y : Derives p.tokens.now elements i q₂.at (more x.0 b.tree) = by_more x.1 (kind_on l.way.kept t) (subst (λ ts. Derives ts.now expressions (q.at + 1) q₂.at b.tree) ts (from_as t.moved.place (phrase_on w₁.kept b))) in
          (more x.0 b.tree, y, ap (λ os. os ++ occs b.tree) x.2 ∙ append_assoc (occs a) l.added (occs b.tree), omega (arith, x.3));
      few = omega (arith, l.few, w₂.few);
    }

pub list_read : {p q₁ q₂ q q' q₃ : Parser} {m n : ℕ} → At p ≡ Kind.SquareOpen → Took (At p) [] p q₁ → m ≡ Here p → Read expressions q₁ q₂ → Counts 1 n q₂ q → Without Kind.Comma q q' → Took Kind.SquareClose (occ (What.List n) m) q' q₃ → Read atoms p q₃
list_read {p} {q₁} {q₂} {q} {q' = q'} {q₃ = q₃} {m = m} {n = n} e t₁ at a l without t₂ =
    let w₁ = list_way e t₁ in
    let w₂ = read_on w₁ (λ γ free. free_items γ) a in
    let w₃ = no_other (count_on w₂ l) without in
    let d = from_as t₁.moved.place (phrase_on w₁.kept a) in
    let x = l.reads (p.at + 1) (first a.tree) (subst (λ ts. Derives ts.now elements (p.at + 1) q₂.at (first a.tree)) (sym w₂.kept.tokens) (by_first d)) in
    let size : n ≡ count x.0 = omega (arith, x.3) in
    let t₂' = subst (λ i. Took Kind.SquareClose (occ (What.List i) m) q' q₃) size t₂ in
    reads (list (Here p) x.0)
    (upto_as (sym t₂.moved.place) (by_list e (upto_as (ap (λ y. y.at) (sym without.0)) (subst (λ ts. Derives ts.now elements (p.at + 1) q.at x.0) w₂.kept.tokens x.1)) (kind_on w₃.kept t₂)))
    (mark_on w₃ (marked at t₂'))
    (ap (λ os. os ++ occ (What.List (count x.0)) (Here p)) (sym x.2))
