-- The phrases that the reader passes, from the steps that it made.
use Rattle.std.proofs.Common.{◌≡◌, ℕ, ◌+◌, List, [], ◌∷◌, ◌++◌, length, vec_len, sym, refl, ap, ◌∙◌, subst, append_assoc, append-nil, arith}
use Rattle.tokens.specs.declared.kind.Kind.{Kind}
use Rattle.tokens.specs.declared.kind.Name.{Name}
use Rattle.tokens.specs.declared.kind.Token.{Token}
use Rattle.tokens.specs.Kinds.{kind_at, place_at}
use Rattle.refusal.specs.declared.Refusal.{Refusal}
use Rattle.grammar.specs.declared.occurrence.Infix.{Infix}
use Rattle.grammar.specs.declared.occurrence.Unary.{Unary}
use Rattle.grammar.specs.declared.occurrence.Operation.{Operation}
use Rattle.grammar.specs.declared.occurrence.What.{What}
use Rattle.grammar.specs.declared.occurrence.Occurrence.{Occurrence}
use Rattle.grammar.specs.Tree.{Fold, Tree, bind, choice, each, sieve, operate, apply, fold, group, pair, part, empty, both, many, program, occ, folding, occs}
use Rattle.grammar.specs.Grammar.{sign, word, joint, folder, Compares, sums, Sort, programs, types, expressions, tests, chains, atoms, operands, Derives, by_program, by_both, by_many, by_let, by_if, by_test, by_comparison, by_total, by_group, by_pair, by_empty, by_each, by_sieve, by_word, by_part, by_fold, by_operand}
use Rattle.grammar.specs.Law.{Refuses, Wanted, one, some, rest, filter, Stands}
use Rattle.grammar.proofs.Follow.{free_total, free_compared, free_closing, free_filter}
use Rattle.grammar.proofs.Opening.{open_test}
use Rattle.reader.specs.declared.parser.Parser.{Parser}
use Rattle.reader.specs.Steps.{At, Here, Moved, Took, Turned, Way, Read, Stops, Filtered, none, given}
use Rattle.reader.proofs.Ways.{start, turn_to, kind_on, phrase_on, take_on, mark_on, name_on, joint_on, read_on, type_on, operand_on, read_then, push_on, joined, turned_on, kept_on, stopped_at, reads}
use Rattle.reader.proofs.Begun.{Without, at_on, here_on, took_as, program_way, both_way, many_way, let_way, if_way, test_way, group_way, empty_way, each_way, word_way, part_way, fold_way, operand_way, paired, closed, sieved, unsieved, compare, no_compare}

-- a token or a phrase at a place that is equal
pub kind_as : (ts : List Token) {i j : ℕ} {k : Kind} → i ≡ j → kind_at ts i ≡ k → kind_at ts j ≡ k
kind_as ts {k = k} e h = subst (λ x. kind_at ts x ≡ k) e h

pub from_as : {ts : List Token} {s : Sort} {i i' j : ℕ} {t : Tree} → i ≡ i' → Derives ts s i j t → Derives ts s i' j t
from_as {ts} {s} {j = j} {t = t} e h = subst (λ x. Derives ts s x j t) e h

pub upto_as : {ts : List Token} {s : Sort} {i j j' : ℕ} {t : Tree} → j ≡ j' → Derives ts s i j t → Derives ts s i j' t
upto_as {ts} {s} {i} {t = t} e h = subst (λ x. Derives ts s i x t) e h

next : {i j : ℕ} → i ≡ j → i + 1 ≡ j + 1
next e = ap (λ n. n + 1) e

-- no token was passed
pub still : {i j : ℕ} → i ≡ j + 0 → j ≡ i
still e = omega arith

-- what was added, at a place that is equal
pub placed : {p q : Parser} {w : What} {m n i : ℕ} → m ≡ n → Moved i (occ w m) p q → Moved i (occ w n) p q
placed {p} {q} {w} {i = i} e u = subst (λ x. Moved i (occ w x) p q) e u

pub marked : {p q : Parser} {k : Kind} {w : What} {m n : ℕ} → m ≡ n → Took k (occ w m) p q → Took k (occ w n) p q
marked {p} {q} {k} {w} e t = subst (λ x. Took k (occ w x) p q) e t

-- a phrase of one token
pub leaf_read : {p q : Parser} {w : What} {s : Sort} {k : Kind} → (t : Tree) → At p ≡ k → Took (At p) (occ w (Here p)) p q → Derives p.tokens.now s p.at (p.at + 1) t → ((γ : List Wanted) → Stands p.tokens.now p.at (some s ∷ γ) → Stands p.tokens.now p.at (one k ∷ γ)) → occ w (Here p) ≡ occs t → Read s p q
leaf_read t e l d opens same = reads t (upto_as (sym l.moved.place) d) (mark_on (turn_to start (λ γ free. opens γ)) (took_as e l)) same

-- types

pub both_read : {p q₁ q₂ q₃ q₄ q : Parser} {m : ℕ} → At p ≡ Kind.Open → Took (At p) [] p q₁ → m ≡ Here p → Read types q₁ q₂ → Took Kind.Comma [] q₂ q₃ → Read types q₃ q₄ → Took Kind.Close (occ What.TypePair m) q₄ q → Read types p q
both_read {p} e t₁ at a t₂ b t₃ =
    let w₁ = both_way e t₁ in
    let w₂ = type_on w₁ a in
    let w₃ = take_on w₂ t₂ in
    let w₄ = type_on w₃ b in
    reads (both (Here p) a.tree b.tree)
    (upto_as (sym t₃.moved.place) (by_both e (from_as t₁.moved.place (phrase_on w₁.kept a)) (kind_on w₂.kept t₂) (from_as t₂.moved.place (phrase_on w₃.kept b)) (kind_on w₄.kept t₃)))
    (mark_on w₄ (marked at t₃))
    refl

pub many_read : {p q₁ q₂ q : Parser} {m : ℕ} → At p ≡ Kind.SquareOpen → Took (At p) [] p q₁ → m ≡ Here p → Read types q₁ q₂ → Took Kind.SquareClose (occ What.TypeList m) q₂ q → Read types p q
many_read {p} e t₁ at a t₂ =
    let w₁ = many_way e t₁ in
    let w₂ = type_on w₁ a in
    reads (many (Here p) a.tree)
    (upto_as (sym t₂.moved.place) (by_many e (from_as t₁.moved.place (phrase_on w₁.kept a)) (kind_on w₂.kept t₂)))
    (mark_on w₂ (marked at t₂))
    refl

pub empty_read : {p q₁ q₂ q₃ q : Parser} {m : ℕ} → At p ≡ Kind.Empty → Took (At p) [] p q₁ → m ≡ Here p → Took Kind.Open [] q₁ q₂ → Read types q₂ q₃ → Took Kind.Close (occ What.Empty m) q₃ q → Read atoms p q
empty_read {p} e t₁ at t₂ a t₃ =
    let w₁ = empty_way e t₁ in
    let w₂ = take_on w₁ t₂ in
    let w₃ = type_on w₂ a in
    reads (empty (Here p) a.tree)
    (upto_as (sym t₃.moved.place) (by_empty e (kind_as p.tokens.now t₁.moved.place (kind_on w₁.kept t₂)) (from_as (t₂.moved.place ∙ next t₁.moved.place) (phrase_on w₂.kept a)) (kind_on w₃.kept t₃)))
    (mark_on w₃ (marked at t₃))
    refl

-- expressions

pub let_read : {p q₁ q₂ q₃ q₄ q₅ q₆ q : Parser} {m : ℕ} {x : Name} → At p ≡ Kind.Let → Took (At p) [] p q₁ → m ≡ Here p → Took (Kind.Name x) [] q₁ q₂ → Took Kind.Equal [] q₂ q₃ → Read expressions q₃ q₄ → Took Kind.In (occ (What.Bind x) m) q₄ q₅ → Read expressions q₅ q₆ → Moved 0 (occ What.LetEnd m) q₆ q → Read expressions p q
let_read {p} {x = x} e t₁ at t₂ t₃ a t₄ b u =
    let w₁ = let_way e t₁ in
    let w₂ = name_on w₁ t₂ in
    let w₃ = take_on w₂ t₃ in
    let w₄ = read_then w₃ refl a in
    let w₅ = mark_on w₄ (marked at t₄) in
    let w₆ = read_on w₅ (λ γ free. free) b in
    let e₂ = t₂.moved.place ∙ next t₁.moved.place in
    reads (bind (Here p) x a.tree b.tree)
    (upto_as (still u.place) (by_let e
    (kind_as p.tokens.now t₁.moved.place (kind_on w₁.kept t₂))
    (kind_as p.tokens.now e₂ (kind_on w₂.kept t₃))
    (from_as (t₃.moved.place ∙ next e₂) (phrase_on w₃.kept a))
    (kind_on w₄.kept t₄)
    (from_as t₄.moved.place (phrase_on w₅.kept b))))
    (push_on w₆ (placed at u) (omega arith))
    refl

pub if_read : {p q₁ q₂ q₃ q₄ q₅ q₆ q : Parser} {m : ℕ} → At p ≡ Kind.If → Took (At p) [] p q₁ → m ≡ Here p → Read expressions q₁ q₂ → Took Kind.Then (occ What.IfFork m) q₂ q₃ → Read expressions q₃ q₄ → Took Kind.Else (occ What.IfElse m) q₄ q₅ → Read expressions q₅ q₆ → Moved 0 (occ What.IfJoin m) q₆ q → Read expressions p q
if_read {p} e t₁ at c t₂ a t₃ b u =
    let w₁ = if_way e t₁ in
    let w₂ = read_then w₁ refl c in
    let w₃ = mark_on w₂ (marked at t₂) in
    let w₄ = read_then w₃ refl a in
    let w₅ = mark_on w₄ (marked at t₃) in
    let w₆ = read_on w₅ (λ γ free. free) b in
    reads (choice (Here p) c.tree a.tree b.tree)
    (upto_as (still u.place) (by_if e
    (from_as t₁.moved.place (phrase_on w₁.kept c))
    (kind_on w₂.kept t₂)
    (from_as t₂.moved.place (phrase_on w₃.kept a))
    (kind_on w₄.kept t₃)
    (from_as t₃.moved.place (phrase_on w₅.kept b))))
    (push_on w₆ (placed at u) (omega arith))
    refl

pub test_read : {p q : Parser} → (At p ≡ Kind.Let → ⊥) → (At p ≡ Kind.If → ⊥) → Read tests p q → Read expressions p q
test_read n m a = record { tree = a.tree; derives = by_test a.derives; way = record { kept = a.way.kept; grown = a.way.grown; few = a.way.few; stands = λ γ free s. a.way.stands γ free (open_test n m s) } }

pub compare_read : {p q₁ q₂ q₃ q : Parser} {m : ℕ} {o : Infix} → Read (chains sums) p q₁ → Compares o → At q₁ ≡ sign o → Took (At q₁) [] q₁ q₂ → m ≡ Here q₁ → Read (chains sums) q₂ q₃ → Moved 0 (occ (What.Operate o) m) q₃ q → Read tests p q
compare_read {p} {q₁} {o = o} a c e t at b u =
    let w₁ = compare (read_on test_way free_compared a) c e t in
    reads (operate (place_at p.tokens.now q₁.at) o a.tree b.tree)
    (upto_as (still u.place) (by_comparison a.derives c (at_on a.way.kept e) (from_as t.moved.place (phrase_on w₁.kept b))))
    (push_on (read_on w₁ free_total b) (placed (here_on a.way.kept at) u) (omega arith))
    refl

pub alone_read : {p q : Parser} → Read (chains sums) p q → ((o : Infix) → Compares o → At q ≡ sign o → ⊥) → Read tests p q
alone_read a n = reads a.tree (by_total a.derives) (no_compare (read_on test_way free_compared a) n) refl

-- atoms

pub group_read : {p q₁ q₂ q₂' q : Parser} {m : ℕ} → At p ≡ Kind.Open → Took (At p) [] p q₁ → m ≡ Here p → Read expressions q₁ q₂ → Without Kind.Comma q₂ q₂' → Took Kind.Close (occ What.Group m) q₂' q → Read atoms p q
group_read {p} e t₁ at a n t₂ =
    let w₁ = group_way e t₁ in
    let w₂ = closed (read_on w₁ (λ γ free. free_closing γ) a) n in
    reads (group (Here p) a.tree)
    (upto_as (sym t₂.moved.place) (by_group e (upto_as (ap (λ x. x.at) (sym n.0)) (from_as t₁.moved.place (phrase_on w₁.kept a))) (kind_on w₂.kept t₂)))
    (mark_on w₂ (marked at t₂))
    refl

pub pair_read : {p q₁ q₂ q₃ q₄ q : Parser} {m : ℕ} → At p ≡ Kind.Open → Took (At p) [] p q₁ → m ≡ Here p → Read expressions q₁ q₂ → Took Kind.Comma [] q₂ q₃ → Read expressions q₃ q₄ → Took Kind.Close (occ What.Pair m) q₄ q → Read atoms p q
pair_read {p} e t₁ at a t₂ b t₃ =
    let w₁ = group_way e t₁ in
    let w₂ = read_on w₁ (λ γ free. free_closing γ) a in
    let w₃ = paired w₂ t₂ in
    let w₄ = read_then w₃ refl b in
    reads (pair (Here p) a.tree b.tree)
    (upto_as (sym t₃.moved.place) (by_pair e (from_as t₁.moved.place (phrase_on w₁.kept a)) (kind_on w₂.kept t₂) (from_as t₂.moved.place (phrase_on w₃.kept b)) (kind_on w₄.kept t₃)))
    (mark_on w₄ (marked at t₃))
    refl

pub part_read : {p q₁ q₂ q₃ q₄ q₅ q : Parser} {m : ℕ} → At p ≡ Kind.Part → Took (At p) [] p q₁ → m ≡ Here p → Took Kind.Open [] q₁ q₂ → Read expressions q₂ q₃ → Took Kind.Comma [] q₃ q₄ → Read expressions q₄ q₅ → Took Kind.Close (occ What.Part m) q₅ q → Read atoms p q
part_read {p} e t₁ at t₂ a t₃ b t₄ =
    let w₁ = part_way e t₁ in
    let w₂ = take_on w₁ t₂ in
    let w₃ = read_then w₂ refl a in
    let w₄ = take_on w₃ t₃ in
    let w₅ = read_then w₄ refl b in
    reads (part (Here p) a.tree b.tree)
    (upto_as (sym t₄.moved.place) (by_part e
    (kind_as p.tokens.now t₁.moved.place (kind_on w₁.kept t₂))
    (from_as (t₂.moved.place ∙ next t₁.moved.place) (phrase_on w₂.kept a))
    (kind_on w₃.kept t₃)
    (from_as t₃.moved.place (phrase_on w₄.kept b))
    (kind_on w₅.kept t₄)))
    (mark_on w₅ (marked at t₄))
    refl

pub operand_read : {p q₁ q₂ q : Parser} → Took Kind.Open [] p q₁ → Read expressions q₁ q₂ → Took Kind.Close [] q₂ q → Read operands p q
operand_read t₁ a t₂ =
    let w₁ = take_on operand_way t₁ in
    let w₂ = read_then w₁ refl a in
    reads a.tree (upto_as (sym t₂.moved.place) (by_operand t₁.was (from_as t₁.moved.place (phrase_on w₁.kept a)) (kind_on w₂.kept t₂))) (take_on w₂ t₂) refl

pub word_read : {p q₁ q₂ q : Parser} {m : ℕ} → (o : Unary) → At p ≡ word o → Took (At p) [] p q₁ → m ≡ Here p → Read operands q₁ q₂ → Moved 0 (occ (What.Apply o) m) q₂ q → Read atoms p q
word_read {p} o e t at a u =
    let w₁ = word_way o e t in
    reads (apply (Here p) o a.tree)
    (upto_as (still u.place) (by_word o e (from_as t.moved.place (phrase_on w₁.kept a))))
    (push_on (operand_on w₁ a) (placed at u) (omega arith))
    refl

pub fold_read : {p q₁ q₂ q₃ q : Parser} {m : ℕ} → (f : Fold) (o : Operation) → At p ≡ folder f → Took (At p) [] p q₁ → m ≡ Here p → Took (joint o) [] q₁ q₂ → Read operands q₂ q₃ → Moved 0 (occ (folding f o) m) q₃ q → Read atoms p q
fold_read {p} f o e t₁ at t₂ a u =
    let w₁ = fold_way f e t₁ in
    let w₂ = joint_on o w₁ t₂ in
    reads (fold (Here p) f o a.tree)
    (upto_as (still u.place) (by_fold f o e (kind_as p.tokens.now t₁.moved.place (kind_on w₁.kept t₂)) (from_as (t₂.moved.place ∙ next t₁.moved.place) (phrase_on w₂.kept a))))
    (push_on (operand_on w₂ a) (placed at u) (omega arith))
    refl

-- comprehensions

pub none_read : {m : ℕ} {p q : Parser} → Without Kind.Bar p q → Filtered m p q
none_read n = none (unsieved start n) (ap (λ x. x.at) n.0)

pub filter_read : {m : ℕ} {p q₁ q₂ q : Parser} → Took Kind.Bar [] p q₁ → Read expressions q₁ q₂ → Moved 0 (occ What.EachFilter m) q₂ q → Filtered m p q
filter_read t a u =
    let w₁ = sieved start t in
    given t.was (upto_as (still u.place) (from_as t.moved.place (phrase_on w₁.kept a))) (push_on (read_then w₁ refl a) u (omega arith))

regroup : {f : Wanted} {us ws : List Wanted} {n : ℕ} {xs ys : List Occurrence} {p q : Parser} → Way f us ws n xs p q → xs ≡ ys → Way f us ws n ys p q
regroup {f} {us} {ws} {n} {p = p} {q = q} w e = subst (λ l. Way f us ws n l p q) e w

carried₃ : (a b c : List Occurrence) → a ++ b ++ c ++ [] ≡ a ++ (b ++ c)
carried₃ a b c = simp (append-nil, append_assoc)

carried₅ : (a b c d e : List Occurrence) → a ++ b ++ c ++ (d ++ e) ≡ a ++ (b ++ c ++ d ++ e)
carried₅ a b c d e = simp append_assoc

pub each_read : {p q₁ q₂ q₃ q₄ q₅ q₆ q₇ q₈ q₉ q : Parser} {m k n : ℕ} {x : Name} → At p ≡ Kind.CurlyOpen → Took (At p) [] p q₁ → n ≡ Here p → (b : Read expressions q₁ q₂) → Took Kind.Colon [] q₂ q₃ → Took (Kind.Name x) [] q₃ q₄ → Took Kind.In [] q₄ q₅ → Read expressions q₅ q₆ → Moved 0 (occ (What.EachFork x) n) q₆ q₇ → Filtered n q₇ q₈ → Turned m k q₈ q₉ → m ≡ vec_len p.table.now → k ≡ length (occs b.tree) → Took Kind.CurlyClose (occ What.EachJoin n) q₉ q → Read atoms p q
each_read {p} {q₆ = q₆} {q₇ = q₇} {q₈ = q₈} {q₉ = q₉} {n = n} {x = x} e t₁ at b t₂ t₃ t₄ s u (none w same) v em ek t₅ =
    let w₁ = each_way e t₁ in
    let w₂ = read_then w₁ refl b in
    let w₃ = take_on w₂ t₂ in
    let w₄ = name_on w₃ t₃ in
    let w₅ = take_on w₄ t₄ in
    let w₇ = push_on (read_on w₅ (λ γ free. free_filter γ) s) (placed at u) (omega arith) in
    let w₈ = regroup (joined w₇ (λ γ free. tt) w) (carried₃ (occs b.tree) (occs s.tree) _) in
    let w₉ = turned_on (occs b.tree) _ w₈ v em ek in
    let e₃ = t₃.moved.place ∙ next t₂.moved.place in
    let end : q₆.at ≡ q₉.at = omega (arith, u.place, same, v.place) in
    reads (each (Here p) x b.tree s.tree)
    (upto_as (sym t₅.moved.place) (by_each e
    (from_as t₁.moved.place (phrase_on w₁.kept b))
    (kind_on w₂.kept t₂)
    (kind_as p.tokens.now t₂.moved.place (kind_on w₃.kept t₃))
    (kind_as p.tokens.now e₃ (kind_on w₄.kept t₄))
    (upto_as end (from_as (t₄.moved.place ∙ next e₃) (phrase_on w₅.kept s)))
    (kind_on w₉.kept t₅)))
    (mark_on w₉ (marked at t₅))
    refl
each_read {p} {q₇ = q₇} {q₈ = q₈} {n = n} {x = x} e t₁ at b t₂ t₃ t₄ s u (given {t = f} is d w) v em ek t₅ =
    let w₁ = each_way e t₁ in
    let w₂ = read_then w₁ refl b in
    let w₃ = take_on w₂ t₂ in
    let w₄ = name_on w₃ t₃ in
    let w₅ = take_on w₄ t₄ in
    let w₇ = push_on (read_on w₅ (λ γ free. free_filter γ) s) (placed at u) (omega arith) in
    let w₈ = regroup (joined w₇ (λ γ free. tt) w) (carried₅ (occs b.tree) (occs s.tree) _ (occs f) _) in
    let w₉ = turned_on (occs b.tree) _ w₈ v em ek in
    let e₃ = t₃.moved.place ∙ next t₂.moved.place in
    reads (sieve (Here p) x b.tree s.tree f)
    (upto_as (sym t₅.moved.place) (by_sieve e
    (from_as t₁.moved.place (phrase_on w₁.kept b))
    (kind_on w₂.kept t₂)
    (kind_as p.tokens.now t₂.moved.place (kind_on w₃.kept t₃))
    (kind_as p.tokens.now e₃ (kind_on w₄.kept t₄))
    (upto_as (still u.place) (from_as (t₄.moved.place ∙ next e₃) (phrase_on w₅.kept s)))
    (at_on w₇.kept is)
    (upto_as (sym v.place) (subst (λ ts. Derives ts.now expressions (q₇.at + 1) q₈.at f) w₇.kept.tokens d))
    (kind_on w₉.kept t₅)))
    (mark_on w₉ (marked at t₅))
    (ap (λ l. occs s.tree ++ occ (What.EachFork x) (Here p) ++ occs f ++ occ What.EachFilter l ++ occs b.tree ++ occ What.EachJoin (Here p)) at)

-- what is wanted stays so where the table was turned
unturned : {m k : ℕ} {w : Wanted} {p q r : Parser} {f : Refusal} → Turned m k p q → Stops w q r f → Stops w p r f
unturned {w = w} {p = p} {q = q} {f = f} t h = record {
  kept = kept_on t.kept h.kept;
  refuses = λ γ free s. subst (λ x. Refuses x.now f) t.kept.tokens (h.refuses γ free (subst (λ x. Stands x.now q.at (w ∷ γ)) (sym t.kept.tokens) (subst (λ i. Stands p.tokens.now i (w ∷ γ)) (sym t.place) s)));
}

pub stopped_join : {v : Wanted} {n m k l : ℕ} {xs : List Occurrence} {p q r s s' : Parser} {f : Refusal} → Way v (v ∷ []) (rest filter ∷ []) n xs p q → Filtered m q r → Turned k l r s → Stops (one Kind.CurlyClose) s s' f → Stops v p s' f
stopped_join w (none a e) t h = stopped_at (joined w (λ γ free. tt) a) (unturned t h)
stopped_join w (given e d a) t h = stopped_at (joined w (λ γ free. tt) a) (unturned t h)

-- the header and the body
pub program_read : {p q₁ q₂ q₃ q₄ q₅ q₆ q₇ q₈ q₉ q : Parser} {m n : ℕ} {x : Name} → Took Kind.Main [] p q₁ → Took Kind.Open [] q₁ q₂ → Took (Kind.Name x) [] q₂ q₃ → Took Kind.Colon [] q₃ q₄ → m ≡ Here q₄ → Read types q₄ q₅ → Took Kind.Close (occ (What.Parameter x) m) q₅ q₆ → Took Kind.Colon [] q₆ q₇ → n ≡ Here q₇ → Read types q₇ q₈ → Took Kind.Equal (occ What.Result n) q₈ q₉ → Read expressions q₉ q → Read programs p q
program_read {p} {x = x} t₁ t₂ t₃ t₄ at a t₅ t₆ into b t₇ d =
    let ts = p.tokens.now in
    let w₁ = take_on program_way t₁ in
    let w₂ = take_on w₁ t₂ in
    let w₃ = name_on w₂ t₃ in
    let w₄ = take_on w₃ t₄ in
    let e₂ = t₂.moved.place ∙ next t₁.moved.place in
    let e₃ = t₃.moved.place ∙ next e₂ in
    let e₄ = t₄.moved.place ∙ next e₃ in
    let w₅ = type_on w₄ a in
    let w₆ = mark_on w₅ (marked (here_on w₄.kept at ∙ ap (λ i. place_at ts i) e₄) t₅) in
    let w₇ = take_on w₆ t₆ in
    let e₇ = t₆.moved.place ∙ next t₅.moved.place in
    let w₈ = type_on w₇ b in
    let w₉ = mark_on w₈ (marked (here_on w₇.kept into ∙ ap (λ i. place_at ts i) e₇) t₇) in
    reads (program (place_at ts (p.at + 1 + 1 + 1 + 1)) x _ a.tree b.tree d.tree)
    (by_program t₁.was
    (kind_as ts t₁.moved.place (kind_on w₁.kept t₂))
    (kind_as ts e₂ (kind_on w₂.kept t₃))
    (kind_as ts e₃ (kind_on w₃.kept t₄))
    (from_as e₄ (phrase_on w₄.kept a))
    (kind_on w₅.kept t₅)
    (kind_as ts t₅.moved.place (kind_on w₆.kept t₆))
    (from_as e₇ (phrase_on w₇.kept b))
    (kind_on w₈.kept t₇)
    (from_as t₇.moved.place (phrase_on w₉.kept d)))
    (read_on w₉ (λ γ free. free) d)
    refl
