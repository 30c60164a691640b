-- The type rules, as a relation.
use Rattle.std.specs.Prelude.{ℕ, ◌≤◌, Bool, List, ◌∷◌}
use Rattle.tokens.specs.declared.kind.Name.{Name}
use Rattle.types.specs.Types.{Ty, int, bool, pair, list, parts}
use Rattle.grammar.specs.declared.occurrence.Infix.{Infix}
use Rattle.grammar.specs.declared.occurrence.Unary.TheVariants.{Fst, Snd, Len, Range, Flat}
use Rattle.grammar.specs.declared.occurrence.Operation.{Operation}
use Rattle.grammar.specs.Tree.{scan, reduce, Tree, count}
use Rattle.lang.specs.Expr.{answers, joined}
use Rattle.lang.specs.Scope.{Binding, bound, Bound}
use Rattle.lang.specs.Rules.{limit}
use Rattle.lang.specs.Written.{Writes}

mutual
  -- in the scope the tree is an expression of the type
  pub data HasType : List Binding → Tree → Ty → Type 0 where
    has_number : {s : List Binding} {p v : ℕ} → HasType s (Tree.number p v) int
    has_truth : {s : List Binding} {p : ℕ} {b : Bool} → HasType s (Tree.truth p b) bool
    has_variable : {s : List Binding} {p : ℕ} {n : Name} {t : Ty} → Bound s n t → HasType s (Tree.variable p n) t
    has_let : {s : List Binding} {p : ℕ} {n : Name} {e r : Tree} {t u : Ty} →
        HasType s e t → HasType (bound n t ∷ s) r u → HasType s (Tree.bind p n e r) u
    has_if : {s : List Binding} {p : ℕ} {c a b : Tree} {t : Ty} →
        HasType s c bool → HasType s a t → HasType s b t → HasType s (Tree.choice p c a b) t
    has_each : {s : List Binding} {p : ℕ} {n : Name} {b l : Tree} {t u : Ty} →
        HasType s l (list t) → HasType (bound n t ∷ s) b u → parts (list u) ≤ limit → HasType s (Tree.each p n b l) (list u)
    has_sieve : {s : List Binding} {p : ℕ} {n : Name} {b l f : Tree} {t u : Ty} →
        HasType s l (list t) → HasType (bound n t ∷ s) f bool → HasType (bound n t ∷ s) b u → parts (list u) ≤ limit →
        HasType s (Tree.sieve p n b l f) (list u)
    has_infix : {s : List Binding} {p : ℕ} {o : Infix} {a b : Tree} →
        HasType s a int → HasType s b int → HasType s (Tree.operate p o a b) (answers o)
    has_fst : {s : List Binding} {p : ℕ} {a : Tree} {t u : Ty} → HasType s a (pair t u) → HasType s (Tree.apply p Fst a) t
    has_snd : {s : List Binding} {p : ℕ} {a : Tree} {t u : Ty} → HasType s a (pair t u) → HasType s (Tree.apply p Snd a) u
    has_len : {s : List Binding} {p : ℕ} {a : Tree} {t : Ty} → HasType s a (list t) → HasType s (Tree.apply p Len a) int
    has_range : {s : List Binding} {p : ℕ} {a : Tree} → HasType s a int → HasType s (Tree.apply p Range a) (list int)
    has_flat : {s : List Binding} {p : ℕ} {a : Tree} {t : Ty} → HasType s a (list (list t)) → HasType s (Tree.apply p Flat a) (list t)
    has_scan : {s : List Binding} {p : ℕ} {o : Operation} {a : Tree} →
        HasType s a (list (joined o)) → HasType s (Tree.fold p scan o a) (list (joined o))
    has_reduce : {s : List Binding} {p : ℕ} {o : Operation} {a : Tree} →
        HasType s a (list (joined o)) → HasType s (Tree.fold p reduce o a) (joined o)
    has_index : {s : List Binding} {p : ℕ} {a b : Tree} {t : Ty} →
        HasType s a (list t) → HasType s b int → HasType s (Tree.index p a b) t
    has_group : {s : List Binding} {p : ℕ} {a : Tree} {t : Ty} → HasType s a t → HasType s (Tree.group p a) t
    has_pair : {s : List Binding} {p : ℕ} {a b : Tree} {t u : Ty} →
        HasType s a t → HasType s b u → parts (pair t u) ≤ limit → HasType s (Tree.pair p a b) (pair t u)
    has_part : {s : List Binding} {p : ℕ} {a b : Tree} {t : Ty} →
        HasType s a (list t) → HasType s b (list int) → parts (list (list t)) ≤ limit → HasType s (Tree.part p a b) (list (list t))
    has_empty : {s : List Binding} {p q : ℕ} {a : Tree} {t : Ty} →
        Writes a q t → parts (list t) ≤ limit → HasType s (Tree.empty p a) (list t)
    has_list : {s : List Binding} {p : ℕ} {es : Tree} {t : Ty} →
        AllHave s es t → count es ≤ limit → parts (list t) ≤ limit → HasType s (Tree.list p es) (list t)

  -- each of the elements has the type
  pub data AllHave : List Binding → Tree → Ty → Type 0 where
    has_first : {s : List Binding} {a : Tree} {t : Ty} → HasType s a t → AllHave s (Tree.first a) t
    has_more : {s : List Binding} {es a : Tree} {t : Ty} → AllHave s es t → HasType s a t → AllHave s (Tree.more es a) t
