-- No expression's type has more than 8 parts, if none in scope has.
use Rattle.std.proofs.Common.{◌≡◌, ◌≤◌, List, refl, arith}
use Rattle.tokens.specs.declared.kind.Name.{Name}
use Rattle.types.specs.Types.{Ty, parts}
use Rattle.grammar.specs.declared.occurrence.Infix.{Infix}
use Rattle.grammar.specs.declared.occurrence.Infix.TheVariants.{Add, Subtract, Multiply, Divide, Remainder, Same, Less}
use Rattle.grammar.specs.Tree.{Tree}
use Rattle.lang.specs.Expr.{answers}
use Rattle.lang.specs.Scope.{Binding, Bound, inner, outer}
use Rattle.lang.specs.Typing.{HasType, has_number, has_truth, has_variable, has_let, has_if, has_each, has_sieve, has_infix, has_fst, has_snd, has_len, has_range, has_flat, has_scan, has_reduce, has_index, has_group, has_pair, has_part, has_empty, has_list}
use Rattle.lang.specs.Laws.{Small, SmallLaw}

bound_small : {s : List Binding} {n : Name} {t : Ty} → Bound s n t → Small s → parts t ≤ 8
bound_small inner h = h.0
bound_small (outer d b) h = bound_small b h.1

answer_small : (o : Infix) → parts (answers o) ≡ 1
answer_small Add = refl
answer_small Subtract = refl
answer_small Multiply = refl
answer_small Divide = refl
answer_small Remainder = refl
answer_small Same = refl
answer_small Less = refl

type_small : {s : List Binding} {e : Tree} {t : Ty} → HasType s e t → Small s → parts t ≤ 8
type_small has_number h = omega arith
type_small has_truth h = omega arith
type_small (has_variable b) h = bound_small b h
type_small (has_let a b) h = type_small b (type_small a h, h)
type_small (has_if c a b) h = type_small a h
type_small (has_each a b l) h = l
type_small (has_sieve a f b l) h = l
type_small (has_infix {o = o} a b) h = omega (arith, answer_small o)
type_small (has_fst a) h = omega (arith, type_small a h)
type_small (has_snd a) h = omega (arith, type_small a h)
type_small (has_len a) h = omega arith
type_small (has_range a) h = omega arith
type_small (has_flat a) h = omega (arith, type_small a h)
type_small (has_scan a) h = type_small a h
type_small (has_reduce a) h = omega (arith, type_small a h)
type_small (has_index a b) h = omega (arith, type_small a h)
type_small (has_group a) h = type_small a h
type_small (has_pair a b l) h = l
type_small (has_part a b l) h = l
type_small (has_empty a l) h = l
type_small (has_list a n l) h = l

pub small : SmallLaw
small s e t h k = type_small k h
