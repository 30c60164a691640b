use Rattle.std.proofs.Common.{◌≡◌, ℕ, ◌-◌, List, length, vec_items, arith, length-append, refl, ap, ◌∙◌}
use Rattle.values.proofs.IntTexts.{int_separate}
use Rattle.values.proofs.Rowing.{ints_kept}
use Rattle.values.proofs.rows.GatheredElements.read_element.Goals as goal

pub read_list-requires : goal.read_list-requires
read_list-requires c = int_separate

pub overflow_sub-result : goal.overflow_sub-result
overflow_sub-result c =
    let e = ap length (ints_kept (λ v. vec_items v) _ _ _ c.in_ok-length.ensures.kept) ∙ length-append (vec_items c.args.self.now.ints) _ in
    omega (arith, e, c.len.ensures, c.len-before.ensures)

pub returns : goal.returns
returns c =
    let kept = ints_kept (λ v. vec_items v) _ _ _ c.in_ok-length.ensures.kept in
    let counted : c.len.result - c.len-before.result ≡ length c.in_ok-length.ensures.elements =
    omega (arith, ap length kept ∙ length-append (vec_items c.args.self.now.ints) _, c.len.ensures, c.len-before.ensures) in
    record { element = c.in_ok-length.ensures.elements; is = c.in_ok-length.ensures.is; kept = (counted, kept, refl {A = List ℕ}) }
