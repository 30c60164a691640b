-- The occurrences of a tree with the notes of what it is elaborated to are the typed occurrences of that.
use Rattle.std.proofs.Common.{◌≡◌, ℕ, true, false, List, [], ◌∷◌, ◌++◌, sym, ap, ◌∙◌}
use mathlib.Core.Option.{Option, none, some}
use Rattle.std.proofs.lemmas.List.{append_assoc, append-nil}
use Rattle.grammar.specs.declared.occurrence.What.{What}
use Rattle.grammar.specs.Tree.{Tree, count, occ, occs}
use Rattle.types.specs.Types.{Ty, bool, list}
use Rattle.lang.specs.Expr.{mkpair, hollow, Expr, Args, each, over, nil, more}
use Rattle.lang.specs.Scope.{Binding, bound, kinds, lookup}
use Rattle.lang.specs.Rules.{infix_rule, pair_rule, index_rule, part_rule, unary_rule, fold_rule, empty_rule, list_rule}
use Rattle.lang.specs.Outcome.{ok}
use Rattle.lang.specs.Written.{Writes, writes_int, writes_bool, writes_pair, writes_list, Written, written}
use Rattle.lang.specs.Elaborate.{add_last, wanted, rows, hollow_list, elaborate, elements}
use Rattle.lang.specs.Phrases.{a_program}
use Rattle.lang.proofs.Sound.{Holds, after, wanted_holds, rows_holds, within_holds, WrittenRight, written_right, Each, sound_elements}
use Rattle.lang.proofs.Limits.{holds_both}
use Rattle.lang.proofs.Accepting.{checking}
use Rattle.judging.specs.Notes.{type_notes, notes, notes_of}
use Rattle.judging.specs.Acts.{Resolves, none_left}
use Rattle.judging.specs.Occurrences.{type_occs, typed_occs, typed_occs_of}
use Rattle.judging.specs.Laws.{ResolvingLaw}
use Rattle.judging.proofs.Operands.{last_notes}
use Rattle.judging.proofs.Resolves.{join, single, alone}
use Rattle.judging.proofs.Verdicts.{does_infix, does_index, does_part, does_unary, does_fold, does_limited, does_bracket}
use Rattle.judging.proofs.Verdicts.{Shown, AllShown, judged_shown, one_shown, two_shown, found_shown}

-- ---- written types
written_shown : {a : Tree} {p : ℕ} {t : Ty} → Writes a p t → Resolves (occs a) (type_notes t) (type_occs t)
written_shown writes_int = single
written_shown writes_bool = single
written_shown (writes_pair h k) = join (join (written_shown h) (written_shown k)) single
written_shown (writes_list h) = join (written_shown h) single

hollow_shown : (Γ : List Ty) (a : Tree) (p : ℕ) (x : Option Written) → WrittenRight a x →
    Holds (Shown (occs a ++ occ What.Empty p) {Γ = Γ}) (hollow_list p x)
unfolding notes_of typed_occs_of
hollow_shown Γ a p none h = tt
hollow_shown Γ a p (some x) h =
    judged_shown [] _ p (empty_rule x.1) nil (does_limited _ p (hollow x.1) (join (written_shown h) single)) none_left

-- ---- the elements of a list in brackets
last_typed : {Γ ts : List Ty} {t : Ty} (es : Args Γ ts) (x : Expr Γ t) → typed_occs_of (add_last es x) ≡ typed_occs_of es ++ typed_occs x
unfolding typed_occs_of
last_typed nil x = append-nil (typed_occs x)
last_typed (more e es) x = ap (λ ts. typed_occs e ++ ts) (last_typed es x) ∙ sym (append_assoc (typed_occs e) (typed_occs_of es) (typed_occs x))

-- ---- all trees
mutual
  unfolding elaborate elements notes notes_of typed_occs typed_occs_of

  pub shown : (e : Tree) (s : List Binding) → Holds (Shown (occs e)) (elaborate e s)
  shown (Tree.number p v) s = single
  shown (Tree.truth p true) s = single
  shown (Tree.truth p false) s = single
  shown (Tree.variable p n) s = found_shown s p n (lookup s n)
  shown (Tree.bind p n e b) s =
      after (Shown (occs e)) _ (elaborate e s) _ (shown e s) λ x h.
      after (Shown (occs b)) _ (elaborate b (bound n x.0 ∷ s)) _ (shown b (bound n x.0 ∷ s)) λ y k.
      join (join (join h single) k) single
  shown (Tree.choice p c a b) s =
      after (Shown (occs c)) _ (elaborate c s) _ (shown c s) λ x h.
      after (λ x. Shown (occs c) (bool, x)) _ (wanted bool p x) _ (wanted_holds (Shown (occs c)) bool p x h) λ x h.
      after (Shown (occs a)) _ (elaborate a s) _ (shown a s) λ y k.
      after (Shown (occs b)) _ (elaborate b s) _ (shown b s) λ z l.
      after (λ z. Shown (occs b) (y.0, z)) _ (wanted y.0 p z) _ (wanted_holds (Shown (occs b)) y.0 p z l) λ z l.
      join (join (join (join (join h single) k) single) l) single
  shown (Tree.each p n b l) s =
      after (Shown (occs l)) _ (elaborate l s) _ (shown l s) λ x h.
      after (λ x. Shown (occs l) (list x.0, x.1)) _ (rows p x.0 x.1) _ (rows_holds (Shown (occs l)) p x.0 x.1 h) λ x h.
      after (Shown (occs b)) _ (elaborate b (bound n x.0 ∷ s)) _ (shown b (bound n x.0 ∷ s)) λ y k.
      within_holds (Shown (occs (Tree.each p n b l))) p (over p x.1 y.1) (λ d. join (join (join h single) k) single)
  shown (Tree.sieve p n b l f) s =
      after (Shown (occs l)) _ (elaborate l s) _ (shown l s) λ x h.
      after (λ x. Shown (occs l) (list x.0, x.1)) _ (rows p x.0 x.1) _ (rows_holds (Shown (occs l)) p x.0 x.1 h) λ x h.
      after (Shown (occs f)) _ (elaborate f (bound n x.0 ∷ s)) _ (shown f (bound n x.0 ∷ s)) λ g i.
      after (Shown (occs b)) _ (elaborate b (bound n x.0 ∷ s)) _ (shown b (bound n x.0 ∷ s)) λ y k.
      after (λ g. Shown (occs f) (bool, g)) _ (wanted bool p g) _ (wanted_holds (Shown (occs f)) bool p g i) λ g i.
      within_holds (Shown (occs (Tree.sieve p n b l f))) p (each p x.1 g y.1) (λ d. join (join (join (join (join h single) i) single) k) single)
  shown (Tree.operate p o a b) s =
      two_shown (occs a) (occs b) _ p (infix_rule o) (elaborate a s) (elaborate b s) (does_infix p o) (shown a s) (shown b s)
  shown (Tree.apply p o a) s = one_shown (occs a) _ p (unary_rule o) (elaborate a s) (does_unary p o) (shown a s)
  shown (Tree.fold p f o a) s = one_shown (occs a) _ p (fold_rule f o) (elaborate a s) (does_fold p f o) (shown a s)
  shown (Tree.index p a b) s = two_shown (occs a) (occs b) _ p index_rule (elaborate a s) (elaborate b s) (does_index p) (shown a s) (shown b s)
  shown (Tree.group p a) s = after (Shown (occs a)) _ (elaborate a s) _ (shown a s) λ x h. join h single
  shown (Tree.pair p a b) s =
      two_shown (occs a) (occs b) _ p pair_rule (elaborate a s) (elaborate b s) (λ a b. does_limited _ p mkpair single) (shown a s) (shown b s)
  shown (Tree.part p a b) s = two_shown (occs a) (occs b) _ p part_rule (elaborate a s) (elaborate b s) (does_part p) (shown a s) (shown b s)
  shown (Tree.empty p t) s = hollow_shown (kinds s) t p (written t) (written_right t)
  shown (Tree.list p es) s =
      after (λ xs. AllShown (occs es) xs × Each s es xs) (Shown (occs (Tree.list p es))) (elements es s) _
      (holds_both (AllShown (occs es)) (Each s es) (elements es s) (all_shown es s) (sound_elements es s)) λ xs h.
      judged_shown (occs es) _ p (list_rule xs.0) xs.1 (does_bracket (count es) p xs.0 h.1.0) h.0
  shown (Tree.first _) s = tt
  shown (Tree.more _ _) s = tt
  shown (Tree.int _) s = tt
  shown (Tree.bool _) s = tt
  shown (Tree.both _ _ _) s = tt
  shown (Tree.many _ _) s = tt
  shown (Tree.program _ _ _ _ _ _) s = tt

  all_shown : (e : Tree) (s : List Binding) → Holds (AllShown (occs e)) (elements e s)
  all_shown (Tree.first a) s = after (Shown (occs a)) (AllShown (occs (Tree.first a))) (elaborate a s) _ (shown a s) λ x h. alone h
  all_shown (Tree.more es a) s =
      after (AllShown (occs es)) (AllShown (occs (Tree.more es a))) (elements es s) _ (all_shown es s) λ xs h.
      after (Shown (occs a)) (AllShown (occs (Tree.more es a))) (elaborate a s) _ (shown a s) λ x k.
      rw (last_notes xs.1 x.1, last_typed xs.1 x.1) (join h k)
  all_shown (Tree.number _ _) s = tt
  all_shown (Tree.truth _ _) s = tt
  all_shown (Tree.variable _ _) s = tt
  all_shown (Tree.bind _ _ _ _) s = tt
  all_shown (Tree.choice _ _ _ _) s = tt
  all_shown (Tree.each _ _ _ _) s = tt
  all_shown (Tree.sieve _ _ _ _ _) s = tt
  all_shown (Tree.operate _ _ _ _) s = tt
  all_shown (Tree.apply _ _ _) s = tt
  all_shown (Tree.fold _ _ _ _) s = tt
  all_shown (Tree.index _ _ _) s = tt
  all_shown (Tree.group _ _) s = tt
  all_shown (Tree.pair _ _ _) s = tt
  all_shown (Tree.part _ _ _) s = tt
  all_shown (Tree.empty _ _) s = tt
  all_shown (Tree.list _ _) s = tt
  all_shown (Tree.int _) s = tt
  all_shown (Tree.bool _) s = tt
  all_shown (Tree.both _ _ _) s = tt
  all_shown (Tree.many _ _) s = tt
  all_shown (Tree.program _ _ _ _ _ _) s = tt

pub resolves : (s : List Binding) (e : Tree) (t : Ty) (x : Expr (kinds s) t) → elaborate e s ≡ ok (t, x) → Resolves (occs e) (notes x) (typed_occs x)
resolves s e t x h = rw h at (shown e s)

-- ---- programs
pub resolving : ResolvingLaw
resolving p (a_program {x} {r} {n} {a} {b} {e} h k j) c q =
    let d = (checking x r n a b e c).0 q in
    join (join (join (join (written_shown d.parameter.1) single) (written_shown d.result.1)) single)
    (resolves (bound n c.parameter ∷ []) e c.result c.body d.body_is)
