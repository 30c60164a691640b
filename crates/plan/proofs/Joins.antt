-- What a join leaves of a table: the entries of its fork are replaced, and the free variables stand at the end.
use Rattle.std.proofs.Common.{◌≡◌, ℕ, ◌+◌, ◌-◌, Bool, List, [], ◌∷◌, ◌++◌, length, drop, set, Some, None, ap, ◌∙◌, arith}
use Rattle.std.proofs.lemmas.Grind.{common_steps}
use Rattle.std.proofs.lemmas.List.{append_assoc, length-append, set_at}
use Rattle.typing.specs.declared.parts.Use.{Use}
use Rattle.plan.specs.declared.table.Mark.{Mark}
use Rattle.plan.specs.declared.table.Entry.{Entry}
use Rattle.plan.specs.declared.table.Free.{Free}
use Rattle.plan.specs.declared.fork.Fork.{Fork}
use Rattle.plan.specs.Filling.{filling, entry, gathered, flagged, if_joined, each_joined}
use Rattle.plan.proofs.Blocks.{span}

-- an entry is replaced
patched : (xs : List Entry) (y : Entry) (ys : List Entry) (z : Entry) → set (xs ++ y ∷ [] ++ ys) (length (xs ++ y ∷ []) - 1) z ≡ xs ++ z ∷ [] ++ ys
patched xs y ys z = grind (arith, common_steps, append_assoc, set_at, length-append)

-- two are
patched_both : (xs ys bs : List Entry) (f m g n : Entry) →
    set (set (xs ++ f ∷ [] ++ ys ++ m ∷ [] ++ bs) (length (xs ++ f ∷ []) - 1) g) (length (xs ++ f ∷ [] ++ ys ++ m ∷ []) - 1) n ≡ xs ++ g ∷ [] ++ ys ++ n ∷ [] ++ bs
patched_both xs ys bs f m g n =
    let apart : xs ++ f ∷ [] ++ ys ++ m ∷ [] ++ bs ≡ xs ++ f ∷ [] ++ (ys ++ m ∷ [] ++ bs) = simp append_assoc in
    let together : xs ++ g ∷ [] ++ (ys ++ m ∷ [] ++ bs) ≡ xs ++ g ∷ [] ++ ys ++ m ∷ [] ++ bs = simp append_assoc in
    let long : length (xs ++ f ∷ [] ++ ys ++ m ∷ []) ≡ length (xs ++ g ∷ [] ++ ys ++ m ∷ []) = simp length-append in
    let k = length (xs ++ f ∷ [] ++ ys ++ m ∷ []) - 1 in
    ap (λ l. set (set l (length (xs ++ f ∷ []) - 1) g) k n) apart ∙ ap (λ l. set l k n) (patched xs f (ys ++ m ∷ [] ++ bs) g ∙ together) ∙
    ap (λ j. set (xs ++ g ∷ [] ++ ys ++ m ∷ [] ++ bs) (j - 1) n) long ∙ patched (xs ++ g ∷ [] ++ ys) m bs n

module _ (fs l : List Free) (sc : List Bool) (ks : List Fork) (us vs : List Use) (b : Bool) (p n : ℕ) (e : gathered (flagged vs (length sc)) sc 0 ≡ l) (en : length fs ≡ n) where
  -- the free variables, where they begin and where they end
  gathers : {X : Type 0} (G : List Free → ℕ → ℕ → X) →
      let g = gathered (flagged (drop (length us) (us ++ vs)) (length sc)) sc 0 in G (fs ++ g) (length fs) (length (fs ++ g)) ≡ G (fs ++ l) n (n + length l)
  gathers G = grind (arith, common_steps)

  pub choice_joined : (xs ys bs : List Entry) (f m : Entry) (k j : ℕ) → length (xs ++ f ∷ [] ++ ys ++ m ∷ []) ≡ k → length (xs ++ f ∷ [] ++ ys ++ m ∷ [] ++ bs) ≡ j →
      if_joined b p (filling (xs ++ f ∷ [] ++ ys ++ m ∷ [] ++ bs) fs sc (record { first = length (xs ++ f ∷ []); second = Some (length (xs ++ f ∷ [] ++ ys ++ m ∷ [])); start = length us } ∷ ks) (us ++ vs)) ≡
      filling (xs ++ entry (Mark.IfFork k (span n l)) p ∷ [] ++ ys ++ entry (Mark.IfElse j) p ∷ [] ++ bs ++ entry (Mark.IfJoin b) p ∷ []) (fs ++ l) sc ks (us ++ vs)
  choice_joined xs ys bs f m k j ek ej =
      let both = patched_both xs ys bs f m (entry (Mark.IfFork k (span n l)) p) (entry (Mark.IfElse j) p) in
      grind (arith, common_steps, gathers)

  pub each_swept : (xs ys bs : List Entry) (f m : Entry) (i j : ℕ) → length (xs ++ f ∷ []) ≡ i → length (xs ++ f ∷ [] ++ ys ++ m ∷ [] ++ bs) ≡ j →
      each_joined b p (filling (xs ++ f ∷ [] ++ ys ++ m ∷ [] ++ bs) fs sc (record { first = length (xs ++ f ∷ []); second = Some (length (xs ++ f ∷ [] ++ ys ++ m ∷ [])); start = length us } ∷ ks) (us ++ vs)) ≡
      filling (xs ++ entry (Mark.EachFork j (span n l)) p ∷ [] ++ ys ++ entry (Mark.EachFilter j) p ∷ [] ++ bs ++ entry (Mark.EachJoin i b) p ∷ []) (fs ++ l) sc ks (us ++ vs)
  each_swept xs ys bs f m i j ei ej = grind (arith, common_steps, gathers, patched_both, span)

  pub over_swept : (xs bs : List Entry) (f : Entry) (i j : ℕ) → length (xs ++ f ∷ []) ≡ i → length (xs ++ f ∷ [] ++ bs) ≡ j →
      each_joined b p (filling (xs ++ f ∷ [] ++ bs) fs sc (record { first = length (xs ++ f ∷ []); second = None; start = length us } ∷ ks) (us ++ vs)) ≡
      filling (xs ++ entry (Mark.EachFork j (span n l)) p ∷ [] ++ bs ++ entry (Mark.EachJoin i b) p ∷ []) (fs ++ l) sc ks (us ++ vs)
  over_swept xs bs f i j ei ej = grind (arith, common_steps, gathers, patched, span)
