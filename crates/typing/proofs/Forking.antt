-- Forks and the uses since.
use Rattle.std.proofs.Common.{◌≡◌, ℕ, suc, ◌-◌, ◌<◌, ◌≤◌, Bool, false, List, [], ◌∷◌, ◌++◌, map, reverse, length, get_or, take, drop, replicate, vec_len, sym, refl, ap, ◌∙◌, subst, arith}
use Rattle.std.proofs.lemmas.List.{drop-append-le, drop_all, drop-map, get_or-reverse, length-reverse}
use Rattle.judging.specs.Judging.{Fork, forked, joined, no_fork, with_forks, used_at, uses_at}
use Rattle.typing.specs.Codes.{binding_of, fork_of, replay, holding}
use Rattle.typing.specs.Holding.{held, LastFork}
use Rattle.typing.specs.declared.checker.Checker.{Checker}
use Rattle.typing.specs.declared.parts.Fork.{Fork as Entry}
use Rattle.typing.specs.declared.parts.Use.{Use}
use Rattle.std.specs.List.{slice_get}
use Rattle.std.specs.Option.{unwrap_or}
use Rattle.std.specs.Prelude.{Option}
use Rattle.typing.proofs.Lists.{length-held, reverse_push, reverse-take, under_at, under_last, last_is, top_is}
use Rattle.typing.proofs.Held.{scope_long, ts, sc, st, fs, es, ns}

replay_push : (es : List Use) (e : Use) (u : List Bool) → replay (es ++ e ∷ []) u ≡ used_at e.depth e.index (replay es u)
replay_push [] e u = refl
replay_push (x ∷ es) e u = replay_push es e (used_at x.depth x.index u)

-- one use more
uses_push : (es : List Use) (e : Use) (l : List Entry) → ((i : ℕ) (d : Entry) → i < length l → (get_or l i d).start ≤ length es) → map (fork_of (es ++ e ∷ [])) l ≡ uses_at e.depth e.index (map (fork_of es) l)
uses_push es e [] h = refl
uses_push es e (f ∷ l) h = rw (drop-append-le f.start es (e ∷ []) (h 0 f (omega arith)), replay_push (drop f.start es) e (replicate f.depth false), uses_push es e l (λ i d lt. h (suc i) d (omega arith)))

module _ (c : Checker) where
  pub open_held : (fs' : List Entry) (n k : ℕ) → n ≡ length (sc c) → k ≡ length (es c) → fs' ≡ fs c ++ record { filtered = false; depth = n; start = k } ∷ [] → holding (ts c) (sc c) (st c) fs' (es c) (ns c) c.weight ≡ forked (held c)
  unfolding held
  open_held fs' n k en ek e = rw (e, reverse_push (fs c) (record { filtered = false; depth = n; start = k }), drop_all k (es c) (omega arith), length-held (binding_of (ts c)) (sc c), en)

  pub close_held : (fs' : List Entry) (m : ℕ) → m ≡ length (fs c) - 1 → fs' ≡ take m (fs c) → holding (ts c) (sc c) (st c) fs' (es c) (ns c) c.weight ≡ joined (held c)
  unfolding held
  close_held fs' m em e = rw (e, reverse-take (fs c) 1 m em, drop-map (fork_of (es c)) 1 (reverse (fs c)))

  pub filter_held : (fs' fs'' : List Entry) (m : ℕ) (f : Entry) → m ≡ length (fs c) - 1 → fs' ≡ take m (fs c) → fs'' ≡ fs' ++ f ∷ [] → (u : Fork) → fork_of (es c) f ≡ u → holding (ts c) (sc c) (st c) fs'' (es c) (ns c) c.weight ≡ with_forks (u ∷ drop 1 (held c).forks) (held c)
  unfolding held
  filter_held fs' fs'' m f em e e' u eu = rw (e', reverse_push fs' f, e, reverse-take (fs c) 1 m em, drop-map (fork_of (es c)) 1 (reverse (fs c)), eu)

  starts_in : (i : ℕ) (d : Entry) → i < length (reverse (fs c)) → (get_or (reverse (fs c)) i d).start ≤ length (es c)
  starts_in i d lt =
      let l : i < length (fs c) = omega (arith, length-reverse (fs c)) in
      let k : length (fs c) - 1 - i < length (fs c) = omega arith in
      let e : get_or (reverse (fs c)) i d ≡ get_or (fs c) (length (fs c) - 1 - i) d = get_or-reverse (fs c) i d l in
      let u : (get_or (fs c) (length (fs c) - 1 - i) d).start < suc (vec_len c.uses) = under_at (λ f. f.start) _ (fs c) (length (fs c) - 1 - i) d c.logged.0 k in
      subst (λ (x : Entry). x.start ≤ length (es c)) (sym e) (omega (arith, u))

  pub use_held : (es' : List Use) (e : Use) → es' ≡ es c ++ e ∷ [] → e.depth ≡ length (sc c) → holding (ts c) (sc c) (st c) (fs c) es' (ns c) c.weight ≡ with_forks (uses_at (length (held c).scope) e.index (held c).forks) (held c)
  unfolding held
  use_held es' e ee ed = rw (ee, uses_push (es c) e (reverse (fs c)) starts_in, ed, scope_long c)

  -- the innermost
  pub last_held : (o : Option Entry) (d : Entry) → o ≡ slice_get (fs c) (length (fs c) - 1) → d ≡ record { filtered = false; depth = 0; start = vec_len c.uses } → LastFork c (unwrap_or o d)
  unfolding held
  last_held o d e ed =
      let none : fork_of (es c) d ≡ no_fork = ap (fork_of (es c)) ed ∙ ap (λ x. record { filtered = false; used = replay x [] }) (drop_all (vec_len c.uses) (es c) (omega arith)) in
      let s = under_last (λ f. f.start) (suc (vec_len c.uses)) (fs c) d c.logged.0 (rw ed (omega arith)) in
      subst (LastFork c) (sym (last_is (fs c) o d e)) (record {
        is = top_is (fork_of (es c)) (fs c) 0 d no_fork none;
        start = omega (arith, s);
        depth = under_last (λ f. f.depth) 1025 (fs c) d c.logged.1 (rw ed (omega arith));
      })
