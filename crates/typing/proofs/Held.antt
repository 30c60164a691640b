-- How the state that is held changes with the checker's entries.
use Rattle.std.proofs.Common.{◌≡◌, ℕ, ◌-◌, ◌<◌, List, [], ◌∷◌, ◌++◌, map, reverse, length, get_or, take, vec_items, ap, subst}
use Rattle.std.proofs.lemmas.List.{map_push, drop-map, length-map, get_or_default}
use Rattle.types.specs.Types.{Ty}
use Rattle.types.specs.Table.{Interned}
use Rattle.lang.specs.Scope.{bound}
use Rattle.judging.specs.Notes.{note}
use Rattle.judging.specs.Judging.{begin, pushed, popped, noted, entered, left}
use Rattle.typing.specs.Codes.{type_at, binding_of, note_of, fork_of, holding}
use Rattle.typing.specs.Holding.{held, known}
use Rattle.typing.specs.declared.checker.Checker.{Checker}
use Rattle.typing.specs.declared.parts.Binding.{Binding}
use Rattle.typing.specs.declared.parts.Fork.{Fork}
use Rattle.typing.specs.declared.parts.Use.{Use}
use Rattle.typing.specs.declared.parts.Note.{Note}
use Rattle.typing.proofs.Lists.{reverse_push, reverse-take, length-held, maps_same, map-reverse, under_at}

module _ (c : Checker) where
  abbrev pub ts : List Ty
  ts = known c

  abbrev pub sc : List Binding
  sc = vec_items c.scope

  abbrev pub st : List ℕ
  st = vec_items c.stack

  abbrev pub fs : List Fork
  fs = vec_items c.forks

  abbrev pub es : List Use
  es = vec_items c.uses

  abbrev pub ns : List Note
  ns = vec_items c.notes

  pub cut-held : (st' : List ℕ) (k m : ℕ) → m ≡ length st - k → st' ≡ take m st → holding ts sc st' fs es ns c.weight ≡ popped k (held c)
  unfolding held
  cut-held st' k m em e = rw (e, reverse-take st k m em, drop-map (type_at ts) k (reverse st))

  pub note-held : (ns' : List Note) (n : Note) → ns' ≡ ns ++ n ∷ [] → holding ts sc st fs es ns' c.weight ≡ noted (note_of ts n ∷ []) (held c)
  unfolding held
  note-held ns' n e = rw (e, map_push (note_of ts) ns n)

  pub show_held : (ns' : List Note) (st' : List ℕ) (n : Note) → ns' ≡ ns ++ n ∷ [] → st' ≡ st ++ n.code ∷ [] → holding ts sc st' fs es ns' c.weight ≡ noted (note_of ts n ∷ []) (pushed (type_at ts n.code) (held c))
  unfolding held
  show_held ns' st' n en et = rw (et, reverse_push st n.code, en, map_push (note_of ts) ns n)

  pub enter_held : (sc' : List Binding) (b : Binding) → sc' ≡ sc ++ b ∷ [] → holding ts sc' st fs es ns c.weight ≡ entered b.name (type_at ts b.code) (held c)
  unfolding held
  enter_held sc' b e = rw (e, reverse_push sc b)

  pub leave_held : (sc' : List Binding) (m : ℕ) → m ≡ length sc - 1 → sc' ≡ take m sc → holding ts sc' st fs es ns c.weight ≡ left (held c)
  unfolding held
  leave_held sc' m em e = rw (e, reverse-take sc 1 m em, drop-map (binding_of ts) 1 (reverse sc))

  -- how many there are
  pub stack_long : length (held c).stack ≡ length st
  unfolding held
  stack_long = length-held (type_at ts) st

  pub scope_long : length (held c).scope ≡ length sc
  unfolding held
  scope_long = length-held (binding_of ts) sc

  pub forks_long : length (held c).forks ≡ length fs
  unfolding held
  forks_long = length-held (fork_of es) fs

  pub notes_long : length (held c).notes ≡ length ns
  unfolding held
  notes_long = length-map ns (note_of ts)

  -- a type more in the table: all that is held stays
  module _ (us : List Ty) (t : Ty) (i : ℕ) (h : Interned ts t us i) where
    same : (j : ℕ) → j < length ts → type_at us j ≡ type_at ts j
    same = h.kept

    kept_scope : map (binding_of us) (reverse sc) ≡ map (binding_of ts) (reverse sc)
    kept_scope =
        rw (map-reverse (binding_of us) sc, map-reverse (binding_of ts) sc, maps_same (binding_of us) (binding_of ts) sc (λ i d l. ap (bound (get_or sc i d).name) (same (get_or sc i d).code (under_at (λ b. b.code) _ sc i d c.codes.0 l))))

    kept_stack : map (type_at us) (reverse st) ≡ map (type_at ts) (reverse st)
    kept_stack =
        rw (map-reverse (type_at us) st, map-reverse (type_at ts) st, maps_same (type_at us) (type_at ts) st (λ i d l. same (get_or st i d) (subst (λ v. v < length ts) (get_or_default st i 0 d l) (c.codes.1 i))))

    kept_notes : map (note_of us) ns ≡ map (note_of ts) ns
    kept_notes =
        maps_same (note_of us) (note_of ts) ns (λ i d l. ap (λ t. record { type = t; index = (get_or ns i d).index }) (same (get_or ns i d).code (under_at (λ b. b.code) _ ns i d c.codes.2 l)))

    -- it is noted, and takes the place of the k uppermost
    pub put_held : (ns' : List Note) → ns' ≡ ns ++ record { code = i; index = 0 } ∷ [] → (st' st'' : List ℕ) (k m : ℕ) → m ≡ length st - k → st' ≡ take m st → st'' ≡ st' ++ i ∷ [] → holding us sc st'' fs es ns' c.weight ≡ noted (note t) (pushed t (popped k (held c)))
    unfolding held
    put_held ns' en st' st'' k m em et es'' =
        rw (es'', reverse_push st' i, et, reverse-take st k m em, ← drop-map (type_at us) k (reverse st), kept_stack, kept_scope, en, map_push (note_of us) ns (record { code = i; index = 0 }), kept_notes, h.is)

-- nothing is held
pub empty-held : (ts : List Ty) (sc : List Binding) (st : List ℕ) (fs : List Fork) (es : List Use) (ns : List Note) → sc ≡ [] → st ≡ [] → fs ≡ [] → ns ≡ [] → holding ts sc st fs es ns 0 ≡ begin
empty-held ts sc st fs es ns a b c d = rw (a, b, c, d)
