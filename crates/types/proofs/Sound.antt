-- A table stays sound as a type is added to it.
use Rattle.std.proofs.Common.{◌≡◌, ℕ, zero, suc, ◌<◌, ◌≤◌, true, List, [], ◌∷◌, ◌++◌, length, get_or, sym, refl, ap, ◌∙◌, subst, inl, inr, arith}
use Rattle.std.proofs.lemmas.List.{length_push, get_or_push, get_or_append_left}
use Rattle.std.proofs.lemmas.Bool.{cases_lt}
use Rattle.types.specs.declared.node.TypeNode.{TypeNode}
use Rattle.types.specs.declared.node.Entry.{Entry}
use Rattle.types.specs.Types.{Ty, int, bool, pair, list}
use Rattle.types.specs.Entries.{ty_of, types_after, types_of, first, above, counted, blank, NodeAt, Missing, Starts, Below, Counts, Alike, Once, is_int, is_bool}
use Rattle.types.specs.Table.{Shows, Interned}
use Rattle.types.proofs.Typed.{push_kept, long, typed, pushed, shows, same_node}

pub record Sound (es : List Entry) : Type 0 where
  pub starts : Starts es
  pub below : Below es
  pub counts : Counts es
  pub once : Once es

pub int_is : (t : Ty) → is_int t ≡ true → t ≡ int
int_is int h = refl
int_is bool h = cc
int_is (pair a b) h = cc
int_is (list a) h = cc

pub bool_is : (t : Ty) → is_bool t ≡ true → t ≡ bool
bool_is int h = cc
bool_is bool h = refl
bool_is (pair a b) h = cc
bool_is (list a) h = cc

-- a type that stands in the table
pub found : (ts : List Ty) (t : Ty) (i : ℕ) → i < length ts → get_or ts i int ≡ t → Interned ts t ts i
found ts t i h e =
    record { adds = inl (refl, h); within = h; is = e; kept = λ j l. refl; longer = omega arith; little = omega arith }

-- a type that does not
pub added : (ts : List Ty) (t : Ty) → ((j : ℕ) → j < length ts → get_or ts j int ≡ t → ⊥) → Interned ts t (ts ++ t ∷ []) (length ts)
added ts t absent =
    let one = length_push ts t in
    record {
      adds = inr (refl, refl, absent);
      within = omega arith;
      is = get_or_push ts t int (length ts) refl;
      kept = λ j l. push_kept ts t j l;
      longer = omega arith;
      little = omega arith;
    }

module _ (es : List Entry) (sound : Sound es) where
  -- what stands below the end, or at it
  below_end : (P : ℕ → Type 0) → ((i : ℕ) → i < length es → P i) → P (length es) → (i : ℕ) → i < suc (length es) → P i
  below_end P before here i h =
      elim (cases_lt i (length es)) [ inl l ↦ before i l | inr g ↦ let same : length es ≡ i = omega arith in subst P same here ]

  pub shown : (i : ℕ) (d : Entry) → i < length es → Shows (types_of es) i (get_or es i d).node
  shown i d h = shows (types_of es) i _ (sound.below i d h) (typed es i d h (sound.below i d h))

  pub stands : (n : TypeNode) (i : ℕ) → i < length es → NodeAt es i n → Interned (types_of es) (ty_of (types_of es) n) (types_of es) i
  stands n i h at =
      found (types_of es) _ i (omega (arith, long es)) (typed es i blank h (sound.below i blank h) ∙ ap (ty_of (types_of es)) at)

  module _ (n : TypeNode) (within : above n ≤ length es) (absent : Missing es n) where
    pub fresh : (j : ℕ) → j < length (types_of es) → get_or (types_of es) j int ≡ ty_of (types_of es) n → ⊥
    fresh j h e =
        let l : j < length es = omega (arith, long es) in
        let below = sound.below j blank l in
        absent j l (same_node (types_of es) sound.once _ n (omega (arith, long es, below)) (omega (arith, long es)) (sym (typed es j blank l below) ∙ e))

    -- with the new type at the end
    module _ (count : ℕ) (right : count ≡ counted (ty_of (types_of es) n)) where
      abbrev new : Entry
      new = record { node = n; count = count }

      abbrev more : List Entry
      more = es ++ new ∷ []

      abbrev t : Ty
      t = ty_of (types_of es) n

      types : types_of more ≡ types_of es ++ t ∷ []
      types = pushed es new

      grown : length more ≡ suc (length es)
      grown = omega (arith, length_push es new)

      before : (i : ℕ) → i < length es → get_or (types_of more) i int ≡ get_or (types_of es) i int
      before i h = ap (λ ts. get_or ts i int) types ∙ push_kept (types_of es) t i (omega (arith, long es))

      last : get_or (types_of more) (length es) int ≡ t
      last = ap (λ ts. get_or ts (length es) int) types ∙ get_or_push (types_of es) t int (length es) (long es)

      entry_before : (i : ℕ) (d : Entry) → i < length es → get_or more i d ≡ get_or es i d
      entry_before i d h = get_or_append_left es (new ∷ []) d i h

      entry_last : (d : Entry) → get_or more (length es) d ≡ new
      entry_last d = get_or_push es new d (length es) refl

      old : (i j : ℕ) → i < length es → j < length es → get_or (types_of more) i int ≡ get_or (types_of more) j int → i ≡ j
      old i j h l e = sound.once i j (record { left = omega (arith, long es); right = omega (arith, long es); same = sym (before i h) ∙ e ∙ before j l })

      reach : {i j : ℕ} → Alike (types_of more) i j → j < suc (length es)
      reach two = omega (arith, two.right, long more, grown)

      new_apart : (i j : ℕ) → i < length es → j < suc (length es) → length es ≤ j → get_or (types_of more) i int ≡ get_or (types_of more) j int → ⊥
      new_apart i j h l g e =
          let same : j ≡ length es = omega arith in
          fresh i (omega (arith, long es)) (sym (before i h) ∙ e ∙ ap (λ k. get_or (types_of more) k int) same ∙ last)

      pub joins : Interned (types_of es) t (types_of more) (length es)
      joins =
          subst (λ us. Interned (types_of es) t us (length es)) (sym types) (subst (λ k. Interned (types_of es) t (types_of es ++ t ∷ []) k) (long es) (added (types_of es) t fresh))

      pub push : Sound more
      push =
          record {
            starts = (omega (arith, sound.starts.0, grown), ap is_int (before 0 (omega (arith, sound.starts.0))) ∙ sound.starts.1, ap is_bool (before 1 (omega (arith, sound.starts.0))) ∙ sound.starts.2);
            below = λ i d h.
                below_end
                (λ k. above (get_or more k d).node ≤ k)
                (λ k l. subst (λ e. above e.node ≤ k) (sym (entry_before k d l)) (sound.below k d l))
                (subst (λ e. above e.node ≤ length es) (sym (entry_last d)) within)
                i
                (omega (arith, grown));
            counts = λ i d h.
                below_end
                (λ k. (get_or more k d).count ≡ counted (get_or (types_of more) k int))
                (λ k l. ap (λ e. e.count) (entry_before k d l) ∙ sound.counts k d l ∙ ap counted (sym (before k l)))
                (ap (λ e. e.count) (entry_last d) ∙ right ∙ ap counted (sym last))
                i
                (omega (arith, grown));
            once = λ i j two.
                below_end
                (λ k. get_or (types_of more) k int ≡ get_or (types_of more) j int → k ≡ j)
                (λ k l e. elim (cases_lt j (length es)) [ inl m ↦ old k j l m e | inr g ↦ absurd (new_apart k j l (reach two) g e) ])
                (λ e. elim (cases_lt j (length es)) [ inl m ↦ absurd (new_apart j (length es) m (omega arith) (omega arith) (sym e)) | inr g ↦ omega (arith, reach two, g) ])
                i
                (omega (arith, two.left, long more, grown))
                two.same;
          }

-- the table's beginning
first_below : Below first
first_below zero d h = omega arith
first_below (suc zero) d h = omega arith
first_below (suc (suc i)) d h = absurd (omega arith)

first-counts : Counts first
unfolding types_after
first-counts zero d h = refl
first-counts (suc zero) d h = refl
first-counts (suc (suc i)) d h = absurd (omega arith)

first_once : (i j : ℕ) → Alike (int ∷ bool ∷ []) i j → i ≡ j
first_once zero zero two = refl
first_once zero (suc zero) two = let e = two.same in cc
first_once zero (suc (suc j)) two = absurd (omega (arith, two.right))
first_once (suc zero) zero two = let e = two.same in cc
first_once (suc zero) (suc zero) two = refl
first_once (suc zero) (suc (suc j)) two = absurd (omega (arith, two.right))
first_once (suc (suc i)) j two = absurd (omega (arith, two.left))

pub first_types : types_of first ≡ int ∷ bool ∷ []
unfolding types_after
first_types = refl

pub begun : Sound first
unfolding types_after
begun = record { starts = (omega arith, refl, refl); below = first_below; counts = first-counts; once = first_once }
