-- What a table of types says of its codes.
use Rattle.std.proofs.Common.{◌≡◌, ℕ, ◌<◌, ◌≤◌, Bool, List, [], ◌∷◌, ◌++◌, length, get_or, vec_items, vec_len, Decides, sym, ap, ◌∙◌, subst, inl, inr, arith}
use Rattle.std.proofs.lemmas.List.{get_or_past}
use Rattle.std.proofs.lemmas.Bool.{cases_lt}
use Rattle.types.specs.declared.node.TypeNode.{TypeNode}
use Rattle.types.specs.declared.node.TypeNode.TheVariants as node
use Rattle.types.specs.declared.node.Entry.{Entry}
use Rattle.types.specs.declared.table.TypeTable.{TypeTable}
use Rattle.types.specs.Types.{int}
use Rattle.types.specs.Entries.{int_entry, ty_of, types_of, above, counted, NodeAt, Missing}
use Rattle.types.specs.Table.{types_in, type_of, Shows, Interned}
use Rattle.types.proofs.Typed.{long, same_node}
use Rattle.types.proofs.Sound.{Sound, shown, stands, joins, push}

module _ (t : TypeTable) where
  abbrev held : List Entry
  held = vec_items t.entries

  pub sound : Sound held
  sound = record { starts = t.starts; below = t.below; counts = t.counts; once = t.once }

  pub sized : length (types_in t) ≡ vec_len t.entries
  sized = omega (arith, long held)

  -- an entry that was read: past the end it is that of int
  pub node_read : (i : ℕ) → Shows (types_in t) i (get_or held i int_entry).node
  node_read i =
      elim (cases_lt i (length held)) [
        | inl l ↦ shown held sound i int_entry l
        | inr g ↦ subst (λ e. Shows (types_in t) i e.node) (sym (get_or_past held i int_entry g)) (get_or_past (types_in t) i int (omega (arith, long held)))
      ]

  pub count_read : (i : ℕ) → (get_or held i int_entry).count ≡ counted (type_of t i)
  count_read i =
      elim (cases_lt i (length held)) [
        | inl l ↦ t.counts i int_entry l
        | inr g ↦ ap (λ e. e.count) (get_or_past held i int_entry g) ∙ ap counted (sym (get_or_past (types_in t) i int (omega (arith, long held))))
      ]

  -- a node of the table names types that stand before it
  shown_is : (i : ℕ) (n : TypeNode) → Shows (types_in t) i n → type_of t i ≡ ty_of (types_in t) n
  shown_is i node.Int h = h
  shown_is i node.Bool h = h
  shown_is i (node.Pair a b) h = h.2
  shown_is i (node.List a) h = h.1

  shown_within : (i : ℕ) (n : TypeNode) → Shows (types_in t) i n → above n ≤ length (types_in t)
  shown_within i node.Int h = omega arith
  shown_within i node.Bool h = omega arith
  shown_within i (node.Pair a b) h = elim (cases_lt i (length (types_in t))) [ inl l ↦ omega (arith, h.0, h.1) | inr g ↦ let past = get_or_past (types_in t) i int g in let e = h.2 in cc ]
  shown_within i (node.List a) h = elim (cases_lt i (length (types_in t))) [ inl l ↦ omega (arith, h.0) | inr g ↦ let past = get_or_past (types_in t) i int g in let e = h.1 in cc ]

  pub node_decides : (i : ℕ) (m n o : TypeNode) (r : Bool) → Shows (types_in t) i m → above n ≤ length (types_in t) → ty_of (types_in t) n ≡ ty_of (types_in t) o → Decides r (m ≡ n) → Decides r (type_of t i ≡ ty_of (types_in t) o)
  node_decides i m n o r h within is d =
      (λ e. shown_is i m h ∙ ap (ty_of (types_in t)) (d.0 e) ∙ is, λ e. d.1 (same_node (types_in t) t.once m n (shown_within i m h) within (sym (shown_is i m h) ∙ e ∙ sym is)))

  -- a node that was sought among the entries es, which are the table's
  module _ (n : TypeNode) (es : List Entry) (is : es ≡ held) where
    pub node_found : (i : ℕ) → (i < length es) × NodeAt es i n → Interned (types_in t) (ty_of (types_in t) n) (types_in t) i
    node_found i at =
        let here = subst (λ xs. (i < length xs) × NodeAt xs i n) is at in stands held sound n i here.0 here.1

    module _ (absent : Missing es n) (within : above n ≤ length (types_in t)) (fs : List Entry) (count : ℕ) (right : count ≡ counted (ty_of (types_in t) n)) (more : fs ≡ held ++ record { node = n; count = count } ∷ []) where
      missing : Missing held n
      missing = subst (λ xs. Missing xs n) is absent

      above-held : above n ≤ length held
      above-held = omega (arith, within, long held)

      pub pushed_sound : Sound fs
      pushed_sound = subst Sound (sym more) (push held sound n above-held missing count right)

      pub pushed-code : (i : ℕ) → i ≡ vec_len t.entries → Interned (types_in t) (ty_of (types_in t) n) (types_of fs) i
      pushed-code i code =
          let at : length held ≡ i = omega arith in
          let added = joins held sound n above-held missing count right in
          subst (λ k. Interned (types_in t) (ty_of (types_in t) n) (types_of fs) k) at (subst (λ xs. Interned (types_in t) (ty_of (types_in t) n) (types_of xs) (length held)) (sym more) added)
