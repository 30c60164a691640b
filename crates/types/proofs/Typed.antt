-- The types of entries, as one entry comes after the other.
use Rattle.std.proofs.Common.{◌≡◌, ℕ, zero, suc, ◌+◌, ◌<◌, ◌≤◌, List, [], ◌∷◌, ◌++◌, length, get_or, sym, refl, ap, ◌∙◌, add-zero, zero-add, arith}
use Rattle.std.proofs.lemmas.List.{length_push, get_or_push, get_or_append_left}
use Rattle.types.specs.declared.node.TypeNode.{TypeNode}
use Rattle.types.specs.declared.node.TypeNode.TheVariants as node
use Rattle.types.specs.declared.node.Entry.{Entry}
use Rattle.types.specs.Types.{Ty, int, list}
use Rattle.types.specs.Entries.{ty_of, types_after, types_of, above, Alike}
use Rattle.types.specs.Table.{Shows}

-- a type put at the end leaves the others
pub push_kept : (ts : List Ty) (t : Ty) (k : ℕ) → k < length ts → get_or (ts ++ t ∷ []) k int ≡ get_or ts k int
push_kept ts t k h = get_or_append_left ts (t ∷ []) int k h

pub length_after : (ts : List Ty) (es : List Entry) → length (types_after ts es) ≡ length ts + length es
unfolding types_after
length_after ts [] = sym (add-zero (length ts))
length_after ts (e ∷ es) =
    let t = ty_of ts e.node in omega (arith, length_after (ts ++ t ∷ []) es, length_push ts t)

pub after_kept : (ts : List Ty) (es : List Entry) (k : ℕ) → k < length ts → get_or (types_after ts es) k int ≡ get_or ts k int
unfolding types_after
after_kept ts [] k h = refl
after_kept ts (e ∷ es) k h =
    let t = ty_of ts e.node in
    let more : k < length (ts ++ t ∷ []) = omega (arith, length_push ts t) in
    after_kept (ts ++ t ∷ []) es k more ∙ push_kept ts t k h

pub after_push : (ts : List Ty) (es : List Entry) (e : Entry) → types_after ts (es ++ e ∷ []) ≡ types_after ts es ++ ty_of (types_after ts es) e.node ∷ []
unfolding types_after
after_push ts [] e = refl
after_push ts (f ∷ es) e = after_push (ts ++ ty_of ts f.node ∷ []) es e

-- a node's type rests on the types that it names
pub ty_of_kept : (us ts : List Ty) (n : TypeNode) (m : ℕ) → above n ≤ m → ((k : ℕ) → k < m → get_or us k int ≡ get_or ts k int) → ty_of us n ≡ ty_of ts n
ty_of_kept us ts node.Int m h kept = refl
ty_of_kept us ts node.Bool m h kept = refl
ty_of_kept us ts (node.Pair a b) m h kept =
    let left = kept a (omega arith) in
    let right = kept b (omega arith) in
    cc
ty_of_kept us ts (node.List a) m h kept = ap list (kept a (omega arith))

pub at_after : (ts : List Ty) (es : List Entry) (i : ℕ) (d : Entry) → i < length es → above (get_or es i d).node ≤ length ts + i → get_or (types_after ts es) (length ts + i) int ≡ ty_of (types_after ts es) (get_or es i d).node
unfolding types_after
at_after ts [] i d h below = absurd (omega arith)
at_after ts (e ∷ es) zero d h below =
    let t = ty_of ts e.node in
    let us = ts ++ t ∷ [] in
    let long : length us ≡ suc (length ts) = omega (arith, length_push ts t) in
    let here : get_or (types_after us es) (length ts) int ≡ t = after_kept us es (length ts) (omega arith) ∙ get_or_push ts t int (length ts) refl in
    let same : ty_of (types_after us es) e.node ≡ t = ty_of_kept (types_after us es) ts e.node (length ts) (omega arith) (λ k l. after_kept us es k (omega arith) ∙ push_kept ts t k l) in
    rw add-zero (here ∙ sym same)
at_after ts (e ∷ es) (suc i) d h below =
    let t = ty_of ts e.node in
    let us = ts ++ t ∷ [] in
    let place : length ts + suc i ≡ length us + i = omega (arith, length_push ts t) in
    ap (λ k. get_or (types_after us es) k int) place ∙ at_after us es i d (omega arith) (omega arith)

pub long : (es : List Entry) → length (types_of es) ≡ length es
long es = length_after [] es ∙ zero-add (length es)

pub typed : (es : List Entry) (i : ℕ) (d : Entry) → i < length es → above (get_or es i d).node ≤ i → get_or (types_of es) i int ≡ ty_of (types_of es) (get_or es i d).node
typed es i d h below = ap (λ k. get_or (types_of es) k int) (sym (zero-add i)) ∙ at_after [] es i d h (omega arith)

pub pushed : (es : List Entry) (e : Entry) → types_of (es ++ e ∷ []) ≡ types_of es ++ ty_of (types_of es) e.node ∷ []
pushed es e = after_push [] es e

pub shows : (ts : List Ty) (i : ℕ) (n : TypeNode) → above n ≤ i → get_or ts i int ≡ ty_of ts n → Shows ts i n
shows ts i node.Int h e = e
shows ts i node.Bool h e = e
shows ts i (node.Pair a b) h e = (omega arith, omega arith, e)
shows ts i (node.List a) h e = (omega arith, e)

-- where no type stands twice, two nodes of one type are the same
module _ (ts : List Ty) (once : (i j : ℕ) → Alike ts i j → i ≡ j) where
  codes : (a b : ℕ) → a < length ts → b < length ts → get_or ts a int ≡ get_or ts b int → a ≡ b
  codes a b h l e = once a b (record { left = h; right = l; same = e })

  pub same_node : (m n : TypeNode) → above m ≤ length ts → above n ≤ length ts → ty_of ts m ≡ ty_of ts n → m ≡ n
  same_node node.Int node.Int h l e = refl
  same_node node.Int node.Bool h l e = cc
  same_node node.Int (node.Pair c d) h l e = cc
  same_node node.Int (node.List c) h l e = cc
  same_node node.Bool node.Int h l e = cc
  same_node node.Bool node.Bool h l e = refl
  same_node node.Bool (node.Pair c d) h l e = cc
  same_node node.Bool (node.List c) h l e = cc
  same_node (node.Pair a b) node.Int h l e = cc
  same_node (node.Pair a b) node.Bool h l e = cc
  same_node (node.Pair a b) (node.Pair c d) h l e =
      let left = codes a c (omega arith) (omega arith) (cc) in
      let right = codes b d (omega arith) (omega arith) (cc) in
      cc
  same_node (node.Pair a b) (node.List c) h l e = cc
  same_node (node.List a) node.Int h l e = cc
  same_node (node.List a) node.Bool h l e = cc
  same_node (node.List a) (node.Pair c d) h l e = cc
  same_node (node.List a) (node.List c) h l e = let element = codes a c (omega arith) (omega arith) (cc) in cc
