-- What is wanted, token by token, and where it is refused.
use Rattle.std.proofs.Common.{◌≡◌, ℕ, ◌+◌, ◌<◌, ◌≤◌, false, eqb, List, [], ◌∷◌, ◌++◌, length, take, drop, replicate, sym, refl, ap, ◌∙◌, subst, append_assoc, append-nil, arith, length-append}
use Rattle.std.proofs.lemmas.List.{get_or_at, get_or-take, get_or_append_left, length-take-le, take-append-drop}
use Rattle.tokens.specs.declared.kind.Kind.{Kind}
use Rattle.tokens.specs.declared.kind.Name.{Name}
use Rattle.tokens.specs.declared.kind.Token.{Token}
use Rattle.tokens.specs.Kinds.{code, end_token, kind_at}
use Rattle.refusal.specs.declared.Refusal.{Refusal}
use Rattle.grammar.specs.declared.occurrence.Operation.{Operation}
use Rattle.grammar.specs.declared.occurrence.Operation.TheVariants.{Sum}
use Rattle.grammar.specs.Tree.{Tree}
use Rattle.grammar.specs.Grammar.{joint, sums, products, Sort, programs, types, expressions, tests, chains, posts, atoms, operands, elements, Derives, by_program, by_int, by_test, by_total, by_linked, by_atom, by_name, by_operand, by_first, Program}
use Rattle.grammar.specs.Law.{refusal_at, Refuses, compared, links, indexes, items, closing, filter, no_test, no_link, no_index, no_item, no_second, no_filter, Wanted, one, a_name, a_joint, some, rest, Parses, Agree, Stands}

-- two kinds are not one
pub apart : {k l m : Kind} → k ≡ l → k ≡ m → eqb (code l) (code m) ≡ false → ⊥
apart {k} {l} {m} p q e =
    let same : eqb (code l) (code l) ≡ false = subst (λ x. eqb (code l) (code x) ≡ false) (sym q ∙ p) e in
    search (arith)

-- the name `a`
letter : Name
letter = record { bytes = 97 ∷ replicate 15 0 }

-- the fewest tokens that are a phrase of the sort
least : Sort → List Kind
least programs = Kind.Main ∷ Kind.Open ∷ Kind.Name letter ∷ Kind.Colon ∷ Kind.Int ∷ Kind.Close ∷ Kind.Colon ∷ Kind.Int ∷ Kind.Equal ∷ Kind.Name letter ∷ []
least types = Kind.Int ∷ []
least expressions = Kind.Name letter ∷ []
least tests = Kind.Name letter ∷ []
least (chains _) = Kind.Name letter ∷ []
least posts = Kind.Name letter ∷ []
least atoms = Kind.Name letter ∷ []
least operands = Kind.Open ∷ Kind.Name letter ∷ Kind.Close ∷ []
least elements = Kind.Name letter ∷ []

-- and what is wanted
least_of : Wanted → List Kind
least_of (one k) = k ∷ []
least_of a_name = Kind.Name letter ∷ []
least_of a_joint = Kind.Sum ∷ []
least_of (some s) = least s
least_of (rest compared) = []
least_of (rest (links _)) = []
least_of (rest indexes) = []
least_of (rest items) = Kind.SquareClose ∷ []
least_of (rest closing) = Kind.Close ∷ []
least_of (rest filter) = Kind.CurlyClose ∷ []

token : Kind → Token
token k = record { kind = k; at = 0; end = 0 }

tokens : List Kind → List Token
tokens [] = []
tokens (k ∷ ks) = token k ∷ tokens ks

shortest : List Wanted → List Token
shortest [] = []
shortest (w ∷ γ) = tokens (least_of w) ++ shortest γ

-- the kinds stand in the list from i on
abbrev Has : List Token → ℕ → List Kind → Type 0
Has xs i [] = Unit {0}
Has xs i (k ∷ ks) = (kind_at xs i ≡ k) × Has xs (i + 1) ks

-- how many, counted as places are
abbrev past : ℕ → List Kind → ℕ
past i [] = i
past i (_ ∷ ks) = past (i + 1) ks

has : (us : List Token) (ks : List Kind) (vs : List Token) → Has (us ++ (tokens ks ++ vs)) (length us) ks
unfolding tokens token
has us [] vs = tt
has us (k ∷ ks) vs =
    let e : (us ++ token k ∷ []) ++ (tokens ks ++ vs) ≡ us ++ token k ∷ (tokens ks ++ vs) = append_assoc us (token k ∷ []) (tokens ks ++ vs) in
    (ap (λ t. t.kind) (get_or_at us (token k) (tokens ks ++ vs) end_token (length us) refl), subst (λ n. Has (us ++ token k ∷ (tokens ks ++ vs)) n ks) (length-append us (token k ∷ [])) (subst (λ l. Has l (length (us ++ token k ∷ [])) ks) e (has (us ++ token k ∷ []) ks vs)))

past_length : (us : List Token) (ks : List Kind) → length (us ++ tokens ks) ≡ past (length us) ks
unfolding tokens
past_length us [] = ap length (append-nil us)
past_length us (k ∷ ks) = ap length (sym (append_assoc us (token k ∷ []) (tokens ks))) ∙ past_length (us ++ token k ∷ []) ks ∙ ap (λ n. past n ks) (length-append us (token k ∷ []))

-- a name is a phrase of every sort below a program
named : {xs : List Token} {i : ℕ} {n : Name} → kind_at xs i ≡ Kind.Name n → (t : Tree) × Derives xs expressions i (i + 1) t
named e = (_, by_test (by_total (by_linked (by_linked (by_atom (by_name e))))))

least_derives : {xs : List Token} {i : ℕ} (s : Sort) → Has xs i (least s) → (t : Tree) × Derives xs s i (past i (least s)) t
unfolding least
least_derives programs (a, (b, (c, (d, (e, (f, (g, (h, (k, (l, _)))))))))) = (_, by_program a b c d (by_int e) f g (by_int h) k (named l).1)
least_derives types (e, _) = (_, by_int e)
least_derives expressions (e, _) = named e
least_derives tests (e, _) = (_, by_total (by_linked (by_linked (by_atom (by_name e)))))
least_derives (chains sums) (e, _) = (_, by_linked (by_linked (by_atom (by_name e))))
least_derives (chains products) (e, _) = (_, by_linked (by_atom (by_name e)))
least_derives posts (e, _) = (_, by_atom (by_name e))
least_derives atoms (e, _) = (_, by_name e)
least_derives operands (a, (b, (c, _))) = (_, by_operand a (named b).1 c)
least_derives elements (e, _) = (_, by_first (named e).1)

-- what is wanted first, and then the others
first_of : (xs : List Token) (w : Wanted) (γ : List Wanted) (i : ℕ) → Has xs i (least_of w) → Parses xs γ (past i (least_of w)) → Parses xs (w ∷ γ) i
unfolding least_of
first_of xs (one k) γ i (e, _) h = (e, h)
first_of xs a_name γ i (e, _) h = ((letter, e), h)
first_of xs a_joint γ i (e, _) h = ((Sum, e), h)
first_of xs (some s) γ i a h = let d = least_derives s a in (_, d.0, d.1, h)
first_of xs (rest compared) γ i _ h = (i, no_test, h)
first_of xs (rest (links c)) γ i _ h = (i, no_link, h)
first_of xs (rest indexes) γ i _ h = (i, no_index, h)
first_of xs (rest items) γ i (e, _) h = (i + 1, no_item e, h)
first_of xs (rest closing) γ i (e, _) h = (i + 1, no_second e, h)
first_of xs (rest filter) γ i (e, _) h = (i + 1, no_filter e, h)

completes : (γ : List Wanted) (us : List Token) → Parses (us ++ shortest γ) γ (length us)
unfolding shortest
completes [] us = ap length (append-nil us)
completes (w ∷ γ) us =
    let ks = least_of w in
    let h = completes γ (us ++ tokens ks) in
    first_of (us ++ (tokens ks ++ shortest γ)) w γ (length us) (has us ks (shortest γ)) (subst (λ n. Parses (us ++ (tokens ks ++ shortest γ)) γ n) (past_length us ks) (subst (λ l. Parses l γ (length (us ++ tokens ks))) (append_assoc us (tokens ks) (shortest γ)) h))

agree_take : (n : ℕ) (ts rs : List Token) → n ≤ length ts → Agree n ts (take n ts ++ rs)
agree_take n ts rs le k lt = ap (λ t. t.kind) (get_or_append_left (take n ts) rs end_token k (omega (arith, length-take-le n ts le)) ∙ get_or-take n ts k end_token lt)

-- the token at hand is refused where no more can be wanted with it
pub refused : {ts : List Token} {i : ℕ} {γ : List Wanted} {f : Refusal} → Stands ts i γ → i < length ts → ((xs : List Token) → kind_at xs i ≡ kind_at ts i → Parses xs γ i → ⊥) → f ≡ refusal_at ts i → Refuses ts f
refused {ts} {i} {γ} {f} s lt never e = record {
  upto = i;
  within = lt;
  is = e;
  before = (shortest γ, s.makes (take i ts ++ shortest γ) (agree_take i ts _ (omega arith)) (subst (λ n. Parses (take i ts ++ shortest γ) γ n) (length-take-le i ts (omega arith)) (completes γ (take i ts))));
  with_it = λ b.
      let same = agree_take (i + 1) ts b.0 (omega arith) in
      never (take (i + 1) ts ++ b.0) (same i (omega arith)) (s.only (take (i + 1) ts ++ b.0) same b.1);
}

-- what is wanted, in other words
pub expand : {ts : List Token} {i : ℕ} {γ γ' : List Wanted} → Stands ts i γ → ((xs : List Token) → Parses xs γ' i → Parses xs γ i) → ((xs : List Token) → kind_at xs i ≡ kind_at ts i → Parses xs γ i → Parses xs γ' i) → Stands ts i γ'
expand {ts} {i} s back forth = record {
  makes = λ xs a h. s.makes xs a (back xs h);
  only = λ xs a h. forth xs (a i (omega arith)) (s.only xs a h);
}

pub passed : {ts : List Token} {i : ℕ} {k : Kind} {γ : List Wanted} → kind_at ts i ≡ k → Stands ts i (one k ∷ γ) → Stands ts (i + 1) γ
passed {ts} {i} e s = record {
  makes = λ xs a h. s.makes xs (λ k lt. a k (omega arith)) (a i (omega arith) ∙ e, h);
  only = λ xs a h. (s.only xs (λ k lt. a k (omega arith)) h).1;
}

-- any name, any operation: the one that is there
pub this_name : {ts : List Token} {i : ℕ} {n : Name} {γ : List Wanted} → kind_at ts i ≡ Kind.Name n → Stands ts i (a_name ∷ γ) → Stands ts i (one (Kind.Name n) ∷ γ)
this_name {n = n} e s = expand s (λ xs h. ((n, h.0), h.1)) (λ xs same h. (same ∙ e, h.1))

pub this_joint : {ts : List Token} {i : ℕ} {γ : List Wanted} → (o : Operation) → kind_at ts i ≡ joint o → Stands ts i (a_joint ∷ γ) → Stands ts i (one (joint o) ∷ γ)
this_joint o e s = expand s (λ xs h. ((o, h.0), h.1)) (λ xs same h. (same ∙ e, h.1))

pub lacks : {ts : List Token} {i : ℕ} {k : Kind} {γ : List Wanted} {f : Refusal} → i < length ts → (kind_at ts i ≡ k → ⊥) → f ≡ refusal_at ts i → Stands ts i (one k ∷ γ) → Refuses ts f
lacks lt never e s = refused s lt (λ xs same h. never (sym same ∙ h.0)) e

pub lacks_name : {ts : List Token} {i : ℕ} {γ : List Wanted} {f : Refusal} → i < length ts → ((n : Name) → kind_at ts i ≡ Kind.Name n → ⊥) → f ≡ refusal_at ts i → Stands ts i (a_name ∷ γ) → Refuses ts f
lacks_name lt never e s = refused s lt (λ xs same h. never h.0.0 (sym same ∙ h.0.1)) e

pub lacks_joint : {ts : List Token} {i : ℕ} {γ : List Wanted} {f : Refusal} → i < length ts → ((o : Operation) → kind_at ts i ≡ joint o → ⊥) → f ≡ refusal_at ts i → Stands ts i (a_joint ∷ γ) → Refuses ts f
lacks_joint lt never e s = refused s lt (λ xs same h. never h.0.0 (sym same ∙ h.0.1)) e

-- what is refused is no program
pub refused_none : {ts : List Token} {f : Refusal} → Refuses ts f → Program ts → ⊥
refused_none {ts} r p = r.with_it (drop (r.upto + 1) ts, subst Program (sym (take-append-drop (r.upto + 1) ts)) p)
