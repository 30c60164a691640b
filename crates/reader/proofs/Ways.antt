-- The way of the reader from one state to a later one.
use Rattle.std.proofs.Common.{◌≡◌, ℕ, ◌+◌, ◌-◌, ◌*◌, ◌<◌, false, List, [], ◌∷◌, ◌++◌, length, take, drop, IsErrAnd, vec_items, vec_len, Result, sym, refl, ap, ◌∙◌, subst, append_assoc, append-nil, arith, length-append, MatchResult}
use Rattle.std.proofs.lemmas.List.{take_at, drop_at}
use Rattle.std.proofs.lemmas.Result.{err_from_is_err_and}
use Rattle.tokens.specs.declared.kind.Kind.{Kind}
use Rattle.tokens.specs.declared.kind.Name.{Name}
use Rattle.tokens.specs.Kinds.{kind_at}
use Rattle.refusal.specs.declared.Refusal.{Refusal}
use Rattle.grammar.specs.declared.occurrence.Operation.{Operation}
use Rattle.grammar.specs.declared.occurrence.Occurrence.{Occurrence}
use Rattle.grammar.specs.Tree.{Tree, occs}
use Rattle.grammar.specs.Grammar.{joint, Sort, types, expressions, operands, Derives}
use Rattle.grammar.specs.Law.{Refuses, Wanted, one, a_name, a_joint, some, rest, Tail, items, Stands, Free, extends}
use Rattle.grammar.proofs.Wanting.{passed, this_name, this_joint}
use Rattle.grammar.proofs.Follow.{free_token, free_types, free_operands}
use Rattle.reader.specs.declared.parser.Parser.{Parser}
use Rattle.reader.specs.Steps.{Kept, Moved, Took, Turned, Way, Into, Read, Stops, Loops, Counts}

-- the exit of a `?`
pub fails : {T E : Type 0} (r : Result T E) (P : T → Type 0) (Q : E → Type 0) {f : E} → IsErrAnd r (λ y. y ≡ f) → Q f → MatchResult r P Q
fails r P Q e h =
    let y = err_from_is_err_and r e in
    subst (λ x. MatchResult x P Q) (sym y.1) (subst Q (sym y.2) h)

pub same_state : {p : Parser} → Kept p p
same_state = record { tokens = refl; lender = refl; capacity = refl }

pub kept_on : {p q r : Parser} → Kept p q → Kept q r → Kept p r
kept_on a b = record { tokens = b.tokens ∙ a.tokens; lender = b.lender ∙ a.lender; capacity = b.capacity ∙ a.capacity }

-- a token that stood at a place of the way
pub kind_on : {xs : List Occurrence} {p q r : Parser} {k : Kind} → Kept p q → Took k xs q r → kind_at p.tokens.now q.at ≡ k
kind_on {q = q} {k = k} a t = subst (λ x. kind_at x.now q.at ≡ k) a.tokens t.was

-- a phrase, seen from an earlier state
pub phrase_on : {s : Sort} {p q r : Parser} → Kept p q → (h : Read s q r) → Derives p.tokens.now s q.at r.at h.tree
phrase_on {s = s} {q = q} {r = r} a h = subst (λ x. Derives x.now s q.at r.at h.tree) a.tokens h.derives

stands_to : {p q : Parser} {i : ℕ} {γ : List Wanted} → Kept p q → Stands p.tokens.now i γ → Stands q.tokens.now i γ
stands_to {i = i} {γ = γ} a s = subst (λ x. Stands x.now i γ) (sym a.tokens) s

stands_from : {p q : Parser} {i : ℕ} {γ : List Wanted} → Kept p q → Stands q.tokens.now i γ → Stands p.tokens.now i γ
stands_from {i = i} {γ = γ} a s = subst (λ x. Stands x.now i γ) a.tokens s

pub start : {f : Wanted} {us : List Wanted} {p : Parser} → Way f us us 0 [] p p
start = record { kept = same_state; grown = sym (append-nil _); few = omega arith; stands = λ γ free s. s }

-- what is wanted, in other words
pub turn_to : {f : Wanted} {us vs ws : List Wanted} {n : ℕ} {xs : List Occurrence} {p q : Parser} → Way f us vs n xs p q → ((γ : List Wanted) → Free f γ → Stands p.tokens.now q.at (vs ++ γ) → Stands p.tokens.now q.at (ws ++ γ)) → Way f us ws n xs p q
turn_to w g = record { kept = w.kept; grown = w.grown; few = w.few; stands = λ γ free s. g γ free (w.stands γ free s) }

-- a step, and what is wanted after it
step : {f : Wanted} {us vs ws : List Wanted} {n m : ℕ} {xs ys : List Occurrence} {p q r : Parser} → (k : ℕ) → Way f us vs n xs p q → Moved m ys q r → k + length ys ≡ n + m → ((γ : List Wanted) → Stands p.tokens.now q.at (vs ++ γ) → Stands p.tokens.now (q.at + m) (ws ++ γ)) → Way f us ws k (xs ++ ys) p r
step {ws = ws} {m = m} {xs = xs} {ys = ys} {p = p} {q = q} k w a e g = record {
  kept = kept_on w.kept a.kept;
  grown = a.items ∙ ap (λ l. l ++ ys) w.grown ∙ append_assoc _ xs ys;
  few = omega (arith, w.few, a.place, length-append xs ys);
  stands = λ γ free s. subst (λ i. Stands p.tokens.now i (ws ++ γ)) (sym a.place) (g γ (w.stands γ free s));
}

pub take_on : {f : Wanted} {us ws : List Wanted} {n : ℕ} {xs : List Occurrence} {p q r : Parser} {k : Kind} → Way f us (one k ∷ ws) n xs p q → Took k [] q r → Way f us ws (n + 1) xs p r
take_on {f} {us} {ws} {n} {xs} {p} {r = r} w t = subst (λ l. Way f us ws (n + 1) l p r) (append-nil xs) (step (n + 1) w t.moved (omega arith) (λ γ s. passed (kind_on w.kept t) s))

pub mark_on : {f : Wanted} {us ws : List Wanted} {n : ℕ} {xs : List Occurrence} {p q r : Parser} {k : Kind} {x : Occurrence} → Way f us (one k ∷ ws) n xs p q → Took k (x ∷ []) q r → Way f us ws n (xs ++ x ∷ []) p r
mark_on {n = n} w t = step n w t.moved (omega arith) (λ γ s. passed (kind_on w.kept t) s)

pub push_on : {f : Wanted} {us ws : List Wanted} {n : ℕ} {xs : List Occurrence} {p q r : Parser} {x : Occurrence} → Way f us ws n xs p q → Moved 0 (x ∷ []) q r → 0 < n → Way f us ws (n - 1) (xs ++ x ∷ []) p r
push_on {ws = ws} {n = n} {p = p} {q = q} w a lt = step (n - 1) w a (omega arith) (λ γ s. subst (λ i. Stands p.tokens.now i (ws ++ γ)) (omega arith) s)

pub name_on : {f : Wanted} {us ws : List Wanted} {n : ℕ} {xs : List Occurrence} {p q r : Parser} {m : Name} → Way f us (a_name ∷ ws) n xs p q → Took (Kind.Name m) [] q r → Way f us ws (n + 1) xs p r
name_on w t = take_on (turn_to w (λ γ free. this_name (kind_on w.kept t))) t

pub joint_on : {f : Wanted} {us ws : List Wanted} {n : ℕ} {xs : List Occurrence} {p q r : Parser} → (o : Operation) → Way f us (a_joint ∷ ws) n xs p q → Took (joint o) [] q r → Way f us ws (n + 1) xs p r
joint_on o w t = take_on (turn_to w (λ γ free. this_joint o (kind_on w.kept t))) t

-- a way, and then one over a part of what is wanted
pub joined : {f g v : Wanted} {us vs ws : List Wanted} {n m : ℕ} {xs ys : List Occurrence} {p q r : Parser} → Way f us (v ∷ ws) n xs p q → ((γ : List Wanted) → Free f γ → Free g (ws ++ γ)) → Way g (v ∷ []) vs m ys q r → Way f us (vs ++ ws) (n + m) (xs ++ ys) p r
joined {vs = vs} {ws = ws} {xs = xs} {ys = ys} {p = p} {r = r} w free a = record {
  kept = kept_on w.kept a.kept;
  grown = a.grown ∙ ap (λ l. l ++ ys) w.grown ∙ append_assoc _ xs ys;
  few = omega (arith, w.few, a.few, length-append xs ys);
  stands = λ γ h s. subst (λ l. Stands p.tokens.now r.at l) (sym (append_assoc vs ws γ)) (stands_from w.kept (a.stands (ws ++ γ) (free γ h) (stands_to w.kept (w.stands γ h s))));
}

pub read_on : {f : Wanted} {us ws : List Wanted} {n : ℕ} {xs : List Occurrence} {p q r : Parser} {s : Sort} → Way f us (some s ∷ ws) n xs p q → ((γ : List Wanted) → Free f γ → Free (some s) (ws ++ γ)) → (h : Read s q r) → Way f us ws (n + 0) (xs ++ occs h.tree) p r
read_on w free h = joined w free h.way

-- an expression, and then a token that ends it
pub read_then : {f : Wanted} {us ws : List Wanted} {n : ℕ} {xs : List Occurrence} {p q r : Parser} {k : Kind} → Way f us (some expressions ∷ one k ∷ ws) n xs p q → extends expressions k ≡ false → (h : Read expressions q r) → Way f us (one k ∷ ws) (n + 0) (xs ++ occs h.tree) p r
read_then w e h = read_on w (λ γ free. free_token _ expressions _ e) h

-- a type or an operand, whatever follows
pub type_on : {f : Wanted} {us ws : List Wanted} {n : ℕ} {xs : List Occurrence} {p q r : Parser} → Way f us (some types ∷ ws) n xs p q → (h : Read types q r) → Way f us ws (n + 0) (xs ++ occs h.tree) p r
type_on w h = read_on w (λ γ free. free_types _) h

pub operand_on : {f : Wanted} {us ws : List Wanted} {n : ℕ} {xs : List Occurrence} {p q r : Parser} → Way f us (some operands ∷ ws) n xs p q → (h : Read operands q r) → Way f us ws (n + 0) (xs ++ occs h.tree) p r
operand_on w h = read_on w (λ γ free. free_operands _) h

pub loop_on : {f : Wanted} {us ws : List Wanted} {n : ℕ} {xs : List Occurrence} {p q r : Parser} {s : Sort} {t : Tail} → Way f us (rest t ∷ ws) n xs p q → ((γ : List Wanted) → Free f γ → Free (some s) (ws ++ γ)) → (h : Loops s t q r) → Way f us (rest t ∷ ws) (n + 0) (xs ++ h.added) p r
loop_on w free h = joined w free h.way

pub count_on : {f : Wanted} {us ws : List Wanted} {n m k : ℕ} {xs : List Occurrence} {p q r : Parser} → Way f us (rest items ∷ ws) n xs p q → (h : Counts m k q r) → Way f us (rest items ∷ ws) (n + 0) (xs ++ h.added) p r
count_on w h = joined w (λ γ free. tt) h.way

rolled : (base xs ys : List Occurrence) (m k : ℕ) → length base ≡ m → length xs ≡ k → take m (base ++ (xs ++ ys)) ++ drop k (drop m (base ++ (xs ++ ys))) ++ take k (drop m (base ++ (xs ++ ys))) ≡ base ++ (ys ++ xs)
rolled base xs ys m k e f =
    let a = take_at base (xs ++ ys) m e in
    let b = drop_at base (xs ++ ys) m e in
    let c = drop_at xs ys k f in
    let d = take_at xs ys k f in
    cc (append_assoc base ys xs)

-- the first occurrences of the way go to its end
pub turned_on : {f : Wanted} {us ws : List Wanted} {n m k : ℕ} {p q r : Parser} → (xs ys : List Occurrence) → Way f us ws n (xs ++ ys) p q → Turned m k q r → m ≡ vec_len p.table.now → k ≡ length xs → Way f us ws n (ys ++ xs) p r
turned_on {ws = ws} {m = m} {k = k} {p = p} xs ys w b e l =
    let base = vec_items p.table.now in
    let same : length base ≡ m = omega (arith, p.table.now.ok.0, e) in record {
      kept = kept_on w.kept b.kept;
      grown = b.items ∙ ap (λ l. take m l ++ drop k (drop m l) ++ take k (drop m l)) w.grown ∙ rolled base xs ys m k same (sym l);
      few = omega (arith, w.few, b.place, length-append xs ys, length-append ys xs);
      stands = λ γ free s. subst (λ i. Stands p.tokens.now i (ws ++ γ)) (sym b.place) (w.stands γ free s);
    }

-- a token that is not there changes nothing
pub same_on : {f : Wanted} {us ws : List Wanted} {n : ℕ} {xs : List Occurrence} {p q r : Parser} → Way f us ws n xs p q → r ≡ q → Way f us ws n xs p r
same_on {f} {us} {ws} {n} {xs} {p} w e = subst (λ x. Way f us ws n xs p x) (sym e) w

-- the table has grown by the occurrences
pub long : {f : Wanted} {us ws : List Wanted} {n : ℕ} {xs : List Occurrence} {p q : Parser} → Way f us ws n xs p q → vec_len q.table.now ≡ vec_len p.table.now + length xs
long {xs = xs} {p = p} {q = q} w = omega (arith, q.table.now.ok.0, p.table.now.ok.0, ap length w.grown, length-append (vec_items p.table.now) xs)

-- what is left to read, and the rank of the phrase at hand
abbrev pub left : Parser → ℕ → ℕ
left p r = 16 * (length p.tokens.now - p.at) + r

-- a phrase stops where a part of it does
pub stopped : {v w : Wanted} {ws : List Wanted} {n : ℕ} {xs : List Occurrence} {p q r : Parser} {f : Refusal} → Way v (v ∷ []) (w ∷ ws) n xs p q → ((γ : List Wanted) → Free v γ → Free w (ws ++ γ)) → Stops w q r f → Stops v p r f
stopped {ws = ws} {f = f} a free h = record { kept = kept_on a.kept h.kept; refuses = λ γ g s. subst (λ x. Refuses x.now f) a.kept.tokens (h.refuses (ws ++ γ) (free γ g) (stands_to a.kept (a.stands γ g s))) }

-- a token was wanted
pub stopped_at : {v : Wanted} {k : Kind} {ws : List Wanted} {n : ℕ} {xs : List Occurrence} {p q r : Parser} {f : Refusal} → Way v (v ∷ []) (one k ∷ ws) n xs p q → Stops (one k) q r f → Stops v p r f
stopped_at a h = stopped a (λ γ free. tt) h

-- an expression, and then a token that ends it
pub stopped_then : {v : Wanted} {k : Kind} {ws : List Wanted} {n : ℕ} {xs : List Occurrence} {p q r : Parser} {f : Refusal} → Way v (v ∷ []) (some expressions ∷ one k ∷ ws) n xs p q → extends expressions k ≡ false → Stops (some expressions) q r f → Stops v p r f
stopped_then a shut h = stopped a (λ γ free. free_token _ expressions _ shut) h

-- a type or an operand, whatever follows
pub stopped_type : {v : Wanted} {ws : List Wanted} {n : ℕ} {xs : List Occurrence} {p q r : Parser} {f : Refusal} → Way v (v ∷ []) (some types ∷ ws) n xs p q → Stops (some types) q r f → Stops v p r f
stopped_type a h = stopped a (λ γ free. free_types _) h

pub stopped_operand : {v : Wanted} {ws : List Wanted} {n : ℕ} {xs : List Occurrence} {p q r : Parser} {f : Refusal} → Way v (v ∷ []) (some operands ∷ ws) n xs p q → Stops (some operands) q r f → Stops v p r f
stopped_operand a h = stopped a (λ γ free. free_operands _) h

pub fewer : {f : Wanted} {us ws : List Wanted} {n : ℕ} {xs : List Occurrence} {p q : Parser} → Way f us ws n xs p q → Way f us ws 0 xs p q
fewer w = record { kept = w.kept; grown = w.grown; few = omega (arith, w.few); stands = w.stands }

-- the way was over a phrase
pub reads : {n : ℕ} {xs : List Occurrence} {p q : Parser} {s : Sort} → (t : Tree) → Derives p.tokens.now s p.at q.at t → Into s [] n xs p q → xs ≡ occs t → Read s p q
reads {p = p} {q = q} {s = s} t d w e = record { tree = t; derives = d; way = subst (λ l. Into s [] 0 l p q) e (fewer w) }
