-- Where faults are forgotten, to evaluate all elements together is to evaluate each by itself.
use Rattle.std.proofs.Common.{◌≡◌, ℕ, Bool, true, false, cond, not, List, [], ◌∷◌, ◌++◌, map, length, take, drop, sym, refl, ap, ◌∙◌, add-zero, arith}
use mathlib.Core.Option.{Option, none, some}
use Rattle.monoid.specs.Segments.{concat, cut}
use Rattle.lang.specs.Values.{sum_by}
use Rattle.rules.specs.Outcome.{Work, ◌>>=◌, cost, lift, all, keep}
use Rattle.rules.specs.Lists.{zip, pack, merge, count, counts, rows, cons_o, every}
use Rattle.rules.proofs.Monad.{plus-zero, bind_assoc, bind_cong, give_bind, all_cong, all_map, all-cost, plus_into, swap}

abbrev M : Type 0 → Type 0
M A = Work (Unit {0}) A

pub all_then : {A B C : Type 0} (f : A → M B) (g : B → M C) (xs : List A) → all (λ x. f x >>= g) xs ≡ (all f xs >>= λ ys. all g ys)
all_then f g [] = refl
all_then f g (x ∷ xs) =
    simp (all_then f g xs, bind_assoc, give_bind) (bind_cong (f x) λ a. swap (g a) (all f xs) (λ y ys. all g ys >>= λ zs. cost 0 (y ∷ zs)))

pub all_bind : {A B C : Type 0} (f : A → M B) (g : A → B → M C) (xs : List A) →
    all (λ x. f x >>= λ y. g x y) xs ≡ (all f xs >>= λ ys. all (λ q. g q.1 q.0) (zip ys xs))
all_bind f g [] = refl
all_bind f g (x ∷ xs) =
    simp (all_bind f g xs, bind_assoc, give_bind)
    (bind_cong (f x) λ a. swap (g x a) (all f xs) (λ y ys. all (λ q. g q.1 q.0) (zip ys xs) >>= λ zs. cost 0 (y ∷ zs)))

-- a charge after each
pub all-charge : {A B : Type 0} (f : A → M B) (n : A → B → ℕ) (xs : List A) →
    all (λ x. f x >>= λ y. cost (n x y) y) xs ≡ (all f xs >>= λ ys. cost (sum_by (λ q. n q.1 q.0) (zip ys xs)) ys)
all-charge f n [] = refl
all-charge f n (x ∷ xs) = simp (all-charge f n xs, bind_assoc, give_bind) (bind_cong (f x) λ a. simp (plus_into, add-zero))

pub all-charge_x : {A B : Type 0} (f : A → M B) (n : A → ℕ) (xs : List A) →
    all (λ x. f x >>= λ y. cost (n x) y) xs ≡ (all f xs >>= λ ys. cost (sum_by n xs) ys)
all-charge_x f n [] = refl
all-charge_x f n (x ∷ xs) = simp (all-charge_x f n xs, bind_assoc, give_bind) (bind_cong (f x) λ a. simp (plus_into, add-zero))

pub all-charge_y : {A B : Type 0} (f : A → M B) (n : B → ℕ) (xs : List A) →
    all (λ x. f x >>= λ y. cost (n y) y) xs ≡ (all f xs >>= λ ys. cost (sum_by n ys) ys)
all-charge_y f n [] = refl
all-charge_y f n (x ∷ xs) = simp (all-charge_y f n xs, bind_assoc, give_bind) (bind_cong (f x) λ a. simp (plus_into, add-zero))

lift-both : {A : Type 0} (o : Option A) (os : Option (List A)) →
    ◌≡◌ {A = M (List A)} (lift tt o >>= λ y. lift tt os >>= λ ys. cost 0 (y ∷ ys)) (lift tt (cons_o o os))
lift-both none os = refl
lift-both (some y) none = refl
lift-both (some y) (some ys) = refl

pub all-lift : {A B : Type 0} (h : A → Option B) (xs : List A) → ◌≡◌ {A = M (List B)} (all (λ x. lift tt (h x)) xs) (lift tt (every h xs))
all-lift h [] = refl
all-lift h (x ∷ xs) = rw (all-lift h xs) (lift-both (h x) (every h xs))

pub all-branch : {A B : Type 0} (a b : A → M B) (fs : List Bool) (xs : List A) →
    all (λ q. cond q.0 (a q.1) (b q.1)) (zip fs xs) ≡
    (all a (pack fs xs) >>= λ us. all b (pack (map not fs) xs) >>= λ vs. cost 0 (merge fs us vs))
all-branch a b [] xs = refl
all-branch a b (true ∷ fs) [] = refl
all-branch a b (false ∷ fs) [] = refl
all-branch a b (true ∷ fs) (x ∷ xs) = simp (all-branch a b fs xs, bind_assoc, give_bind)
all-branch a b (false ∷ fs) (x ∷ xs) =
    simp (all-branch a b fs xs, bind_assoc, give_bind)
    (swap (b x) (all a (pack fs xs)) (λ y us. all b (pack (map not fs) xs) >>= λ vs. cost 0 (y ∷ merge fs us vs)))

-- one list before the rest of its batch
keep_row : {A B C : Type 0} (f : A → M Bool) (g : A → M B) (xs zs : List A) (k : List B → List Bool → List B → M C) →
    (keep f g xs >>= λ ys. all f zs >>= λ gs. all g (pack gs zs) >>= λ vs. k ys gs vs) ≡
    (all f (xs ++ zs) >>= λ fs.
    all g (pack fs (xs ++ zs)) >>= λ vs.
    k (take (count (take (length xs) fs)) vs) (drop (length xs) fs) (drop (count (take (length xs) fs)) vs))
keep_row f g [] zs k = plus-zero _
keep_row f g (x ∷ xs) zs k =
    simp (bind_assoc, give_bind)
    (bind_cong (f x) (elim [
      | true ↦
          simp (bind_assoc, give_bind)
          (bind_cong (g x) (λ y. keep_row f g xs zs (λ ys gs vs. k (y ∷ ys) gs vs)) ∙
          swap (g x) (all f (xs ++ zs)) (λ y fs. all g (pack fs (xs ++ zs)) >>= λ vs.
          k (y ∷ take (count (take (length xs) fs)) vs) (drop (length xs) fs) (drop (count (take (length xs) fs)) vs)))
      | false ↦ keep_row f g xs zs k
    ]))

pub all_keep : {A B : Type 0} (f : A → M Bool) (g : A → M B) (xss : List (List A)) →
    all (λ xs. keep f g xs) xss ≡
    (all f (concat xss) >>= λ fs. all g (pack fs (concat xss)) >>= λ vs. cost 0 (cut vs (counts (map length xss) fs)))
all_keep f g [] = refl
all_keep f g (xs ∷ xss) =
    simp (all_keep f g xss, bind_assoc, give_bind) (keep_row f g xs (concat xss) (λ ys gs vs. cost 0 (ys ∷ cut vs (counts (map length xss) gs))))

-- the same with no test
all_row : {A B C : Type 0} (g : A → M B) (xs zs : List A) (k : List B → List B → M C) →
    (all g xs >>= λ ys. all g zs >>= λ vs. k ys vs) ≡ (all g (xs ++ zs) >>= λ vs. k (take (length xs) vs) (drop (length xs) vs))
all_row g [] zs k = plus-zero _
all_row g (x ∷ xs) zs k = simp (bind_assoc, give_bind) (bind_cong (g x) λ y. all_row g xs zs (λ ys vs. k (y ∷ ys) vs))

pub all-concat : {A B : Type 0} (g : A → M B) (xss : List (List A)) →
    all (λ xs. all g xs) xss ≡ (all g (concat xss) >>= λ vs. cost 0 (cut vs (map length xss)))
all-concat g [] = refl
all-concat g (xs ∷ xss) =
    simp (all-concat g xss, bind_assoc, give_bind) (all_row g xs (concat xss) (λ ys vs. cost 0 (ys ∷ cut vs (map length xss))))

pub keep-map : {A B C : Type 0} (k : A → B) (f : B → M Bool) (g : B → M C) (xs : List A) →
    keep (λ x. f (k x)) (λ x. g (k x)) xs ≡ keep f g (map k xs)
keep-map k f g [] = refl
keep-map k f g (x ∷ xs) = ap (λ m. f (k x) >>= λ t. cond t (g (k x) >>= λ y. m >>= λ ys. cost 0 (y ∷ ys)) m) (keep-map k f g xs)

-- The nodes
pub sum_ones : {A : Type 0} (xs : List A) → sum_by (λ x. 1) xs ≡ length xs
sum_ones [] = refl
sum_ones (x ∷ xs) = simp (sum_ones xs) (omega arith)

pub sum_zeros : {A : Type 0} (xs : List A) → sum_by (λ x. 0) xs ≡ 0
sum_zeros [] = refl
sum_zeros (x ∷ xs) = simp (sum_zeros xs)

module _ {R : Type 0} where
  pub node_leaf : {A : Type 0} (k : R → A) (ρs : List R) → ◌≡◌ {A = M (List A)} (cost (length ρs) (map k ρs)) (all (λ ρ. cost 1 (k ρ)) ρs)
  node_leaf k ρs = simp (all-cost, sum_ones)

  pub node_nil : {A : Type 0} (k : R → A) (ρs : List R) → ◌≡◌ {A = M (List A)} (cost 0 (map k ρs)) (all (λ ρ. cost 0 (k ρ)) ρs)
  node_nil k ρs = simp (all-cost, sum_zeros)

  pub node_more : {A B : Type 0} (e : R → M A) (es : R → M B) (ρs : List R) →
      (all e ρs >>= λ vs. all es ρs >>= λ us. cost 0 (zip vs us)) ≡ all (λ ρ. e ρ >>= λ v. es ρ >>= λ u. cost 0 (v, u)) ρs
  node_more e es [] = refl
  node_more e es (ρ ∷ ρs) =
      simp (← node_more e es ρs, bind_assoc, give_bind)
      (bind_cong (e ρ) λ v. swap (all e ρs) (es ρ) (λ vs u. all es ρs >>= λ us. cost 0 ((v, u) ∷ zip vs us)))

  pub node_group : {A : Type 0} (e : R → M A) (ρs : List R) → (all e ρs >>= λ vs. cost (length ρs) vs) ≡ all (λ ρ. e ρ >>= λ v. cost 1 v) ρs
  node_group e ρs = sym (all-charge_x e (λ ρ. 1) ρs ∙ simp sum_ones)

  pub node_let : {A B : Type 0} (e : R → M A) (b : A × R → M B) (n : R → ℕ) (ρs : List R) →
      (all e ρs >>= λ vs. all b (zip vs ρs) >>= λ us. cost (sum_by n ρs) us) ≡ all (λ ρ. e ρ >>= λ v. b (v, ρ) >>= λ u. cost (n ρ) u) ρs
  node_let e b n ρs = sym (
      all_cong (λ ρ. sym (bind_assoc (e ρ) (λ v. b (v, ρ)) (λ u. cost (n ρ) u))) ρs ∙
      all-charge_x (λ ρ. e ρ >>= λ v. b (v, ρ)) n ρs ∙
      simp (all_bind e (λ ρ v. b (v, ρ)) ρs, bind_assoc))

  pub node_bind : {A B : Type 0} (e : R → M A) (b : A × R → M B) (ρs : List R) →
      (all e ρs >>= λ vs. all b (zip vs ρs) >>= λ us. cost (length ρs) us) ≡ all (λ ρ. e ρ >>= λ v. b (v, ρ) >>= λ u. cost 1 u) ρs
  node_bind e b ρs = simp (← sum_ones ρs) (node_let e b (λ ρ. 1) ρs)

  pub node_op : {A B : Type 0} (e : R → M A) (h : A → Option B) (n : A → B → ℕ) (ρs : List R) →
      (all e ρs >>= λ vs. lift tt (every h vs) >>= λ us. cost (sum_by (λ q. n q.1 q.0) (zip us vs)) us) ≡
      all (λ ρ. e ρ >>= λ v. lift tt (h v) >>= λ u. cost (n v u) u) ρs
  node_op e h n ρs = sym (
      all_then e (λ v. lift tt (h v) >>= λ u. cost (n v u) u) ρs ∙
      bind_cong (all e ρs) (λ vs. all-charge (λ v. lift tt (h v)) n vs ∙ simp all-lift))

  pub node_ite : {B : Type 0} (c : R → M Bool) (a b : R → M B) (n : R → ℕ) (s : B → ℕ) (ρs : List R) →
      (all c ρs >>= λ fs.
      cost (sum_by n ρs) fs >>= λ fs.
      all a (pack fs ρs) >>= λ us. all b (pack (map not fs) ρs) >>= λ vs. cost 0 (merge fs us vs) >>= λ ws. cost (sum_by s ws) ws) ≡
      all (λ ρ. c ρ >>= λ x. cost (n ρ) x >>= λ x. cond x (a ρ) (b ρ) >>= λ v. cost (s v) v) ρs
  node_ite c a b n s ρs = sym (
      all_cong (λ ρ. simp (← bind_assoc)) ρs ∙
      all-charge_y (λ ρ. (c ρ >>= λ x. cost (n ρ) x) >>= λ x. cond x (a ρ) (b ρ)) s ρs ∙
      rw (all_bind (λ ρ. c ρ >>= λ x. cost (n ρ) x) (λ ρ x. cond x (a ρ) (b ρ)) ρs, all-charge_x c n ρs) (simp (all-branch a b, bind_assoc)))

  all-rows : {A B : Type 0} (f : A × R → M Bool) (b : A × R → M B) (xss : List (List A)) (ρs : List R) →
      all (λ q. keep (λ x. f (x, q.1)) (λ x. b (x, q.1)) q.0) (zip xss ρs) ≡
      (all f (concat (rows xss ρs)) >>= λ fs.
      all b (pack fs (concat (rows xss ρs))) >>= λ vs. cost 0 (cut vs (counts (map length (rows xss ρs)) fs)))
  all-rows f b xss ρs =
      all_cong (λ q. keep-map (λ x. (x, q.1)) f b q.0) (zip xss ρs) ∙
      sym (all_map (λ xs. keep f b xs) (λ q. map (λ x. (x, q.1)) q.0) (zip xss ρs)) ∙
      all_keep f b (rows xss ρs)

  pub node_each : {A B : Type 0} (e : R → M (List A)) (f : A × R → M Bool) (b : A × R → M B) (n : R → List A → ℕ) (s : List B → ℕ) (ρs : List R) →
      (all e ρs >>= λ xss.
      cost (sum_by (λ q. n q.1 q.0) (zip xss ρs)) xss >>= λ xss.
      all f (concat (rows xss ρs)) >>= λ fs.
      all b (pack fs (concat (rows xss ρs))) >>= λ vs.
      cost 0 (cut vs (counts (map length (rows xss ρs)) fs)) >>= λ us. cost (sum_by s us) us) ≡
      all (λ ρ. e ρ >>= λ xs. cost (n ρ xs) xs >>= λ xs. keep (λ x. f (x, ρ)) (λ x. b (x, ρ)) xs >>= λ v. cost (s v) v) ρs
  node_each e f b n s ρs = sym (
      all_cong (λ ρ. simp (← bind_assoc)) ρs ∙
      all-charge_y (λ ρ. (e ρ >>= λ xs. cost (n ρ xs) xs) >>= λ xs. keep (λ x. f (x, ρ)) (λ x. b (x, ρ)) xs) s ρs ∙
      rw (
        all_bind (λ ρ. e ρ >>= λ xs. cost (n ρ xs) xs) (λ ρ xs. keep (λ x. f (x, ρ))
            (λ x. b (x, ρ)) xs) ρs,
        all-charge e n ρs,
      ) (simp (all-rows f b, bind_assoc)))

  all-rows_over : {A B : Type 0} (b : A × R → M B) (xss : List (List A)) (ρs : List R) →
      all (λ q. all (λ x. b (x, q.1)) q.0) (zip xss ρs) ≡ (all b (concat (rows xss ρs)) >>= λ vs. cost 0 (cut vs (map length (rows xss ρs))))
  all-rows_over b xss ρs =
      all_cong (λ q. sym (all_map b (λ x. (x, q.1)) q.0)) (zip xss ρs) ∙
      sym (all_map (λ xs. all b xs) (λ q. map (λ x. (x, q.1)) q.0) (zip xss ρs)) ∙
      all-concat b (rows xss ρs)

  pub node_over : {A B : Type 0} (e : R → M (List A)) (b : A × R → M B) (n : R → List A → ℕ) (s : List B → ℕ) (ρs : List R) →
      (all e ρs >>= λ xss.
      cost (sum_by (λ q. n q.1 q.0) (zip xss ρs)) xss >>= λ xss.
      all b (concat (rows xss ρs)) >>= λ vs. cost 0 (cut vs (map length (rows xss ρs))) >>= λ us. cost (sum_by s us) us) ≡
      all (λ ρ. e ρ >>= λ xs. cost (n ρ xs) xs >>= λ xs. all (λ x. b (x, ρ)) xs >>= λ v. cost (s v) v) ρs
  node_over e b n s ρs = sym (
      all_cong (λ ρ. simp (← bind_assoc)) ρs ∙
      all-charge_y (λ ρ. (e ρ >>= λ xs. cost (n ρ xs) xs) >>= λ xs. all (λ x. b (x, ρ)) xs) s ρs ∙
      rw (all_bind (λ ρ. e ρ >>= λ xs. cost (n ρ xs) xs) (λ ρ xs. all (λ x. b (x, ρ)) xs) ρs, all-charge e n ρs) (simp (all-rows_over b, bind_assoc)))
