-- What a longest run of a class says of its bytes and its ends.
use Rattle.std.proofs.Common.{◌≡◌, ℕ, ◌+◌, ◌-◌, ◌<◌, ◌≤◌, true, false, List, length, get_or, drop, Some, None, Option, MatchOption, sym, refl, ap, ◌∙◌, ⊎_elim, arith, length-drop}
use Rattle.std.specs.List.{HoldsAt, AllWithin}
use Rattle.std.proofs.lemmas.List.Edits.{get_or-between, length-between}
use Rattle.std.proofs.lemmas.List.{get_or_past, get_or-drop}
use Rattle.std.proofs.lemmas.Bool.{cases_lt, cases_order, both_ways}
use Rattle.tokens.specs.declared.byte.Class.{Class}
use Rattle.tokens.specs.declared.byte.Class.TheVariants.{Blank, InName, Digit}
use Rattle.tokens.specs.Bytes.{in_class, Run, part, AllIn}

zero_in_none : (p : Class) → in_class p 0 ≡ false
zero_in_none Blank = refl
zero_in_none InName = refl
zero_in_none Digit = refl

-- no byte of a class stands past the end
pub past_stops : (p : Class) (bs : List ℕ) (e : ℕ) → length bs ≤ e → in_class p (get_or bs e 0) ≡ false
past_stops p bs e h = ap (in_class p) (get_or_past bs e 0 h) ∙ zero_in_none p

-- where a byte of a class stands, the text has not ended
pub in_text : (p : Class) (bs : List ℕ) (i : ℕ) → in_class p (get_or bs i 0) ≡ true → i < length bs
in_text p bs i h = ⊎_elim (λ lt. lt) (λ le. absurd (both_ways _ (past_stops p bs i le) h)) (cases_lt i (length bs))

-- a run from a byte of its class is not empty
pub not_empty : {p : Class} {bs : List ℕ} {i e : ℕ} → Run p bs i e → in_class p (get_or bs i 0) ≡ true → i < e
not_empty {p} {bs} {i} {e} r h =
    ⊎_elim (λ lt. lt) (λ le. let same : e ≡ i = omega (arith, r.from) in absurd (both_ways _ (ap (λ k. in_class p (get_or bs k 0)) (sym same) ∙ r.stops) h)) (cases_lt i e)

-- no run ends before another from the same place
not_before : {p : Class} {bs : List ℕ} {i e f : ℕ} → Run p bs i e → Run p bs i f → e < f → ⊥
not_before {e = e} r s lt = both_ways _ r.stops (s.all e r.from lt)

-- a place has one longest run
pub run-same : {p : Class} {bs : List ℕ} {i e f : ℕ} → Run p bs i e → Run p bs i f → e ≡ f
run-same {e = e} {f = f} r s = ⊎_elim (λ same. same) (λ apart. absurd (⊎_elim (not_before r s) (not_before s r) apart)) (cases_order e f)

pub run_length : {p : Class} {bs : List ℕ} {i e : ℕ} → Run p bs i e → length (part bs i e) ≡ e - i
run_length {bs = bs} {i = i} {e = e} r = length-between bs i e r.within

-- the bytes of a run are of its class
pub run_bytes : {p : Class} {bs : List ℕ} {i e : ℕ} → Run p bs i e → AllIn p (part bs i e)
run_bytes {p} {bs} {i} {e} r = λ k h.
    let lt : i + k < e = omega (arith, run_length r) in
    ap (in_class p) (get_or-between bs i e k 0 lt) ∙ r.all (i + k) (omega arith) lt

-- a run ends at the first byte of another class
inside : (p : Class) (bs : List ℕ) (i k : ℕ) → i ≤ k → in_class p (get_or (drop i bs) (k - i) 0) ≡ true → in_class p (get_or bs k 0) ≡ true
inside p bs i k le h =
    let same : i + (k - i) ≡ k = omega arith in
    ap (λ m. in_class p (get_or bs m 0)) (sym same) ∙ ap (in_class p) (sym (get_or-drop i bs (k - i) 0)) ∙ h

pub ended : (p : Class) (bs : List ℕ) (i e : ℕ) (o : Option ℕ) → i ≤ length bs → MatchOption o (AllWithin (λ b. in_class p b ≡ true) (drop i bs) 0 (length (drop i bs))) (λ n. (n < length (drop i bs)) × HoldsAt (λ b. in_class p b ≡ false) (drop i bs) n × AllWithin (λ b. in_class p b ≡ true) (drop i bs) 0 n) → MatchOption o (e ≡ length bs) (λ n. e ≡ i + n) → Run p bs i e
ended p bs i e None le h r = record {
  from = omega arith;
  within = omega arith;
  all = λ k low high. inside p bs i k low (h (k - i) 0 (omega arith) (simp length-drop (omega arith)));
  stops = past_stops p bs e (omega arith);
}
ended p bs i e (Some n) le h r = record {
  from = omega arith;
  within = omega (arith, length-drop i bs);
  all = λ k low high. inside p bs i k low (h.2 (k - i) 0 (omega arith) (omega arith));
  stops = ap (in_class p) (ap (λ k. get_or bs k 0) r ∙ sym (get_or-drop i bs n 0)) ∙ h.1 0;
}
