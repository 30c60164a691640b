-- Digits are worth no more than with others behind them.
use Rattle.std.proofs.Common.{◌≡◌, ℕ, zero, suc, ◌+◌, ◌-◌, ◌*◌, ◌<◌, ◌≤◌, List, [], ◌∷◌, fold, length, take, get_or, arith}
use Rattle.std.proofs.lemmas.List.Sums.{fold_more}
use Rattle.tokens.specs.Numbers.{worth}

abbrev next : ℕ → ℕ → ℕ
next a d = 10 * a + (d - 48)

grown : (a : ℕ) (ds : List ℕ) → a ≤ fold next a ds
grown a [] = omega arith
grown a (d ∷ ds) = omega (arith, grown (next a d) ds)

begun : (a n : ℕ) (ds : List ℕ) → fold next a (take n ds) ≤ fold next a ds
begun a zero ds = grown a ds
begun a (suc n) [] = omega arith
begun a (suc n) (d ∷ ds) = begun (next a d) n ds

pub worth_grows : (ds : List ℕ) (n : ℕ) → worth (take n ds) ≤ worth ds
worth_grows ds n = begun 0 n ds

pub worth_more : (ds : List ℕ) (n : ℕ) → n < length ds → worth (take (n + 1) ds) ≡ 10 * worth (take n ds) + (get_or ds n 0 - 48)
worth_more ds n lt = fold_more next 0 ds n 0 lt
