-- From rows side by side to the text that they were read from.
use Rattle.std.proofs.Common.{◌≡◌, ℕ, ◌+◌, ◌%◌, ◌^◌, List, map, length, ap, ◌∙◌, subst, ap₂}
use Rattle.std.proofs.lemmas.List.{length-map}
use Rattle.monoid.specs.Ints.{wrapped_sum}
use Rattle.monoid.specs.Segments.{cut, concat}
use Rattle.monoid.specs.declared.int.Int.{Int}
use Rattle.monoid.proofs.Segments.{cut-concat}
use Rattle.values.specs.Printing.{Printed, Short}
use Rattle.values.specs.Rows.{RowsRead}
use Rattle.values.specs.Texts.{int_text, list_text}
use Rattle.totals.specs.Totals.{IsRows, Paid, Totalled, NoRoom, totals_text}
use Rattle.totals.specs.declared.report.Report.{Report}

module _ (text : List ℕ) (ints : List Int) (lengths : List ℕ) (reads : RowsRead text ints lengths) (sums : List Int) (sums-are : sums ≡ map wrapped_sum (cut ints lengths))
    (price : ℕ → ℕ) (kept kept' : ℕ) (rises : kept' ≡ (kept + price (length ints)) % 2 ^ 64) (out out' : List ℕ) where
  is-rows : IsRows text reads.rows
  is-rows = record { is = reads.is; only = reads.only }

  all-ints : length ints ≡ length (concat reads.rows)
  all-ints = ap length reads.held.all

  paid : Paid price reads.rows kept kept'
  paid = rises ∙ ap (λ n. (kept + price n) % 2 ^ 64) all-ints

  text_is : list_text int_text sums ≡ totals_text reads.rows
  text_is = ap (list_text int_text) (sums-are ∙ ap (map wrapped_sum) (ap₂ cut reads.held.all reads.held.each ∙ cut-concat reads.rows))

  pub totalled : (report : Report) → Printed (list_text int_text sums) report.length out out' → report.players ≡ length lengths → report.games ≡ length ints → report.operations ≡ price (length ints) % 2 ^ 64
      → Totalled price kept kept' text out out' report
  totalled report printed players games operations = record {
    rows = reads.rows;
    read = is-rows;
    printed = subst (λ t. Printed t report.length out out') text_is printed;
    players = players ∙ ap length reads.held.each ∙ length-map reads.rows length;
    games = games ∙ all-ints;
    operations = operations ∙ ap (λ n. price n % 2 ^ 64) all-ints;
    paid = paid;
  }

  pub no_room : (needed : ℕ) → Short (list_text int_text sums) needed out out' → NoRoom price kept kept' text out out' needed
  no_room needed short = record { rows = reads.rows; read = is-rows; short = subst (λ t. Short t needed out out') text_is short; paid = paid }
