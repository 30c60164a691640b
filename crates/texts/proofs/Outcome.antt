-- Reading a whole text.
use Rattle.std.proofs.Common.{◌≡◌, ℕ, ◌+◌, ◌<◌, ◌≤◌, List, [], ◌++◌, length, drop, sym, ap, ◌∙◌, subst, append-nil, arith}
use lib.Seq.{sets, sets-eq}
use Rattle.std.proofs.Math.Seq.{length-sets}
use Rattle.std.proofs.lemmas.List.{take_all}
use Rattle.monoid.specs.declared.int.Int.{Int}
use Rattle.types.specs.Types.{Ty}
use Rattle.lang.specs.Values.{size}
use Rattle.lang.specs.Layout.{cells}
use Rattle.texts.specs.declared.reader.Reader.{Reader}
use Rattle.texts.specs.Outcome.{IsValue, Oversized}
use Rattle.values.specs.Reading.{ReadsFront, NoText}
use Rattle.texts.specs.Texts.{value_text}
use Rattle.texts.proofs.Phrases.{ValueRead, ValueStops}
use Rattle.texts.proofs.Types.{value_same, cells-size}

pub whole_stops : (t : Ty) (from : Reader) (p : ℕ) → from.at ≡ 0 → ValueStops t from p → NoText (value_text t) from.text.now p
whole_stops t from p at_start stop =
    let long : stop.long ≡ p = omega (arith, stop.end) in
    let is = rw (at_start, long) at stop.is in
    record { none = λ v e. is.none v (length from.text.now) (take_all (length from.text.now) from.text.now (omega arith) ∙ e); longest = is.longest }

module _ (t : Ty) (from to : Reader) (reads : ValueRead t from to) (at_start : from.at ≡ 0) (none_used : from.used ≡ 0) where
  front : ReadsFront (value_text t) from.text.now reads.value to.at
  front =
      let end : reads.long ≡ to.at = omega (arith, reads.moved.end) in
      subst (λ n. ReadsFront (value_text t) from.text.now reads.value n) end (rw at_start at reads.is)

  pub more_follows : to.at < length from.text.now → NoText (value_text t) from.text.now to.at
  more_follows less = record {
    none = λ v e. front.longest.beyond (length from.text.now) less (omega arith) (
        record { value = v; rest = []; is = sym (append-nil _ ∙ take_all (length from.text.now) from.text.now (omega arith) ∙ e) }
        );
    longest = front.longest;
  }

  module _ (all : length from.text.now ≤ to.at) where
    text_is : from.text.now ≡ value_text t reads.value
    text_is = sym (take_all to.at from.text.now all) ∙ front.is

    sized : to.used ≡ size t reads.value
    sized = omega (arith, reads.moved.used, cells-size t reads.value)

    same_room : length to.cells.now ≡ length from.cells.now
    same_room = ap length reads.moved.stored ∙ length-sets from.cells.now from.used (cells t reads.value)

    pub too_large : length to.cells.now < to.used → Oversized t from.text.now (length from.cells.now)
    too_large over = record { value = reads.value; is = text_is; over = omega (arith, sized, same_room) }

    pub whole_value : to.used ≤ length to.cells.now → (after : List Int) → after ≡ to.cells.now → IsValue t from.text.now to.used from.cells.now after
    whole_value fits after lent = record {
      value = reads.value;
      is = text_is;
      only = λ other e. value_same t other reads.value (sym e ∙ text_is);
      sized = sized;
      stored =
          let so : 0 + length (cells t reads.value) ≡ to.used = omega (arith, sized, cells-size t reads.value) in
          lent ∙ reads.moved.stored ∙ ap (λ i. sets from.cells.now i (cells t reads.value)) none_used
          ∙ sets-eq (cells t reads.value) from.cells.now 0 (omega (arith, so, same_room)) ∙ ap (λ n. cells t reads.value ++ drop n from.cells.now) so;
    }
