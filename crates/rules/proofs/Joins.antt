-- All operations are monoids, if the house's is; so a scan has the joins of what stands before each place.
use Rattle.std.proofs.Common.{◌≡◌, Bool, true, false, ◌||◌, length, get_or, sym, refl, ap, ◌∙◌}
use Rattle.grammar.specs.declared.occurrence.Operation.{Operation}
use Rattle.grammar.specs.declared.occurrence.Operation.TheVariants.{Sum, Max, Or, Lin, House}
use Rattle.monoid.specs.Laws.{Laws}
use Rattle.monoid.specs.Segments.{running}
use Rattle.monoid.specs.IntsLemmas.{sum_laws, int_laws, max_laws, latest_laws, bit_or_laws}
use Rattle.monoid.specs.Semirings.{affine_laws}
use Rattle.monoid.proofs.Running.{length-running, get_or-running}
use Rattle.rules.specs.Joining.{HouseJoin, HouseLaws, joining}
use Rattle.rules.specs.Meaning.{JoinsLaw}

or_unit : (x : Bool) → (x || false) ≡ x
or_unit true = refl
or_unit false = refl

or_assoc : (x y z : Bool) → ((x || y) || z) ≡ (x || (y || z))
or_assoc true y z = refl
or_assoc false y z = refl

pub joining_laws : (H : HouseJoin) → HouseLaws H → (o : Operation) → Laws (joining H o).unit (joining H o).op
joining_laws H h Sum = sum_laws
joining_laws H h Max = max_laws
joining_laws H h Or = record { left = λ x. refl; right = or_unit; assoc = or_assoc }
joining_laws H h Lin = affine_laws int_laws
joining_laws H h House = h

pub joins_law : JoinsLaw
joins_law = record {
  houses = (latest_laws, bit_or_laws);
  monoids = joining_laws;
  scans = λ H h o xs ys k.
      let e : running (joining H o).op (joining H o).unit xs ≡ ys = cc in
      let laws = joining_laws H h o in (
        ap length (sym e) ∙ length-running laws (joining H o).unit xs,
        (λ i l. ap (λ zs. get_or zs i (joining H o).unit) (sym e) ∙ get_or-running laws xs i l),
      );
}
