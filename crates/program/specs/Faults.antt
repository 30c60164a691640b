-- The number and the place of each refusal.
use Rattle.refusal.specs.declared.Refusal.{Refusal}
use Rattle.reader.specs.Faults.{of_read}
use Rattle.typing.specs.Faults.{of_check}
use Rattle.program.specs.declared.fault.LoadFault.{LoadFault}
use Rattle.program.specs.declared.fault.LoadFault.TheVariants.{Read, Check}

abbrev pub of_load : LoadFault → Refusal
of_load (Read f) = of_read f
of_load (Check f) = of_check f
