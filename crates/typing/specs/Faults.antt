-- The number and the place of each refusal.
use Rattle.std.specs.Prelude.{ℕ}
use Rattle.refusal.specs.declared.Refusal.{Refusal}
use Rattle.typing.specs.declared.fault.CheckFault.{CheckFault}
use Rattle.typing.specs.declared.fault.CheckFault.TheVariants.{UnknownName, Unfit, TooLarge, WrongResult, TooHeavy}
use Rattle.typing.specs.declared.misfit.Misfit.{Misfit}
use Rattle.typing.specs.declared.misfit.Misfit.TheVariants as misfit

abbrev pub of_check : CheckFault → Refusal
of_check (UnknownName p) = record { number = 5; place = p }
of_check (Unfit p) = record { number = 6; place = p }
of_check (TooLarge p) = record { number = 7; place = p }
of_check WrongResult = record { number = 8; place = 0 }
of_check TooHeavy = record { number = 9; place = 0 }

-- an occurrence that is refused at this place
abbrev pub misfit_at : ℕ → Misfit → Refusal
misfit_at p misfit.UnknownName = record { number = 5; place = p }
misfit_at p misfit.Unfit = record { number = 6; place = p }
misfit_at p misfit.TooLarge = record { number = 7; place = p }
