-- More budget changes no answer and no failure.
use Rattle.std.proofs.Common.{ℕ, ap, inl, inr, zero-le, arith}
use Rattle.rules.specs.Run.{Run}
use Rattle.rules.specs.Trace.{Trace}
use Rattle.rules.specs.Direct.{direct}
use Rattle.rules.specs.Batch.{batch}
use Rattle.rules.specs.Traces.{direct_trace, batch_trace}
use Rattle.rules.specs.Laws.{Judged, Lasting, MoreLaw}
use Rattle.rules.proofs.Traces.{batch_trace_law, direct_trace_law}

lasting : {A : Type 0} (run : ℕ → Run A) (t : Trace A) → ((B : ℕ) → Judged B 0 t (run B 0)) → Lasting run
lasting run t j = record {
  answers = λ B B' h a w k. let i = ((j B).answers a w).0 k in ((j B').answers a w).1 (i.0, i.1, omega (arith, i.2));
  failures = λ B B' h f other k. elim (((j B).refuses f).0 k) [
    | inl i ↦ absurd (other (ap (λ r. r.number) i.2))
    | inr i ↦ ((j B').refuses f).1 (inr (i.0, omega (arith, i.1)))
  ];
}

pub more_law : MoreLaw
more_law H Γ t e = (
  (λ ρ. lasting (λ B. direct H B e ρ) (direct_trace H e ρ) (λ B. direct_trace_law H B Γ t e ρ 0 zero-le)),
  (λ ρs. lasting (λ B. batch H B e ρs) (batch_trace H e ρs) (λ B. batch_trace_law H B Γ t e ρs 0 zero-le)),
)
