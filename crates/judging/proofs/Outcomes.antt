-- Outcomes one after the other.
use Rattle.std.proofs.Common.{◌≡◌, ◌≤◌, List, refl}
use Rattle.types.specs.Types.{Ty, parts}
use Rattle.grammar.specs.Tree.{Tree}
use Rattle.lang.specs.Scope.{Binding, kinds}
use Rattle.lang.specs.Typing.{HasType}
use Rattle.lang.specs.Laws.{Small}
use Rattle.lang.specs.Outcome.{Out, ok, refused, then}
use Rattle.lang.specs.Elaborate.{Typed, elaborate}
use Rattle.lang.proofs.Sound.{Holds, sound}
use Rattle.lang.proofs.Small.{small}

pub then_assoc : {A B C : Type 0} (m : Out A) (f : A → Out B) (g : B → Out C) → then (then m f) g ≡ then m (λ a. then (f a) g)
then_assoc (ok a) f g = refl
then_assoc (refused r) f g = refl

-- what follows an answer, where something holds of the answer and of what is made of it
pub then-holding : {A B C : Type 0} (P : A → Type 0) (Q : B → Type 0) (m : Out A) (f : A → Out B) (g : B → Out C) (h : A → Out C) →
    Holds P m → Holds Q (then m f) → ((a : A) → P a → Holds Q (f a) → h a ≡ then (f a) g) → then m h ≡ then (then m f) g
then-holding P Q (ok a) f g h p q k = k a p q
then-holding P Q (refused r) f g h p q k = refl

pub holds_map : {A : Type 0} (P Q : A → Type 0) (m : Out A) → Holds P m → ((a : A) → P a → Q a) → Holds Q m
holds_map P Q (ok a) h k = k a h
holds_map P Q (refused r) h k = tt

-- an expression whose type has at most 8 parts
abbrev pub Slim : {Γ : List Ty} → Typed Γ → Type 0
Slim x = parts x.0 ≤ 8

pub slim : (e : Tree) (s : List Binding) → Small s → Holds (Slim {Γ = kinds s}) (elaborate e s)
slim e s h = holds_map (λ x. HasType s e x.0) (Slim {Γ = kinds s}) (elaborate e s) (sound e s) λ x k. small s e x.0 h k
