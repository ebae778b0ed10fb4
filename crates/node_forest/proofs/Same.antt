-- Whether two nodes are one.
use Rattle.std.proofs.Common.{◌≡◌, refl, ap}
use mathlib.Core.Logic.{dite}
use mathlib.Core.HLevel.{Discrete, ×_discrete}
use mathlib.Core.List.{List-discrete}
use mathlib.Core.Sum.{discrete as ⊎_discrete}
use native.Mathlib.Decide.{ℕ_discrete}
use Rattle.node_forest.specs.Label.{Label, Node}
use Rattle.node_forest.specs.Codes.{kind_discrete, written, written_one}

pub discrete_by : {A B : Type 0} (f : B → A) → ((x y : B) → f x ≡ f y → x ≡ y) → Discrete A → Discrete B
discrete_by f one d = λ x y. dite (d (f x) (f y)) (λ e. yes (one x y e)) (λ n. no (λ e. n (ap f e)))

label_discrete : Discrete Label
label_discrete = discrete_by
    (λ (c : Label). (c.number, (c.kind, (c.length, (c.bytes, c.more)))))
    (λ x y e i. record { number = (e i).0; kind = (e i).1.0; length = (e i).1.1.0; bytes = (e i).1.1.1.0; more = (e i).1.1.1.1 })
    (×_discrete ℕ_discrete (×_discrete kind_discrete (×_discrete ℕ_discrete (×_discrete (List-discrete ℕ_discrete) ℕ_discrete))))

unit_discrete : Discrete (Unit {0})
unit_discrete = λ x y. yes refl

pub node_discrete : Discrete Node
node_discrete = ×_discrete label_discrete (discrete_by written written_one (List-discrete (⊎_discrete unit_discrete label_discrete)))
