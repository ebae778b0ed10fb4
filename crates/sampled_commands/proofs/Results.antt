-- What holds of results.
use Rattle.std.proofs.Common.{Result, Ok, Err}
use Rattle.std.specs.Prelude.{IfOk, IfErr, OnErr}

pub ok-always : {T E : Type 0} (r : Result T E) (Q : Type 0) → Q → IfOk r (λ _. Q)
ok-always (Ok x) Q q = q
ok-always (Err e) Q q = tt

pub ok-weaker : {T E : Type 0} (P Q : T → Type 0) (r : Result T E) → ((x : T) → P x → Q x) → IfOk r P → IfOk r Q
ok-weaker P Q (Ok x) f p = f x p
ok-weaker P Q (Err e) f p = tt

pub ok-with : {T E : Type 0} (P K Q : T → Type 0) (r : Result T E) → ((x : T) → P x → K x → Q x) → IfOk r P → IfOk r K → IfOk r Q
ok-with P K Q (Ok x) f p k = f x p k
ok-with P K Q (Err e) f p k = tt

pub ok-three : {T E : Type 0} (P K L Q : T → Type 0) (r : Result T E) → ((x : T) → P x → K x → L x → Q x) → IfOk r P → IfOk r K → IfOk r L → IfOk r Q
ok-three P K L Q (Ok x) f p k l = f x p k l
ok-three P K L Q (Err e) f p k l = tt

pub ok-four : {T E : Type 0} (P K L M Q : T → Type 0) (r : Result T E) → ((x : T) → P x → K x → L x → M x → Q x) → IfOk r P → IfOk r K → IfOk r L → IfOk r M → IfOk r Q
ok-four P K L M Q (Ok x) f p k l m = f x p k l m
ok-four P K L M Q (Err e) f p k l m = tt

pub err-turned : {T E : Type 0} (P Q : E → Type 0) (r : Result T E) → ((x : E) → P x → Q x) → IfErr r P → IfErr r Q
err-turned P Q (Ok x) f p = tt
err-turned P Q (Err e) f p = f e p

pub err-on : {T E : Type 0} (r : Result T E) (Q : Type 0) → OnErr r Q → IfErr r (λ _. Q)
err-on (Ok x) Q q = tt
err-on (Err e) Q q = q

pub err-with : {T E : Type 0} (P K Q : E → Type 0) (r : Result T E) → ((x : E) → P x → K x → Q x) → IfErr r P → IfErr r K → IfErr r Q
err-with P K Q (Ok x) f p k = tt
err-with P K Q (Err e) f p k = f e p k
