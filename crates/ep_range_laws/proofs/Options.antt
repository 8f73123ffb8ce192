-- Values that may be there.
use Rattle.std.specs.Prelude.{◌≡◌, Option, Some, None, IsSome, IsSomeAnd, IfSome, refl}
use Rattle.std.specs.Option.{option_and_then, unwrap_or}
use Rattle.std.proofs.Common.{sym, ◌∙◌, subst}

pub then_some : {X Y : Type 0} (P : X → Type 0) (Q : Y → Type 0) (o : Option X) (k : X → Option Y) → IsSomeAnd o P → ((x : X) → P x → IsSomeAnd (k x) Q) → IsSomeAnd (option_and_then k o) Q
then_some P Q None k h go = absurd h
then_some P Q (Some x) k h go = go x h

pub then_if : {X Y : Type 0} (P : X → Type 0) (Q : Y → Type 0) (o : Option X) (k : X → Option Y) → IfSome o P → ((x : X) → P x → IfSome (k x) Q) → IfSome (option_and_then k o) Q
then_if P Q None k h go = tt
then_if P Q (Some x) k h go = go x h

pub then_none : {X Y : Type 0} (P : X → Type 0) (o : Option X) (k : X → Option Y) → IfSome o P → ((x : X) → P x → k x ≡ None) → option_and_then k o ≡ None
then_none P None k h go = refl
then_none P (Some x) k h go = go x h

pub weaken : {X : Type 0} (P Q : X → Type 0) (o : Option X) → IsSomeAnd o P → ((x : X) → P x → Q x) → IsSomeAnd o Q
weaken P Q None h go = absurd h
weaken P Q (Some x) h go = go x h

pub to_if : {X : Type 0} (P : X → Type 0) (o : Option X) → IsSomeAnd o P → IfSome o P
to_if P None h = absurd h
to_if P (Some x) h = h

-- two facts of one value
pub both_if : {X : Type 0} (P Q : X → Type 0) (o : Option X) → IsSomeAnd o P → IfSome o Q → IsSomeAnd o (λ x. P x × Q x)
both_if P Q None h k = absurd h
both_if P Q (Some x) h k = (h, k)

pub default_holds : {X : Type 0} (P : X → Type 0) (o : Option X) (d : X) → IsSomeAnd o P → P (unwrap_or o d)
default_holds P None d h = absurd h
default_holds P (Some x) d h = h

pub default_if : {X : Type 0} (P : X → Type 0) (o : Option X) (d : X) → IfSome o P → P d → P (unwrap_or o d)
default_if P None d h k = k
default_if P (Some x) d h k = h

pub always : {X : Type 0} (P : X → Type 0) (o : Option X) → ((x : X) → P x) → IfSome o P
always P None h = tt
always P (Some x) h = h x

-- a default is not needed where there is a value
pub default_unused : {X : Type 0} (o : Option X) (d x : X) → o ≡ Some x → x ≡ unwrap_or o d
default_unused None d x e = absurd cc
default_unused (Some y) d x e = cc

pub some_from : {X : Type 0} (P : X → Type 0) (o n : Option X) → n ≡ o → IsSomeAnd o P → IsSome n
some_from P None n e h = absurd h
some_from P (Some x) n e h = subst IsSome (sym e) refl

pub unwrapped : {X : Type 0} (o n : Option X) (d x : X) → n ≡ o → n ≡ Some x → x ≡ unwrap_or o d
unwrapped o n d x e h = default_unused o d x (sym e ∙ h)
