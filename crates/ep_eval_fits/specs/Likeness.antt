-- States of the same machines.
use Rattle.std.specs.Prelude.{◌≡◌, Option, IfSome}
use Rattle.ep_cells.specs.States.{Known}

pub record IsLike {N : Type 0} (k l : Known N) : Type 0 where
  pub orders : l.orders ≡ k.orders
  pub model : l.model ≡ k.model

abbrev pub IfLike : {N : Type 0} → Known N → Option (Known N) → Type 0
IfLike k l = IfSome l (IsLike k)
