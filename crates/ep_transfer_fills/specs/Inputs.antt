-- The number of an input.
use Rattle.ep_int.specs.declared.types.IntType.{IntType}
use Rattle.ep_int.specs.declared.types.Scalar.{Scalar}
use Rattle.ep_int.specs.declared.types.Scalar.TheVariants.{Int, Pointer}
use Rattle.ep_domain.specs.Domain.{Ops}

-- any number of its type, as one of the type that it goes to
abbrev pub input_number : {N : Type 0} → Ops N → IntType → Scalar → N
input_number D t (Int u) = D.convert (D.top t) u
input_number D t Pointer = D.top t
