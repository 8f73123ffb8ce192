-- What forms have to be for operators to take them.
use Rattle.std.specs.Prelude.{◌≡◌, List, Option, None, Some, IfSome}
use Rattle.ep_int.specs.declared.types.IntType.{IntType}
use Rattle.ep_int.specs.Types.{bits_of}
use Rattle.ep_bitslice.specs.declared.segment.Segment.{Segment}
use Rattle.ep_bitslice.specs.Segments.{width}

-- the form, if there is one, is as wide as the type
abbrev pub IsWide : IntType → Option (List Segment) → Type 0
IsWide t f = IfSome f (λ ss. width ss ≡ bits_of t)

-- as wide as the type, if there is one
abbrev pub IsWideIf : Option IntType → Option (List Segment) → Type 0
IsWideIf None f = Unit {0}
IsWideIf (Some t) f = IsWide t f
