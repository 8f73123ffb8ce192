-- Fills of bytes (C11 7.24.6.1p2).
use Rattle.std.specs.Prelude.{ℕ}
use Rattle.ep_core.specs.Program.{Expr, Simple, fill}

pub data IsFill : Simple → Type 0 where
  is_fill : (to byte : Expr) (n : ℕ) → IsFill (fill to byte n)
