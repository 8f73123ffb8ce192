-- Copies of bytes (C11 7.24.2.1p2).
use Rattle.std.specs.Prelude.{ℕ}
use Rattle.ep_core.specs.Program.{Expr, Simple, copy_bytes}

pub data IsByteCopy : Simple → Type 0 where
  is_byte_copy : (to from : Expr) (n : ℕ) → IsByteCopy (copy_bytes to from n)
