-- What calls do to the bytes that a source has left and to those that a sink was given, where these
-- tell them: `None` tells nothing (this project's rule).
use Rattle.std.specs.Prelude.{◌≡◌, ℕ, ◌<◌, List, [], ◌++◌, length, take, Option, option_map, IfSome}

-- the bytes left after a call are those before it without these at the front
abbrev pub Taken : Option (List ℕ) → List ℕ → Option (List ℕ) → Type 0
Taken before bytes after = before ≡ option_map (λ left. bytes ++ left) after

-- some bytes at the front were taken
abbrev pub SomeTaken : Option (List ℕ) → Option (List ℕ) → Type 0
SomeTaken before after = (bytes : List ℕ) × Taken before bytes after

-- no bytes are left
abbrev pub NoneLeft : Option (List ℕ) → Type 0
NoneLeft left = IfSome left (λ bytes. bytes ≡ [])

-- the bytes written after a call are those before it with these at the end
abbrev pub Appended : Option (List ℕ) → List ℕ → Option (List ℕ) → Type 0
Appended before bytes after = after ≡ option_map (λ written. written ++ bytes) before

-- a front of the text was appended, and not the whole
abbrev pub FrontAppended : Option (List ℕ) → List ℕ → Option (List ℕ) → Type 0
FrontAppended before text after = (n : ℕ) × (n < length text) × Appended before (take n text) after
