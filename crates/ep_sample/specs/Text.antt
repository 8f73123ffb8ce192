-- What is told of a sample. This project's rules.
use Rattle.std.specs.Prelude.{ℕ, ◌+◌, ◌==◌, Bool, true, ◌&&◌, not, if◌then◌else◌, List, [], ◌∷◌, ◌++◌, codes}
use Rattle.std.specs.Prelude.{decimal}

abbrev pub newline : ℕ
newline = 10

-- how many lines there are, each with a newline at its end
abbrev pub lines_of : List ℕ → ℕ
lines_of [] = 0
lines_of (b ∷ bs) = (if b == newline then 1 else 0) + lines_of bs

-- no newline, but at the end
abbrev pub is_one_line : List ℕ → Bool
is_one_line [] = true
is_one_line (b ∷ []) = true
is_one_line (b ∷ c ∷ bs) = not (b == newline) && is_one_line (c ∷ bs)

-- the longest end of the text that is one line
abbrev pub last_line : List ℕ → List ℕ
last_line [] = []
last_line (b ∷ bs) = if is_one_line (b ∷ bs) then b ∷ bs else last_line bs

abbrev pub numbered : (name : List ℕ) → ℕ → List ℕ
numbered name n = name ++ decimal n ++ newline ∷ []

-- what the sample begins with, how many fields it has and how many lines, and the last line of the report on it
abbrev pub sample_text : (start fields : ℕ) (source report : List ℕ) → List ℕ
sample_text start fields source report =
    numbered (codes "start ") start
    ++ numbered (codes "fields ") fields
    ++ numbered (codes "lines ") (lines_of source)
    ++ last_line report
