-- Marks and words are told apart by their numbers.
use Rattle.std.proofs.Common.{◌≡◌, ℕ, ◌-◌, List, [], ◌∷◌, slice_index_or, refl, sym, ap, ◌∙◌}
use Rattle.ep_ast.specs.declared.marks.Mark.{Mark}
use Rattle.ep_ast.specs.declared.marks.Mark.TheVariants as marks
use Rattle.ep_ast.specs.declared.words.Word.{Word}
use Rattle.ep_ast.specs.declared.words.Word.TheVariants as words
use Rattle.ep_ast.specs.Mark.{mark_number, word_number}

abbrev all_marks : List Mark
all_marks =
    marks.LeftShiftEqual ∷ marks.RightShiftEqual ∷ marks.Arrow ∷ marks.PlusPlus ∷ marks.MinusMinus ∷
    marks.LeftShift ∷ marks.RightShift ∷ marks.LessEqual ∷ marks.GreaterEqual ∷ marks.EqualEqual ∷ marks.NotEqual ∷
    marks.AndAnd ∷ marks.BarBar ∷ marks.PlusEqual ∷ marks.MinusEqual ∷ marks.StarEqual ∷ marks.SlashEqual ∷
    marks.PercentEqual ∷ marks.AmpersandEqual ∷ marks.BarEqual ∷ marks.CaretEqual ∷ marks.LeftParen ∷
    marks.RightParen ∷ marks.LeftBracket ∷ marks.RightBracket ∷ marks.LeftBrace ∷ marks.RightBrace ∷ marks.Dot ∷
    marks.Ampersand ∷ marks.Star ∷ marks.Plus ∷ marks.Minus ∷ marks.Tilde ∷ marks.Exclamation ∷ marks.Slash ∷
    marks.Percent ∷ marks.Less ∷ marks.Greater ∷ marks.Caret ∷ marks.Bar ∷ marks.Question ∷ marks.Colon ∷
    marks.Semicolon ∷ marks.Equal ∷ marks.Comma ∷ []

abbrev mark_of : ℕ → Mark
mark_of n = slice_index_or all_marks (n - 1) marks.Comma

mark_again : (m : Mark) → mark_of (mark_number m) ≡ m
mark_again marks.LeftShiftEqual = refl
mark_again marks.RightShiftEqual = refl
mark_again marks.Arrow = refl
mark_again marks.PlusPlus = refl
mark_again marks.MinusMinus = refl
mark_again marks.LeftShift = refl
mark_again marks.RightShift = refl
mark_again marks.LessEqual = refl
mark_again marks.GreaterEqual = refl
mark_again marks.EqualEqual = refl
mark_again marks.NotEqual = refl
mark_again marks.AndAnd = refl
mark_again marks.BarBar = refl
mark_again marks.PlusEqual = refl
mark_again marks.MinusEqual = refl
mark_again marks.StarEqual = refl
mark_again marks.SlashEqual = refl
mark_again marks.PercentEqual = refl
mark_again marks.AmpersandEqual = refl
mark_again marks.BarEqual = refl
mark_again marks.CaretEqual = refl
mark_again marks.LeftParen = refl
mark_again marks.RightParen = refl
mark_again marks.LeftBracket = refl
mark_again marks.RightBracket = refl
mark_again marks.LeftBrace = refl
mark_again marks.RightBrace = refl
mark_again marks.Dot = refl
mark_again marks.Ampersand = refl
mark_again marks.Star = refl
mark_again marks.Plus = refl
mark_again marks.Minus = refl
mark_again marks.Tilde = refl
mark_again marks.Exclamation = refl
mark_again marks.Slash = refl
mark_again marks.Percent = refl
mark_again marks.Less = refl
mark_again marks.Greater = refl
mark_again marks.Caret = refl
mark_again marks.Bar = refl
mark_again marks.Question = refl
mark_again marks.Colon = refl
mark_again marks.Semicolon = refl
mark_again marks.Equal = refl
mark_again marks.Comma = refl

pub same_mark : (a b : Mark) → mark_number a ≡ mark_number b → a ≡ b
same_mark a b e = sym (mark_again a) ∙ ap mark_of e ∙ mark_again b

abbrev all_words : List Word
all_words =
    words.Break ∷ words.Char ∷ words.Const ∷ words.Continue ∷ words.Do ∷ words.Else ∷ words.For ∷ words.If ∷
    words.Inline ∷ words.Int ∷ words.Long ∷ words.Return ∷ words.Short ∷ words.Signed ∷ words.Sizeof ∷
    words.Static ∷ words.Struct ∷ words.Typedef ∷ words.Union ∷ words.Unsigned ∷ words.Void ∷ words.While ∷ []

abbrev word_of : ℕ → Word
word_of n = slice_index_or all_words (n - 1) words.While

word_again : (w : Word) → word_of (word_number w) ≡ w
word_again words.Break = refl
word_again words.Char = refl
word_again words.Const = refl
word_again words.Continue = refl
word_again words.Do = refl
word_again words.Else = refl
word_again words.For = refl
word_again words.If = refl
word_again words.Inline = refl
word_again words.Int = refl
word_again words.Long = refl
word_again words.Return = refl
word_again words.Short = refl
word_again words.Signed = refl
word_again words.Sizeof = refl
word_again words.Static = refl
word_again words.Struct = refl
word_again words.Typedef = refl
word_again words.Union = refl
word_again words.Unsigned = refl
word_again words.Void = refl
word_again words.While = refl

pub same_word : (a b : Word) → word_number a ≡ word_number b → a ≡ b
same_word a b e = sym (word_again a) ∙ ap word_of e ∙ word_again b
