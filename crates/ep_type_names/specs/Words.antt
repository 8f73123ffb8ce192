-- What the readers of a type's name answer.
use Rattle.std.specs.Prelude.{◌≡◌, ℕ, Bool, true, false, List, map, Option, Some, None, Result, Ok, Err}
use Rattle.std.specs.Global.{Vec, Box}
use Rattle.ep_ast.specs.declared.expressions.TypeWordTree.{TypeWordTree}
use Rattle.ep_ast.specs.declared.expressions.TypeNameTree.{TypeNameTree}
use Rattle.ep_ast.specs.declared.refusals.Halt.{Halt}
use Rattle.ep_ast.specs.declared.refusals.Halt.TheVariants as halts
use Rattle.ep_ast.specs.Token.{Tok}
use Rattle.ep_ast.specs.Expression.{TypeWord, type_word, TypeName, type_name}
use Rattle.ep_ast.specs.Mark.{const_word}
use Rattle.ep_ast.specs.TypeWords.{Bag, fits, OneWord, begins_type, Consts, AreStars}
use Rattle.ep_ast.specs.Reading.{Takes, TakesNone, IsSyntax, LacksWord}
use Rattle.ep_reading.specs.declared.reader.Part.{Part}
use Rattle.ep_reading.specs.Answer.{after, IsPast}
use Rattle.ep_type_names.specs.declared.words.TypeBag.{TypeBag}

abbrev pub bag : TypeBag → Bag
bag b = record {
  chars = b.chars;
  shorts = b.shorts;
  ints = b.ints;
  longs = b.longs;
  signs = b.signs;
  wholes = b.wholes;
}

-- the bag, where it fits
abbrev pub Joins : Bag → Option Bag → Type 0
Joins b (Some c) = (c ≡ b) × (fits c ≡ true)
Joins b None = fits b ≡ false

-- one word, or that none begins, or that one begins and isn't to be read
abbrev pub OneRead : (List ℕ → Bool) → List Tok → Result (Option (Part TypeWordTree)) Halt → Type 0
OneRead is_type xs (Ok (Some p)) = Takes (OneWord is_type) xs (type_word p.value) (after p)
OneRead is_type xs (Ok None) = begins_type is_type xs ≡ false
OneRead is_type xs (Err (halts.Refused f)) = TakesNone (OneWord is_type) xs × (begins_type is_type xs ≡ true)
    × IsSyntax f
OneRead is_type xs (Err halts.Memory) = Unit {0}

-- fewer tokens than so many stand behind the word
abbrev pub IsPastWord : ℕ → Option (Part TypeWordTree) → Type 0
IsPastWord n (Some p) = IsPast n p
IsPastWord n None = Unit {0}

abbrev pub words_of : Vec TypeWordTree → List TypeWord
words_of v = map type_word v.items

abbrev pub name_of : Box TypeNameTree → TypeName
name_of b = type_name b.value

-- this many `const`, and no more
abbrev pub CountsConsts : List Tok → ℕ → List Tok → Type 0
CountsConsts xs n ys = Consts xs ys n × LacksWord const_word ys

-- these stars
abbrev pub ReadsStars : List Tok → Part (Vec ℕ) → Type 0
ReadsStars xs p = Takes AreStars xs p.value.items (after p)
