-- Tokens, without where they lie in memory.
use Rattle.std.specs.Prelude.{ℕ, List, map}
use Rattle.ep_ast.specs.Token as token
use Rattle.ep_ast.specs.Token.{Tok}
use Rattle.ep_ast.specs.Mark.{mark_number, word_number}
use Rattle.ep_lexer.specs.declared.tokens.Token.{Token}
use Rattle.ep_lexer.specs.declared.tokens.Tokens.{Tokens}
use Rattle.ep_lexer.specs.declared.tokens.TokenKind.{TokenKind}
use Rattle.ep_lexer.specs.declared.tokens.TokenKind.TheVariants as kinds

abbrev pub at_view : ℕ → TokenKind → Tok
at_view l (kinds.Word n) = token.word l (word_number n)
at_view l (kinds.Name v) = token.name l v.now
at_view l (kinds.Number n) = token.number l n
at_view l (kinds.Mark n) = token.mark l (mark_number n)
at_view l kinds.IfLittle = token.if_little l
at_view l kinds.IfBig = token.if_big l
at_view l kinds.Other = token.other l
at_view l kinds.EndIf = token.end_if l

abbrev pub view : Token → Tok
view t = at_view t.line t.what

abbrev pub all_view : Tokens → List Tok
all_view ts = map view ts.list.items
