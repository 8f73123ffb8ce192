use Rattle.std.proofs.Common.{map, sym, subst}
use Rattle.ep_ast.specs.Expression.{type_name, type_word}
use Rattle.ep_typing.specs.Types.{with_c_type}
use Rattle.ep_scopes.specs.Known.{IsKnownEnv}
use Rattle.ep_scopes.specs.View.{env, scopes}
use Rattle.ep_scopes.proofs.KnownLemmas.{named_known, on_known, type_greater, words_known}
use Rattle.ep_scopes.proofs.names.mention_name.Goals as goal

pub add_type-requires : goal.add_type-requires
add_type-requires c =
    let k = subst IsKnownEnv (sym c.in_ok-mention_words.ensures) (words_known (env c.args.env.now) (map type_word c.deref.result.now) c.requires) in
    named_known (env c.mention_words.new.env) (type_name c.args.name.now) c.in-Ok.c k c.in-Ok.ensures

pub returns-in-Ok-clause-known : goal.returns-in-Ok-clause-known
returns-in-Ok-clause-known c =
    let k = subst IsKnownEnv (sym c.in_ok-mention_words.ensures) (words_known (env c.args.env.now) (map type_word c.deref.result.now) c.requires) in
    on_known c.add_type.result c.mention_words.new.env.types c.add_type.new.types (with_c_type c.mention_words.new.env.types c.in-Ok.c)
    (scopes c.mention_words.new.env.scopes) c.add_type.ensures (type_greater c.mention_words.new.env.types c.in-Ok.c) k

pub returns-in-Err-Refused-clause-known : goal.returns-in-Err-Refused-clause-known
returns-in-Err-Refused-clause-known c =
    subst IsKnownEnv (sym c.in_ok-mention_words.ensures) (words_known (env c.args.env.now) (map type_word c.deref.result.now) c.requires)
