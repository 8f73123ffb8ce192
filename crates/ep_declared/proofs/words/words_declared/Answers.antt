use Rattle.std.proofs.Common.{map}
use Rattle.ep_ast.specs.Expression.{type_word}
use Rattle.ep_scopes.specs.View.{env}
use Rattle.ep_declared.proofs.Growth.{follows_more, type_known}
use Rattle.ep_declared.proofs.ObjectLemmas.{type_follows, word_known, words_follow}
use Rattle.ep_scopes.proofs.Coming.{comes_on}
use Rattle.ep_declared.proofs.Coming.{come_answered, type_left, words_left}
use Rattle.ep_declared.proofs.words.words_declared.Goals as goal

pub add_type-requires : goal.add_type-requires
add_type-requires c =
    let one = words_follow (env c.args.env.now) (env c.mention_words.new.env) (map type_word c.args.words.now)
    c.in_ok-mention_words.ensures c.requires in
    word_known (env c.mention_words.new.env) (map type_word c.args.words.now) c.in_ok-c.c one.known c.in_ok-c.ensures

pub returns-clause-known : goal.returns-clause-known
returns-clause-known c =
    let one = words_follow (env c.args.env.now) (env c.mention_words.new.env) (map type_word c.args.words.now)
    c.in_ok-mention_words.ensures c.requires in
    let two = type_follows (env c.mention_words.new.env) c.add_type.new.types c.in_ok-c.c c.in_ok-add_type.ensures
    one.known in
    two.known

pub returns-clause-inside : goal.returns-clause-inside
returns-clause-inside c =
    let one = words_follow (env c.args.env.now) (env c.mention_words.new.env) (map type_word c.args.words.now)
    c.in_ok-mention_words.ensures c.requires in
    let two = type_follows (env c.mention_words.new.env) c.add_type.new.types c.in_ok-c.c c.in_ok-add_type.ensures
    one.known in
    type_known c.mention_words.new.env.types c.add_type.new.types two.grown c.in_ok-c.c
    (word_known (env c.mention_words.new.env) (map type_word c.args.words.now) c.in_ok-c.c one.known c.in_ok-c.ensures)

pub returns-clause-grown : goal.returns-clause-grown
returns-clause-grown c =
    let one = words_follow (env c.args.env.now) (env c.mention_words.new.env) (map type_word c.args.words.now)
    c.in_ok-mention_words.ensures c.requires in
    let two = type_follows (env c.mention_words.new.env) c.add_type.new.types c.in_ok-c.c c.in_ok-add_type.ensures
    one.known in
    let all = follows_more (env c.args.env.now) (env c.mention_words.new.env) (record (env c.mention_words.new.env) {
      types = c.add_type.new.types;
    }) one two in
    all.grown

pub returns-clause-stay : goal.returns-clause-stay
returns-clause-stay c =
    let one = words_follow (env c.args.env.now) (env c.mention_words.new.env) (map type_word c.args.words.now)
    c.in_ok-mention_words.ensures c.requires in
    let two = type_follows (env c.mention_words.new.env) c.add_type.new.types c.in_ok-c.c c.in_ok-add_type.ensures
    one.known in
    let all = follows_more (env c.args.env.now) (env c.mention_words.new.env) (record (env c.mention_words.new.env) {
      types = c.add_type.new.types;
    }) one two in
    all.stay

pub returns-in_err-c-clause-comes : goal.returns-in_err-c-clause-comes
returns-in_err-c-clause-comes c =
    come_answered c.from_residual-in_err-c.result (env c.args.env.now) (env c.mention_words.new.env)
    (words_left (env c.args.env.now) (env c.mention_words.new.env)
    (map type_word c.args.words.now) c.in_ok-mention_words.ensures)

pub returns-clause-comes : goal.returns-clause-comes
returns-clause-comes c =
    comes_on (env c.args.env.now) (env c.mention_words.new.env) (record (env c.mention_words.new.env) {
      types = c.add_type.new.types;
    }) (words_left (env c.args.env.now) (env c.mention_words.new.env)
    (map type_word c.args.words.now) c.in_ok-mention_words.ensures)
    (type_left (env c.mention_words.new.env) c.add_type.new.types c.in_ok-c.c c.in_ok-add_type.ensures)
