use Rattle.std.proofs.Common.{◌∙◌, sym, subst}
use Rattle.ep_core.proofs.Tables.{more_types}
use Rattle.std.proofs.lemmas.Result.{err_from_is_err_and}
use Rattle.ep_layout.specs.Grown.{GrownFrom}
use Rattle.ep_typing.specs.declared.types.CType.{CType}
use Rattle.ep_typing.specs.Env.{Env}
use Rattle.ep_typing.specs.Types.{c_type_number}
use Rattle.ep_elaboration.specs.Aggregates as rule
use Rattle.ep_scopes.specs.Comes.{Comes}
use Rattle.ep_scopes.specs.View.{env}
use Rattle.ep_scopes.proofs.Coming.{comes_itself, comes_types}
use Rattle.ep_declared.specs.Open.{AreTypes}
use Rattle.ep_declared.proofs.Answering.{answered, on_stop}
use Rattle.ep_declared.proofs.Growth.{follows_table}
use Rattle.ep_declared.proofs.MemberLemmas.{sized_stops, then_member, type_put, types_stay}
use Rattle.ep_declared.proofs.members.with_member.Goals as goal

pub sized_member-requires : goal.sized_member-requires
sized_member-requires c = sym c.has.ensures ∙ c.if-has.false

pub returns-in_err-sized_member-clause-means : goal.returns-in_err-sized_member-clause-means
returns-in_err-sized_member-clause-means c =
    let p = err_from_is_err_and c.from_residual-in_err-sized_member.result
    c.from_residual-in_err-sized_member.ensures.1 in
    rw (p.1, p.2) (sized_stops c.args.line (env c.args.env.now) c.args.named.now c.args.name.now c.args.c
    c.in_ok-array.array
    c.args.counts.now c.arrays_of.new.types (sym c.has.ensures
    ∙ c.if-has.false) c.in_ok-array.ensures.means _ c.in_err-sized_member.ensures.means)

pub returns-clause-means : goal.returns-clause-means
returns-clause-means c =
    then_member c.args.line (env c.args.env.now) c.args.named.now c.args.name.now c.args.c
    c.in_ok-array.array c.args.counts.now
    c.arrays_of.new.types (sym c.has.ensures ∙ c.if-has.false) c.in_ok-array.ensures.means
    ∙ c.in_ok-sized_member.ensures.means

pub returns-clause-after : goal.returns-clause-after
returns-clause-after c =
    follows_table (env c.args.env.now) c.arrays_of.new.types c.requires.known c.in_ok-array.ensures.grown
    c.in_ok-array.ensures.stay

pub returns-clause-members : goal.returns-clause-members
returns-clause-members c =
    subst (AreTypes c.arrays_of.new.types) (sym c.in_ok-sized_member.ensures.named)
    (type_put c.arrays_of.new.types c.args.named.now
    (rule.a_member c.args.name.now (c_type_number c.arrays_of.new.types c.in_ok-array.array))
    (types_stay c.args.env.now.types c.arrays_of.new.types (more_types c.args.env.now.types c.arrays_of.new.types
    c.in_ok-array.ensures.grown)
    c.args.named.now c.requires.members) c.in_ok-array.ensures.there)

pub returns-then-has-clause-comes : goal.returns-then-has-clause-comes
returns-then-has-clause-comes c = rw c.refused.ensures (comes_itself (env c.args.env.now))

pub returns-in_err-array-clause-comes : goal.returns-in_err-array-clause-comes
returns-in_err-array-clause-comes c =
    let p = err_from_is_err_and c.from_residual.result c.from_residual.ensures.1 in
    let G : Env = env c.args.env.now in
    let t = c.arrays_of.new.types in
    rw (p.1, p.2) (on_stop CType (Unit {0}) _ (GrownFrom G.types t) (Comes G (record G { types = t }))
    (comes_types G t) c.in_err-array.ensures.comes)

pub returns-in_err-sized_member-clause-comes : goal.returns-in_err-sized_member-clause-comes
returns-in_err-sized_member-clause-comes c =
    let G : Env = env c.args.env.now in
    let t = c.arrays_of.new.types in
    answered c.from_residual-in_err-sized_member.result (Comes G (record G { types = t }))
    (comes_types G t c.in_ok-array.ensures.comes)

pub returns-clause-comes : goal.returns-clause-comes
returns-clause-comes c = comes_types (env c.args.env.now) c.arrays_of.new.types c.in_ok-array.ensures.comes
