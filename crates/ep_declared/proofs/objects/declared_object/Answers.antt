use Rattle.std.proofs.Common.{◌∙◌, sym}
use Rattle.std.proofs.lemmas.Result.{err_from_is_err_and}
use Rattle.ep_scopes.specs.View.{env}
use Rattle.ep_declared.proofs.Growth.{follows_more, follows_table, table_known}
use Rattle.ep_declared.proofs.ObjectLemmas.{object_stops, then_object}
use Rattle.ep_declared.proofs.objects.declared_object.Goals as goal

pub sized_object-requires : goal.sized_object-requires
sized_object-requires c = record {
  free = sym c.is_taken.ensures ∙ c.if-is_taken.false;
  known = table_known (env c.args.env.now) c.arrays_of.new.types c.in_ok-array.ensures.grown c.requires.known;
  inside = c.in_ok-array.ensures.inside;
}

pub returns-clause-after : goal.returns-clause-after
returns-clause-after c =
    follows_more (env c.args.env.now) (record (env c.args.env.now) { types = c.arrays_of.new.types }) (env
    c.sized_object.new.env)
    (follows_table (env c.args.env.now) c.arrays_of.new.types c.requires.known c.in_ok-array.ensures.grown
    c.in_ok-array.ensures.stay)
    c.in_ok-object.ensures.after

pub returns-in_err-object-clause-means : goal.returns-in_err-object-clause-means
returns-in_err-object-clause-means c =
    let p = err_from_is_err_and c.from_residual-in_err-object.result c.from_residual-in_err-object.ensures.1 in
    rw (p.1, p.2) (object_stops c.args.line (env c.args.env.now) c.args.name.now c.args.c c.in_ok-array.array
    c.args.counts.now c.arrays_of.new.types
    (sym c.is_taken.ensures ∙ c.if-is_taken.false) c.in_ok-array.ensures.means c.args.global _
    c.in_err-object.ensures.means)

pub returns-clause-means : goal.returns-clause-means
returns-clause-means c =
    then_object c.args.line (env c.args.env.now) c.args.name.now c.args.c c.in_ok-array.array c.args.counts.now
    c.arrays_of.new.types
    (sym c.is_taken.ensures ∙ c.if-is_taken.false) c.in_ok-array.ensures.means c.args.global
    ∙ c.in_ok-object.ensures.means
