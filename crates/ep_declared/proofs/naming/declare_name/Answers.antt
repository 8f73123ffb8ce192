use Rattle.std.proofs.Common.{List, subst, sym}
use Rattle.ep_typing.specs.Env.{Scope}
use Rattle.ep_scopes.specs.Known.{AreKnownScopes}
use Rattle.ep_scopes.specs.View as view
use Rattle.ep_declared.proofs.NameLemmas.{free_here, name_known}
use Rattle.ep_declared.proofs.naming.declare_name.Goals as goal

pub declare-requires : goal.declare-requires
declare-requires c = free_here c.args.name.now (view.scopes c.args.env.now.scopes) c.requires.free

pub returns-in-Ok-clause-known : goal.returns-in-Ok-clause-known
returns-in-Ok-clause-known c k h =
    subst (λ (ss : List Scope). AreKnownScopes c.args.env.now.types ss) (sym c.in-Ok.ensures)
    (name_known c.args.env.now.types (view.scopes c.args.env.now.scopes) c.args.name.now (view.meaning c.args.meaning)
    k h)
