use Rattle.std.proofs.Common.{◌∙◌, ap, subst, sym, take, List}
use Rattle.ep_layout.specs.declared.table.AggregateEntry.{AggregateEntry}
use Rattle.ep_layout.specs.Grown.{CameFrom}
use Rattle.ep_layout.specs.Table.{Table}
use Rattle.ep_layout.specs.TableInvariant.{table_of}
use Rattle.ep_layout.proofs.Grown.{kept_back, table_back}
use Rattle.ep_layout.proofs.Sizes.{target_before}
use Rattle.ep_layout.proofs.table.Types.rewind.Goals as goal

pub truncate-requires-3 : goal.truncate-requires-3
truncate-requires-3 c = target_before (table_of c.self.inside) c.self.invariant.built

pub invariant_of-self : goal.invariant_of-self
invariant_of-self c =
    kept_back c.args.mark c.self.inside c.truncate-3.new.self c.truncate-2.new.self c.truncate.new.self c.reopen_behind.new.completed
    (record {
      types = c.truncate-3.ensures;
      extents = c.truncate-2.ensures.items;
      aggregates = c.truncate.ensures.items ∙ ap (λ (l : List AggregateEntry). take c.args.mark.aggregates l) c.reopen_behind.ensures.aggregates;
      completed = c.reopen_behind.ensures.completed;
    })
    c.self.invariant c.requires.0 (subst (λ (u : Table). CameFrom c.args.mark c.requires.0 u) (sym c.self.view_is) c.requires.1)

pub returns : goal.returns
returns c = λ t from.
    table_back c.args.mark c.self.inside c.truncate-3.new.self c.truncate-2.new.self c.truncate.new.self c.reopen_behind.new.completed
    (record {
      types = c.truncate-3.ensures;
      extents = c.truncate-2.ensures.items;
      aggregates = c.truncate.ensures.items ∙ ap (λ (l : List AggregateEntry). take c.args.mark.aggregates l) c.reopen_behind.ensures.aggregates;
      completed = c.reopen_behind.ensures.completed;
    })
    t (subst (λ (u : Table). CameFrom c.args.mark t u) (sym c.self.view_is) from)
