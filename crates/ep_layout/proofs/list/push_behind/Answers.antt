use Rattle.ep_layout.proofs.ChainLists.{behind_is, same_back}
use Rattle.ep_layout.proofs.list.push_behind.Goals as goal

pub returns-in-Ok-clause-ok : goal.returns-in-Ok-clause-ok
returns-in-Ok-clause-ok c =
    behind_is c.args.chains.now.items c.args.chain c.args.row c.index_mut.result.now c.push.new.self c.requires c.index_mut.ensures.value c.in-Ok.ensures.items

pub returns-in-Err-clause-err : goal.returns-in-Err-clause-err
returns-in-Err-clause-err c =
    same_back c.args.chains.now.items c.args.chain c.index_mut.result.now c.push.new.self c.requires c.index_mut.ensures.value c.in-Err.ensures.items
