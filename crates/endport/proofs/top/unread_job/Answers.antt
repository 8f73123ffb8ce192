use Rattle.endport.proofs.top.unread_job.Goals as goal

pub returns-clause-ok : goal.returns-clause-ok
returns-clause-ok c = record {
  bytes = c.deref.result.now;
  are = tt;
  is_job = c.in_ok-done.ensures.ok;
}
