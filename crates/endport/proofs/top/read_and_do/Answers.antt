use Rattle.endport.proofs.top.read_and_do.Goals as goal

pub returns-clause-ok : goal.returns-clause-ok
returns-clause-ok g c = record {
  bytes = c.in_ok-bytes.bytes.items;
  are = c.in_ok-bytes.ensures.bytes;
  is_job = rw (← c.deref.ensures.value) c.in_ok-done.ensures.ok;
}
