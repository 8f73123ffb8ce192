-- What is asked of a report, as the definition has it.
use Rattle.endport.specs.declared.report.CheckAsked.{CheckAsked}
use Rattle.endport.specs.declared.prove.ProveAsked.{ProveAsked}
use Rattle.endport.specs.Certificates.{plainly}
use Rattle.endport.specs.Check.{Asked}

abbrev pub asked_for : CheckAsked → Asked
asked_for a = record {
  model = a.model;
  left = a.orders.0;
  right = a.orders.1;
  unroll = a.unroll;
  known_bits = a.known_bits;
}

abbrev pub proof_asked_for : ProveAsked → Asked
proof_asked_for a = plainly a.unroll a.orders a.model
