use Rattle.std.proofs.Common.{◌∙◌}
use Rattle.ep_sample.proofs.Pieces.{pieces}
use Rattle.ep_sample.proofs.sample.push_byte.Goals as goal

pub returns : goal.returns
returns c = pieces c.extend_from_slice-3.result c.args.text.now.items _ _ c.in_ok-extend_from_slice.ensures.items
    c.in_ok-extend_from_slice-2.ensures.items (c.as_bytes.ensures.value ∙ c.format.ensures.text)
    c.extend_from_slice-3.ensures.items
