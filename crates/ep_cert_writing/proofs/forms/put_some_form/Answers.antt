use Rattle.ep_cert_writing.proofs.Written.{form_written}
use Rattle.ep_cert_writing.proofs.forms.put_some_form.Goals as goal

pub returns : goal.returns
returns c =
    form_written c.put_segments.result c.args.form.now c.form-form.result.now c.segments.result.now c.count.result _ _ _
    c.form-form.ensures c.segments.ensures.value c.count.ensures c.in_ok-put_byte.ensures c.put_segments.ensures
