use Rattle.ep_words.specs.View as view
use Rattle.endport.proofs.Asked.{named_ok, named_within, named_stop, named_end, is_named, free_ok, free_within}
use Rattle.endport.proofs.Asked.{free_end, free_stop}
use Rattle.endport.proofs.top.asked_job.Goals as goal

pub returns-in-Some-clause-ok : goal.returns-in-Some-clause-ok
returns-in-Some-clause-ok g c =
    named_ok (view.command c.args.command.now) _ c.in-Some.file.now c.read_and_do.result c.in-Some.ensures
    c.read_and_do.ensures.ok

pub returns-in-Some-clause-within : goal.returns-in-Some-clause-within
returns-in-Some-clause-within g c =
    named_within (view.command c.args.command.now) _ c.in-Some.file.now c.read_and_do.result c.in-Some.ensures
    c.read_and_do.ensures.within

pub returns-in-Some-clause-end : goal.returns-in-Some-clause-end
returns-in-Some-clause-end g c = named_end c.read_and_do.result _ _ c.read_and_do.ensures.end

pub returns-in-Some-clause-stop : goal.returns-in-Some-clause-stop
returns-in-Some-clause-stop g c =
    named_stop (view.command c.args.command.now) _ c.in-Some.file.now c.read_and_do.result c.in-Some.ensures _ _
    c.read_and_do.ensures.stop

pub returns-in-Some-clause-unread : goal.returns-in-Some-clause-unread
returns-in-Some-clause-unread g c = λ n. absurd (is_named _ c.in-Some.ensures n)

pub returns-in-Some-clause-memory : goal.returns-in-Some-clause-memory
returns-in-Some-clause-memory g c = λ n. absurd (is_named _ c.in-Some.ensures n)

pub returns-in-None-clause-ok : goal.returns-in-None-clause-ok
returns-in-None-clause-ok g c =
    free_ok (view.command c.args.command.now) _ c.in-None.ensures c.unread_job.result c.unread_job.ensures.ok

pub returns-in-None-clause-within : goal.returns-in-None-clause-within
returns-in-None-clause-within g c =
    free_within (view.command c.args.command.now) _ c.in-None.ensures c.unread_job.result

pub returns-in-None-clause-end : goal.returns-in-None-clause-end
returns-in-None-clause-end g c =
    free_end (view.command c.args.command.now) c.in-None.ensures c.unread_job.result _

pub returns-in-None-clause-stop : goal.returns-in-None-clause-stop
returns-in-None-clause-stop g c =
    free_stop (view.command c.args.command.now) _ c.in-None.ensures c.unread_job.result _ _ c.unread_job.ensures.memory
