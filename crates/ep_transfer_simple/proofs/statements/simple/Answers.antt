use Rattle.std.proofs.Common.{ap}
use Rattle.ep_core.specs.ProgramView.{program_view}
use Rattle.ep_core.specs.View.{what_view}
use Rattle.ep_transfer_simple.proofs.Doing.{next_by, faults_by}
use Rattle.ep_transfer_simple.proofs.Typed.{typed_by, eval_typed, assign_typed, clear_typed, aggregate_typed}
use Rattle.ep_transfer_simple.proofs.Typed.{bytes_typed, fill_typed, input_place, input_number, output_typed}
use Rattle.ep_transfer_simple.proofs.Typed.{read_typed, write_typed}
use Rattle.ep_transfer_simple.proofs.statements.simple.Goals as goal

pub evaluate-requires-clause-typed : goal.evaluate-requires-clause-typed
evaluate-requires-clause-typed g c =
    eval_typed (program_view c.args.program.now) c.args.returns _ _ c.own_scalar.ensures
    (typed_by (program_view c.args.program.now) c.args.returns _ _ (ap what_view c.in-Eval.is) c.requires.typed)

pub returns-in-Eval-clause-next : goal.returns-in-Eval-clause-next
returns-in-Eval-clause-next g c =
    next_by g.N.Num.ops (program_view c.args.program.now) c.args.mode c.args.returns c.args.state _ _
    (ap what_view c.in-Eval.is) c.evaluate.result c.evaluate.ensures.next

pub returns-in-Eval-clause-faults : goal.returns-in-Eval-clause-faults
returns-in-Eval-clause-faults g c =
    faults_by g.N.Num.ops (program_view c.args.program.now) c.args.mode c.args.returns c.args.state _ _
    (ap what_view c.in-Eval.is) c.evaluate.result c.args.faults.now.items _ c.evaluate.ensures.faults

pub assign-requires-clause-place : goal.assign-requires-clause-place
assign-requires-clause-place g c =
    (assign_typed (program_view c.args.program.now) c.args.returns _ _ _
    (typed_by (program_view c.args.program.now) c.args.returns _ _ (ap what_view c.in-Assign.is) c.requires.typed)).0

pub assign-requires-clause-typed : goal.assign-requires-clause-typed
assign-requires-clause-typed g c =
    (assign_typed (program_view c.args.program.now) c.args.returns _ _ _
    (typed_by (program_view c.args.program.now) c.args.returns _ _ (ap what_view c.in-Assign.is) c.requires.typed)).1

pub returns-in-Assign-clause-next : goal.returns-in-Assign-clause-next
returns-in-Assign-clause-next g c =
    next_by g.N.Num.ops (program_view c.args.program.now) c.args.mode c.args.returns c.args.state _ _
    (ap what_view c.in-Assign.is) c.assign.result c.assign.ensures.next

pub returns-in-Assign-clause-faults : goal.returns-in-Assign-clause-faults
returns-in-Assign-clause-faults g c =
    faults_by g.N.Num.ops (program_view c.args.program.now) c.args.mode c.args.returns c.args.state _ _
    (ap what_view c.in-Assign.is) c.assign.result c.args.faults.now.items _ c.assign.ensures.faults

pub clear-requires-clause-place : goal.clear-requires-clause-place
clear-requires-clause-place g c =
    (clear_typed (program_view c.args.program.now) c.args.returns _ _
    (typed_by (program_view c.args.program.now) c.args.returns _ _ (ap what_view c.in-Clear.is) c.requires.typed)).0

pub clear-requires-clause-there : goal.clear-requires-clause-there
clear-requires-clause-there g c =
    (clear_typed (program_view c.args.program.now) c.args.returns _ _
    (typed_by (program_view c.args.program.now) c.args.returns _ _ (ap what_view c.in-Clear.is) c.requires.typed)).1

pub returns-in-Clear-clause-next : goal.returns-in-Clear-clause-next
returns-in-Clear-clause-next g c =
    next_by g.N.Num.ops (program_view c.args.program.now) c.args.mode c.args.returns c.args.state _ _
    (ap what_view c.in-Clear.is) c.clear.result c.clear.ensures.next

pub returns-in-Clear-clause-faults : goal.returns-in-Clear-clause-faults
returns-in-Clear-clause-faults g c =
    faults_by g.N.Num.ops (program_view c.args.program.now) c.args.mode c.args.returns c.args.state _ _
    (ap what_view c.in-Clear.is) c.clear.result c.args.faults.now.items _ c.clear.ensures.faults

pub copy_aggregate-requires-clause-to : goal.copy_aggregate-requires-clause-to
copy_aggregate-requires-clause-to g c =
    (aggregate_typed (program_view c.args.program.now) c.args.returns _ _ _
    (typed_by (program_view c.args.program.now) c.args.returns _ _ (ap what_view c.in-CopyAggregate.is) c.requires.typed)).to

pub copy_aggregate-requires-clause-from : goal.copy_aggregate-requires-clause-from
copy_aggregate-requires-clause-from g c =
    (aggregate_typed (program_view c.args.program.now) c.args.returns _ _ _
    (typed_by (program_view c.args.program.now) c.args.returns _ _
    (ap what_view c.in-CopyAggregate.is) c.requires.typed)).from

pub copy_aggregate-requires-clause-there : goal.copy_aggregate-requires-clause-there
copy_aggregate-requires-clause-there g c =
    (aggregate_typed (program_view c.args.program.now) c.args.returns _ _ _
    (typed_by (program_view c.args.program.now) c.args.returns _ _
    (ap what_view c.in-CopyAggregate.is) c.requires.typed)).there

pub returns-in-CopyAggregate-clause-next : goal.returns-in-CopyAggregate-clause-next
returns-in-CopyAggregate-clause-next g c =
    next_by g.N.Num.ops (program_view c.args.program.now) c.args.mode c.args.returns c.args.state _ _
    (ap what_view c.in-CopyAggregate.is) c.copy_aggregate.result c.copy_aggregate.ensures.next

pub returns-in-CopyAggregate-clause-faults : goal.returns-in-CopyAggregate-clause-faults
returns-in-CopyAggregate-clause-faults g c =
    faults_by g.N.Num.ops (program_view c.args.program.now) c.args.mode c.args.returns c.args.state _ _
    (ap what_view c.in-CopyAggregate.is) c.copy_aggregate.result c.args.faults.now.items _
    c.copy_aggregate.ensures.faults

pub copy_bytes-requires-clause-to : goal.copy_bytes-requires-clause-to
copy_bytes-requires-clause-to g c =
    (bytes_typed (program_view c.args.program.now) c.args.returns _ _ _
    (typed_by (program_view c.args.program.now) c.args.returns _ _ (ap what_view c.in-CopyBytes.is) c.requires.typed)).0

pub copy_bytes-requires-clause-from : goal.copy_bytes-requires-clause-from
copy_bytes-requires-clause-from g c =
    (bytes_typed (program_view c.args.program.now) c.args.returns _ _ _
    (typed_by (program_view c.args.program.now) c.args.returns _ _ (ap what_view c.in-CopyBytes.is) c.requires.typed)).1

pub returns-in-CopyBytes-clause-next : goal.returns-in-CopyBytes-clause-next
returns-in-CopyBytes-clause-next g c =
    next_by g.N.Num.ops (program_view c.args.program.now) c.args.mode c.args.returns c.args.state _ _
    (ap what_view c.in-CopyBytes.is) c.copy_bytes.result c.copy_bytes.ensures.next

pub returns-in-CopyBytes-clause-faults : goal.returns-in-CopyBytes-clause-faults
returns-in-CopyBytes-clause-faults g c =
    faults_by g.N.Num.ops (program_view c.args.program.now) c.args.mode c.args.returns c.args.state _ _
    (ap what_view c.in-CopyBytes.is) c.copy_bytes.result c.args.faults.now.items _ c.copy_bytes.ensures.faults

pub fill-requires-clause-to : goal.fill-requires-clause-to
fill-requires-clause-to g c =
    (fill_typed (program_view c.args.program.now) c.args.returns _ _ _
    (typed_by (program_view c.args.program.now) c.args.returns _ _ (ap what_view c.in-Fill.is) c.requires.typed)).0

pub fill-requires-clause-byte : goal.fill-requires-clause-byte
fill-requires-clause-byte g c =
    (fill_typed (program_view c.args.program.now) c.args.returns _ _ _
    (typed_by (program_view c.args.program.now) c.args.returns _ _ (ap what_view c.in-Fill.is) c.requires.typed)).1

pub returns-in-Fill-clause-next : goal.returns-in-Fill-clause-next
returns-in-Fill-clause-next g c =
    next_by g.N.Num.ops (program_view c.args.program.now) c.args.mode c.args.returns c.args.state _ _
    (ap what_view c.in-Fill.is) c.fill.result c.fill.ensures.next

pub returns-in-Fill-clause-faults : goal.returns-in-Fill-clause-faults
returns-in-Fill-clause-faults g c =
    faults_by g.N.Num.ops (program_view c.args.program.now) c.args.mode c.args.returns c.args.state _ _
    (ap what_view c.in-Fill.is) c.fill.result c.args.faults.now.items _ c.fill.ensures.faults

pub input-requires-clause-place : goal.input-requires-clause-place
input-requires-clause-place g c =
    input_place (program_view c.args.program.now) c.args.returns _ c.in-Input.dest
    (typed_by (program_view c.args.program.now) c.args.returns _ _ (ap what_view c.in-Input.is) c.requires.typed)

pub input-requires-clause-number : goal.input-requires-clause-number
input-requires-clause-number g c =
    input_number (program_view c.args.program.now) c.args.returns _ c.in-Input.dest
    (typed_by (program_view c.args.program.now) c.args.returns _ _ (ap what_view c.in-Input.is) c.requires.typed)

pub returns-in-Input-clause-next : goal.returns-in-Input-clause-next
returns-in-Input-clause-next g c =
    next_by g.N.Num.ops (program_view c.args.program.now) c.args.mode c.args.returns c.args.state _ _
    (ap what_view c.in-Input.is) c.input.result c.input.ensures.next

pub returns-in-Input-clause-faults : goal.returns-in-Input-clause-faults
returns-in-Input-clause-faults g c =
    faults_by g.N.Num.ops (program_view c.args.program.now) c.args.mode c.args.returns c.args.state _ _
    (ap what_view c.in-Input.is) c.input.result c.args.faults.now.items _ c.input.ensures.faults

pub output-requires-clause-typed : goal.output-requires-clause-typed
output-requires-clause-typed g c =
    output_typed (program_view c.args.program.now) c.args.returns _ _
    (typed_by (program_view c.args.program.now) c.args.returns _ _ (ap what_view c.in-Output.is) c.requires.typed)

pub returns-in-Output-clause-next : goal.returns-in-Output-clause-next
returns-in-Output-clause-next g c =
    next_by g.N.Num.ops (program_view c.args.program.now) c.args.mode c.args.returns c.args.state _ _
    (ap what_view c.in-Output.is) c.output.result c.output.ensures.next

pub returns-in-Output-clause-faults : goal.returns-in-Output-clause-faults
returns-in-Output-clause-faults g c =
    faults_by g.N.Num.ops (program_view c.args.program.now) c.args.mode c.args.returns c.args.state _ _
    (ap what_view c.in-Output.is) c.output.result c.args.faults.now.items _ c.output.ensures.faults

pub read_bytes-requires-clause-typed : goal.read_bytes-requires-clause-typed
read_bytes-requires-clause-typed g c =
    read_typed (program_view c.args.program.now) c.args.returns _ _
    (typed_by (program_view c.args.program.now) c.args.returns _ _ (ap what_view c.in-ReadBytes.is) c.requires.typed)

pub returns-in-ReadBytes-clause-next : goal.returns-in-ReadBytes-clause-next
returns-in-ReadBytes-clause-next g c =
    next_by g.N.Num.ops (program_view c.args.program.now) c.args.mode c.args.returns c.args.state _ _
    (ap what_view c.in-ReadBytes.is) c.read_bytes.result c.read_bytes.ensures.next

pub returns-in-ReadBytes-clause-faults : goal.returns-in-ReadBytes-clause-faults
returns-in-ReadBytes-clause-faults g c =
    faults_by g.N.Num.ops (program_view c.args.program.now) c.args.mode c.args.returns c.args.state _ _
    (ap what_view c.in-ReadBytes.is) c.read_bytes.result c.args.faults.now.items _ c.read_bytes.ensures.faults

pub write_bytes-requires-clause-typed : goal.write_bytes-requires-clause-typed
write_bytes-requires-clause-typed g c =
    write_typed (program_view c.args.program.now) c.args.returns _ _
    (typed_by (program_view c.args.program.now) c.args.returns _ _ (ap what_view c.in-WriteBytes.is) c.requires.typed)

pub returns-in-WriteBytes-clause-next : goal.returns-in-WriteBytes-clause-next
returns-in-WriteBytes-clause-next g c =
    next_by g.N.Num.ops (program_view c.args.program.now) c.args.mode c.args.returns c.args.state _ _
    (ap what_view c.in-WriteBytes.is) c.write_bytes.result c.write_bytes.ensures.next

pub returns-in-WriteBytes-clause-faults : goal.returns-in-WriteBytes-clause-faults
returns-in-WriteBytes-clause-faults g c =
    faults_by g.N.Num.ops (program_view c.args.program.now) c.args.mode c.args.returns c.args.state _ _
    (ap what_view c.in-WriteBytes.is) c.write_bytes.result c.args.faults.now.items _
    c.write_bytes.ensures.faults

pub leave-requires-clause-typed : goal.leave-requires-clause-typed
leave-requires-clause-typed g c =
    typed_by (program_view c.args.program.now) c.args.returns _ _ (ap what_view c.in-Return.is) c.requires.typed

pub returns-in-Return-clause-next : goal.returns-in-Return-clause-next
returns-in-Return-clause-next g c =
    next_by g.N.Num.ops (program_view c.args.program.now) c.args.mode c.args.returns c.args.state _ _
    (ap what_view c.in-Return.is) c.leave.result c.leave.ensures.next

pub returns-in-Return-clause-faults : goal.returns-in-Return-clause-faults
returns-in-Return-clause-faults g c =
    faults_by g.N.Num.ops (program_view c.args.program.now) c.args.mode c.args.returns c.args.state _ _
    (ap what_view c.in-Return.is) c.leave.result c.args.faults.now.items _ c.leave.ensures.faults
