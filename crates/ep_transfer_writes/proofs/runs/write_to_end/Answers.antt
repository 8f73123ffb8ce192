use Rattle.std.proofs.Common.{◌≡◌, ◌+◌, ◌-◌, ap, sym, subst, ◌∙◌, arith}
use Rattle.std.proofs.lemmas.Result.{IfOk-weaker}
use Rattle.ep_int.specs.declared.types.IntType.TheVariants.{U8}
use Rattle.ep_int.specs.declared.types.Scalar.TheVariants.{Int}
use Rattle.ep_transfers.specs.Writes as spec
use Rattle.ep_transfer_places.specs.Room.{BothHaveRoom, view as shown_places}
use Rattle.ep_transfer_writes.specs.Waiting.{view}
use Rattle.ep_transfer_writes.proofs.runs.write_to_end.Goals as goal

pub write_two-requires-clause-room : goal.write_two-requires-clause-room
write_two-requires-clause-room g c =
    let within = c.cut_at_end-last.ensures in
    let all : (c.args.bytes - c.cut_at_end-last.result) + c.cut_at_end-last.result ≡ c.args.bytes = omega
    (arith, within) in
    subst (λ n. BothHaveRoom n (shown_places c.args.places.now)) (sym all) c.requires.room

pub returns-clause-value : goal.returns-clause-value
returns-clause-value g c =
    let D = g.N.Num.ops in
    let within = c.cut_at_end-last.ensures in
    let all : (c.args.bytes - c.cut_at_end-last.result) + c.cut_at_end-last.result ≡ c.args.bytes = omega
    (arith, within) in
    IfOk-weaker c.write_two.result _ _
    (λ r h. h
    ∙ ap (λ n. spec.write_run D c.args.mode c.args.same_to (Int U8) (shown_places c.args.places.now) 0 n
    (view c.args.u))
    all)
    c.write_two.ensures.value
