use Rattle.std.proofs.Common.{◌≡◌, ◌+◌, ◌<◌, ◌||◌, if◌then◌else◌, length, map, slice_get, subst, sym, ap, ◌∙◌, arith}
use Rattle.std.proofs.Math.ListN.{length-map}
use Rattle.ep_int.specs.Memory.{zeroed}
use Rattle.ep_bytes.specs.StoreView.{memory_in}
use Rattle.ep_core.specs.Exec.{result_in}
use Rattle.ep_core.specs.Runs.{is_global, is_result, main_function}
use Rattle.ep_core.specs.View.{block_view}
use Rattle.ep_machine.specs.Settings.{program_in}
use Rattle.ep_machine.proofs.Writes.{like_laid}
use Rattle.ep_concrete.proofs.Firsts.{zeros_none, zeros_more, zeros_all, main_there}
use Rattle.ep_concrete.proofs.start.zero_blocks.Goals as goal

pub loop-b-init : goal.loop-b-init
loop-b-init c = record { laid = c.requires.laid; memory = zeros_none _ _ _ c.requires.blank }

pub zero_if-requires : goal.zero_if-requires
zero_if-requires c =
    let n = length-map c.args.on.now.program.now.blocks.items block_view in
    let laid = c.loop-b.invariant.laid.count in
    let len = c.len-b-end.ensures in
    let below = c.loop-b-test.true in
    let number = c.in_ok-block.ensures.number in
    omega (arith, n, laid, len, below, number)

pub loop-b-preserved : goal.loop-b-preserved
loop-b-preserved c =
    let m = c.args.on.now in
    let p = program_in m in
    let b = c.loop-b.b in
    let r = result_in (main_function m.order p) in
    let wanted : c.is_zero-is_wanted.result ≡ (is_global (slice_get p.blocks b) || is_result r b)
    = c.is_zero-is_wanted.ensures
    ∙ ap (λ xs. is_global (slice_get (map block_view xs) b) || is_result c.main_result-given.result b) c.deref.ensures.value
    ∙ ap (λ g. is_global (slice_get p.blocks b) || is_result g b) c.main_result-given.ensures in
    record {
      laid = like_laid m _ _ c.loop-b.invariant.laid c.zero_if.ensures.like;
      memory = zeros_more p.blocks r b (memory_in c.loop-b.store) (memory_in c.zero_if.new.store)
          c.is_zero-is_wanted.result wanted c.loop-b.invariant.memory
          (subst (λ k. memory_in c.zero_if.new.store
          ≡ (if c.is_zero-is_wanted.result then zeroed (memory_in c.loop-b.store) k else memory_in c.loop-b.store))
          c.in_ok-block.ensures.number c.zero_if.ensures.zeroed);
    }

pub returns-clause-memory : goal.returns-clause-memory
returns-clause-memory c =
    let m = c.args.on.now in
    let p = program_in m in
    let n = length-map m.program.now.blocks.items block_view in
    let len = c.len-b-end.ensures in
    let past = c.loop-b-test.false in
    let end = c.loop-b.auto.b-end in
    let all : c.loop-b.b ≡ length p.blocks = omega (arith, n, len, past, end) in
    zeros_all p.blocks (result_in (main_function m.order p)) (main_there m.order p m.program.now.well_formed)
    c.loop-b.b all (memory_in c.loop-b.store) c.loop-b.invariant.memory
