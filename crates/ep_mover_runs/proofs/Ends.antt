-- Whole runs of movers.
use Rattle.std.proofs.Common.{◌≡◌, ℕ, ◌+◌, ◌-◌, ◌≤◌, pos, true, false, nat_eq, nat_le}
use Rattle.std.proofs.Common.{List, [], ◌∷◌, ◌++◌, length, slice_get, Option, Some, None, option_to_list, Result, Ok}
use Rattle.std.proofs.Common.{Err}
use Rattle.std.proofs.Common.{refl, sym, ◌∙◌, ap, subst, arith}
use Rattle.std.specs.List.{list_all, list_any, fold, AllByRecursion}
use Rattle.std.specs.Option.{option_and_then}
use Rattle.std.proofs.lemmas.Bool.{and_parts, or_left, or_right, eqb-true}
use Rattle.std.proofs.lemmas.Int.{ints}
use Rattle.ep_int.proofs.Basics.{nat_eq-self}
use Rattle.ep_int.proofs.Memories.{loaded_of}
use Rattle.ep_int.specs.declared.types.IntType.TheVariants.{I32}
use Rattle.ep_int.specs.declared.types.Order.{Order}
use Rattle.ep_int.specs.declared.types.Scalar.{Scalar}
use Rattle.ep_int.specs.declared.types.Scalar.TheVariants.{Int as Number}
use Rattle.ep_int.specs.Types.{bytes_of}
use Rattle.ep_int.specs.Encoding.{place}
use Rattle.ep_int.specs.Arith.{is_in_range}
use Rattle.ep_int.specs.Memory.{number, int, Found, has, loaded, contains}
use Rattle.ep_layout.specs.declared.types.Ty.TheVariants.{Int}
use Rattle.ep_layout.specs.Table.{size, leaves}
use Rattle.ep_core.specs.Program.{Stmts, Block, Init, Function, Program}
use Rattle.ep_core.specs.Exec.{State, Outcome, leaves as left_by, running, no_input, undefined_at, uncounted}
use Rattle.ep_core.specs.Exec.{model, size_at, block_size, frame_of, result_in, exec_all, body_of, bodies}
use Rattle.ep_core.specs.Runs.{Run, run_by, result_out, main_ends, line_of, finished, main_from, start, ended}
use Rattle.ep_core.specs.Runs.{Ending, still_running, wants_input, undefined_on, IsDefined, IsOver, is_global}
use Rattle.ep_core.specs.Runs.{is_result}
use Rattle.ep_core.specs.WellFormed.{is_named, is_leaf_at, init_fits, block_fits, block_type, has_scalar}
use Rattle.ep_core.specs.WellFormed.{holds_scalar, is_number, is_well_formed, result_type}
use Rattle.ep_core.proofs.Operands.{sizes, first_values_fit}
use Rattle.ep_core.proofs.Sorts.{never, all_at}
use Rattle.ep_movers.specs.declared.Stop.{Stop}
use Rattle.ep_movers.specs.declared.Stop.TheVariants.{Foreign, Faulty}
use Rattle.ep_movers.specs.Symbols.{fixed_bytes}
use Rattle.ep_movers.specs.Movers.{Held, Symbols, Machine, bytes_in, blank_bytes, blank_blocks, first_bytes}
use Rattle.ep_movers.specs.Movers.{first_value}
use Rattle.ep_movers.specs.Movers.{first_machine, moves, main_moves}
use Rattle.ep_mover_runs.specs.Following.{byte_in, Follows, IsNumber, IsUndefined, IsStopped, Comes, WantsAfter}
use Rattle.ep_mover_runs.specs.Following.{AllMoveSo, zero_result}
use Rattle.ep_mover_runs.specs.Following.{taken_by_all, put_out_by_all, put_out_with, body_of_main, Ends, Starves}
use Rattle.ep_mover_runs.specs.Following.{RunsSo}
use Rattle.ep_mover_runs.proofs.Mains.{IsMover, main_fits, result_holds, HasResult, has_result, result_unnamed}
use Rattle.ep_mover_runs.proofs.Sums.{byte_of_zero}
use Rattle.ep_mover_runs.proofs.Numbers.{same_ok}
use Rattle.ep_mover_runs.proofs.Places.{number_type, number_size}
use Rattle.ep_mover_runs.proofs.Bytes.{symbol_of}
use Rattle.ep_mover_runs.proofs.Writes.{bytes_kept}
use Rattle.ep_mover_runs.proofs.Kept.{all_kept}
use Rattle.ep_mover_runs.proofs.Starts.{at_blank, blank_block, start_follows}
use Rattle.ep_mover_runs.proofs.Fewer.{all_move}

abbrev IsWanting : Ending → Type 0
IsWanting still_running = ⊥
IsWanting ended = ⊥
IsWanting wants_input = Unit {0}
IsWanting (undefined_on l k) = ⊥

-- ---- the block of main's result at the start

-- first values stand in global blocks
first_is_global : (p : Program) (i : Init) → init_fits p.types p.blocks i ≡ true
    → is_global (slice_get p.blocks i.block) ≡ true
first_is_global p i h = by_block (slice_get p.blocks i.block) refl
  where
    by_block : (x : Option Block) → slice_get p.blocks i.block ≡ x → is_global (slice_get p.blocks i.block) ≡ true
    by_block None q = absurd (let g : false ≡ true = (and_parts _ (is_in_range i.t i.value) (rw q at h)).0 in cc)
    by_block (Some x) q =
        let g = and_parts _ (is_in_range i.t i.value) (rw q at h) in
        ap is_global q ∙ (and_parts x.global (list_any (is_leaf_at i.offset (Number i.t)) (leaves p.types x.ty)) g.0).0

module _ (o : Order) (p : Program) (seen : List ℕ) (b : ℕ)
    (outside : (c : ℕ) → is_named p.types p.blocks seen c ≡ true → b ≡ c → ⊥)
  where
    firsts_kept : (is : List Init) → list_all (init_fits p.types p.blocks) is ≡ true → (m : Symbols)
        → bytes_in (fold (first_value o) m is) b ≡ bytes_in m b
    firsts_kept [] h m = refl
    firsts_kept (i ∷ is) h m =
        let s = and_parts (init_fits p.types p.blocks i) (list_all (init_fits p.types p.blocks) is) h in
        let named = or_left (is_global (slice_get p.blocks i.block)) (contains i.block seen)
        (first_is_global p i s.0) in
        firsts_kept is s.1 (first_value o m i)
        ∙ bytes_kept m i.block b
        (first_bytes o i.offset (bytes_of i.t) 0 (fixed_bytes i.value 0 (bytes_of i.t)) (bytes_in m i.block))
        (outside i.block named)

module _ (p : Program) (formed : is_well_formed p ≡ true) (g : IsMover p) where
  -- it is there, and has four bytes
  record IsThere (b : ℕ) : Type 0 where
    block : Block
    is : slice_get p.blocks b ≡ Some block
    size : block.size ≡ 4

  four_bytes : (d : Block) (n : Option ℕ) → n ≡ Some 4 → is_number n d.size ≡ true → d.size ≡ 4
  four_bytes d n e h = sym (eqb-true 4 d.size (subst (λ (x : Option ℕ). is_number x d.size ≡ true) e h))

  there : (b : ℕ) (x : Option Block) → slice_get p.blocks b ≡ x
      → has_scalar (option_and_then (slice_get p.types.types) (block_type x)) (Number I32) ≡ true → IsThere b
  there b None e h = never h
  there b (Some d) e h =
      let type : slice_get p.types.types d.ty ≡ Some (Int I32) = number_type (slice_get p.types.types d.ty) I32 h in
      let fits = all_at (block_fits p.types) p.blocks b d
      (and_parts (list_all (block_fits p.types) p.blocks) _ (sizes p formed)).0 e in
      record {
        block = d;
        is = e;
        size = four_bytes d (size p.types d.ty) (number_size p.types d.ty I32 type)
            (and_parts (is_number (size p.types d.ty) d.size) (nat_le 1 d.size) fits).0;
      }

  result_there : (r : HasResult p formed g) → IsThere r.block
  result_there r =
      let held : list_all (holds_scalar p.types p.blocks) (option_to_list (Some (r.block, Number I32))) ≡ true
      = subst (λ (x : Option (ℕ × Scalar)). list_all (holds_scalar p.types p.blocks) (option_to_list x) ≡ true) r.is
      (result_holds p formed g) in
      there r.block (slice_get p.blocks r.block) refl
      (and_parts (holds_scalar p.types p.blocks (r.block, Number I32)) true held).0

  module _ (o : Order) (inputs : List ℕ) where
    abbrev main : Option Function
    main = slice_get p.functions p.main

    abbrev at_start : Machine
    at_start = first_machine o p (result_in main)

    -- zero bytes at the start
    pub zero_first : (r : HasResult p formed g) (d : Block) → slice_get p.blocks r.block ≡ Some d
        → bytes_in at_start.memory r.block ≡ blank_bytes true d.size
    zero_first r d e =
        let first : 0 + r.block ≡ r.block = omega arith in
        let own : is_result (result_in main) (0 + r.block) ≡ true
        = subst (λ (f : Option Function). is_result (result_in f) (0 + r.block) ≡ true) (sym g.at)
        (subst (λ (x : Option (ℕ × Scalar)). is_result x (0 + r.block) ≡ true) (sym r.is)
        (subst (λ c. nat_eq r.block c ≡ true) (sym first) (nat_eq-self r.block))) in
        firsts_kept o p (frame_of g.main) r.block (λ c h q. result_unnamed p formed g r c h q) p.init
        (first_values_fit p formed)
        (blank_blocks (result_in main) 0 p.blocks)
        ∙ blank_block (result_in main) 0 r.block p.blocks d e
        ∙ ap (λ z. blank_bytes z d.size) (or_right d.global (is_result (result_in main) (0 + r.block)) own)

    -- and at the end
    zero_at_end : (s : State) (k : Machine) → Follows o p inputs s k → moves o g.main.body at_start ≡ Ok k
        → (r : HasResult p formed g)
        → loaded o (model o p) (size_at o p r.block) s.memory (Number I32) r.block 0 ≡ has (int (pos 0))
    zero_at_end s k f e r =
        let t = result_there r in
        let bytes : size_at o p r.block ≡ 4 = ap (block_size o p) t.is ∙ t.size in
        let kept = all_kept p (frame_of g.main) o r.block (λ c h q. result_unnamed p formed g r c h q) p.main
        (result_type p.blocks g.main.result) g.main.body at_start k g.moving (main_fits p formed g) e in
        let zeros : bytes_in k.memory r.block ≡ blank_bytes true t.block.size
        = kept.block ∙ zero_first r t.block t.is in
        loaded_of o (model o p) (size_at o p r.block) s.memory I32 r.block (pos 0)
        (record { low = omega (arith, ints); high = omega (arith, ints) }) (omega (arith, bytes))
        (λ q l.
        f.memory r.block q (omega (arith, l, bytes))
        ∙ ap (λ (hs : List Held). byte_in inputs (symbol_of hs q)) zeros
        ∙ ap (byte_in inputs) (at_blank true t.block.size q (omega (arith, l, t.size)))
        ∙ sym (ap number (byte_of_zero (place o 4 q))))

    -- ---- how main is left

    main_result : (s : State) (k : Machine) → Follows o p inputs s k → moves o g.main.body at_start ≡ Ok k → (l : ℕ)
        → main_ends o p (result_in main) l s ≡ result_out (has (int (pos 0))) l s
    main_result s k f e l =
        let r = has_result p formed g in
        ap (λ (x : Option Function). main_ends o p (result_in x) l s) g.at
        ∙ ap (λ (x : Option (ℕ × Scalar)). main_ends o p x l s) r.is
        ∙ ap (λ (v : Found). result_out v l s) (zero_at_end s k f e r)

    undefined_run : (x : Outcome) → IsUndefined x → IsDefined (finished o p x).ending → ⊥
    undefined_run (left_by w n s) h d = h
    undefined_run (running s) h d = h
    undefined_run (no_input s) h d = h
    undefined_run (undefined_at l k s) h d = d

    enough_ends : (n i j : ℕ) (r : Result Machine Stop) (x : Outcome) → moves o g.main.body at_start ≡ r
        → Comes o p inputs n i j at_start r x → Ends inputs r (finished o p x)
    enough_ends n i j (Ok k) x e h =
        let s = h.state in
        let run : finished o p x ≡ result_out (has (int (pos 0))) (line_of o p main) s
        = ap (finished o p) h.is ∙ main_result s k h.follows e (line_of o p main) in (
          ap (λ (y : Run). y.ending) run,
          ap (λ (y : Run). y.outputs) run ∙ ap (λ os. os ++ zero_result ∷ []) h.follows.outputs,
        )
    enough_ends n i j (Err Foreign) x e h = tt
    enough_ends n i j (Err Faulty) x e h = undefined_run x h

    stopped_run : (x : Outcome) → IsStopped x → IsOver (finished o p x).ending × ((finished o p x).ending ≡ ended → ⊥)
    stopped_run (left_by w n s) h = absurd h
    stopped_run (running s) h = absurd h
    stopped_run (no_input s) h = (tt, λ e. subst IsWanting e tt)
    stopped_run (undefined_at l k s) h = (tt, λ e. subst IsDefined (sym e) tt)

    few_starve : (c : ℕ) (r : Result Machine Stop) (x : Outcome) → WantsAfter inputs c r x
        → Starves inputs c r (finished o p x)
    few_starve c (Ok k) x h = (
      ap (λ (x : Outcome). (finished o p x).ending) h.is,
      ap (λ (x : Outcome). (finished o p x).outputs) h.is ∙ h.outputs,
    )
    few_starve c (Err Foreign) x h = tt
    few_starve c (Err Faulty) x h = stopped_run x h

    -- ---- whole runs

    main_moved : main_moves o p main ≡ moves o g.main.body at_start
    main_moved =
        ap (main_moves o p) g.at
        ∙ ap (λ (f : Option Function). moves o g.main.body (first_machine o p (result_in f))) (sym g.at)

    abbrev body_from : ℕ → Outcome
    body_from n = exec_all o p uncounted p.main (bodies o p uncounted p.main) g.main.body n (start o p inputs)

    main_run : (n : ℕ) → main_from o p uncounted inputs n ≡ body_from n
    main_run n =
        ap (λ (f : Option Function). body_of o p uncounted f p.main (bodies o p uncounted p.main) n
        (start o p inputs)) g.at

    main_all : (n : ℕ) → AllMoveSo o p inputs n g.main.body at_start (moves o g.main.body at_start) (body_from n)
    main_all n =
        all_move p formed g o inputs p.main (result_type p.blocks g.main.result)
        (bodies o p uncounted p.main) n g.main.body
        g.moving (main_fits p formed g) (start o p inputs) at_start (start_follows o p inputs formed)

    own_run : (n : ℕ) → RunsSo inputs g.main.body (moves o g.main.body at_start) (finished o p (body_from n))
    own_run n =
        let all = main_all n in
        let from : length inputs - 0 ≡ length inputs = omega arith in
        let count : 0 + put_out_with g.main.body (length inputs - 0) ≡ put_out_with g.main.body (length inputs)
        = (let e = ap (put_out_with g.main.body) from in omega (arith, e)) in
        record {
          enough = λ e. enough_ends n (taken_by_all g.main.body) (put_out_by_all g.main.body)
              (moves o g.main.body at_start) (body_from n) refl (all.enough (omega (arith, e)));
          few = λ l. subst (λ c. Starves inputs c (moves o g.main.body at_start) (finished o p (body_from n))) count
              (few_starve (0 + put_out_with g.main.body (length inputs - 0)) (moves o g.main.body at_start)
              (body_from n)
              (all.few (omega (arith, l))));
        }

    pub run_follows : (n : ℕ)
        → RunsSo inputs (body_of_main main) (main_moves o p main) (run_by uncounted p o inputs n)
    run_follows n =
        subst (λ (x : Run). RunsSo inputs (body_of_main main) (main_moves o p main) x)
        (sym (ap (finished o p) (main_run n)))
        (subst (λ (r : Result Machine Stop). RunsSo inputs (body_of_main main) r (finished o p (body_from n)))
        (sym main_moved)
        (subst (λ (ss : Stmts). RunsSo inputs ss (moves o g.main.body at_start) (finished o p (body_from n)))
        (sym (ap body_of_main g.at)) (own_run n)))

    -- what is put out are numbers
    put_numbers : (n i j : ℕ) (r : Result Machine Stop) (x : Outcome) (k : Machine) → r ≡ Ok k
        → Comes o p inputs n i j at_start r x → AllByRecursion IsNumber k.outputs
    put_numbers n i j (Ok m) x k e h =
        subst (λ (z : Machine). AllByRecursion IsNumber z.outputs) (same_ok e) (h.follows.numbers)
    put_numbers n i j (Err s) x k e h = absurd cc

    pub numbers_follow : (k : Machine) → main_moves o p main ≡ Ok k → taken_by_all (body_of_main main) ≤ length inputs
        → AllByRecursion IsNumber k.outputs
    numbers_follow k e l =
        let body : body_of_main main ≡ g.main.body = ap body_of_main g.at in
        let few : taken_by_all g.main.body ≤ length inputs =
        subst (λ (ss : Stmts). taken_by_all ss ≤ length inputs) body l in
        let all = main_all 0 in
        put_numbers 0 (taken_by_all g.main.body) (put_out_by_all g.main.body) (moves o g.main.body at_start)
        (body_from 0) k
        (sym main_moved ∙ e) (all.enough (omega (arith, few)))
