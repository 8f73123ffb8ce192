-- Statements that take and put out nothing leave the outputs as they are.
use Rattle.std.proofs.Common.{◌≡◌, ℕ, List, refl, sym, option_to_list, false, arith}
use Rattle.ep_int.specs.declared.types.Order.{Order}
use Rattle.ep_core.specs.Program.{Expr, Simple, nothing, eval, assign, clear, copy_aggregate, copy_bytes, fill, input}
use Rattle.ep_core.specs.Program.{output, read_bytes, write_bytes, returns, Function, Program}
use Rattle.ep_core.specs.Exec.{State, on, leaves, without, first_of, frame_of, values}
use Rattle.ep_core.proofs.Prefixes.{begins_refl}
use Rattle.ep_core.proofs.Grows.{Grows, later_refl, grows_from, leaves_grows, given_all_grows, bound_grows}
use Rattle.ep_pass.specs.Laws.{passes}
use Rattle.ep_kinds.specs.InOut.{is_talk}
use Rattle.ep_closed_laws.proofs.GrowsIn.{puts_out, Adds}
use Rattle.ep_closed_laws.proofs.Rules.{same_front}

pub silent : (w : Simple) → is_talk w ≡ false → puts_out w ≡ 0
silent nothing h = refl
silent (eval e) h = refl
silent (assign what a e) h = refl
silent (clear a ty) h = refl
silent (copy_aggregate a b ty) h = refl
silent (copy_bytes a b n) h = refl
silent (fill a e n) h = refl
silent (input t d) h = refl
silent (output t e) h = absurd cc
silent (read_bytes e n) h = refl
silent (write_bytes e n) h = absurd cc
silent (returns e) h = refl

pub stays_out : (x r : State) (n m : ℕ) → Grows x n (leaves on m r) → Adds 0 x r → r.outputs ≡ x.outputs
stays_out x r n m g a =
    let d = a.outputs in
    sym (same_front x.outputs r.outputs r.outputs (omega (arith, d)) g.0.0 (begins_refl r.outputs))

module _ (p : Program) where
  pub passes_grow : (o : Order) (f : Function) (es : List Expr) (l n : ℕ) (x : State) → Grows x n
      (passes o p f es l n x)
  passes_grow o f es l n x =
      let r : State = without (first_of (option_to_list f.result)) x in
      let q : State = without (frame_of f) r in
      grows_from x r n _ (later_refl x)
      (given_all_grows (values o p es r.memory) l n r _
      (λ vs. grows_from r q n _ (later_refl r) (bound_grows o p f.params vs l n q (leaves on n) (leaves_grows on n))))
