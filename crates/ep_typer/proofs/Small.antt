-- The functions that a text defines have numbers of declared ones.
use Rattle.std.proofs.Common.{◌≡◌, ℕ, ◌+◌, ◌<◌, ◌≤◌, nat_eq, Bool, true, false, cond, List, [], ◌∷◌, length, Ok, arith}
use Rattle.ep_int.proofs.Basics.{nat_eq-self}
use Rattle.ep_int.specs.declared.types.Model.{Model}
use Rattle.ep_ast.specs.Statement.{Item}
use Rattle.ep_call_graph.specs.View.{AreBelow}
use Rattle.ep_elaboration.specs.Functions.{numbers_of}
use Rattle.ep_elaboration.specs.Programs.{Sofar, begun}
use Rattle.ep_elaboration.specs.ProgramSteps.{items}
use Rattle.ep_elaboration.proofs.ProgramOrder.{means_items}
use Rattle.ep_well_formed_laws.proofs.Counts.{count}
use Rattle.ep_well_formed_laws.proofs.Items.{text_holds}

all_below : (n : ℕ) (ns : List ℕ) → ((k : ℕ) → 1 ≤ count k ns → k < n) → AreBelow n ns
all_below n [] h = tt
all_below n (x ∷ ns) h = (h x (rw (nat_eq-self x) (omega arith)), all_below n ns (λ k l. h k (more (nat_eq k x) (count k ns) l)))
  where
    more : (b : Bool) (m : ℕ) → 1 ≤ m → 1 ≤ cond b 1 0 + m
    more true m l = omega arith
    more false m l = omega arith

pub numbers_below : (m : Model) (is : List Item) (s : Sofar) → items (begun m) is ≡ Ok s
    → AreBelow (length s.env.functions) (numbers_of s.defined)
numbers_below m is s e =
    all_below (length s.env.functions) (numbers_of s.defined) (text_holds m is s (means_items (begun m) is s e)).numbers.small
