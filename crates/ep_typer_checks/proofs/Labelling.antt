-- Recursion by the labels of functions.
use Rattle.std.proofs.Common.{◌≡◌, ℕ, ◌<◌, true, List, length, Option, Some, None, Ok, refl, sym, ap, ◌∙◌, subst}
use Rattle.std.specs.Global.{Vec}
use Rattle.std.specs.List.{find}
use Rattle.std.specs.Prelude.{slice_index, vec_len}
use Rattle.ep_int.specs.Memory.{contains}
use Rattle.ep_elaboration.specs.Calls.{Call, CallSite, callees, calls_of, is_recursive}
use Rattle.ep_elaboration.specs.Programs.{none_breaks}
use Rattle.ep_elaboration.specs.Leads.{Leads, is_there, calls, IsLabelled, Descends}
use Rattle.ep_elaboration.proofs.Labels.{ranked}
use Rattle.ep_call_graph.specs.View.{AreWithin, listed}
use Rattle.ep_call_graph.specs.Search.{AreAll}
use Rattle.ep_call_graph.proofs.Lists.{len_is}
use Rattle.ep_call_graph.proofs.Among.{among, all_among}
use Rattle.ep_typer_checks.specs.Checks.{closes}
use Rattle.ep_typer_checks.proofs.Finding.{none_closed, recursive_is}

module _ (next other : ℕ → List ℕ) (e : (f : ℕ) → next f ≡ other f) where
  leads_too : (to f : ℕ) → Leads next to f → Leads other to f
  leads_too to f (is_there _ q) = is_there f q
  leads_too to f (calls _ g c l) = calls f g (subst (λ (xs : List ℕ). contains g xs ≡ true) (e f) c) (leads_too to g l)

  pub labelled_too : (label : ℕ → ℕ) → IsLabelled next label → IsLabelled other label
  labelled_too label h = record {
    not_up = λ f g c. h.not_up f g (subst (λ (xs : List ℕ). contains g xs ≡ true) (sym (e f)) c);
    back = λ f g c q. leads_too f g (h.back f g (subst (λ (xs : List ℕ). contains g xs ≡ true) (sym (e f)) c) q);
  }

pub none_broke : (kind : ℕ) (o : Option Call) → none_breaks kind o ≡ Ok true → o ≡ None
none_broke kind None h = refl
none_broke kind (Some c) h = absurd cc

module _ (n : ℕ) (ps : List CallSite) (within : AreWithin n ps) (lists : Vec (Vec ℕ)) (now : List (Vec ℕ)) (is : now ≡ lists.items)
    (right : (f : ℕ) → listed lists.items f ≡ callees (calls_of ps) f) where
  its_callees : (f : ℕ) → listed now f ≡ callees (calls_of ps) f
  its_callees f = ap (λ (ls : List (Vec ℕ)). listed ls f) is ∙ right f

  pub all_within : vec_len lists ≡ n → AreAll (length now) (listed now)
  all_within count =
      subst (λ (k : ℕ). AreAll k (listed now)) (sym (ap (λ (ls : List (Vec ℕ)). length ls) is ∙ len_is lists ∙ count))
      (all_among (listed now) (calls_of ps) its_callees n (among n ps within))

  module _ (labels : List ℕ) (given : List ℕ) (same : given ≡ labels) (main : ℕ)
      (labelled : IsLabelled (listed now) (λ f. slice_index labels f)) where
    its_labels : IsLabelled (callees (calls_of ps)) (λ f. slice_index given f)
    its_labels = subst (λ (ls : List ℕ). IsLabelled (callees (calls_of ps)) (λ f. slice_index ls f)) (sym same)
        (labelled_too (listed now) (callees (calls_of ps)) its_callees (λ f. slice_index labels f) labelled)

    pub by_labels : find (closes given main) (calls_of ps) ≡ find (is_recursive (calls_of ps) n main) (calls_of ps)
    by_labels = sym (recursive_is (calls_of ps) n given main (among n ps within) its_labels)

    pub ranks : 0 < n → none_breaks 35 (find (closes given main) (calls_of ps)) ≡ Ok true
        → (rank : ℕ → ℕ) × Descends (calls_of ps) n rank
    ranks some h = ranked (calls_of ps) n (λ f. slice_index given f) (among n ps within) its_labels some
        (none_closed (calls_of ps) n given main (among n ps within) its_labels
        (none_broke 35 (find (closes given main) (calls_of ps)) h))
