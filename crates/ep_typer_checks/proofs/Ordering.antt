-- Functions in order come once each, and the depth of one of them.
use Rattle.std.proofs.Common.{◌≡◌, ℕ, ◌+◌, ◌<◌, false, true, List, [], ◌∷◌, ◌++◌, length, get_or, take, drop, sym, ap}
use Rattle.ep_call_graph.proofs.Lists.{front_at}
use Rattle.std.proofs.Common.{◌∙◌, subst}
use Rattle.std.proofs.lemmas.List.{take_more}
use Rattle.ep_int.specs.Memory.{contains}
use Rattle.std.specs.Prelude.{slice_index}
use Rattle.ep_elaboration.specs.Calls.{Call, CallSite, function_depth, one_after_another, with_function}
use Rattle.ep_elaboration.specs.Leads.{AreInOrder, Descends}
use Rattle.ep_elaboration.proofs.Behind.{in_order, all_come}
use Rattle.ep_typer_checks.specs.Placed.{AreOnce}

pub once : (cs : List Call) (before fs : List ℕ) → AreInOrder cs before fs → AreOnce before fs
once cs before [] h = tt
once cs before (f ∷ fs) h = (h.0, once cs (before ++ f ∷ []) fs h.1.1)

-- what is known of one of them
pub once_at : (fs : List ℕ) (i d : ℕ) → i < length fs → AreOnce (take i fs) (drop i fs)
    → (contains (get_or fs i d) (take i fs) ≡ false) × AreOnce (take (i + 1) fs) (drop (i + 1) fs)
once_at fs i d l a =
    let b = subst (AreOnce (take i fs)) (front_at i fs d l) a in
    (b.0, subst (λ (xs : List ℕ). AreOnce xs (drop (i + 1) fs)) (sym (take_more fs i d l)) b.1)

-- the depth of main, among the depths of all that come
pub depth_is : (ps : List CallSite) (n main deep : ℕ) (order items given : List ℕ) → deep ≡ slice_index given main → given ≡ items
    → ((f : ℕ) → contains f order ≡ true → slice_index items f ≡ function_depth ps n f) → contains main order ≡ true
    → deep ≡ function_depth ps n main
depth_is ps n main deep order items given is same right among =
    is ∙ ap (λ (xs : List ℕ). slice_index xs main) same ∙ right main among

module _ (cs : List Call) (n : ℕ) (ranked : (rank : ℕ → ℕ) × Descends cs n rank) (fs order : List ℕ)
    (is : order ≡ one_after_another (with_function cs n) [] fs) where
  pub ordered : AreInOrder cs [] order
  ordered = subst (AreInOrder cs []) (sym is) (in_order cs n ranked.0 ranked.1 fs)

  pub comes : (f : ℕ) → contains f fs ≡ true → contains f order ≡ true
  comes f h = subst (λ (xs : List ℕ). contains f xs ≡ true) (sym is) (all_come cs n ranked.0 ranked.1 fs f h)
