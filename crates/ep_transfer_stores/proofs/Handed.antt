-- What is evaluated first is handed on.
use Rattle.std.proofs.Common.{◌≡◌, List, ◌++◌, Option, ap, ◌∙◌, append_assoc}
use Rattle.ep_cells.specs.States.{Known}
use Rattle.ep_equalities.specs.declared.pair.Fault.{Fault}
use Rattle.ep_equalities.specs.declared.pair.PairValue.{PairValue}
use Rattle.ep_evaluation.specs.Given.{Given}
use Rattle.ep_transfers.specs.Transfers.{Stepped, with_one, with_two, after_faults}

module _ {N : Type 0} where
  pub one_next : (x : Given N) (go : PairValue N → Stepped N) (u : PairValue N) (r : Option (Known N)) → u ≡ x.pair
      → r ≡ (go u).next → r ≡ (with_one x go).next
  one_next x go u r e h = h ∙ ap (λ v. (go v).next) e

  pub one_faults : (x : Given N) (go : PairValue N → Stepped N) (u : PairValue N) (old one two : List Fault)
      → u ≡ x.pair → one ≡ old ++ x.faults → two ≡ one ++ (go u).faults → two ≡ old ++ (with_one x go).faults
  one_faults x go u old one two e f h =
      h ∙ ap (λ v. one ++ (go v).faults) e ∙ ap (λ fs. fs ++ (go x.pair).faults) f
      ∙ append_assoc old x.faults (go x.pair).faults

  pub two_next : (x y : Given N) (go : PairValue N → PairValue N → Stepped N) (u v : PairValue N)
      (r : Option (Known N)) → u ≡ x.pair → v ≡ y.pair → r ≡ (go u v).next → r ≡ (with_two x y go).next
  two_next x y go u v r e f h = h ∙ ap (λ z. (go z v).next) e ∙ ap (λ z. (go x.pair z).next) f

  pub two_faults : (x y : Given N) (go : PairValue N → PairValue N → Stepped N) (u v : PairValue N)
      (old one two all : List Fault) → u ≡ x.pair → v ≡ y.pair → one ≡ old ++ x.faults → two ≡ one ++ y.faults
      → all ≡ two ++ (go u v).faults → all ≡ old ++ (with_two x y go).faults
  two_faults x y go u v old one two all e f g i h =
      h ∙ ap (λ z. two ++ (go z v).faults) e ∙ ap (λ z. two ++ (go x.pair z).faults) f
      ∙ ap (λ fs. fs ++ (go x.pair y.pair).faults) (i ∙ ap (λ fs. fs ++ y.faults) g ∙ append_assoc old x.faults y.faults)
      ∙ append_assoc old (x.faults ++ y.faults) (go x.pair y.pair).faults

  -- with more faults between
  pub after_next : (fs : List Fault) (s : Stepped N) (r : Option (Known N)) → r ≡ s.next
      → r ≡ (after_faults fs s).next
  after_next fs s r h = h

  pub after_more : (fs : List Fault) (s : Stepped N) (one two all : List Fault) → two ≡ one ++ fs
      → all ≡ two ++ s.faults → all ≡ one ++ (after_faults fs s).faults
  after_more fs s one two all e h = h ∙ ap (λ gs. gs ++ s.faults) e ∙ append_assoc one fs s.faults
