-- What is asked, of the file where one is named.
use Rattle.std.proofs.Common.{◌≡◌, sym, subst, ℕ, ◌≤◌, List, length, Option, Some, None, IfSome, IsSome}
use Rattle.std.proofs.Common.{option_and_then, Result, Ok, Err, IfOk, IfErr, OnOk}
use Rattle.ep_words.specs.Words.{Command}
use Rattle.endport.specs.declared.jobs.Job.{Job}
use Rattle.endport.specs.declared.status.Status.{Status}
use Rattle.endport.specs.declared.status.Status.TheVariants.{Memory}
use Rattle.endport.specs.Top.{StopsSo, TextOf, file_of, most_of, under}

abbrev Answer : Type 0
Answer = Result Job Status

-- ---- where the command names a file

module _ (c : Command) (standing : List ℕ → Option (List ℕ)) (f : List ℕ) (r : Answer) (e : Some f ≡ file_of c) where
  pub named_ok : IfOk r (λ j. TextOf (Some c) (standing f) j.status j.text.items)
      → IfOk r (λ j. TextOf (Some c) (under (Some c) standing) j.status j.text.items)
  named_ok h =
      subst (λ o. IfOk r (λ j. TextOf (Some c) (option_and_then standing o) j.status j.text.items)) e h

  pub named_within : OnOk r (IfSome (standing f) (λ bytes. length bytes ≤ most_of c))
      → OnOk r (IfSome (under (Some c) standing) (λ bytes. length bytes ≤ most_of c))
  named_within h =
      subst (λ o. OnOk r (IfSome (option_and_then standing o) (λ bytes. length bytes ≤ most_of c))) e h

  pub named_stop : (before after : ℕ) → IfErr r (λ s. StopsSo (most_of c) (standing f) before after s)
      → IfErr r (λ s. StopsSo (most_of c) (under (Some c) standing) before after s)
  named_stop before after h =
      subst (λ o. IfErr r (λ s. StopsSo (most_of c) (option_and_then standing o) before after s)) e h

pub named_end : (r : Answer) (P Q : Type 0) → OnOk r Q → OnOk r (P → Q)
named_end (Ok j) P Q h = λ p. h
named_end (Err s) P Q h = tt

pub is_named : {f : List ℕ} (c : Command) → Some f ≡ file_of c → file_of c ≡ None → ⊥
is_named c e n = absurd cc

-- ---- where it names none

module _ (c : Command) (standing : List ℕ → Option (List ℕ)) (e : None ≡ file_of c) where
  pub free_ok : (r : Answer) → IfOk r (λ j. TextOf (Some c) None j.status j.text.items)
      → IfOk r (λ j. TextOf (Some c) (under (Some c) standing) j.status j.text.items)
  free_ok r h =
      subst (λ o. IfOk r (λ j. TextOf (Some c) (option_and_then standing o) j.status j.text.items)) e h

  pub free_within : (r : Answer) → OnOk r (IfSome (under (Some c) standing) (λ bytes. length bytes ≤ most_of c))
  free_within (Ok j) = subst (λ o. IfSome (option_and_then standing o) (λ bytes. length bytes ≤ most_of c)) e tt
  free_within (Err s) = tt

  pub free_stop : (r : Answer) (before after : ℕ) → IfErr r (λ s. s ≡ Memory)
      → IfErr r (λ s. StopsSo (most_of c) (under (Some c) standing) before after s)
  free_stop (Ok j) before after h = tt
  free_stop (Err s) before after h = subst (λ s. StopsSo (most_of c) (under (Some c) standing) before after s) (sym h) tt

pub no_some : IsSome {T = List ℕ} None → ⊥
no_some n = cc

pub free_end : (c : Command) → None ≡ file_of c → (r : Answer) (P : Type 0) → OnOk r (IsSome (file_of c) → P)
free_end c e (Ok j) P = λ n. absurd (no_some (subst (λ o. IsSome o) (sym e) n))
free_end c e (Err s) P = tt
