-- Comparisons of pointers. C11 6.5.9p6 and 6.5.8p5. By this project's choice ordered ones are undefined also of null.
use Rattle.std.specs.Prelude.{◌≡◌, pos, Bool, true, false, ◌&&◌, ◌||◌, not, nat_eq, if◌then◌else◌, IsTrue, List, []}
use Rattle.std.specs.Prelude.{◌∷◌, Option, Some, None, is_some}
use Rattle.std.specs.List.{list_any}
use Rattle.ep_int.specs.declared.types.Cmp.{Cmp}
use Rattle.ep_int.specs.declared.types.Cmp.TheVariants.{Eq, Ne, Lt, Le, Gt, Ge}
use Rattle.ep_int.specs.Arith.{compares}
use Rattle.ep_domain.specs.Domain.{Ops}
use Rattle.ep_pointers.specs.declared.compare.Truths.{Truths}
use Rattle.ep_pointers.specs.Value.{Target, Pointers, Pointer, null_pointer, into, offset_at, HoldsPointer}

-- ---- two pointers: what the comparison gives, where it is defined

abbrev pub when_alike : Cmp → Option Bool
when_alike Eq = Some true
when_alike Ne = Some false
when_alike Lt = None
when_alike Le = None
when_alike Gt = None
when_alike Ge = None

abbrev pub when_apart : Cmp → Option Bool
when_apart Eq = Some false
when_apart Ne = Some true
when_apart Lt = None
when_apart Le = None
when_apart Gt = None
when_apart Ge = None

abbrev pub pointers_compare : Cmp → Pointer → Pointer → Option Bool
pointers_compare c null_pointer null_pointer = when_alike c
pointers_compare c null_pointer (into b o) = when_apart c
pointers_compare c (into b o) null_pointer = when_apart c
pointers_compare c (into b o) (into b' o') = if nat_eq b b' then Some (compares c (pos o) (pos o')) else when_apart c

-- ---- two values

-- the comparison that is true where the other is false
abbrev pub opposite : Cmp → Cmp
opposite Eq = Ne
opposite Ne = Eq
opposite Lt = Ge
opposite Le = Gt
opposite Gt = Le
opposite Ge = Lt

abbrev pub gives : Option Bool → Option Bool → Bool
gives None None = true
gives None (Some b) = false
gives (Some a) None = false
gives (Some a) (Some b) = if a then b else not b

abbrev pub has_targets : {N : Type 0} → List (Target N) → Bool
has_targets [] = false
has_targets (t ∷ ts) = true

-- some target of the first is into another block than some target of the second
abbrev pub in_two_blocks : {N : Type 0} → List (Target N) → List (Target N) → Bool
in_two_blocks ts us = list_any (λ t. list_any (λ u. not (nat_eq t.0 u.0)) us) ts

-- both may be null
abbrev pub may_be_alike : {N : Type 0} → Pointers N → Pointers N → Bool
may_be_alike p q = p.null && q.null

-- one may be null and the other not, or they may be into two blocks
abbrev pub may_be_apart : {N : Type 0} → Pointers N → Pointers N → Bool
may_be_apart p q =
    (p.null && has_targets q.targets || has_targets p.targets && q.null) || in_two_blocks p.targets q.targets

-- pairs that are not into one block give this answer
abbrev pub elsewhere : {N : Type 0} → Cmp → Option Bool → Pointers N → Pointers N → Bool
elsewhere c r p q = may_be_alike p q && gives (when_alike c) r || may_be_apart p q && gives (when_apart c) r

module _ {N : Type 0} (d : Ops N) where
  abbrev pub allows : Cmp → N → Option N → Bool
  allows c n None = false
  allows c n (Some m) = is_some (d.filter c n m)

  -- the offsets at some block may compare so
  abbrev pub in_one_block : Cmp → List (Target N) → List (Target N) → Bool
  in_one_block c ts us = list_any (λ t. allows c t.1 (offset_at us t.0)) ts

  abbrev pub comparison_of : Cmp → Pointers N → Pointers N → Truths
  comparison_of c p q = record {
    yes = elsewhere c (Some true) p q || in_one_block c p.targets q.targets;
    no = elsewhere c (Some false) p q || in_one_block (opposite c) p.targets q.targets;
    mixed = elsewhere c None p q;
  }

-- ---- what that means

-- the answer for two pointers is among these
abbrev pub Answers : Option Bool → Truths → Type 0
Answers None t = IsTrue t.mixed
Answers (Some true) t = IsTrue t.yes
Answers (Some false) t = IsTrue t.no

-- each pair of pointers that the two values hold has its answer among these
abbrev pub AnswersAll : {N : Type 0} → Ops N → Cmp → Pointers N → Pointers N → Truths → Type 0
AnswersAll d c p q t = (x y : Pointer) → HoldsPointer d p x → HoldsPointer d q y → Answers (pointers_compare c x y) t

abbrev pub truths : Bool → Bool → Bool → Truths
truths y n m = record { yes = y; no = n; mixed = m }

-- exactly one of the three
pub data IsOneAnswer (t : Truths) : Type 0 where
  only_yes : t ≡ truths true false false → IsOneAnswer t
  only_no : t ≡ truths false true false → IsOneAnswer t
  only_mixed : t ≡ truths false false true → IsOneAnswer t
