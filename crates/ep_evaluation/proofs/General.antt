-- Faults, sides and values, however they come about.
use Rattle.std.proofs.Common.{◌≡◌, ℤ, Bool, true, false, List, [], ◌∷◌, ◌++◌, Option, Some, None, refl}
use Rattle.std.proofs.lemmas.Bool.{and_parts}
use Rattle.ep_alarms.specs.declared.types.AlarmKind.{AlarmKind}
use Rattle.ep_int.specs.declared.types.IntType.{IntType}
use Rattle.ep_int.specs.declared.types.Scalar.TheVariants.{Int}
use Rattle.ep_int.specs.Types.{InRange}
use Rattle.ep_int.specs.Memory.{Value as Datum, int, null, pointer, Found, has, faults}
use Rattle.ep_domain.specs.Domain.{Ops, Holds}
use Rattle.ep_cells.specs.declared.cell.Value.{Value}
use Rattle.ep_cells.specs.declared.cell.Value.TheVariants.{Num, Ptr}
use Rattle.ep_cells.specs.Meaning.{Allows}
use Rattle.ep_core.specs.Exec.{with, with_number}
use Rattle.ep_core.specs.Runs.{Side, left, right}
use Rattle.ep_equalities.specs.declared.pair.Mode.{Mode}
use Rattle.ep_equalities.specs.declared.pair.Mode.TheVariants.{Both, Left, Right}
use Rattle.ep_equalities.specs.declared.pair.Fault.{Fault}
use Rattle.ep_equalities.specs.declared.pair.SideValue.{SideValue}
use Rattle.ep_evaluation.specs.Laws.{IsReliable}
use Rattle.ep_evaluation.specs.Given.{runs, on, pair_on, Shown, shown_if, fault, fault_of, no_range, faults_on}
use Rattle.ep_evaluation.specs.Given.{is_sure, are_sure}

-- ---- lists of faults

pub none_left : (xs ys : List Fault) → xs ++ ys ≡ [] → (xs ≡ []) × (ys ≡ [])
none_left [] ys e = (refl, e)
none_left (x ∷ xs) ys e = absurd cc

pub sure_parts : (xs ys : List Fault) → are_sure (xs ++ ys) ≡ true → (are_sure xs ≡ true) × (are_sure ys ≡ true)
sure_parts [] ys e = (refl, e)
sure_parts (x ∷ xs) ys e =
    let h = and_parts (is_sure x) (are_sure (xs ++ ys)) e in
    let t = sure_parts xs ys h.1 in (rw (h.0, t.0) refl, t.1)

pub sure_none : (xs : List Fault) → xs ≡ [] → are_sure xs ≡ true
sure_none xs e = rw e refl

-- ---- sides

pub on_running : {N : Type 0} (m : Mode) (s : Side) (f : Side → SideValue N) (b : Bool) → runs m s ≡ true
    → on (pair_on m f b) s ≡ f s
on_running Both left f b r = refl
on_running Both right f b r = refl
on_running Left left f b r = refl
on_running Left right f b r = absurd cc
on_running Right left f b r = absurd cc
on_running Right right f b r = refl

pub equal_is : {N : Type 0} (m : Mode) (f : Side → SideValue N) (b : Bool) → (pair_on m f b).equal ≡ b
equal_is Both f b = refl
equal_is Left f b = refl
equal_is Right f b = refl

pub runs_both : (m : Mode) (s : Side) → m ≡ Both → runs m s ≡ true
runs_both Both left e = refl
runs_both Both right e = refl
runs_both Left s e = absurd cc
runs_both Right s e = absurd cc

no_fault : (k : AlarmKind) (a b : Shown) → fault_of k a b ≡ [] → (a ≡ None) × (b ≡ None)
no_fault k None None e = (refl, refl)
no_fault k (Some a) None e = absurd (let f : fault k a no_range ≡ [] = e in cc)
no_fault k None (Some b) e = absurd (let f : fault k no_range b ≡ [] = e in cc)
no_fault k (Some a) (Some b) e = absurd (let f : fault k a b ≡ [] = e in cc)

pub unmarked : (m : Mode) (k : AlarmKind) (f : Side → Shown) (s : Side) → faults_on m k f ≡ [] → runs m s ≡ true
    → f s ≡ None
unmarked Both k f left e r = (no_fault k (f left) (f right) e).0
unmarked Both k f right e r = (no_fault k (f left) (f right) e).1
unmarked Left k f left e r = (no_fault k (f left) None e).0
unmarked Left k f right e r = absurd cc
unmarked Right k f left e r = absurd cc
unmarked Right k f right e r = (no_fault k None (f right) e).1

pub not_shown : (b : Bool) → shown_if b ≡ None → b ≡ false
not_shown true e = absurd cc
not_shown false e = refl

-- ---- what machines find

pub both_found : (x : Found) (go : Datum → Found) (v : Datum) → with x go ≡ has v
    → (u : Datum) × (x ≡ has u) × (go u ≡ has v)
both_found (has u) go v e = (u, refl, e)
both_found (faults k) go v e = absurd (let f : faults k ≡ has v = e in cc)

pub number_found : (x : Found) (go : ℤ → Found) (v : Datum) → with_number x go ≡ has v
    → (z : ℤ) × (x ≡ has (int z)) × (go z ≡ has v)
number_found (has (int z)) go v e = (z, refl, e)
number_found (has null) go v e = absurd (let f : faults _ ≡ has v = e in cc)
number_found (has (pointer b q)) go v e = absurd (let f : faults _ ≡ has v = e in cc)
number_found (faults k) go v e = absurd (let f : faults k ≡ has v = e in cc)

-- ---- what is known of a value

pub record IsNum {N : Type 0} (D : Ops N) (t : IntType) (v : Option (Value N)) (z : ℤ) : Type 0 where
  pub number : N
  pub is : v ≡ Some (Num number)
  pub range : InRange t z
  pub holds : Holds D number z

pub record IsInt {N : Type 0} (D : Ops N) (t : IntType) (v : Option (Value N)) (u : Datum) : Type 0 where
  pub z : ℤ
  pub datum : u ≡ int z
  pub num : IsNum D t v z

pub is_int : {N : Type 0} (D : Ops N) (t : IntType) (v : Option (Value N)) (u : Datum)
    → Allows D (Int t) v false (Some u) → IsInt D t v u
is_int D t None u a = absurd (let e : Some u ≡ None = a in cc)
is_int D t (Some (Num n))
    (int z) a = record { z = z; datum = refl; num = record { number = n; is = refl; range = a.0; holds = a.1 } }
is_int D t (Some (Num n)) null a = absurd a
is_int D t (Some (Num n)) (pointer b q) a = absurd a
is_int D t (Some (Ptr p)) (int z) a = absurd a
is_int D t (Some (Ptr p)) null a = absurd a
is_int D t (Some (Ptr p)) (pointer b q) a = absurd a

-- ---- what is relied on

pub reliable_parts : (m : Mode) (xs ys : List Fault) → IsReliable m (xs ++ ys) → IsReliable m xs × IsReliable m ys
reliable_parts Both xs ys e = none_left xs ys e
reliable_parts Left xs ys e = sure_parts xs ys e
reliable_parts Right xs ys e = sure_parts xs ys e

pub reliable_none : (m : Mode) (xs : List Fault) → xs ≡ [] → IsReliable m xs
reliable_none Both xs e = e
reliable_none Left xs e = sure_none xs e
reliable_none Right xs e = sure_none xs e
