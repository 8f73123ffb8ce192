-- The output of a variable's bytes, over what is shown of each byte: where both machines have the same bytes, each byte
-- is surely the same.
use Rattle.std.proofs.Common.{◌≡◌, ℕ, zero, suc, ◌+◌, ◌<◌, ◌≤◌, inl, inr, ℤ, Bool, true, false, cond, nat_lt}
use Rattle.std.proofs.Common.{if◌then◌else◌, List, [], ◌∷◌, map, refl, sym, ap, ◌∙◌, subst, Option, Some, None, arith}
use Rattle.std.proofs.lemmas.Bool.{false_from_ne_true, ltb-true, ltb-false}
use Rattle.ep_int.specs.declared.types.IntType.{IntType}
use Rattle.ep_int.specs.declared.types.IntType.TheVariants.{I32}
use Rattle.ep_int.specs.declared.types.Order.{Order}
use Rattle.ep_int.specs.declared.types.Scalar.{Scalar}
use Rattle.ep_int.specs.declared.types.Scalar.TheVariants.{Int}
use Rattle.ep_int.specs.Types.{bytes_of}
use Rattle.ep_int.specs.Encoding.{encoded}
use Rattle.ep_int.specs.Memory.{undefined, bounds, range_fault}
use Rattle.ep_domain.specs.Domain.{Ops, Lawful}
use Rattle.ep_cells.specs.States.{Known}
use Rattle.ep_core.specs.Program.{block, addr_of, write_bytes, Program}
use Rattle.ep_core.specs.Exec.{State, uncounted, unless, byte_out, block_size, size_at, bytewise_rest, out_of, does}
use Rattle.ep_core.specs.Runs.{Side, left, right}
use Rattle.ep_core.specs.WellFormed.{holds_scalar, is_well_formed}
use Rattle.ep_equalities.specs.declared.pair.Mode.TheVariants as pair_mode
use Rattle.ep_evaluation.specs.Evaluation.{told}
use Rattle.ep_transfers.specs.Places.{Places, has_places, range_faults}
use Rattle.ep_transfers.specs.Transfers.{Stepped, stepped, after_faults, bytes_out, sizes, to_block}
use Rattle.ep_straight_laws.proofs.Scalars.{integer_is}
use Rattle.ep_straight_laws.proofs.Loads.{IsSet, IsVariable, unset, set, HasNumber}
use Rattle.ep_straight_laws.proofs.Judged.{V, passes, parts}
use Rattle.ep_straight_laws.proofs.Statements.{Judges, run, plain, by_plain}
use Rattle.ep_straight_laws.proofs.Runs.{Apart, IsUndefined, AreOnes}
use Rattle.ep_straight_laws.proofs.Evaluates.{AreVariables}
use Rattle.ep_straight_laws.proofs.Bytes.{outs, rest_is, AreBytes, AllSame, Put, put, parted, IsFine, bytes_fine}
use Rattle.ep_straight_laws.proofs.Fronts.{front_place, front_quiet}

-- the place of a variable on both sides
abbrev pub at : (block : ℕ) → Places
at b = record { left = (b, 0) ∷ []; right = (b, 0) ∷ [] }

numbers : (p : Program) (b l : ℕ) (o : Order) (t : IntType) (z : ℤ) (c i : ℕ) (x : State) → i + c ≤ bytes_of t
    → HasNumber o x.memory b t z → AreBytes p b l (encoded o t z) c i x
numbers p b l o t z zero i x h g = tt
numbers p b l o t z (suc c) i x h g = (g i (omega (arith, h)), numbers p b l o t z c (i + 1) x (omega (arith, h)) g)

same_at : (p : Program) (b l : ℕ) (e f : ℕ → ℕ) (c i j : ℕ) → AllSame p b l e f c i → i ≤ j → j < i + c → e j ≡ f j
same_at p b l e f zero i j a h g = absurd (omega (arith, h, g))
same_at p b l e f (suc c) i j a h g = by (nat_lt i j) refl (λ k. same_at p b l e f c (i + 1) j a.1 k (omega
    (arith, g)))
  where
    by : (t : Bool) → nat_lt i j ≡ t → (i + 1 ≤ j → e j ≡ f j) → e j ≡ f j
    by true q go = let n = ltb-true i j q in go (omega (arith, n))
    by false q go =
        let n = ltb-false i j q in
        let s : i ≡ j = omega (arith, n, h) in subst (λ u. e u ≡ f u) s a.0

module _ {N : Type 0} (D : Ops N) (law : Lawful D) (p : Program) (formed : is_well_formed p ≡ true) (ord : Side
    → Order)
    (seen : List ℕ) (r : ℕ) (result : Option (ℕ × Scalar)) where
  -- where both machines have the same first bytes, what is known of each says so
  abbrev pub FineBytes : Type 0
  FineBytes = (k : Known N) (x y : State) → V D law p formed ord seen r k x y → (b : ℕ) (t : IntType)
      → (s : IsSet D ord k x.memory y.memory b t) → (i : ℕ) → i < bytes_of t
      → encoded (ord left) t s.z 0 ≡ encoded (ord right) t s.z 0
      → encoded (ord left) t s.z i ≡ encoded (ord right) t s.z i → IsFine D k (at b) i

  module _ (b : ℕ) (t : IntType) (integer : holds_scalar p.types p.blocks (b, Int t) ≡ true) (c : ℕ)
      (inside : c ≤ bytes_of t) (some : 1 ≤ c) (l n m : ℕ) where
    size_is : (o : Order) → size_at o p b ≡ bytes_of t
    size_is o = let i = integer_is p formed b t integer in ap (block_size o p) i.here ∙ i.size_is

    fault_none : (o : Order) → range_fault (size_at o p b) 0 c ≡ None
    fault_none o =
        let e = size_is o in
        let f : nat_lt (size_at o p b) (0 + c) ≡ false
        = false_from_ne_true (nat_lt (size_at o p b) (0 + c))
        (λ h. absurd (let g = ltb-true (size_at o p b) (0 + c) h in omega (arith, g, e, inside))) in
        ap (λ z. cond z (Some bounds) None) f

    does_is : (o : Order) (j : ℕ) (x : State)
        → does o p uncounted result (write_bytes (addr_of (block b)) c) l j x ≡ outs p b l o c 0 j x
    does_is o j x =
        ap (λ u. unless u l x (bytewise_rest uncounted (out_of o p b l) c 0 j x)) (fault_none o)
        ∙ rest_is p b l o c 0 j x

    abbrev after_range : Known N → Places → Stepped N
    after_range k q =
        after_faults (range_faults D (sizes D p) pair_mode.Both c (to_block D pair_mode.Both b))
        (if has_places pair_mode.Both q then bytes_out D pair_mode.Both true k q 0 c else stepped [] None)

    plain_is : (k : Known N) → ((j : ℕ) → 0 ≤ j → j < 0 + c → IsFine D k (at b) j)
        → plain D law p formed ord seen r result (write_bytes (addr_of (block b)) c) k ≡ stepped [] (Some k)
    plain_is k h =
        ap (λ qs. after_faults [] (after_faults [] (after_range k (record { left = qs; right = qs }))))
        (front_place D law p formed b t integer c inside)
        ∙ ap (λ fs. after_faults fs (bytes_out D pair_mode.Both true k (at b) 0 c))
        (front_quiet D law p formed b t integer c inside)
        ∙ ap (λ z. after_faults [] z) (bytes_fine D k (at b) c 0 h)

    none_out : (o : Order) (c j : ℕ) (x : State) → 1 ≤ c → x.memory b 0 ≡ undefined → IsUndefined
        (outs p b l o c 0 j x)
    none_out o zero j x h e = absurd (omega (arith, h))
    none_out o (suc c) j x h e =
        subst (λ u. IsUndefined (byte_out u l x (outs p b l o c (0 + 1) j))) (sym e) tt

    pub judged_front : FineBytes → (k : Known N) (x y : State) → V D law p formed ord seen r k x y
        → IsVariable D ord k x.memory y.memory b t
        → Judges D law p formed ord seen r result (write_bytes (addr_of (block b)) c) l n m k x y
    judged_front fine k x y v (unset w h g) =
        parts (inl (subst IsUndefined (sym (does_is (ord left) n x))
        (none_out (ord left) c n x some (h 0 (omega (arith, some, inside))))))
    judged_front fine k x y v (set s) =
        elim (parted p b l (ord left) (ord right) (encoded (ord left) t s.z) (encoded
        (ord right) t s.z) c 0 n m x y on_x on_y v.kept.stands.outputs) [
          | inl a ↦ by_plain D law p formed ord seen r result (write_bytes (addr_of (block b)) c) l n m k x y
              v.kept.stands.memories.state.model
              (let q = plain_is k (λ j i h. fine k x y v b t s j (omega (arith, h, inside))
              (same_at p b l (encoded (ord left) t s.z) (encoded (ord right) t s.z) c 0 0 a (omega arith) (omega
              (arith, some))) (same_at p b l (encoded (ord left) t s.z) (encoded
              (ord right) t s.z) c 0 j a i h)) in
              passes k px.state py.state (ap (λ (z : Stepped N). map (told D) z.faults) q) (ap (λ
              (z : Stepped N). z.next) q)
              (does_is (ord left) n x ∙ px.is) (does_is (ord right) m y ∙ py.is)
              (λ kept. record {
                kept = kept;
                ones = subst AreOnes (sym px.inputs) v.ones;
                vars = subst (λ u. AreVariables D law p formed seen ord k u py.state.memory) (sym px.memory)
                    (subst (λ u. AreVariables D law p formed seen ord k x.memory u) (sym py.memory) v.vars);
                result = subst (λ u. IsSet D ord k u py.state.memory r I32) (sym px.memory)
                    (subst (λ u. IsSet D ord k x.memory u r I32) (sym py.memory) v.result);
              }))
          | inr d ↦ parts
              (subst (λ u. Apart u (run D law p formed ord seen r result right (write_bytes (addr_of
              (block b)) c) l m y))
              (sym (does_is (ord left) n x))
              (subst (λ u. Apart (outs p b l (ord left) c 0 n x) u) (sym (does_is (ord right) m y)) d))
        ]
      where
        on_x : AreBytes p b l (encoded (ord left) t s.z) c 0 x
        on_x = numbers p b l (ord left) t s.z c 0 x (omega (arith, inside)) s.on_left

        on_y : AreBytes p b l (encoded (ord right) t s.z) c 0 y
        on_y = numbers p b l (ord right) t s.z c 0 y (omega (arith, inside)) s.on_right

        px : Put p b l (ord left) c 0 n x
        px = put p b l (ord left) (encoded (ord left) t s.z) c 0 n x on_x

        py : Put p b l (ord right) c 0 m y
        py = put p b l (ord right) (encoded (ord right) t s.z) c 0 m y on_y
