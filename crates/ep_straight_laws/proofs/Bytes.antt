-- The bytes of a variable are put out: on both machines the same, or the machines come apart.
use Rattle.std.proofs.Common.{◌≡◌, ℕ, zero, suc, ◌+◌, ◌<◌, ◌≤◌, ◌⊎◌, inl, inr, ℤ, pos, Bool, true, false, nat_eq}
use Rattle.std.proofs.Common.{nat_le, if◌then◌else◌, [], ◌∷◌, ◌++◌, refl, sym, ap, ◌∙◌, subst, Option, Some, None}
use Rattle.std.proofs.Common.{option_and_then, arith, slice_get}
use Rattle.std.proofs.lemmas.Bool.{eqb-true, eq-eqb, leb-true}
use Rattle.ep_int.specs.declared.types.IntType.{IntType}
use Rattle.ep_int.specs.declared.types.IntType.TheVariants.{U8}
use Rattle.ep_int.specs.declared.types.Order.{Order}
use Rattle.ep_int.specs.declared.types.Scalar.TheVariants.{Int}
use Rattle.ep_int.specs.Types.{bytes_of}
use Rattle.ep_int.specs.Memory.{Byte, undefined, number, fragment}
use Rattle.ep_layout.specs.declared.types.Ty.{Ty}
use Rattle.ep_layout.specs.declared.types.Ty.TheVariants as ty
use Rattle.ep_core.specs.Program.{Program}
use Rattle.ep_core.specs.Exec.{State, on, Outcome, leaves, uncounted, put_out, byte_out, bytewise, bytewise_rest}
use Rattle.ep_core.specs.Exec.{out_of}
use Rattle.ep_core.specs.Runs.{Begins}
use Rattle.ep_core.specs.WellFormed.{has_scalar, block_type, holds_scalar, number_of_type}
use Rattle.ep_core.proofs.Prefixes.{begins_refl, begins_trans, begins_more}
use Rattle.ep_domain.specs.Domain.{Ops}
use Rattle.ep_cells.specs.States.{Known}
use Rattle.ep_equalities.specs.declared.pair.Mode.TheVariants as pair_mode
use Rattle.ep_equalities.specs.declared.pair.PairValue.{PairValue}
use Rattle.ep_equalities.specs.Same.{is_same}
use Rattle.ep_transfers.specs.Places.{Places, has_values}
use Rattle.ep_transfers.specs.Transfers.{Stepped, stepped, after_faults, differ_faults, byte_pair, byte_faults}
use Rattle.ep_transfers.specs.Transfers.{bytes_out}
use Rattle.ep_straight_laws.specs.Straight.{integer_bytes}
use Rattle.ep_straight_laws.proofs.Runs.{Apart, outputs_in, bytes_diverge}

-- ---- the front of a variable

front_by : (o : Option Ty) (c : ℕ) → nat_le c (integer_bytes o) ≡ true → 1 ≤ c
    → (t : IntType) × (has_scalar o (Int t) ≡ true) × (c ≤ bytes_of t)
front_by None c h l = absurd (let e = leb-true c 0 h in omega (arith, e, l))
front_by (Some (ty.Int t)) c h l = (t, eq-eqb (number_of_type t) (number_of_type t) refl, leb-true c (bytes_of t) h)
front_by (Some (ty.Ptr d)) c h l = absurd (let e = leb-true c 0 h in omega (arith, e, l))
front_by (Some ty.Void) c h l = absurd (let e = leb-true c 0 h in omega (arith, e, l))
front_by (Some (ty.Array d n)) c h l = absurd (let e = leb-true c 0 h in omega (arith, e, l))
front_by (Some (ty.Aggregate a)) c h l = absurd (let e = leb-true c 0 h in omega (arith, e, l))

pub front_is : (p : Program) (b c : ℕ)
    → nat_le c (integer_bytes (option_and_then (slice_get p.types.types) (block_type (slice_get p.blocks b)))) ≡ true
    → 1 ≤ c → (t : IntType) × (holds_scalar p.types p.blocks (b, Int t) ≡ true) × (c ≤ bytes_of t)
front_is p b c h l = front_by (option_and_then (slice_get p.types.types) (block_type (slice_get p.blocks b))) c h l

-- ---- what the machines do

module _ (p : Program) (b l : ℕ) where
  abbrev pub outs : Order → (count here n : ℕ) → State → Outcome
  outs o c i n x = bytewise uncounted (out_of o p b l) c i n x

  pub rest_is : (o : Order) (c i n : ℕ) (x : State)
      → bytewise_rest uncounted (out_of o p b l) c i n x ≡ outs o c i n x
  rest_is o zero i n x = refl
  rest_is o (suc c) i n x = refl

  -- so many bytes, from one on, are those numbers
  abbrev pub AreBytes : (e : ℕ → ℕ) → (count here : ℕ) → State → Type 0
  AreBytes e zero i x = Unit {0}
  AreBytes e (suc c) i x = (x.memory b i ≡ number (e i)) × AreBytes e c (i + 1) x

  still_bytes : (e : ℕ → ℕ) (c i : ℕ) (x : State) (t : IntType) (v : ℤ) → AreBytes e c i x → AreBytes e c i
      (put_out t v x)
  still_bytes e zero i x t v h = tt
  still_bytes e (suc c) i x t v h = (h.0, still_bytes e c (i + 1) x t v h.1)

  outs_begin : (o : Order) (e : ℕ → ℕ) (c i n : ℕ) (x : State) → AreBytes e c i x
      → Begins x.outputs (outputs_in (outs o c i n x))
  outs_begin o e zero i n x h = begins_refl _
  outs_begin o e (suc c) i n x h =
      subst (λ u. Begins x.outputs (outputs_in (byte_out u l x (outs o c (i + 1) n)))) (sym h.0)
      (begins_trans _ _ _ (begins_more x.outputs _)
      (outs_begin o e c (i + 1) n (put_out U8 (pos (e i)) x) (still_bytes e c (i + 1) x U8 (pos (e i)) h.1)))

  -- the machine behind them
  pub record Put (o : Order) (c i n : ℕ) (x : State) : Type 0 where
    pub state : State
    pub is : outs o c i n x ≡ leaves on n state
    pub memory : state.memory ≡ x.memory
    pub inputs : state.inputs ≡ x.inputs

  pub put : (o : Order) (e : ℕ → ℕ) (c i n : ℕ) (x : State) → AreBytes e c i x → Put o c i n x
  put o e zero i n x h = record { state = x; is = refl; memory = refl; inputs = refl }
  put o e (suc c) i n x h =
      let r = put o e c (i + 1) n (put_out U8 (pos (e i)) x) (still_bytes e c (i + 1) x U8 (pos (e i)) h.1) in
      record {
        state = r.state;
        is = ap (λ u. byte_out u l x (outs o c (i + 1) n)) h.0 ∙ r.is;
        memory = r.memory;
        inputs = r.inputs;
      }

  -- ---- the same bytes on both machines, or another after the same outputs

  abbrev pub AllSame : (e f : ℕ → ℕ) → (count here : ℕ) → Type 0
  AllSame e f zero i = Unit {0}
  AllSame e f (suc c) i = (e i ≡ f i) × AllSame e f c (i + 1)

  out_grows : (u : Byte) (s : State) (go : State → Outcome) → ((r : State) → Begins r.outputs (outputs_in (go r)))
      → Begins s.outputs (outputs_in (byte_out u l s go))
  out_grows undefined s go h = begins_refl _
  out_grows (number v) s go h = begins_trans _ _ _ (begins_more s.outputs _) (h (put_out U8 (pos v) s))
  out_grows (fragment d o k) s go h = begins_refl _

  outs_grow : (o : Order) (c i n : ℕ) (s : State) → Begins s.outputs (outputs_in (outs o c i n s))
  outs_grow o zero i n s = begins_refl _
  outs_grow o (suc c) i n s = out_grows (s.memory b i) s (outs o c (i + 1) n) (λ r. outs_grow o c (i + 1) n r)

  pub parted : (o q : Order) (e f : ℕ → ℕ) (c i n m : ℕ) (x y : State) → AreBytes e c i x → AreBytes f c i y
      → x.outputs ≡ y.outputs → AllSame e f c i ⊎ Apart (outs o c i n x) (outs q c i m y)
  parted o q e f zero i n m x y h g same = inl tt
  parted o q e f (suc c) i n m x y h g same =
      by (nat_eq (e i) (f i)) refl
      (λ z. parted o q e f c (i + 1) n m (put_out U8 (pos (e i)) x) (put_out U8 (pos (f i)) y)
      (still_bytes e c (i + 1) x U8 (pos (e i)) h.1) (still_bytes f c (i + 1) y U8 (pos (f i)) g.1)
      (ap (λ v. v ++ record { t = U8; value = pos (e i) } ∷ []) same
      ∙ ap (λ v. y.outputs ++ record { t = U8; value = pos v } ∷ []) z))
    where
      step_is : (r : Order) (d : ℕ → ℕ) (k : ℕ) (s : State) → s.memory b i ≡ number (d i)
          → outs r (suc c) i k s ≡ outs r c (i + 1) k (put_out U8 (pos (d i)) s)
      step_is r d k s a = ap (λ u. byte_out u l s (outs r c (i + 1) k)) a

      by : (t : Bool) → nat_eq (e i) (f i) ≡ t
          → (e i ≡ f i → AllSame e f c (i + 1) ⊎ Apart (outs o c (i + 1) n (put_out U8 (pos (e i)) x))
          (outs q c (i + 1) m (put_out U8 (pos (f i)) y)))
          → AllSame e f (suc c) i ⊎ Apart (outs o (suc c) i n x) (outs q (suc c) i m y)
      by true z go = elim (go (eqb-true (e i) (f i) z)) [
        | inl a ↦ inl (eqb-true (e i) (f i) z, a)
        | inr a ↦ inr (subst (λ u. Apart u (outs q (suc c) i m y)) (sym (step_is o e n x h.0))
            (subst (λ u. Apart (outs o c (i + 1) n (put_out U8 (pos (e i)) x)) u) (sym (step_is q f m y g.0)) a))
      ]
      by false z go =
          inr (inr (bytes_diverge x y (x.memory b i) (y.memory b i) (e i) (f i) l (outs o c (i + 1) n) (outs q c
          (i + 1) m)
          h.0 g.0 (λ a. let s : true ≡ false = sym (eq-eqb (e i) (f i) a) ∙ z in cc) same
          (λ s. outs_grow o c (i + 1) n s) (λ s. outs_grow q c (i + 1) m s)))

-- ---- what is known of them

module _ {N : Type 0} (D : Ops N) (k : Known N) (places : Places) where
  -- a byte is there without a fault, and is surely the same on both sides
  pub record IsFine (i : ℕ) : Type 0 where
    pub quiet : byte_faults D pair_mode.Both k places i ≡ []
    pub there : has_values pair_mode.Both (byte_pair D pair_mode.Both true k places i) ≡ true
    pub same : is_same D (byte_pair D pair_mode.Both true k places i) ≡ true

  pub bytes_fine : (c i : ℕ) → ((j : ℕ) → i ≤ j → j < i + c → IsFine j)
      → bytes_out D pair_mode.Both true k places i c ≡ stepped [] (Some k)
  bytes_fine zero i h = refl
  bytes_fine (suc c) i h =
      let f = h i (omega arith) (omega arith) in
      let r = bytes_fine c (i + 1) (λ j a b. h j (omega (arith, a)) (omega (arith, b))) in
      ap (λ fs. after_faults fs (tried (has_values pair_mode.Both pair_here) (is_same D pair_here) then_next)) f.quiet
      ∙ ap (λ t. after_faults [] (tried t (is_same D pair_here) then_next)) f.there
      ∙ ap (λ s. after_faults [] (tried true s then_next)) f.same
      ∙ ap (λ z. after_faults [] (after_faults [] z)) r
    where
      pair_here : PairValue N
      pair_here = byte_pair D pair_mode.Both true k places i

      then_next : Stepped N
      then_next = bytes_out D pair_mode.Both true k places (i + 1) c

      tried : Bool → Bool → Stepped N → Stepped N
      tried t s z = if t then after_faults (differ_faults D s pair_here) z else stepped [] None
