-- Parameters are set one after another.
use Rattle.std.proofs.Common.{◌≡◌, ℕ, true, if◌then◌else◌, List, [], ◌∷◌, ◌++◌, length, map, Option, Some, None}
use Rattle.std.proofs.Common.{IfSome, option_to_list, refl, sym, ap, ◌∙◌, subst, append_assoc, arith}
use Rattle.std.specs.Option.{option_map_or}
use Rattle.std.proofs.lemmas.List.{append-nil}
use Rattle.ep_int.specs.declared.types.Scalar.{Scalar}
use Rattle.ep_int.specs.Memory.{contains}
use Rattle.ep_domain.specs.Domain.{Ops}
use Rattle.ep_cells.specs.Forms.{Fate, form_after}
use Rattle.ep_cells.specs.States.{Known, AreCells}
use Rattle.ep_core.specs.Exec.{first_of, frame_of}
use Rattle.ep_core.specs.Program.{Expr, Function, Program}
use Rattle.ep_core.specs.Runs.{Side, left, right}
use Rattle.ep_core.specs.WellFormed.{is_well_formed}
use Rattle.ep_equalities.specs.declared.pair.Fault.{Fault}
use Rattle.ep_equalities.specs.declared.pair.Mode.{Mode}
use Rattle.ep_equalities.specs.declared.pair.PairValue.{PairValue}
use Rattle.ep_evaluation.specs.Given.{Given, on}
use Rattle.ep_evaluation.specs.Laws as laws
use Rattle.ep_transfers.specs.Calls.{given_all, faults_of_all, then_step, bound, waiting, passed, arguments_step}
use Rattle.ep_transfers.specs.Transfers.{Stepped, stepped, fate_off_blocks, to_block, sizes, entered, assigned}
use Rattle.ep_transfers.specs.Writes.{formed_pair}
use Rattle.ep_transfers.specs.Statements.{Each}
use Rattle.ep_transfer_calls.specs.Waiting.{Waits, AllWait}
use Rattle.ep_transfer_stores.specs.Waiting.{SideFits}
use Rattle.ep_transfers.specs.WaitingLaws.{OthersThere, WaitingHolds}

pub is_empty : {A : Type 0} (n : ℕ) (xs : List A) → n ≡ length xs → n ≡ 0 → xs ≡ []
is_empty n [] e h = refl
is_empty n (x ∷ xs) e h = absurd (omega (arith, e, h))

module _ {N : Type 0} (D : Ops N) (p : Program) (frame : List ℕ) where
  abbrev pub off : PairValue N → PairValue N
  off v = formed_pair (form_after (fate_off_blocks frame)) v

  -- ---- one parameter

  module _ (waiting : Each (WaitingHolds D)) (formed : is_well_formed p ≡ true) (b : ℕ × Scalar) (v : PairValue N)
      (k : Known N) (w : Waits D p frame b v k) where
    off_fits : (s : Side) → laws.SideFits D p w.ord k b.1 (on (off v) s)
    off_fits left = (waiting p w.ord formed).waits frame w.was k w.there b.1 v.left (w.found.fits left)
    off_fits right = (waiting p w.ord formed).waits frame w.was k w.there b.1 v.right (w.found.fits right)

    -- it may take what waits for it
    pub may_take : (s : Side) (x : PairValue N) → x ≡ off v → SideFits k b.1 (on x s)
    may_take s x e =
        let f = off_fits s in
        subst (λ (z : PairValue N). SideFits k b.1 (on z s)) (sym e) (record { sort = f.sort; form = f.form })

    module _ (m : Mode) where
      -- and then cells of others are still there
      stays : (j : Known N) → AreCells k.model k.cells
          → (assigned D (sizes D p) m b.1 (to_block D m b.0) (off v) k).next ≡ Some j → OthersThere frame k j
      stays j c h = (waiting p w.ord formed).set frame m b.1 b.0 (off v) k j w.found.inside c (off_fits left) h

      pub if_stays : AreCells k.model k.cells → (o : Option (Known N))
          → o ≡ (assigned D (sizes D p) m b.1 (to_block D m b.0) (off v) k).next → IfSome o (OthersThere frame k)
      if_stays c None e = tt
      if_stays c (Some j) e = stays j c (sym e)

  pub set_is : (m : Mode) (b : ℕ × Scalar) (v : PairValue N) (k : Known N) (zs : List ℕ) (to x : PairValue N)
      → zs ≡ sizes D p → to ≡ to_block D m b.0 → x ≡ off v
      → assigned D zs m b.1 to x k ≡ assigned D (sizes D p) m b.1 (to_block D m b.0) (off v) k
  set_is m b v k zs to x e f h =
      ap (λ z. assigned D z m b.1 to x k) e ∙ ap (λ z. assigned D (sizes D p) m b.1 z x k) f
      ∙ ap (λ z. assigned D (sizes D p) m b.1 (to_block D m b.0) z k) h

  -- ---- one after another

  module _ (m : Mode) where
    abbrev pub one : ℕ × Scalar → PairValue N → Known N → Stepped N
    one b v k = assigned D (sizes D p) m b.1 (to_block D m b.0) (off v) k

    abbrev pub all : List (ℕ × Scalar) → List (PairValue N) → Known N → Stepped N
    all bs vs k = bound D p m bs (map off vs) k

    goes_on : (s : Stepped N) (go : Known N → Stepped N) (o : Option (Known N)) → o ≡ s.next
        → then_step D p s go ≡ stepped (s.faults ++ (option_map_or go o (stepped [] None)).faults)
        (option_map_or go o (stepped [] None)).next
    goes_on s go o e =
        ap (λ z. stepped (s.faults ++ (option_map_or go z (stepped [] None)).faults)
        (option_map_or go z (stepped [] None)).next) (sym e)

    -- what is left of the parameters, and of what waits for them
    module _ (ps bs : List (ℕ × Scalar)) (vs : List (PairValue N)) (b : ℕ × Scalar) (k : Known N) (ps_are : ps ≡ b ∷ bs)
      where
        pub none_left : vs ≡ [] → all ps vs k ≡ stepped [] (Some k)
        none_left e = ap (λ qs. all qs vs k) ps_are ∙ ap (λ ws. all (b ∷ bs) ws k) e

        module _ (ws : List (PairValue N)) (v : PairValue N) (vs_are : vs ≡ v ∷ ws) where
          first : all ps vs k ≡ then_step D p (one b v k) (all bs ws)
          first = ap (λ qs. all qs vs k) ps_are ∙ ap (λ us. all (b ∷ bs) us k) vs_are

          pub then_next : (j : Known N) → Some j ≡ (one b v k).next → (all bs ws j).next ≡ (all ps vs k).next
          then_next j e = sym (ap (λ (s : Stepped N). s.next) (first ∙ goes_on (one b v k) (all bs ws) (Some j) e))

          pub then_faults : (j : Known N) → Some j ≡ (one b v k).next → (old new : List Fault)
              → new ≡ old ++ (one b v k).faults → new ++ (all bs ws j).faults ≡ old ++ (all ps vs k).faults
          then_faults j e old new f =
              ap (λ fs. fs ++ (all bs ws j).faults) f ∙ append_assoc old (one b v k).faults (all bs ws j).faults
              ∙ ap (λ (s : Stepped N). old ++ s.faults) (sym (first ∙ goes_on (one b v k) (all bs ws) (Some j) e))

          pub stop_next : None ≡ (one b v k).next → None ≡ (all ps vs k).next
          stop_next e = sym (ap (λ (s : Stepped N). s.next) (first ∙ goes_on (one b v k) (all bs ws) None e))

          pub stop_faults : None ≡ (one b v k).next → (old new : List Fault) → new ≡ old ++ (one b v k).faults
              → new ≡ old ++ (all ps vs k).faults
          stop_faults e old new f =
              f ∙ ap (λ fs. old ++ fs) (sym (append-nil (one b v k).faults))
              ∙ ap (λ (s : Stepped N). old ++ s.faults) (sym (first ∙ goes_on (one b v k) (all bs ws) None e))

          pub first_waits : AllWait D p frame ps vs k → Waits D p frame b v k
          first_waits h =
              let a = subst (λ us. AllWait D p frame (b ∷ bs) us k) vs_are
              (subst (λ qs. AllWait D p frame qs vs k) ps_are h) in
              record { ord = a.ord; was = a.was; there = a.there; found = a.found.0 }

          pub rest_waits : AllWait D p frame ps vs k → (j : Known N) → OthersThere frame k j
              → AllWait D p frame bs ws j
          rest_waits h j s =
              let a = subst (λ us. AllWait D p frame (b ∷ bs) us k) vs_are
              (subst (λ qs. AllWait D p frame qs vs k) ps_are h) in
              record {
                ord = a.ord;
                was = a.was;
                there = λ c off t. s c off (a.there c off t);
                found = a.found.1;
              }

    pub end_left : (ps : List (ℕ × Scalar)) (vs : List (PairValue N)) (k : Known N) → ps ≡ []
        → all ps vs k ≡ stepped [] (Some k)
    end_left ps vs k e = ap (λ qs. all qs vs k) e

-- ---- a whole call

module _ {N : Type 0} (D : Ops N) (p : Program) (m : Mode) (f : Function) (es : List Expr) (k j : Known N)
    (blocks frame : List ℕ) (vs : List (PairValue N)) (there : Known N) where
  abbrev pairs : Known N → List (PairValue N)
  pairs i = map (λ (x : Given N). x.pair) (given_all D p es m i)

  off_pairs : (fr : List ℕ) (xs : List (Given N))
      → map (off D p fr) (map (λ (x : Given N). x.pair) xs) ≡ waiting D p fr xs
  off_pairs fr [] = refl
  off_pairs fr (x ∷ xs) = ap (λ ys. off D p fr x.pair ∷ ys) (off_pairs fr xs)

  -- the result, the frame, the arguments and the entry are those of the definition
  pub record IsCall : Type 0 where
    pub begun : j ≡ entered D p m (first_of (option_to_list f.result)) k
    pub blocks_are : blocks ≡ frame_of f
    pub same : (b : ℕ) → contains b frame ≡ contains b blocks
    pub values : vs ≡ pairs j
    pub comes : there ≡ entered D p m blocks j

  same_fates : ((b : ℕ) → contains b frame ≡ contains b blocks) → fate_off_blocks frame ≡ fate_off_blocks blocks
  same_fates same = λ i n. ap (λ t. if t then None else Some n) (same n.block) i

  call_is : IsCall → bound D p m f.params (map (off D p frame) vs) there
      ≡ bound D p m f.params (waiting D p (frame_of f) (given_all D p es m j)) (entered D p m (frame_of f) j)
  call_is c =
      ap (λ i. bound D p m f.params (map (off D p frame) vs) i) c.comes
      ∙ ap (λ (g : Fate). bound D p m f.params (map (λ v. formed_pair (form_after g) v) vs) (entered D p m blocks j))
      (same_fates c.same)
      ∙ ap (λ us. bound D p m f.params (map (off D p blocks) us) (entered D p m blocks j)) c.values
      ∙ ap (λ us. bound D p m f.params us (entered D p m blocks j)) (off_pairs blocks (given_all D p es m j))
      ∙ ap (λ fr. bound D p m f.params (waiting D p fr (given_all D p es m j)) (entered D p m fr j)) c.blocks_are

  pub call_next : IsCall → (r : Option (Known N)) → r ≡ (bound D p m f.params (map (off D p frame) vs) there).next
      → r ≡ (arguments_step D p m f es k).next
  call_next c r h =
      h ∙ ap (λ (s : Stepped N). s.next) (call_is c)
      ∙ ap (λ i. (passed D p m f (given_all D p es m i) i).next) c.begun

  pub call_faults : IsCall → (old given new : List Fault) → given ≡ old ++ faults_of_all D p (given_all D p es m j)
      → new ≡ given ++ (bound D p m f.params (map (off D p frame) vs) there).faults
      → new ≡ old ++ (arguments_step D p m f es k).faults
  call_faults c old given new e h =
      h ∙ ap (λ (s : Stepped N). given ++ s.faults) (call_is c)
      ∙ ap (λ fs. fs ++ (bound D p m f.params (waiting D p (frame_of f) (given_all D p es m j))
      (entered D p m (frame_of f) j)).faults) e
      ∙ append_assoc old (faults_of_all D p (given_all D p es m j)) _
      ∙ ap (λ i. old ++ (passed D p m f (given_all D p es m i) i).faults) c.begun
