-- New cells at a place and at the one behind it, and at both together.
use Rattle.std.proofs.Common.{◌≡◌, ℕ, ◌+◌, ◌<◌, Bool, true, false, ◌&&◌, not, nat_eq, nat_lt, nat_le, cond, List, []}
use Rattle.std.proofs.Common.{◌∷◌, map, ⊎_elim, Option, Some, None, refl, sym, ap, ◌∙◌, subst, arith}
use Rattle.std.proofs.lemmas.Bool.Decides.{nat_tests}
use Rattle.ep_int.specs.declared.types.Model.{Model}
use Rattle.ep_bitslice.specs.declared.cell.Side.{Side}
use Rattle.ep_cells.specs.declared.cell.Cell.{Cell}
use Rattle.ep_cells.specs.Cells.{place_of, side_without, with_side, touches, put_all, each_becomes, IsIn, first, later}
use Rattle.ep_cells.specs.Forms.{Fate, form_after, reformed}
use Rattle.ep_cells.specs.Write.{left_by_write, fate_by_write}
use Rattle.ep_cells.specs.States.{EachPair, AreApart}
use Rattle.ep_cell_ranges.specs.Ranges.{Form, with_form}
use Rattle.ep_cells.proofs.Lists.{in_each, each_in, in_map, map_in, in_put, put_there, put_keeps, in_put_all}
use Rattle.ep_cells.proofs.Lists.{put_all_keeps}
use Rattle.ep_cells.proofs.Places.{at}
use Rattle.ep_reads.proofs.Composed.{then_fate, reformed_twice}
use Rattle.ep_transfer_writes.proofs.Ordered.{same_cells}
use Rattle.ep_transfer_writes.proofs.Joined.{two_fates, two_lefts}

-- ---- cells that are put

module _ {N : Type 0} where
  pub put_all_there : (new : List (Cell N)) (y : Cell N) (cs : List (Cell N)) → IsIn y new → IsIn y (put_all new cs)
  put_all_there [] y cs i = elim i [ ]
  put_all_there (_ ∷ new) y cs (first _) = put_there y (put_all new cs)
  put_all_there (c ∷ new) y cs (later _ _ i) = put_keeps c y (put_all new cs) (put_all_there new y cs i)

  is_here : (P : Cell N → Type 0) (x y : Cell N) → x ≡ y → P y → P x
  is_here P x y e h = subst P (sym e) h

-- of m bytes, of n more, and of all
module _ (s : Side) (b a : ℕ) where
  abbrev pub F1 : (m : ℕ) → Fate
  F1 m = fate_by_write (at s b a m)

  abbrev pub F2 : (m n : ℕ) → Fate
  F2 m n = fate_by_write (at s b (a + m) n)

  abbrev pub F : (all : ℕ) → Fate
  F all = fate_by_write (at s b a all)

module _ (s : Side) (b a m n all : ℕ) (total : all ≡ m + n) where
  fates : then_fate (F1 s b a m) (F2 s b a m n) ≡ F s b a all
  fates = λ i name. two_fates s b a m n all name total i

  -- ---- none lies partly in the bytes behind

  pub behind_by : (c r k : ℕ) → 0 < k
      → ((nat_eq b c && (nat_lt a (r + k) && nat_lt r (a + m))) && not (nat_le a r && nat_le (r + k) (a + m))) ≡ false
      → ((nat_eq b c && (nat_lt a (r + k) && nat_lt r (a + all))) && not (nat_le a r && nat_le (r + k)
      (a + all))) ≡ false
      → ((nat_eq b c && (nat_lt (a + m) (r + k) && nat_lt r (a + m + n)))
      && not (nat_le (a + m) r && nat_le (r + k) (a + m + n))) ≡ false
  behind_by c r k h i j = grind (arith, nat_tests, total)

module _ {N : Type 0} (d : Model) (s : Side) (b a m n all : ℕ) (total : all ≡ m + n) where
  pub both_reformed : (c : Cell N) → reformed (F2 s b a m n) (reformed (F1 s b a m) c) ≡ reformed (F s b a all) c
  both_reformed c = reformed_twice (F1 s b a m) (F2 s b a m n) c ∙ ap (λ h. reformed h c) (fates s b a m n all total)

  abbrev L1 : Cell N → List (Cell N)
  L1 = left_by_write d (at s b a m)

  abbrev L2 : Cell N → List (Cell N)
  L2 = left_by_write d (at s b (a + m) n)

  abbrev L : Cell N → List (Cell N)
  L = left_by_write d (at s b a all)

  -- the first byte, the others after it, and all at once
  abbrev pub written_once : (cut : Form → Form) → Cell N → List (Cell N) → List (Cell N)
  written_once cut c cs = map (reformed (F1 s b a m)) (put_all (with_form cut c ∷ []) (each_becomes L1 cs))

  abbrev pub written_twice : (cut g : Form → Form) → Cell N → (new cs : List (Cell N)) → List (Cell N)
  written_twice cut g c new cs =
      map (reformed (F2 s b a m n)) (put_all (map (with_form g) new) (each_becomes L2 (written_once cut c cs)))

  abbrev pub written_together : Cell N → (new cs : List (Cell N)) → List (Cell N)
  written_together c new cs = map (reformed (F s b a all)) (put_all (c ∷ new) (each_becomes L cs))

  -- with g, the form of a cell that waits goes through the first write
  module _ (cut g : Form → Form) (through : (f : Form) → form_after (F2 s b a m n) (form_after (F1 s b a m) (cut f))
      ≡ form_after (F s b a all) f)
      (follows : (f : Form) → form_after (F2 s b a m n) (g f) ≡ form_after (F s b a all) f) (c : Cell N)
      (off : touches (at s b (a + m) n) (place_of d c) ≡ false) (new cs : List (Cell N)) where
    abbrev once : List (Cell N)
    once = written_once cut c cs

    abbrev twice : List (Cell N)
    twice = written_twice cut g c new cs

    abbrev together : List (Cell N)
    together = written_together c new cs

    c_is : reformed (F2 s b a m n) (reformed (F1 s b a m) (with_form cut c)) ≡ reformed (F s b a all) c
    c_is = ap (λ f. record c { form = f }) (through c.form)

    new_is : (u : Cell N) → reformed (F2 s b a m n) (with_form g u) ≡ reformed (F s b a all) u
    new_is u = ap (λ f. record u { form = f }) (follows u.form)

    c_left : L2 (reformed (F1 s b a m) (with_form cut c)) ≡ reformed (F1 s b a m) (with_form cut c) ∷ []
    c_left = ap (λ t. cond t (with_side (reformed (F1 s b a m) (with_form cut c)) (side_without s c.side))
        (reformed (F1 s b a m) (with_form cut c) ∷ [])) off

    blind : (u : Cell N) → L2 (reformed (F1 s b a m) u) ≡ map (reformed (F1 s b a m)) (L2 u)
    blind u = by (touches (at s b (a + m) n) (place_of d u)) (side_without s u.side)
      where
        by : (t : Bool) (o : Option Side) → cond t (with_side (reformed (F1 s b a m) u) o) (reformed
            (F1 s b a m) u ∷ [])
            ≡ map (reformed (F1 s b a m)) (cond t (with_side u o) (u ∷ []))
        by true None = refl
        by true (Some r) = refl
        by false o = refl

    -- of either, in the other
    at_new : (u : Cell N) → IsIn u (c ∷ new) → IsIn (reformed (F s b a all) u) together
    at_new u i = map_in (reformed (F s b a all)) u (put_all (c ∷ new) (each_becomes L cs))
        (put_all_there (c ∷ new) u (each_becomes L cs) i)

    at_left : (v u : Cell N) → IsIn v cs → IsIn u (L v) → IsIn (reformed (F s b a all) u) together
    at_left v u i j = map_in (reformed (F s b a all)) u (put_all (c ∷ new) (each_becomes L cs))
        (put_all_keeps (c ∷ new) u (each_becomes L cs) (each_in L v u cs i j))

    one_only : (x y : Cell N) → IsIn x (y ∷ []) → x ≡ y
    one_only x _ (first _) = refl
    one_only x y (later _ _ i) = elim i [ ]

    -- what the second leaves of the first one's cells
    from_once : (x z : Cell N) → IsIn x once → IsIn z (L2 x) → IsIn (reformed (F2 s b a m n) z) together
    from_once x z i j =
        let r = in_map (reformed (F1 s b a m)) x (put_all (with_form cut c ∷ []) (each_becomes L1 cs)) i in
        ⊎_elim
        (λ e. from_c (r.is ∙ ap (reformed (F1 s b a m)) e))
        (λ k. from_rest r.origin r.is k)
        (in_put (with_form cut c) r.origin (each_becomes L1 cs) r.is_in)
      where
        from_c : x ≡ reformed (F1 s b a m) (with_form cut c) → IsIn (reformed (F2 s b a m n) z) together
        from_c e =
            let y = reformed (F1 s b a m) (with_form cut c) in
            let q = one_only z y (subst (IsIn z) (ap L2 e ∙ c_left) j) in
            is_here (λ w. IsIn w together) (reformed (F2 s b a m n) z) (reformed (F s b a all) c) (ap (reformed
            (F2 s b a m n)) q ∙ c_is) (at_new c (first new))

        from_rest : (u : Cell N) → x ≡ reformed (F1 s b a m) u → IsIn u (each_becomes L1 cs) → IsIn (reformed
            (F2 s b a m n) z) together
        from_rest u e k =
            let v = in_each L1 u cs k in
            let w = in_map (reformed (F1 s b a m)) z (L2 u) (subst (IsIn z) (ap L2 e ∙ blind u) j) in
            is_here (λ t. IsIn t together) (reformed (F2 s b a m n) z) (reformed (F s b a all) w.origin)
            (ap (reformed (F2 s b a m n)) w.is ∙ both_reformed w.origin)
            (at_left v.origin w.origin v.is_in (subst (IsIn w.origin) (two_lefts d s b a m n all v.origin total)
            (each_in L2 u w.origin (L1 v.origin) v.becomes w.is_in)))

    forth : (y : Cell N) → IsIn y twice → IsIn y together
    forth y i =
        let r = in_map (reformed (F2 s b a m n)) y (put_all (map (with_form g) new) (each_becomes L2 once)) i in
        is_here (λ t. IsIn t together) y (reformed (F2 s b a m n) r.origin) r.is
        (⊎_elim
        (λ k.
        let q = in_map (with_form g) r.origin new k in
        is_here (λ t. IsIn t together) (reformed (F2 s b a m n) r.origin) (reformed (F s b a all) q.origin)
        (ap (reformed (F2 s b a m n)) q.is ∙ new_is q.origin) (at_new q.origin (later c new q.is_in)))
        (λ k. let q = in_each L2 r.origin once k in from_once q.origin r.origin q.is_in q.becomes)
        (in_put_all (map (with_form g) new) r.origin (each_becomes L2 once) r.is_in))

    in_twice : (z : Cell N) → IsIn z (each_becomes L2 once) → IsIn (reformed (F2 s b a m n) z) twice
    in_twice z i = map_in (reformed (F2 s b a m n)) z (put_all (map (with_form g) new) (each_becomes L2 once))
        (put_all_keeps (map (with_form g) new) z (each_becomes L2 once) i)

    back_new : (u : Cell N) → IsIn u (c ∷ new) → IsIn (reformed (F s b a all) u) twice
    back_new _ (first _) =
        let y = reformed (F1 s b a m) (with_form cut c) in
        is_here (λ t. IsIn t twice) (reformed (F s b a all) c) (reformed (F2 s b a m n) y) (sym c_is)
        (in_twice y (each_in L2 y y once
        (map_in (reformed (F1 s b a m)) (with_form cut c) (put_all (with_form cut c ∷ []) (each_becomes L1 cs))
        (put_there (with_form cut c) (each_becomes L1 cs)))
        (subst (IsIn y) (sym c_left) (first []))))
    back_new u (later _ _ i) =
        is_here (λ t. IsIn t twice) (reformed (F s b a all) u) (reformed (F2 s b a m n) (with_form g u))
        (sym (new_is u))
        (map_in (reformed (F2 s b a m n)) (with_form g u) (put_all (map (with_form g) new) (each_becomes L2 once))
        (put_all_there (map (with_form g) new) (with_form g u) (each_becomes L2 once) (map_in (with_form g) u new i)))

    back_left : (v u : Cell N) → IsIn v cs → IsIn u (L v) → IsIn (reformed (F s b a all) u) twice
    back_left v u i j =
        let q = in_each L2 u (L1 v) (subst (IsIn u) (sym (two_lefts d s b a m n all v total)) j) in
        is_here (λ t. IsIn t twice) (reformed (F s b a all) u) (reformed (F2 s b a m n) (reformed (F1 s b a m) u))
        (sym (both_reformed u))
        (in_twice (reformed (F1 s b a m) u) (each_in L2 (reformed (F1 s b a m) q.origin) (reformed
        (F1 s b a m) u) once
        (map_in (reformed (F1 s b a m)) q.origin (put_all (with_form cut c ∷ []) (each_becomes L1 cs))
        (put_keeps (with_form cut c) q.origin (each_becomes L1 cs) (each_in L1 v q.origin cs i q.is_in)))
        (subst (IsIn (reformed (F1 s b a m) u)) (sym (blind q.origin)) (map_in (reformed (F1 s b a m)) u
        (L2 q.origin) q.becomes))))

    back : (y : Cell N) → IsIn y together → IsIn y twice
    back y i =
        let r = in_map (reformed (F s b a all)) y (put_all (c ∷ new) (each_becomes L cs)) i in
        is_here (λ t. IsIn t twice) y (reformed (F s b a all) r.origin) r.is
        (⊎_elim (λ k. back_new r.origin k)
        (λ k. let q = in_each L r.origin cs k in back_left q.origin r.origin q.is_in q.becomes)
        (in_put_all (c ∷ new) r.origin (each_becomes L cs) r.is_in))

    pub one_write : EachPair (AreApart d) twice → EachPair (AreApart d) together → twice ≡ together
    one_write p q = same_cells d twice together p q forth back
