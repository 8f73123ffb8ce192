-- Expressions have the same values where the memory becomes undefined outside of all blocks.
use Rattle.std.proofs.Common.{◌≡◌, pos, true, false, not, List, [], ◌∷◌, ◌∙◌, refl, ap}
use Rattle.ep_int.specs.declared.types.Order.{Order}
use Rattle.ep_int.specs.declared.types.Scalar.{Scalar}
use Rattle.ep_int.specs.Arith.{arith_of, compares}
use Rattle.ep_int.specs.Types.{wrapped}
use Rattle.ep_int.specs.Memory.{Memory, int, null, pointer, Found, has, faults, with_place, loaded}
use Rattle.ep_core.specs.Program.{Place, block, deref, member, element, Expr, const, null_value, load, addr_of, binary}
use Rattle.ep_core.specs.Program.{convert, compare, ptr_compare, logical_and, logical_or, logical_not, conditional}
use Rattle.ep_core.specs.Program.{ptr_add, cast, Program}
use Rattle.ep_core.specs.Exec.{with, with_number, result_of, is_true, truth, where_true, pointers_compare, distance}
use Rattle.ep_core.specs.Exec.{element_at, first_and, model, size_at, moved, value, address, values}
use Rattle.ep_single_restricted.specs.Restricted.{restricted}
use Rattle.ep_single_restricted.proofs.Bytes.{loaded_there}

module _ (o : Order) (p : Program) where
  load_there : (m : Memory) (w : Scalar) (f : Found)
      → with_place f (λ b q. loaded o (model o p) (size_at o p b) (restricted p m) w b q)
      ≡ with_place f (λ b q. loaded o (model o p) (size_at o p b) m w b q)
  load_there m w (has (int v)) = refl
  load_there m w (has null) = refl
  load_there m w (has (pointer b q)) = loaded_there o p m (model o p) w b q
  load_there m w (faults k) = refl

  mutual
    pub values_there : (e : Expr) (m : Memory) → value o p e (restricted p m) ≡ value o p e m
    values_there (const t v) m = refl
    values_there null_value m = refl
    values_there (load w a) m =
        ap (λ f. with_place f (λ b q. loaded o (model o p) (size_at o p b) (restricted p m) w b q)) (places_there a m)
        ∙ load_there m w (address o p a m)
    values_there (addr_of a) m = places_there a m
    values_there (binary op t a b) m =
        ap (λ f. with_number f (λ x. with_number (value o p b (restricted p m)) (λ y. result_of (arith_of op t x y))))
        (values_there a m)
        ∙ ap (λ f. with_number (value o p a m) (λ x. with_number f (λ y. result_of (arith_of op t x y))))
        (values_there b m)
    values_there (convert t e) m = ap (λ f. with_number f (λ v. has (int (wrapped t v)))) (values_there e m)
    values_there (compare c t a b) m =
        ap (λ f. with_number f (λ x. with_number (value o p b (restricted p m)) (λ y. truth (compares c x y))))
        (values_there a m)
        ∙ ap (λ f. with_number (value o p a m) (λ x. with_number f (λ y. truth (compares c x y)))) (values_there b m)
    values_there (ptr_compare c a b) m =
        ap (λ f. with f (λ v. with (value o p b (restricted p m)) (λ w. pointers_compare c v w))) (values_there a m)
        ∙ ap (λ f. with (value o p a m) (λ v. with f (λ w. pointers_compare c v w))) (values_there b m)
    values_there (logical_and a b) m =
        ap (λ f. with f (λ v. where_true (is_true v) (truth false) (with (value o p b (restricted p m))
        (λ w. truth (is_true w))))) (values_there a m)
        ∙ ap (λ f. with (value o p a m) (λ v. where_true (is_true v) (truth false) (with f (λ w. truth (is_true w)))))
        (values_there b m)
    values_there (logical_or a b) m =
        ap (λ f. with f (λ v. where_true (is_true v) (with (value o p b (restricted p m)) (λ w. truth (is_true w)))
        (truth true))) (values_there a m)
        ∙ ap (λ f. with (value o p a m) (λ v. where_true (is_true v) (with f (λ w. truth (is_true w))) (truth true)))
        (values_there b m)
    values_there (logical_not e) m = ap (λ f. with f (λ v. truth (not (is_true v)))) (values_there e m)
    values_there (conditional t a b) m =
        ap (λ f. with f (λ v. where_true (is_true v) (value o p b (restricted p m)) (value o p a (restricted p m))))
        (values_there t m)
        ∙ ap (λ f. with (value o p t m) (λ v. where_true (is_true v) f (value o p a (restricted p m))))
        (values_there b m)
        ∙ ap (λ f. with (value o p t m) (λ v. where_true (is_true v) (value o p b m) f)) (values_there a m)
    values_there (ptr_add e unit n backwards) m =
        ap (λ f. with f (λ v. with_number (value o p n (restricted p m)) (λ k. moved o p (has v)
        (distance unit k backwards)))) (values_there e m)
        ∙ ap (λ f. with (value o p e m) (λ v. with_number f (λ k. moved o p (has v) (distance unit k backwards))))
        (values_there n m)
    values_there (cast e) m = values_there e m

    pub places_there : (a : Place) (m : Memory) → address o p a (restricted p m) ≡ address o p a m
    places_there (block b) m = refl
    places_there (deref e) m = values_there e m
    places_there (member a offset) m = ap (λ f. moved o p f (pos offset)) (places_there a m)
    places_there (element a bound unit i) m =
        ap (λ f. with f (λ v. with_number (value o p i (restricted p m)) (λ k. with_place (has v) (λ b q. element_at b q
        bound unit k)))) (places_there a m)
        ∙ ap (λ f. with (address o p a m) (λ v. with_number f (λ k. with_place (has v) (λ b q. element_at b q bound
        unit k)))) (values_there i m)

  pub all_there : (es : List Expr) (m : Memory) → values o p es (restricted p m) ≡ values o p es m
  all_there [] m = refl
  all_there (e ∷ es) m =
      ap (λ f. first_and f (values o p es (restricted p m))) (values_there e m)
      ∙ ap (first_and (value o p e m)) (all_there es m)
