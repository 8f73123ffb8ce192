-- Where no Shared cell faces cells of one side, nothing is parted.
use Rattle.std.proofs.Common.{◌≡◌, ℕ, zero, suc, ◌+◌, ◌-◌, ◌<◌, ◌≤◌, not, true, false, ◌||◌, cond, List, [], ◌∷◌}
use Rattle.std.proofs.Common.{◌++◌, map, IfSome, Option, Some, None, refl, sym, ◌∙◌, ap, subst, arith}
use Rattle.std.specs.Option.{option_map}
use Rattle.std.specs.List.{list_any}
use Rattle.std.proofs.lemmas.Bool.{or_parts, or_left, or_right, not-true}
use Rattle.ep_int.specs.declared.types.Model.{Model}
use Rattle.ep_int.specs.declared.types.Order.TheVariants.{Little}
use Rattle.ep_domain.specs.Domain.{Ops}
use Rattle.ep_bitslice.specs.declared.cell.Side.TheVariants.{Left}
use Rattle.ep_bitslice.specs.declared.cell.CellName.{CellName}
use Rattle.ep_bitslice.specs.declared.segment.Segment.{Segment}
use Rattle.ep_bitslice.specs.Bits.{Bit, fixed, cell_bit, mentions, is_bit_of}
use Rattle.ep_bitslice.specs.Segments.{bits, normal}
use Rattle.ep_bitslice.proofs.Joining.{cell_itself}
use Rattle.ep_bitslice.proofs.NormalForm.{form_is_normal}
use Rattle.ep_cells.specs.declared.cell.Cell.{Cell}
use Rattle.ep_cells.specs.Cells.{place_of, IsIn, first, later, each_becomes, parts_of, put_all}
use Rattle.ep_cells.specs.Forms.{Fate, put_bit, bits_after, form_after, reformed}
use Rattle.ep_cells.specs.States.{Known, IsFormOf, HasForm, AreCells}
use Rattle.ep_cells.proofs.Write.{place_named}
use Rattle.ep_reads.specs.Unify.{faces, left_by_facing, fate_by_facing, parted, parted_times}
use Rattle.ep_reads.proofs.Parted.{put_sorted, parted_keeps}

none_facing : {N : Type 0} (d : Model) (ys xs : List (Cell N)) (x : Cell N)
    → list_any (λ z. faces d ys (place_of d z)) xs ≡ false → IsIn x xs → faces d ys (place_of d x) ≡ false
none_facing d ys (_ ∷ xs) x h (first _) =
    (or_parts (faces d ys (place_of d x)) (list_any (λ z. faces d ys (place_of d z)) xs) h).0
none_facing d ys (c ∷ xs) x h (later _ _ i) =
    none_facing d ys xs x ((or_parts (faces d ys (place_of d c)) (list_any (λ z. faces d ys (place_of d z)) xs) h).1) i
none_facing d ys [] x h i = elim i [ ]

none_left : {N : Type 0} (d : Model) (ys xs : List (Cell N))
    → ((x : Cell N) → IsIn x xs → faces d ys (place_of d x) ≡ false) → each_becomes (left_by_facing d ys) xs ≡ xs
none_left d ys [] h = refl
none_left d ys (x ∷ xs) h =
    ap (λ t. cond t (parts_of x) (x ∷ []) ++ each_becomes (left_by_facing d ys) xs) (h x (first xs))
    ∙ ap (λ zs. x ∷ zs) (none_left d ys xs (λ z i. h z (later x xs i)))

pub bits_kept : (f : Fate) (bs : List Bit) → ((c : CellName) → mentions c bs ≡ true → f c ≡ Some c)
    → bits_after f bs ≡ Some bs
bits_kept f [] h = refl
bits_kept f (fixed b ∷ bs) h = ap (put_bit (Some (fixed b))) (bits_kept f bs (λ c m. h c m))
bits_kept f (cell_bit c k ∷ bs) h =
    ap (λ o. put_bit (option_map (λ z. cell_bit z k) o) (bits_after f bs)) (h c (or_left (is_bit_of c (cell_bit c k))
    (mentions c bs) (cell_itself c)))
    ∙ ap (put_bit (Some (cell_bit c k))) (bits_kept f bs (λ e m. h e (or_right (is_bit_of e (cell_bit c k)) (mentions e
    bs) m)))

form_kept : {N : Type 0} (d : Model) (ys xs : List (Cell N)) (x : Cell N) (o : Option (List Segment))
    → ((z : Cell N) → IsIn z xs → faces d ys (place_of d z) ≡ false) → IfSome o (IsFormOf xs x)
    → form_after (fate_by_facing d ys) o ≡ o
form_kept d ys xs x None h f = refl
form_kept d ys xs x (Some ss) h f =
    ap (option_map normal) (bits_kept (fate_by_facing d ys) (bits ss) (λ c m.
    let t = f.mentioned c m in
    ap (λ b. Some (cond b (record c { side = Left }) c)) (ap (faces d ys) (sym (place_named d c t.cell t.named)) ∙ h
    t.cell
    t.is_in)))
    ∙ ap Some (form_is_normal ss f.form)

all_kept : {N : Type 0} (d : Model) (ys l xs : List (Cell N))
    → ((z : Cell N) → IsIn z l → faces d ys (place_of d z) ≡ false) → ((x : Cell N) → IsIn x xs → HasForm l x)
    → map (reformed (fate_by_facing d ys)) xs ≡ xs
all_kept d ys l [] h f = refl
all_kept {N = N} d ys l (x ∷ xs) h f =
    let here : reformed (fate_by_facing d ys) x ≡ x = ap (λ g. let z : Cell N = record x { form = g } in z)
    (form_kept d ys
    l x x.form h (f x (first xs))) in
    ap (λ y. y ∷ map (reformed (fate_by_facing d ys)) xs) here
    ∙ ap (λ zs. x ∷ zs) (all_kept d ys l xs h (λ z i. f z (later x xs i)))

pub none_parted : {N : Type 0} (d : Model) (ys xs : List (Cell N)) → AreCells d xs
    → list_any (λ x. faces d ys (place_of d x)) xs ≡ false → parted d ys xs ≡ xs
none_parted d ys xs a h =
    let none = none_facing d ys xs in
    let f = fate_by_facing d ys in
    ap (λ l. map (reformed (fate_by_facing d ys)) (put_all l [])) (none_left d ys xs (λ x i. none_facing d ys xs x h i))
    ∙ ap (map (reformed (fate_by_facing d ys))) (put_sorted d xs a.pairs)
    ∙ all_kept d ys xs xs (λ x i. none_facing d ys xs x h i) a.forms

pub times_same : {N : Type 0} (d : Model) (n : ℕ) (xs ys : List (Cell N)) → parted d ys xs ≡ xs → parted d xs ys ≡ ys
    → parted_times d n (xs, ys) ≡ (xs, ys)
times_same d zero xs ys p q = refl
times_same d (suc n) xs ys p q =
    ap (λ a. parted_times d n (a, parted d a ys)) p ∙ ap (λ b. parted_times d n (xs, b)) q ∙ times_same d n xs ys p q

-- ---- rounds

-- what is so after i of n rounds
pub record IsSoFar {N : Type 0} (d : Model) (n i : ℕ) (all : List (Cell N) × List (Cell N)) (xs ys : List (Cell N))
    : Type
    0 where
  pub rest : parted_times d (n - i) (xs, ys) ≡ all
  pub left : AreCells d xs
  pub right : AreCells d ys

pub one_round : {N : Type 0} (D : Ops N) (d : Model) (n i : ℕ) (all : List (Cell N) × List (Cell N)) (xs ys us vs : List
    (Cell N)) → i < n → us ≡ parted d ys xs → vs ≡ parted d (parted d ys xs) ys → IsSoFar d n i all xs ys
    → IsSoFar d n (i + 1) all us vs
one_round {N = N} D d n i all xs ys us vs l e f h =
    let k : Known N = record { orders = (Little, Little); model = d; cells = [] } in
    let more : n - i ≡ suc (n - (i + 1)) = omega (arith, l) in
    let left = (parted_keeps D k ys xs h.left).cells in
    record {
      rest = ap (λ a. parted_times d (n - (i + 1)) (a, vs)) e
          ∙ ap (λ b. parted_times d (n - (i + 1)) (parted d ys xs, b)) f
          ∙ sym (ap (λ j. parted_times d j (xs, ys)) more)
          ∙ h.rest;
      left = subst (AreCells d) (sym e) left;
      right = subst (AreCells d) (sym f) (parted_keeps D k (parted d ys xs) ys h.right).cells;
    }

pub rounds_end : {N : Type 0} (d : Model) (n i : ℕ) (all : List (Cell N) × List (Cell N)) (xs ys : List (Cell N)) →
    n ≤ i
    → IsSoFar d n i all xs ys → (xs, ys) ≡ all
rounds_end d n i all xs ys l h =
    let none : n - i ≡ 0 = omega (arith, l) in
    sym (ap (λ j. parted_times d j (xs, ys)) none) ∙ h.rest

pub rounds_stop : {N : Type 0} (d : Model) (n i : ℕ) (all : List (Cell N) × List (Cell N)) (xs ys : List (Cell N))
    → not (list_any (λ x. faces d ys (place_of d x)) xs || list_any (λ y. faces d xs (place_of d y)) ys) ≡ true
    → IsSoFar d n i all xs ys → (xs, ys) ≡ all
rounds_stop d n i all xs ys h s =
    let p = or_parts (list_any (λ x. faces d ys (place_of d x)) xs) (list_any (λ y. faces d xs (place_of d y)) ys)
    (not-true (list_any (λ x. faces d ys (place_of d x)) xs || list_any (λ y. faces d xs (place_of d y)) ys) h) in
    sym (times_same d (n - i) xs ys (none_parted d ys xs s.left p.0) (none_parted d xs ys s.right p.1)) ∙ s.rest

pub second_is : {N : Type 0} (d : Model) (left right xs ys a b c e : List (Cell N)) → right ≡ parted d a b → a ≡ left
    → b ≡ ys → left ≡ parted d c e → c ≡ ys → e ≡ xs → right ≡ parted d (parted d ys xs) ys
second_is d left right xs ys a b c e e1 e2 e3 e4 e5 e6 =
    e1
    ∙ ap (λ z. parted d z b) (e2 ∙ e4 ∙ ap (λ z. parted d z e) e5 ∙ ap (parted d ys) e6)
    ∙ ap (parted d (parted d ys xs)) e3
