-- Steps, each with one cell, and what they come to together.
use Rattle.std.proofs.Common.{◌≡◌, Bool, false, if◌then◌else◌, cond, List, [], ◌∷◌, ◌++◌, Option, Some}
use Rattle.std.proofs.Common.{None, IfSome, refl, ◌∙◌, ap}
use Rattle.std.specs.Option.{option_map}
use Rattle.std.specs.List.{filter}
use Rattle.ep_int.specs.declared.types.Model.{Model}
use Rattle.ep_bitslice.specs.declared.cell.CellName.{CellName}
use Rattle.ep_bitslice.specs.declared.cell.Side.{Side}
use Rattle.ep_bitslice.specs.declared.cell.Side.TheVariants.{Left, Right, Shared}
use Rattle.ep_bitslice.specs.declared.segment.Segment.{Segment}
use Rattle.ep_bitslice.specs.Bits.{Bit, fixed, cell_bit}
use Rattle.ep_bitslice.specs.Segments.{bits, normal}
use Rattle.ep_bitslice.proofs.NormalForm.{form_is_normal}
use Rattle.ep_cells.specs.declared.cell.Cell.{Cell}
use Rattle.ep_cells.specs.Cells.{is_same_cell, IsIn, first, later}
use Rattle.ep_cells.specs.Forms.{Fate, put_bit, bits_after, form_after, reformed}
use Rattle.ep_cells.specs.States.{IsFormOf, HasForm, AreCells}
use Rattle.ep_reads.specs.Split.{is_name_of}
use Rattle.ep_reads.specs.Single.{changed_cells, parts_where, left_where, name_where, fate_where}
use Rattle.ep_reads.specs.Single.{parted_where, facing}
use Rattle.ep_reads.specs.Single.{without, is_kind_of, is_kind_among}
use Rattle.ep_reads.proofs.Composed.{same_changes}

-- ---- where nothing is to be done

unchanged : Fate
unchanged n = Some n

bits_stay : (bs : List Bit) → bits_after (λ n. Some n) bs ≡ Some bs
bits_stay [] = refl
bits_stay (fixed b ∷ bs) = ap (put_bit (Some (fixed b))) (bits_stay bs)
bits_stay (cell_bit c k ∷ bs) = ap (put_bit (Some (cell_bit c k))) (bits_stay bs)

form_stays : {N : Type 0} (cs : List (Cell N)) (x : Cell N) (o : Option (List Segment)) → IfSome o (IsFormOf cs x)
    → form_after (λ n. Some n) o ≡ o
form_stays cs x None h = refl
form_stays cs x (Some ss) h = ap (option_map normal) (bits_stay (bits ss)) ∙ ap Some (form_is_normal ss h.form)

all_stay : {N : Type 0} (l cs : List (Cell N)) → ((x : Cell N) → IsIn x cs → HasForm l x)
    → changed_cells (λ x. x ∷ []) (λ n. Some n) cs ≡ cs
all_stay l [] h = refl
all_stay l (x ∷ cs) h =
    ap (λ g. record x { form = g } ∷ changed_cells (λ x. x ∷ []) (λ n. Some n) cs) (form_stays l x x.form (h x
    (first cs)))
    ∙ ap (λ ys. x ∷ ys) (all_stay l cs (λ y k. h y (later x cs k)))

parts_none : {N : Type 0} (x : Cell N) (s : Side) → parts_where (λ b q w. false) x s ≡ x ∷ []
parts_none x Left = refl
parts_none x Right = refl
parts_none x Shared = refl

name_none : (n : CellName) (s : Side) → name_where (λ b q w. false) n s ≡ n
name_none n Left = refl
name_none n Right = refl
name_none n Shared = refl

pub parted_none : {N : Type 0} (d : Model) (cs : List (Cell N)) → AreCells d cs
    → parted_where (λ b q w. false) cs ≡ cs
parted_none {N = N} d cs a =
    same_changes (left_where (λ b q w. false)) (λ x. x ∷ []) (fate_where (λ b q w. false)) (λ n. Some n) cs
    (λ x i. parts_none x x.side) (λ x y i j. ap (λ f. reformed f y) (λ m n. Some (name_none n n.side m)))
    ∙ all_stay cs cs a.forms

pub facing_none : {N : Type 0} (d e : Model) (cs : List (Cell N)) → AreCells d cs
    → parted_where (facing {N = N} e []) cs ≡ cs
facing_none d e cs a = parted_none d cs a

pub without_none : {N : Type 0} (d : Model) (cs : List (Cell N)) → AreCells d cs
    → without (is_kind_among {N = N} []) cs ≡ cs
without_none d cs a = all_stay cs cs a.forms

-- ---- a cell that is to go

pub one_without : {N : Type 0} (z : Cell N) (cs : List (Cell N))
    → changed_cells (λ (x : Cell N). if is_same_cell x z then [] else x ∷ [])
    (λ n. if is_name_of n z then None else Some
    n) cs ≡ without (is_kind_of z) cs
one_without z cs = refl

-- ---- a window has what is looked for

pub any_window : {N : Type 0} (P : Cell N → Bool) (before window behind : List (Cell N))
    → ((x : Cell N) → IsIn x before → P x ≡ false) → ((x : Cell N) → IsIn x behind → P x ≡ false)
    → filter P (before ++ (window ++ behind)) ≡ filter P window
any_window P [] [] [] f g = refl
any_window {N = N} P [] [] (x ∷ behind) f g =
    ap (λ b. cond b (x ∷ filter P behind) (filter P behind)) (g x (first behind))
    ∙ any_window P [] [] behind f (λ y i. g y (later x behind i))
any_window {N = N} P [] (x ∷ window) behind f g =
    ap (λ l. cond (P x) (x ∷ l) l) (any_window P [] window behind f g)
any_window {N = N} P (x ∷ before) window behind f g =
    ap (λ b. cond b (x ∷ filter P (before ++ (window ++ behind))) (filter P (before ++ (window ++ behind)))) (f x
    (first before))
    ∙ any_window P before window behind (λ y i. f y (later x before i)) g
