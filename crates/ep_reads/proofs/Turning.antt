-- Parting by turns: what faces the other state after a turn are cells that the turn parted.
use Rattle.std.proofs.Common.{◌≡◌, ℕ, Bool, true, false, ◌&&◌, ◌||◌, cond, List, [], ◌∷◌, ◌++◌, map, refl, sym, ◌∙◌, ap}
use Rattle.ep_cells.proofs.Basics.{map-append}
use Rattle.ep_int.proofs.Basics.{or-assoc}
use Rattle.std.specs.List.{list_any}
use Rattle.ep_int.specs.declared.types.Model.{Model}
use Rattle.ep_int.specs.declared.types.Scalar.{Scalar}
use Rattle.ep_bitslice.specs.declared.cell.Side.{Side}
use Rattle.ep_bitslice.specs.declared.cell.Side.TheVariants.{Left, Right, Shared}
use Rattle.ep_cells.specs.declared.cell.Cell.{Cell}
use Rattle.ep_cells.specs.Cells.{place_of, meets, is_same_side, IsIn, first, later, each_becomes}
use Rattle.ep_cells.specs.Forms.{Fate, reformed}
use Rattle.ep_cells.specs.States.{AreCells}
use Rattle.ep_cells.proofs.Lists.{in_each, in_map}
use Rattle.ep_reads.specs.Unify.{is_of_one_side, faces, parted}
use Rattle.ep_reads.proofs.Sides.{side_same}
use Rattle.ep_reads.proofs.Splits.{none_any}
use Rattle.ep_reads.specs.Single.{Spots, parts_where, left_where, fate_where, parted_where, shared_at, facing}
use Rattle.ep_reads.specs.Single.{either, is_shared_where, shared_where, faced, on_left_alone, without_like}
use Rattle.ep_reads.specs.StepLaws.{Agree, Turning, more_for}
use Rattle.ep_reads.proofs.Parting.{parted_twice, parted_same, parted_is, where_cells}
use Rattle.ep_reads.proofs.Members.{any_append}
use Rattle.ep_reads.proofs.Liked.{shared_place, facing_lacked}
use Rattle.ep_reads.proofs.Rounds.{none_parted}

-- ---- what faces is a test of places

abbrev test : {N : Type 0} → Model → (b q : ℕ) → Scalar → Cell N → Bool
test d b q w y = is_of_one_side y && meets (shared_at d b q w) (place_of d y)

any_reformed : {N : Type 0} (d : Model) (f : Fate) (b q : ℕ) (w : Scalar) (l : List (Cell N))
    → facing d (map (reformed f) l) b q w ≡ facing d l b q w
any_reformed d f b q w [] = refl
any_reformed d f b q w (x ∷ l) = ap (λ t. test d b q w x || t) (any_reformed d f b q w l)

or_three : (h a b c : Bool) → a ≡ (b || c) → (h || a) ≡ ((h || b) || c)
or_three true a b c e = refl
or_three false a b c e = e

or_four : (m a b c : Bool) → a ≡ (b || c) → (m || (m || a)) ≡ (b || (m || c))
or_four true a true c e = refl
or_four true a false c e = refl
or_four false a b c e = e

-- what faces what is left faced it before, or faces a cell that was parted
facing_each : {N : Type 0} (d : Model) (P : Spots) (b q : ℕ) (w : Scalar) (xs : List (Cell N))
    → facing d (each_becomes (left_where P) xs) b q w
    ≡ (facing d xs b q w || facing d (map on_left_alone (shared_where P xs)) b q w)
facing_each d P b q w [] = refl
facing_each {N = N} d P b q w (x ∷ xs) =
    by x.side refl (P x.block x.offset x.what) refl (facing_each d P b q w xs)
  where
    A : Bool
    A = facing d (each_becomes (left_where P) xs) b q w

    B : Bool
    B = facing d xs b q w

    C : Bool
    C = facing d (map on_left_alone (shared_where P xs)) b q w

    F : List (Cell N) → Bool
    F l = facing d (l ++ each_becomes (left_where P) xs) b q w

    G : Bool → Bool
    G t = (test d b q w x || B) || facing d (map on_left_alone (cond t (x ∷ shared_where P xs)
        (shared_where P xs))) b q w

    by : (s : Side) → x.side ≡ s → (p : Bool) → P x.block x.offset x.what ≡ p → A ≡ (B || C)
        → F (left_where P x) ≡ G (is_shared_where P x)
    by Left e p h i =
        ap (λ t. F (parts_where P x t)) e
        ∙ or_three (test d b q w x) A B C i
        ∙ sym (ap (λ (t : Side). G (is_same_side t Shared && P x.block x.offset x.what)) e)
    by Right e p h i =
        ap (λ t. F (parts_where P x t)) e
        ∙ or_three (test d b q w x) A B C i
        ∙ sym (ap (λ (t : Side). G (is_same_side t Shared && P x.block x.offset x.what)) e)
    by Shared e true h i =
        ap (λ t. F (parts_where P x t)) e
        ∙ ap (λ t. F (cond t (record x { side = Left } ∷ record x { side = Right } ∷ []) (x ∷ []))) h
        ∙ or_four (meets (shared_at d b q w) (place_of d (on_left_alone x))) A B C i
        ∙ sym (ap (λ t. (t || B) || (meets (shared_at d b q w) (place_of d (on_left_alone x)) || C)) (ap (λ (t : Side).
        is_of_one_side (record x { side = t }) && meets (shared_at d b q w) (place_of d x)) e))
        ∙ sym (ap G (ap (λ t. is_same_side Shared Shared && t) h))
        ∙ sym (ap (λ (t : Side). G (is_same_side t Shared && P x.block x.offset x.what)) e)
    by Shared e false h i =
        ap (λ t. F (parts_where P x t)) e
        ∙ ap (λ t. F (cond t (record x { side = Left } ∷ record x { side = Right } ∷ []) (x ∷ []))) h
        ∙ or_three (test d b q w x) A B C i
        ∙ sym (ap G (ap (λ t. is_same_side Shared Shared && t) h))
        ∙ sym (ap (λ (t : Side). G (is_same_side t Shared && P x.block x.offset x.what)) e)

pub facing_where : {N : Type 0} (d : Model) (P : Spots) (b q : ℕ) (w : Scalar) (xs : List (Cell N))
    → facing d (parted_where P xs) b q w
    ≡ (facing d xs b q w || facing d (map on_left_alone (shared_where P xs)) b q w)
facing_where d P b q w xs =
    any_reformed d (fate_where P) b q w (each_becomes (left_where P) xs) ∙ facing_each d P b q w xs

-- ---- one cell that faces after the other

or_none : (b c : Bool) → ((b || false) || c) ≡ (b || c)
or_none true c = refl
or_none false c = refl

facing_more : {N : Type 0} (d : Model) (y : Cell N) (ys : List (Cell N))
    → either (facing d (y ∷ [])) (facing d ys) ≡ facing d (y ∷ ys)
facing_more d y ys = λ m b q w. or_none (test d b q w y) (facing d ys b q w) m

pub parted_more : {N : Type 0} (d : Model) (y : Cell N) (ys xs : List (Cell N))
    → parted_where (facing d ys) (parted_where (facing d (y ∷ [])) xs) ≡ parted_where (facing d (y ∷ ys)) xs
parted_more d y ys xs =
    parted_twice (facing d (y ∷ [])) (facing d ys) xs ∙ ap (λ P. parted_where P xs) (facing_more d y ys)

none_shared : {N : Type 0} (d : Model) (xs : List (Cell N)) → shared_where (facing {N = N} d []) xs ≡ []
none_shared d [] = refl
none_shared {N = N} d (x ∷ xs) = by (is_same_side x.side Shared) (none_shared d xs)
  where
    by : (t : Bool) → shared_where (facing {N = N} d []) xs ≡ []
        → cond (t && false) (x ∷ shared_where (facing {N = N} d []) xs) (shared_where (facing {N = N} d []) xs) ≡ []
    by true e = e
    by false e = e

pub facing_parted : {N : Type 0} (d : Model) (ys : List (Cell N)) (b q : ℕ) (w : Scalar) (xs : List (Cell N))
    → facing d (parted_where (facing d ys) xs) b q w
    ≡ (facing d xs b q w || facing d (map on_left_alone (faced d ys xs)) b q w)
facing_parted {N = N} d [] b q w xs =
    facing_where d (facing {N = N} d []) b q w xs
    ∙ ap (λ l. facing d xs b q w || facing d (map on_left_alone l) b q w) (none_shared d xs)
facing_parted d (y ∷ ys) b q w xs =
    let us = parted_where (facing d (y ∷ [])) xs in
    let s = shared_where (facing d (y ∷ [])) xs in
    let r = faced d ys us in
    ap (λ l. facing d l b q w) (sym (parted_more d y ys xs))
    ∙ facing_parted d ys b q w us
    ∙ ap (λ t. t || facing d (map on_left_alone r) b q w) (facing_where d (facing d (y ∷ [])) b q w xs)
    ∙ or-assoc (facing d xs b q w) (facing d (map on_left_alone s) b q w) (facing d (map on_left_alone r) b q w)
    ∙ ap (λ t. facing d xs b q w || t) (sym (any_append (test d b q w) (map on_left_alone s) (map on_left_alone r)))
    ∙ ap (λ l. facing d xs b q w || facing d l b q w) (sym (map-append on_left_alone s r))

-- ---- a cell that is Shared after a parting was so before, and wasn't one to be parted

pub record WasShared {N : Type 0} (P : Spots) (xs : List (Cell N)) (x : Cell N) : Type 0 where
  pub cell : Cell N
  pub is_in : IsIn cell xs
  pub shared : cell.side ≡ Shared
  pub unless : P cell.block cell.offset cell.what ≡ false
  pub same : (R : Spots) → R x.block x.offset x.what ≡ R cell.block cell.offset cell.what

was_by : {N : Type 0} (P : Spots) (xs : List (Cell N)) (z y x : Cell N) (s : Side) → z.side ≡ s → IsIn z xs
    → x.side ≡ Shared → x.side ≡ y.side → ((R : Spots) → R x.block x.offset x.what ≡ R y.block y.offset y.what)
    → IsIn y (parts_where P z s) → WasShared P xs x
was_by P xs z _ x Left e i h f g (first _) = absurd (let k : Left ≡ Shared = sym e ∙ sym f ∙ h in cc)
was_by P xs z y x Left e i h f g (later _ _ j) = elim j [ ]
was_by P xs z _ x Right e i h f g (first _) = absurd (let k : Right ≡ Shared = sym e ∙ sym f ∙ h in cc)
was_by P xs z y x Right e i h f g (later _ _ j) = elim j [ ]
was_by {N = N} P xs z y x Shared e i h f g j = by (P z.block z.offset z.what) refl y f g j
  where
    by : (p : Bool) → P z.block z.offset z.what ≡ p → (u : Cell N) → x.side ≡ u.side
        → ((R : Spots) → R x.block x.offset x.what ≡ R u.block u.offset u.what)
        → IsIn u (cond p (record z { side = Left } ∷ record z { side = Right } ∷ []) (z ∷ [])) → WasShared P xs x
    by true q _ k l (first _) = absurd (let m : Left ≡ Shared = sym k ∙ h in cc)
    by true q _ k l (later _ _ (first _)) = absurd (let m : Right ≡ Shared = sym k ∙ h in cc)
    by true q u k l (later _ _ (later _ _ m)) = elim m [ ]
    by false q _ k l (first _) = record { cell = z; is_in = i; shared = e; unless = q; same = l }
    by false q u k l (later _ _ m) = elim m [ ]

pub was_shared : {N : Type 0} (P : Spots) (xs : List (Cell N)) (x : Cell N) → IsIn x (parted_where P xs)
    → x.side ≡ Shared → WasShared P xs x
was_shared P xs x i s =
    let r = in_map (reformed (fate_where P)) x (each_becomes (left_where P) xs) i in
    let o = in_each (left_where P) r.origin xs r.is_in in
    was_by P xs o.origin r.origin x o.origin.side refl o.is_in s (ap (λ z. z.side) r.is)
    (λ R. ap (λ z. R z.block z.offset z.what) r.is) o.becomes

-- ---- a turn

pub left_turned : {N : Type 0} (d : Model) (xs ys ts us : List (Cell N)) → Turning d xs ys ts us
    → parted d ys xs ≡ parted_where (facing d ts) xs
left_turned d xs ys ts us t =
    parted_is d ys xs t.left ∙ parted_same d (facing d ys) (facing d ts) xs t.left t.for_left

half_turned : {N : Type 0} (d : Model) (xs ys ts us : List (Cell N)) → Turning d xs ys ts us
    → Agree (facing d (parted_where (facing d ts) xs)) (facing d (more_for d xs ts us)) ys
half_turned d xs ys ts us t = λ y i s.
    facing_parted d ts y.block y.offset y.what xs
    ∙ ap (λ b. b || facing d (map on_left_alone (faced d ts xs)) y.block y.offset y.what) (t.for_right y i s)
    ∙ sym (any_append (test d y.block y.offset y.what) us (map on_left_alone (faced d ts xs)))

pub right_turned : {N : Type 0} (d : Model) (xs ys ts us : List (Cell N)) → Turning d xs ys ts us
    → parted d (parted d ys xs) ys ≡ parted_where (facing d (more_for d xs ts us)) ys
right_turned d xs ys ts us t =
    ap (λ l. parted d l ys) (left_turned d xs ys ts us t)
    ∙ parted_is d (parted_where (facing d ts) xs) ys t.right
    ∙ parted_same d (facing d (parted_where (facing d ts) xs)) (facing d (more_for d xs ts us)) ys t.right
    (half_turned d xs ys ts us t)

pub turned : {N : Type 0} (d : Model) (xs ys ts us : List (Cell N)) → Turning d xs ys ts us
    → Turning d (parted_where (facing d ts) xs) (parted_where (facing d (more_for d xs ts us)) ys)
    (map on_left_alone (faced d (more_for d xs ts us) ys)) []
turned d xs ys ts us t =
    let vs = more_for d xs ts us in
    let ms = map on_left_alone (faced d vs ys) in
    record {
      left = where_cells d (facing d ts) xs t.left;
      right = where_cells d (facing d vs) ys t.right;
      for_left = λ x i s.
          let o = was_shared (facing d ts) xs x i s in
          facing_parted d vs x.block x.offset x.what ys
          ∙ ap (λ b. b || facing d ms x.block x.offset x.what)
          (o.same (facing d ys) ∙ t.for_left o.cell o.is_in o.shared ∙ o.unless);
      for_right = λ y i s.
          let o = was_shared (facing d vs) ys y i s in
          o.same (facing d (parted_where (facing d ts) xs)) ∙ half_turned d xs ys ts us t o.cell o.is_in o.shared
          ∙ o.unless;
    }

none_faces : {N : Type 0} (d : Model) (x : Cell N) (ys : List (Cell N))
    → (x.side ≡ Shared → facing d ys x.block x.offset x.what ≡ false) → faces d ys (place_of d x) ≡ false
none_faces {N = N} d x ys h = by (is_same_side x.side Shared) refl
  where
    by : (t : Bool) → is_same_side x.side Shared ≡ t
        → (t && list_any (λ (y : Cell N). is_of_one_side y && meets (place_of d x) (place_of d y)) ys) ≡ false
    by false e = refl
    by true e =
        let s = side_same x.side Shared e in
        ap (λ p. list_any (λ (y : Cell N). is_of_one_side y && meets p (place_of d y)) ys) (sym
        (shared_place d x s)) ∙ h s

pub left_stays : {N : Type 0} (d : Model) (xs ys us : List (Cell N)) → Turning d xs ys [] us → parted d ys xs ≡ xs
left_stays d xs ys us t =
    none_parted d ys xs t.left
    (none_any (λ x. faces d ys (place_of d x)) xs (λ x i. none_faces d x ys (λ s. t.for_left x i s)))

pub right_stays : {N : Type 0} (d : Model) (xs ys ts : List (Cell N)) → Turning d xs ys ts [] → parted d xs ys ≡ ys
right_stays d xs ys ts t =
    none_parted d xs ys t.right
    (none_any (λ y. faces d xs (place_of d y)) ys (λ y i. none_faces d y xs (λ s. t.for_right y i s)))

-- at first those are to be looked at that the other state lacks
pub turning : {N : Type 0} (d : Model) (xs ys : List (Cell N)) → AreCells d xs → AreCells d ys
    → Turning d xs ys (without_like xs ys) (without_like ys xs)
turning d xs ys a b = record {
  left = a;
  right = b;
  for_left = λ x i s. facing_lacked d x xs ys a i s;
  for_right = λ y i s. facing_lacked d y ys xs b i s;
}
