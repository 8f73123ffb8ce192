-- Cells of a list change a state, one after another.
use Rattle.std.proofs.Common.{◌≡◌, ℕ, ◌+◌, ◌<◌, ◌≤◌, Bool, ◌&&◌, ◌||◌, List, [], ◌∷◌, ◌++◌, map, length, drop, get_or, append-nil}
use Rattle.std.proofs.Common.{drop-cons, add-one, refl, sym, ◌∙◌, ap}
use Rattle.std.proofs.lemmas.List.{drop_all}
use Rattle.ep_int.proofs.Basics.{or-false, or-assoc}
use Rattle.ep_int.specs.declared.types.Model.{Model}
use Rattle.ep_int.specs.declared.types.Scalar.{Scalar}
use Rattle.ep_bitslice.specs.declared.cell.Side.{Side}
use Rattle.ep_domain.specs.Domain.{Ops}
use Rattle.ep_cells.specs.declared.cell.Cell.{Cell}
use Rattle.ep_cells.specs.declared.place.ByteRange.{ByteRange}
use Rattle.ep_cells.specs.Cells.{place_of, meets}
use Rattle.ep_cells.specs.States.{Known, AreCells}
use Rattle.ep_reads.specs.Split.{split_like, split_all}
use Rattle.ep_reads.specs.Unify.{is_of_one_side, crossed_like, crossed_all}
use Rattle.ep_reads.specs.Single.{Spots, shared_at, facing, parted_where, shared_where, on_left_alone, is_kind_of}
use Rattle.ep_reads.specs.Single.{is_kind_among}
use Rattle.ep_reads.proofs.Members.{any_append}
use Rattle.ep_reads.proofs.Parting.{parted_twice}
use Rattle.ep_reads.proofs.Dropping.{without_twice}
use Rattle.ep_reads.proofs.Turning.{facing_where}
use Rattle.ep_reads.proofs.SingleSteps.{facing_none, without_none}
use Rattle.ep_state_looks.specs.Looks.{met_by}
use Rattle.ep_state_steps.specs.Met.{met_by_any}
use Rattle.ep_state_steps.specs.Rounds.{FacesMore}
use Rattle.ep_state_steps.specs.Ones.{parted_at, left_at, crossed_at, split_at}

-- ---- any changes

next_one : {N X : Type 0} (G : List X → Known N → Known N) (step : X → Known N → Known N)
    → ((x : X) (xs : List X) (k : Known N) → G (x ∷ xs) k ≡ G xs (step x k)) → (x : X) (xs : List X) (i : ℕ)
    (now after all : Known N) → drop i xs ≡ x ∷ drop (i + 1) xs → after ≡ step x now → G (drop i xs) now ≡ all → G (drop (i + 1) xs) after ≡ all
next_one G step more x xs i now after all e f h =
    ap (G (drop (i + 1) xs)) f ∙ sym (more x (drop (i + 1) xs) now) ∙ sym (ap (λ l. G l now) e) ∙ h

last_one : {N X : Type 0} (G : List X → Known N → Known N) (xs : List X) (i : ℕ) (now all : Known N)
    → length xs ≤ i → G [] now ≡ now → G (drop i xs) now ≡ all → now ≡ all
last_one G xs i now all l e h = sym e ∙ sym (ap (λ l. G l now) (drop_all i xs l)) ∙ h

-- ---- parted where places meet them

abbrev pub met_of : {N : Type 0} → List ByteRange → Known N → Known N
met_of ps k = parted_at (met_by_any k.model ps) k

more_met : {N : Type 0} (p : ByteRange) (ps : List ByteRange) (k : Known N)
    → met_of (p ∷ ps) k ≡ met_of ps (parted_at (met_by k.model p) k)
more_met p ps k =
    ap (λ l. record k { cells = l }) (sym (parted_twice (met_by k.model p) (met_by_any k.model ps) k.cells))

met_next : {N : Type 0} (p : ByteRange) (ps : List ByteRange) (i : ℕ) (now after all : Known N)
    → drop i ps ≡ p ∷ drop (i + 1) ps → after ≡ parted_at (met_by now.model p) now → met_of (drop i ps) now ≡ all
    → met_of (drop (i + 1) ps) after ≡ all
met_next p ps i now after all e f h =
    next_one met_of (λ q k. parted_at (met_by k.model q) k) more_met p ps i now after all e f h

pub met_last : {N : Type 0} (ps : List ByteRange) (i : ℕ) (now all : Known N) → length ps ≤ i
    → AreCells now.model now.cells → met_of (drop i ps) now ≡ all → now ≡ all
met_last ps i now all l a h =
    last_one met_of ps i now all l (ap (λ q. record now { cells = q }) (facing_none now.model now.model now.cells a)) h

-- ---- what faces what is left

abbrev pub faces_at : {N : Type 0} → Model → (b q : ℕ) → Scalar → Cell N → Bool
faces_at d b q w y = is_of_one_side y && meets (shared_at d b q w) (place_of d y)

faces_with : {N : Type 0} (d : Model) (P : Spots) (xs cs zs ls ms : List (Cell N)) (b q : ℕ) (w : Scalar)
    → zs ≡ parted_where P cs → ms ≡ ls ++ map on_left_alone (shared_where P cs) → FacesMore d xs cs ls
    → facing d zs b q w ≡ (facing d xs b q w || facing d ms b q w)
faces_with {N = N} d P xs cs zs ls ms b q w e g h =
    let new : List (Cell N) = map on_left_alone (shared_where P cs) in
    ap (λ l. facing d l b q w) e
    ∙ facing_where d P b q w cs
    ∙ ap (λ (S : Spots). S b q w || facing d new b q w) h
    ∙ or-assoc (facing d xs b q w) (facing d ls b q w) (facing d new b q w)
    ∙ ap (λ t. facing d xs b q w || t) (sym (any_append (faces_at d b q w) ls new))
    ∙ ap (λ l. facing d xs b q w || facing d l b q w) (sym g)

faces_next : {N : Type 0} (d : Model) (P : Spots) (xs cs zs ls ms : List (Cell N)) → zs ≡ parted_where P cs
    → ms ≡ ls ++ map on_left_alone (shared_where P cs) → FacesMore d xs cs ls → FacesMore d xs zs ms
faces_next d P xs cs zs ls ms e g h = λ m b q w. faces_with d P xs cs zs ls ms b q w e g h m

-- the place at i is next
pub parts_turn : {N : Type 0} (k : Known N) (ps : List ByteRange) (i : ℕ) (d : ByteRange) (now after : Known N)
    (ls ms : List (Cell N)) → i < length ps → after ≡ parted_at (met_by now.model (get_or ps i d)) now
    → ms ≡ ls ++ map on_left_alone (shared_where (met_by now.model (get_or ps i d)) now.cells)
    → (met_of (drop i ps) now ≡ met_of ps k) × FacesMore k.model k.cells now.cells ls
    → (met_of (drop (i + 1) ps) after ≡ met_of ps k) × FacesMore k.model k.cells after.cells ms
parts_turn k ps i d now after ls ms l e f h =
    let p = get_or ps i d in (
      met_next p ps i now after (met_of ps k)
          (drop-cons ps i d l ∙ ap (λ n. p ∷ drop n ps) (sym (add-one i))) e h.0,
      faces_next k.model (met_by now.model p) k.cells now.cells after.cells ls ms (ap (λ z. z.cells) e) f h.1,
    )

-- ---- gone

abbrev pub drop_of : {N : Type 0} → List (Cell N) → Known N → Known N
drop_of zs k = left_at (is_kind_among zs) k

more_dropped : {N : Type 0} (z : Cell N) (zs : List (Cell N)) (k : Known N)
    → drop_of (z ∷ zs) k ≡ drop_of zs (left_at (is_kind_of z) k)
more_dropped z zs k = ap (λ l. record k { cells = l }) (sym (without_twice (is_kind_of z) (is_kind_among zs) k.cells))

pub drop_next : {N : Type 0} (z : Cell N) (zs : List (Cell N)) (i : ℕ) (now after all : Known N)
    → drop i zs ≡ z ∷ drop (i + 1) zs → after ≡ left_at (is_kind_of z) now → drop_of (drop i zs) now ≡ all
    → drop_of (drop (i + 1) zs) after ≡ all
drop_next z zs i now after all e f h =
    next_one drop_of (λ x k. left_at (is_kind_of x) k) more_dropped z zs i now after all e f h

pub drop_last : {N : Type 0} (zs : List (Cell N)) (i : ℕ) (now all : Known N) → length zs ≤ i
    → AreCells now.model now.cells → drop_of (drop i zs) now ≡ all → now ≡ all
drop_last zs i now all l a h =
    last_one drop_of zs i now all l (ap (λ l. record now { cells = l }) (without_none now.model now.cells a)) h

-- ---- crossed

cross_other : {N : Type 0} (D : Ops N) (k : Known N) (cs xs l : List (Cell N))
    → crossed_all D k xs l ≡ crossed_all D (record k { cells = cs }) xs l
cross_other D k cs [] l = refl
cross_other D k cs (x ∷ xs) l = cross_other D k cs xs (crossed_like D k x l)

pub cross_next : {N : Type 0} (D : Ops N) (x : Cell N) (xs : List (Cell N)) (i : ℕ) (now after all : Known N)
    → drop i xs ≡ x ∷ drop (i + 1) xs → after ≡ record now { cells = crossed_like D now x now.cells }
    → crossed_at D (drop i xs) now ≡ all → crossed_at D (drop (i + 1) xs) after ≡ all
cross_next D x xs i now after all e f h =
    next_one (crossed_at D) (λ x k. record k { cells = crossed_like D k x k.cells })
    (λ x xs k. ap (λ l. record k { cells = l }) (cross_other D k (crossed_like D k x k.cells) xs (crossed_like D k x
    k.cells))) x xs i now after all e f h

pub cross_last : {N : Type 0} (D : Ops N) (xs : List (Cell N)) (i : ℕ) (now all : Known N) → length xs ≤ i
    → crossed_at D (drop i xs) now ≡ all → now ≡ all
cross_last D xs i now all l h = last_one (crossed_at D) xs i now all l refl h

-- ---- split

split_other : {N : Type 0} (D : Ops N) (k : Known N) (s : Side) (cs xs l : List (Cell N))
    → split_all D k s xs l ≡ split_all D (record k { cells = cs }) s xs l
split_other D k s cs [] l = refl
split_other D k s cs (x ∷ xs) l = split_other D k s cs xs (split_like D k s x l)

pub split_next : {N : Type 0} (D : Ops N) (s : Side) (x : Cell N) (xs : List (Cell N)) (i : ℕ) (now after all : Known
    N) → drop i xs ≡ x ∷ drop (i + 1) xs → after ≡ record now { cells = split_like D now s x now.cells }
    → split_at D s (drop i xs) now ≡ all → split_at D s (drop (i + 1) xs) after ≡ all
split_next D s x xs i now after all e f h =
    next_one (split_at D s) (λ x k. record k { cells = split_like D k s x k.cells })
    (λ x xs k. ap (λ l. record k { cells = l }) (split_other D k s (split_like D k s x k.cells) xs (split_like D k s x
    k.cells))) x xs i now after all e f h

pub split_last : {N : Type 0} (D : Ops N) (s : Side) (xs : List (Cell N)) (i : ℕ) (now all : Known N) → length xs ≤ i
    → split_at D s (drop i xs) now ≡ all → now ≡ all
split_last D s xs i now all l h = last_one (split_at D s) xs i now all l refl h

-- ---- pushed

pub pushed_all : {N : Type 0} (xs : List (Cell N)) (i : ℕ) (out all : List (Cell N)) → length xs ≤ i
    → out ++ drop i xs ≡ all → out ≡ all
pushed_all xs i out all l h = sym (append-nil out) ∙ sym (ap (λ l. out ++ l) (drop_all i xs l)) ∙ h
