-- Turns of two states.
use Rattle.std.proofs.Common.{◌≡◌, ℕ, ◌+◌, ◌-◌, ◌<◌, ◌≤◌, ◌||◌, List, [], ◌++◌, length, refl, sym, ◌∙◌, ap, subst}
use Rattle.std.proofs.Common.{arith}
use Rattle.ep_int.specs.declared.types.Model.{Model}
use Rattle.ep_domain.specs.Domain.{Ops}
use Rattle.ep_cells.specs.declared.cell.Cell.{Cell}
use Rattle.ep_cells.specs.Cells.{IsIn}
use Rattle.ep_cells.specs.States.{Known, AreCells}
use Rattle.ep_reads.specs.Unify.{parted, parted_times, parted_both}
use Rattle.ep_reads.specs.Single.{Spots, facing, parted_where, without_like}
use Rattle.ep_reads.proofs.Rounds.{IsSoFar, one_round, rounds_end, times_same}
use Rattle.ep_reads.specs.StepLaws.{Agree, Turning}
use Rattle.ep_reads.proofs.Members.{any_append}
use Rattle.ep_reads.proofs.Parting.{parted_is, parted_same, where_cells}
use Rattle.ep_reads.proofs.Turning.{was_shared, left_turned, left_stays, right_stays, turning}
use Rattle.ep_state_steps.specs.Ones.{parted_at}
use Rattle.ep_state_steps.specs.Rounds.{FacesMore, IsTurned}
use Rattle.ep_state_steps.proofs.Loops.{faces_at}

-- ---- one turn

pub turned_by : {N : Type 0} (k l kz lz : Known N) (ts first us vs second lefts more ms : List (Cell N)) → first ≡ ts
    → kz ≡ parted_at (facing k.model first) k → FacesMore k.model k.cells kz.cells lefts → more ≡ lefts
    → vs ≡ us ++ more → second ≡ vs → lz ≡ parted_at (facing l.model second) l → FacesMore l.model l.cells lz.cells ms
    → IsTurned k l ts us kz lz ms
turned_by k l kz lz ts first us vs second lefts more ms e f g h i j m n = record {
  more = lefts;
  first = f ∙ ap (λ q. parted_at (facing k.model q) k) e;
  first_faces = g;
  second = m ∙ ap (λ q. parted_at (facing l.model q) l) (j ∙ i ∙ ap (λ q. us ++ q) h);
  second_faces = n;
}

-- It is enough to look at what came apart, whatever its order.
half_turned : {N : Type 0} (d : Model) (xs ys xz ts us more : List (Cell N)) → Turning d xs ys ts us
    → FacesMore d xs xz more → Agree (facing d xz) (facing d (us ++ more)) ys
half_turned d xs ys xz ts us more t f = λ y i s.
    ap (λ (P : Spots). P y.block y.offset y.what) f
    ∙ ap (λ b. b || facing d more y.block y.offset y.what) (t.for_right y i s)
    ∙ sym (any_append (faces_at d y.block y.offset y.what) us more)

right_turned : {N : Type 0} (d : Model) (xs ys xz ts us more : List (Cell N)) → Turning d xs ys ts us
    → xz ≡ parted_where (facing d ts) xs → FacesMore d xs xz more
    → parted d (parted d ys xs) ys ≡ parted_where (facing d (us ++ more)) ys
right_turned d xs ys xz ts us more t e f =
    ap (λ l. parted d l ys) (left_turned d xs ys ts us t ∙ sym e)
    ∙ parted_is d xz ys t.right
    ∙ parted_same d (facing d xz) (facing d (us ++ more)) ys t.right (half_turned d xs ys xz ts us more t f)

next_turning : {N : Type 0} (d : Model) (xs ys xz yz ts us more ms : List (Cell N)) → Turning d xs ys ts us
    → xz ≡ parted_where (facing d ts) xs → FacesMore d xs xz more → yz ≡ parted_where (facing d (us ++ more)) ys
    → FacesMore d ys yz ms → Turning d xz yz ms []
next_turning {N = N} d xs ys xz yz ts us more ms t e f g h = record {
  left = subst (AreCells d) (sym e) (where_cells d (facing d ts) xs t.left);
  right = subst (AreCells d) (sym g) (where_cells d (facing d (us ++ more)) ys t.right);
  for_left = λ x i s.
      let o = was_shared (facing d ts) xs x (subst (IsIn x) e i) s in
      ap (λ (P : Spots). P x.block x.offset x.what) h
      ∙ ap (λ b. b || facing d ms x.block x.offset x.what)
      (o.same (facing d ys) ∙ t.for_left o.cell o.is_in o.shared ∙ o.unless);
  for_right = λ y i s.
      let o = was_shared (facing d (us ++ more)) ys y (subst (IsIn y) g i) s in
      o.same (facing d xz) ∙ half_turned d xs ys xz ts us more t f o.cell o.is_in o.shared ∙ o.unless;
}

-- ---- turns so far

pub record AreTurned {N : Type 0} (n i : ℕ) (a b k l : Known N) (ts us : List (Cell N)) : Type 0 where
  pub model : a.model ≡ b.model
  pub times : n ≡ length a.cells + length b.cells
  pub first : k ≡ record a { cells = k.cells }
  pub second : l ≡ record b { cells = l.cells }
  pub so_far : IsSoFar a.model n i (parted_both a.model (a.cells, b.cells)) k.cells l.cells
  pub turning : Turning a.model k.cells l.cells ts us

pub turns_begin : {N : Type 0} (n : ℕ) (a b : Known N) (ts us : List (Cell N)) → a.model ≡ b.model
    → n ≡ length a.cells + length b.cells → Turning a.model a.cells b.cells ts us → AreTurned n 0 a b a b ts us
turns_begin n a b ts us m e t = record {
  model = m;
  times = e;
  first = refl;
  second = refl;
  so_far = record {
    rest = ap (λ j. parted_times a.model j (a.cells, b.cells)) (let f : n - 0 ≡ length a.cells + length b.cells = omega
        (arith, e) in f);
    left = t.left;
    right = t.right;
  };
  turning = t;
}

turning_at : {N : Type 0} (d : Model) (xs xz ys yz ts tz us uz : List (Cell N)) → xs ≡ xz → ys ≡ yz → ts ≡ tz → us ≡ uz
    → Turning d xz yz tz uz → Turning d xs ys ts us
turning_at d xs xz ys yz ts tz us uz e f g h t =
    subst (λ l. Turning d l ys ts us) (sym e)
    (subst (λ l. Turning d xz l ts us) (sym f)
    (subst (λ l. Turning d xz yz l us) (sym g) (subst (λ l. Turning d xz yz tz l) (sym h) t)))

still : {N : Type 0} (a k after : Known N) (cs : List (Cell N)) → k ≡ record a { cells = k.cells }
    → after ≡ record k { cells = cs } → after ≡ record a { cells = after.cells }
still {N = N} a k after cs e h =
    h
    ∙ ap (λ (z : Known N). record z { cells = cs }) e
    ∙ ap (λ q. record a { cells = q }) (sym (ap (λ (z : Known N). z.cells) h))

pub turns_next : {N : Type 0} (D : Ops N) (n i : ℕ) (a b k l kz lz : Known N) (ts us ms vs : List (Cell N)) → i < n
    → IsTurned k l ts us kz lz ms → vs ≡ [] → AreTurned n i a b k l ts us → AreTurned n (i + 1) a b kz lz ms vs
turns_next {N = N} D n i a b k l kz lz ts us ms vs lt r h t =
    let d = a.model in
    let km : k.model ≡ d = ap (λ (z : Known N). z.model) t.first in
    let lm : l.model ≡ d = ap (λ (z : Known N). z.model) t.second ∙ sym t.model in
    let x : kz.cells ≡ parted_where (facing d ts) k.cells = ap (λ (z : Known N). z.cells) r.first
    ∙ ap (λ q. parted_where (facing q ts) k.cells) km in
    let y : lz.cells ≡ parted_where (facing d (us ++ r.more)) l.cells = ap (λ (z : Known N). z.cells) r.second
    ∙ ap (λ q. parted_where (facing q (us ++ r.more)) l.cells) lm in
    let xf : FacesMore d k.cells kz.cells r.more = subst (λ q. FacesMore q k.cells kz.cells r.more) km r.first_faces in
    let yf : FacesMore d l.cells lz.cells ms = subst (λ q. FacesMore q l.cells lz.cells ms) lm r.second_faces in
    record {
      model = t.model;
      times = t.times;
      first = still a k kz (parted_where (facing k.model ts) k.cells) t.first r.first;
      second = still b l lz (parted_where (facing l.model (us ++ r.more)) l.cells) t.second r.second;
      so_far = one_round D d n i (parted_both d (a.cells, b.cells)) k.cells l.cells kz.cells lz.cells lt
          (x ∙ sym (left_turned d k.cells l.cells ts us t.turning))
          (y ∙ sym (right_turned d k.cells l.cells kz.cells ts us r.more t.turning x xf)) t.so_far;
      turning = subst (λ q. Turning d kz.cells lz.cells ms q) (sym h)
          (next_turning d k.cells l.cells kz.cells lz.cells ts us r.more ms t.turning x xf y yf);
    }

-- ---- at the end

stopped : {N : Type 0} (n i : ℕ) (a b k l : Known N) (ts us : List (Cell N)) → ts ≡ [] → us ≡ []
    → AreTurned n i a b k l ts us → (k.cells, l.cells) ≡ parted_both a.model (a.cells, b.cells)
stopped n i a b k l ts us e f t =
    sym (times_same a.model (n - i) k.cells l.cells
    (left_stays a.model k.cells l.cells us (subst (λ q. Turning a.model k.cells l.cells q us) e t.turning))
    (right_stays a.model k.cells l.cells ts (subst (λ q. Turning a.model k.cells l.cells ts q) f t.turning)))
    ∙ t.so_far.rest

ended : {N : Type 0} (n i : ℕ) (a b k l : Known N) (ts us : List (Cell N)) → n ≤ i
    → AreTurned n i a b k l ts us → (k.cells, l.cells) ≡ parted_both a.model (a.cells, b.cells)
ended n i a b k l ts us le t =
    rounds_end a.model n i (parted_both a.model (a.cells, b.cells)) k.cells l.cells le t.so_far

first_by : {N : Type 0} (a k : Known N) (cs ds : List (Cell N)) (q : List (Cell N) × List (Cell N))
    → k ≡ record a { cells = cs } → (let p : List (Cell N) × List (Cell N) = (cs, ds) in p) ≡ q
    → k ≡ record a { cells = q.0 }
first_by {N = N} a k cs ds q e h = e ∙ ap (λ (p : List (Cell N) × List (Cell N)). record a { cells = p.0 }) h

second_by : {N : Type 0} (b l : Known N) (cs ds : List (Cell N)) (q : List (Cell N) × List (Cell N))
    → l ≡ record b { cells = ds } → (let p : List (Cell N) × List (Cell N) = (cs, ds) in p) ≡ q
    → l ≡ record b { cells = q.1 }
second_by {N = N} b l cs ds q e h = e ∙ ap (λ (p : List (Cell N) × List (Cell N)). record b { cells = p.1 }) h

pub first_stopped : {N : Type 0} (n i : ℕ) (a b k l : Known N) (ts us : List (Cell N)) → ts ≡ [] → us ≡ []
    → AreTurned n i a b k l ts us → k ≡ record a { cells = (parted_both a.model (a.cells, b.cells)).0 }
first_stopped n i a b k l ts us e f t =
    first_by a k k.cells l.cells (parted_both a.model (a.cells, b.cells)) t.first (stopped n i a b k l ts us e f t)

pub second_stopped : {N : Type 0} (n i : ℕ) (a b k l : Known N) (ts us : List (Cell N)) → ts ≡ [] → us ≡ []
    → AreTurned n i a b k l ts us → l ≡ record b { cells = (parted_both a.model (a.cells, b.cells)).1 }
second_stopped n i a b k l ts us e f t =
    second_by b l k.cells l.cells (parted_both a.model (a.cells, b.cells)) t.second (stopped n i a b k l ts us e f t)

pub first_ended : {N : Type 0} (n i : ℕ) (a b k l : Known N) (ts us : List (Cell N)) → n ≤ i
    → AreTurned n i a b k l ts us → k ≡ record a { cells = (parted_both a.model (a.cells, b.cells)).0 }
first_ended n i a b k l ts us le t =
    first_by a k k.cells l.cells (parted_both a.model (a.cells, b.cells)) t.first (ended n i a b k l ts us le t)

pub second_ended : {N : Type 0} (n i : ℕ) (a b k l : Known N) (ts us : List (Cell N)) → n ≤ i
    → AreTurned n i a b k l ts us → l ≡ record b { cells = (parted_both a.model (a.cells, b.cells)).1 }
second_ended n i a b k l ts us le t =
    second_by b l k.cells l.cells (parted_both a.model (a.cells, b.cells)) t.second (ended n i a b k l ts us le t)

-- what is looked at first
pub turning_first : {N : Type 0} (k l : Known N) (ts us : List (Cell N)) → k.model ≡ l.model → AreCells k.model k.cells
    → AreCells l.model l.cells → ts ≡ without_like k.cells l.cells → us ≡ without_like l.cells k.cells
    → Turning k.model k.cells l.cells ts us
turning_first k l ts us m a b e f =
    turning_at k.model k.cells k.cells l.cells l.cells ts (without_like k.cells l.cells) us
    (without_like l.cells k.cells)
    refl refl e f (turning k.model k.cells l.cells a (subst (λ d. AreCells d l.cells) (sym m) b))
