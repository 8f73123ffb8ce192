-- Two states after each step of a unification are those of the unified lists.
use Rattle.std.proofs.Common.{◌≡◌, List, [], ◌∷◌, refl, sym, ◌∙◌, ap, subst}
use Rattle.std.specs.List.{filter}
use Rattle.ep_domain.specs.Domain.{Ops}
use Rattle.ep_cells.specs.declared.cell.Cell.{Cell}
use Rattle.ep_cells.specs.States.{Known, AreCells, HaveCellsAlike}
use Rattle.ep_cells.specs.Reshare.{reshared}
use Rattle.ep_reads.specs.Unify.{crossed_like, crossed_all, is_crossed, parted_both, uncrossed, had_by_both, unified}
use Rattle.ep_reads.specs.SplitLaws.{UnifyLaws}
use Rattle.ep_state_synthesis.specs.Calls.{StaysIn}
use Rattle.ep_state_synthesis.proofs.Alike.{alike_unified}

-- the second state has the orders and the model of the first
pub record IsBeside {N : Type 0} (k l : Known N) : Type 0 where
  pub orders : k.orders ≡ l.orders
  pub model : k.model ≡ l.model
  pub first : AreCells k.model k.cells
  pub second : AreCells l.model l.cells

second_cells : {N : Type 0} (k l : Known N) → IsBeside k l → AreCells k.model l.cells
second_cells k l b = subst (λ d. AreCells d l.cells) (sym b.model) b.second

beside : {N : Type 0} (k l : Known N) → IsBeside k l → record k { cells = l.cells } ≡ l
beside {N = N} k l b =
    ap (λ z. let r : Known N = record { orders = z; model = k.model; cells = l.cells } in r) b.orders
    ∙ ap (λ z. let r : Known N = record { orders = l.orders; model = z; cells = l.cells } in r) b.model

crossed_with : {N : Type 0} (D : Ops N) (k : Known N) (cs zs xs : List (Cell N))
    → crossed_all D (record k { cells = cs }) zs xs ≡ crossed_all D k zs xs
crossed_with D k cs [] xs = refl
crossed_with D k cs (z ∷ zs) xs = crossed_with D k cs zs (crossed_like D k z xs)

-- only the orders and the model of a state matter
uncrossed_with : {N : Type 0} (D : Ops N) (k : Known N) (cs ys xs : List (Cell N))
    → uncrossed D (record k { cells = cs }) ys xs ≡ uncrossed D k ys xs
uncrossed_with D k cs ys xs = crossed_with D k cs (filter (is_crossed k.model ys) xs) xs

uncrossed_beside : {N : Type 0} (D : Ops N) (k l : Known N) → k.model ≡ l.model → k.orders ≡ l.orders
    → (ys xs : List (Cell N)) → uncrossed D l ys xs ≡ uncrossed D k ys xs
uncrossed_beside {N = N} D k l m o ys xs =
    sym (uncrossed_with D l k.cells ys xs)
    ∙ ap (λ d. uncrossed D (let r : Known N = record { orders = l.orders; model = d; cells = k.cells } in r) ys xs)
    (sym m)
    ∙ ap (λ p. uncrossed D (let r : Known N = record { orders = p; model = k.model; cells = k.cells } in r) ys xs)
    (sym o)

pub models : {N : Type 0} (k l kz lz : Known N) (cs ds : List (Cell N)) → k.model ≡ l.model
    → kz ≡ record k { cells = cs } → lz ≡ record l { cells = ds } → kz.model ≡ lz.model
models {N = N} k l kz lz cs ds m e f = ap (λ (z : Known N). z.model) e ∙ m ∙ sym (ap (λ (z : Known N). z.model) f)

abbrev with_cells : {N : Type 0} → Known N → List (Cell N) → Known N
with_cells k cs = record k { cells = cs }

pub both_unified : {N : Type 0} (D : Ops N) (k l a b a1 b1 a2 b2 : Known N) → k.model ≡ l.model
    → k.orders ≡ l.orders → a ≡ record k { cells = reshared D k.cells } → b ≡ record l { cells = reshared D l.cells }
    → a1 ≡ record a { cells = (parted_both a.model (a.cells, b.cells)).0 }
    → b1 ≡ record b { cells = (parted_both a.model (a.cells, b.cells)).1 }
    → a2 ≡ record a1 { cells = had_by_both (uncrossed D b1 a1.cells b1.cells) (uncrossed D a1 b1.cells a1.cells) }
    → b2 ≡ record b1 { cells = had_by_both (uncrossed D a1 b1.cells a1.cells) (uncrossed D b1 a1.cells b1.cells) }
    → (a2 ≡ record k { cells = (unified D k l).0 }) × (b2 ≡ record l { cells = (unified D k l).1 })
both_unified {N = N} D k l a b a1 b1 a2 b2 m o ea eb ea1 eb1 ea2 eb2 =
    let q : List (Cell N) × List (Cell N) = parted_both k.model (reshared D k.cells, reshared D l.cells) in
    let us : List (Cell N) = uncrossed D k q.1 q.0 in
    let vs : List (Cell N) = uncrossed D k q.0 q.1 in
    let x : a1 ≡ with_cells k q.0 =
    ea1
    ∙ ap (λ (z : Known N). with_cells z (parted_both z.model (z.cells, b.cells)).0) ea
    ∙ ap (λ (z : Known N). with_cells k (parted_both k.model (reshared D k.cells, z.cells)).0) eb in
    let y : b1 ≡ with_cells l q.1 =
    eb1
    ∙ ap (λ (z : Known N). with_cells z (parted_both a.model (a.cells, z.cells)).1) eb
    ∙ ap (λ (z : Known N). with_cells l (parted_both z.model (z.cells, reshared D l.cells)).1) ea in
    let u : uncrossed D a1 b1.cells a1.cells ≡ us =
    ap (λ (z : Known N). uncrossed D z b1.cells z.cells) x
    ∙ ap (λ (z : Known N). uncrossed D (with_cells k q.0) z.cells q.0) y
    ∙ uncrossed_with D k q.0 q.1 q.0 in
    let v : uncrossed D b1 a1.cells b1.cells ≡ vs =
    ap (λ (z : Known N). uncrossed D z a1.cells z.cells) y
    ∙ ap (λ (z : Known N). uncrossed D (with_cells l q.1) z.cells q.1) x
    ∙ uncrossed_with D l q.1 q.0 q.1
    ∙ uncrossed_beside D k l m o q.0 q.1 in (
      ea2
          ∙ ap (λ c. with_cells a1 (had_by_both (uncrossed D b1 a1.cells b1.cells) c)) u
          ∙ ap (λ c. with_cells a1 (had_by_both c us)) v
          ∙ ap (λ (z : Known N). with_cells z (had_by_both vs us)) x,
      eb2
          ∙ ap (λ c. with_cells b1 (had_by_both c (uncrossed D b1 a1.cells b1.cells))) u
          ∙ ap (λ c. with_cells b1 (had_by_both us c)) v
          ∙ ap (λ (z : Known N). with_cells z (had_by_both us vs)) y,
    )

pub both_alike : {N : Type 0} (D : Ops N) (k l a b : Known N) → k.model ≡ l.model
    → a ≡ record k { cells = reshared D k.cells } → b ≡ record l { cells = reshared D l.cells }
    → AreCells a.model a.cells → AreCells b.model b.cells → HaveCellsAlike a.cells b.cells
    → (a ≡ record k { cells = (unified D k l).0 }) × (b ≡ record l { cells = (unified D k l).1 })
both_alike {N = N} D k l a b m ea eb p q h =
    let f : a.cells ≡ reshared D k.cells = ap (λ (z : Known N). z.cells) ea in
    let g : b.cells ≡ reshared D l.cells = ap (λ (z : Known N). z.cells) eb in
    let u : unified D k l ≡ (a.cells, b.cells) =
    alike_unified D k l a.cells b.cells (subst (λ d. AreCells d a.cells) (ap (λ (z : Known N). z.model) ea) p)
    (subst (λ d. AreCells d b.cells) (ap (λ (z : Known N). z.model) eb ∙ sym m) q) h f g in (
      ea ∙ ap (with_cells k) (sym (ap (λ (t : List (Cell N) × List (Cell N)). t.0) u ∙ f)),
      eb ∙ ap (with_cells l) (sym (ap (λ (t : List (Cell N) × List (Cell N)). t.1) u ∙ g)),
    )

-- ---- the same, of copies

pub copied_first : {N : Type 0} (D : Ops N) (k l a b s : Known N) → a ≡ k → b ≡ l
    → s ≡ record a { cells = (unified D a b).0 } → s ≡ record k { cells = (unified D k l).0 }
copied_first {N = N} D k l a b s e f h =
    h
    ∙ ap (λ (z : Known N). record z { cells = (unified D z b).0 }) e
    ∙ ap (λ (z : Known N). record k { cells = (unified D k z).0 }) f

pub copied_second : {N : Type 0} (D : Ops N) (k l a b t : Known N) → a ≡ k → b ≡ l
    → t ≡ record b { cells = (unified D a b).1 } → t ≡ record l { cells = (unified D k l).1 }
copied_second {N = N} D k l a b t e f h =
    h
    ∙ ap (λ (z : Known N). record b { cells = (unified D z b).1 }) e
    ∙ ap (λ (z : Known N). record z { cells = (unified D k z).1 }) f

pub copied_orders : {N : Type 0} (k l a b : Known N) → a ≡ k → b ≡ l → k.orders ≡ l.orders → a.orders ≡ b.orders
copied_orders {N = N} k l a b e f h =
    ap (λ (z : Known N). z.orders) e ∙ h ∙ sym (ap (λ (z : Known N). z.orders) f)

pub copied_model : {N : Type 0} (k l a b : Known N) → a ≡ k → b ≡ l → k.model ≡ l.model → a.model ≡ b.model
copied_model {N = N} k l a b e f h =
    ap (λ (z : Known N). z.model) e ∙ h ∙ sym (ap (λ (z : Known N). z.model) f)

-- ---- the laws, of what the states are then

pub alike_then : {N : Type 0} (D : Ops N) (k l s t : Known N) → UnifyLaws D → IsBeside k l
    → s ≡ record k { cells = (unified D k l).0 } → t ≡ record l { cells = (unified D k l).1 }
    → HaveCellsAlike s.cells t.cells
alike_then D k l s t law b e f =
    subst (λ z. HaveCellsAlike z.cells t.cells) (sym e)
    (subst (λ z. HaveCellsAlike (unified D k l).0 z.cells) (sym f)
    (law.alike k l.cells b.first (second_cells k l b)))

pub first_stays : {N : Type 0} (D : Ops N) (k l s : Known N) → UnifyLaws D → IsBeside k l
    → s ≡ record k { cells = (unified D k l).0 } → StaysIn D k s
first_stays D k l s law b e =
    subst (StaysIn D k) (sym e) (law.left_holds k l.cells b.first (second_cells k l b))

pub others_stay : {N : Type 0} (D : Ops N) (k l t : Known N) → UnifyLaws D → IsBeside k l
    → t ≡ record l { cells = (unified D k l).1 } → StaysIn D l t
others_stay {N = N} D k l t law b e =
    subst (StaysIn D l) (sym e)
    (subst (λ z. StaysIn D z (record z { cells = (unified D k l).1 })) (beside k l b)
    (law.right_holds k l.cells b.first (second_cells k l b)))
