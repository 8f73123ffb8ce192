-- Two states after changes of both.
use Rattle.std.proofs.Common.{◌≡◌, List, [], sym, ◌∙◌, ap, subst}
use Rattle.std.specs.List.{filter}
use Rattle.ep_domain.specs.Domain.{Ops}
use Rattle.ep_cells.specs.declared.cell.Cell.{Cell}
use Rattle.ep_cells.specs.States.{Known, AreCells}
use Rattle.ep_reads.specs.Unify.{is_crossed, uncrossed, had_by_both}
use Rattle.ep_reads.specs.Single.{without_like, is_kind_among}
use Rattle.ep_reads.proofs.Liked.{had_is, crossed_lacked}
use Rattle.ep_state_steps.specs.Ones.{left_at, crossed_at}

pub lacking_is : {N : Type 0} (k after : Known N) (ys zs slice : List (Cell N)) → AreCells k.model k.cells → slice ≡ zs
    → zs ≡ without_like ys k.cells → after ≡ left_at (is_kind_among slice) k
    → after ≡ record k { cells = had_by_both ys k.cells }
lacking_is k after ys zs slice a f e h =
    h
    ∙ ap (λ l. left_at (is_kind_among l) k) (f ∙ e)
    ∙ ap (λ l. record k { cells = l }) (sym (had_is k.model k.cells ys a))

-- k is the state whose cells are crossed, l the one whose cells cross them
pub crossing_is : {N : Type 0} (D : Ops N) (k l after : Known N) (us zs slice lacked : List (Cell N))
    → k.model ≡ l.model
    → AreCells l.model l.cells → us ≡ without_like l.cells k.cells → lacked ≡ us
    → zs ≡ filter (is_crossed l.model l.cells) lacked → slice ≡ zs → after ≡ crossed_at D slice k
    → after ≡ record k { cells = uncrossed D k l.cells k.cells }
crossing_is D k l after us zs slice lacked m a e f g i h =
    h
    ∙ ap (λ q. crossed_at D q k)
    (i ∙ g ∙ ap (filter (is_crossed l.model l.cells)) (f ∙ e)
    ∙ ap (λ d. filter (is_crossed d l.cells) (without_like l.cells k.cells)) (sym m))
    ∙ ap (λ q. record k { cells = q }) (sym (crossed_lacked D k k.cells l.cells
    (subst (λ d. AreCells d l.cells) (sym m) a)))

pub crossed_are : {N : Type 0} (D : Ops N) (k l after : Known N) (us zs slice lacked : List (Cell N))
    → k.model ≡ l.model
    → AreCells l.model l.cells → us ≡ without_like l.cells k.cells → lacked ≡ us
    → zs ≡ filter (is_crossed l.model l.cells) lacked → slice ≡ zs → after ≡ crossed_at D slice k
    → after.cells ≡ uncrossed D k l.cells k.cells
crossed_are {N = N} D k l after us zs slice lacked m a e f g i h =
    ap (λ (z : Known N). z.cells) (crossing_is D k l after us zs slice lacked m a e f g i h)

-- where none is crossed all stay
pub level_cells : {N : Type 0} (D : Ops N) (k l : Known N) (us zs slice lacked : List (Cell N)) → k.model ≡ l.model
    → AreCells l.model l.cells → us ≡ without_like l.cells k.cells → lacked ≡ us
    → zs ≡ filter (is_crossed l.model l.cells) lacked → slice ≡ zs → slice ≡ []
    → k.cells ≡ uncrossed D k l.cells k.cells
level_cells D k l us zs slice lacked m a e f g i n =
    crossed_are D k l k us zs slice lacked m a e f g i (sym (ap (λ q. crossed_at D q k) n))

pub level_now : {N : Type 0} (k after : Known N) (ds us vs : List (Cell N)) → k.cells ≡ us → ds ≡ vs
    → after ≡ record k { cells = had_by_both ds k.cells } → after ≡ record k { cells = had_by_both vs us }
level_now k after ds us vs x y h =
    h
    ∙ ap (λ q. record k { cells = had_by_both ds q }) x
    ∙ ap (λ q. record k { cells = had_by_both q us }) y

pub level_then : {N : Type 0} (k crossed after : Known N) (ds us vs : List (Cell N))
    → crossed ≡ record k { cells = us }
    → ds ≡ vs → after ≡ record crossed { cells = had_by_both ds crossed.cells }
    → after ≡ record k { cells = had_by_both vs us }
level_then {N = N} k crossed after ds us vs x y h =
    h
    ∙ ap (λ (z : Known N). record z { cells = had_by_both ds z.cells }) x
    ∙ ap (λ q. record k { cells = had_by_both q us }) y
