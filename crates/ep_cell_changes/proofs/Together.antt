-- What calls in a row put together.
use Rattle.std.proofs.Common.{◌≡◌, ℕ, ◌||◌, List, [], ◌∷◌, map, refl, sym, ◌∙◌, ap}
use Rattle.ep_int.specs.declared.types.Model.{Model}
use Rattle.ep_layout.specs.declared.types.Leaf.{Leaf}
use Rattle.ep_bitslice.specs.declared.cell.Side.{Side}
use Rattle.ep_cells.specs.declared.cell.Cell.{Cell}
use Rattle.ep_cells.specs.Cells.{put, put_all, each_becomes}
use Rattle.ep_cells.specs.Forms.{Fate, reformed}
use Rattle.ep_cells.specs.States.{Each}
use Rattle.ep_cells.specs.Kill.{entry_cells, left_by_kill, fate_by_kill, killed_cells}
use Rattle.ep_cells.specs.Reshare.{left_by_reshare, fate_by_reshare}
use Rattle.ep_cell_rows.specs.declared.change.Change.{Change}
use Rattle.ep_cell_rows.specs.declared.change.Change.TheVariants.{Reshare}
use Rattle.ep_cell_rows.specs.Parts.{fate_of}
use Rattle.ep_cell_rows.proofs.Order.{put_reformed}
use Rattle.ep_cell_changes.proofs.Entries.{entries_stay}

-- cells that new names leave as they are
pub put_all_reformed : {N : Type 0} (f : Fate) (news cs : List (Cell N)) → Each (λ c. reformed f c ≡ c) news
    → map (reformed f) (put_all news cs) ≡ put_all news (map (reformed f) cs)
put_all_reformed f [] cs h = refl
put_all_reformed f (c ∷ more) cs h =
    put_reformed f c (put_all more cs)
    ∙ ap (λ x. put x (map (reformed f) (put_all more cs))) h.0
    ∙ ap (put c) (put_all_reformed f more cs h.1)

-- what a kill puts together
pub killed_is : {N : Type 0} (d : Model) (s : Side) (b : ℕ) (leaves : List Leaf) (size : ℕ)
    (cs left news items : List (Cell N)) → left ≡ map (reformed (fate_by_kill s b)) (each_becomes (left_by_kill s b) cs)
    → news ≡ entry_cells d s b leaves size → items ≡ put_all news left → items ≡ killed_cells d s b leaves size cs
killed_is {N = N} d s b leaves size cs left news items el en ei =
    let f = fate_by_kill s b in
    let rest = each_becomes (left_by_kill s b) cs in
    ei ∙ ap (λ z. put_all z left) en ∙ ap (put_all (entry_cells d s b leaves size)) el
    ∙ sym (put_all_reformed f (entry_cells d s b leaves size) rest (entries_stay N f d s b leaves 0 size))

-- what resharing of two cells puts together
pub reshared_is : {N : Type 0} (l r c x y : Cell N) (ch : Change) (cs left items : List (Cell N))
    → ch ≡ Reshare l.block l.offset (l.maybe || r.maybe) → x ≡ c
    → left ≡ map (reformed (fate_of ch)) (each_becomes (left_by_reshare l) cs) → y ≡ reformed (fate_of ch) x
    → items ≡ put y left → items ≡ map (reformed (fate_by_reshare l r)) (put c (each_becomes (left_by_reshare l) cs))
reshared_is l r c x y ch cs left items e ex el ey ei =
    let rest = each_becomes (left_by_reshare l) cs in
    ei ∙ ap (λ z. put z left) ey ∙ ap (put (reformed (fate_of ch) x)) el
    ∙ sym (put_reformed (fate_of ch) x rest)
    ∙ ap (λ z. map (reformed (fate_of ch)) (put z rest)) ex
    ∙ ap (λ (z : Change). map (reformed (fate_of z)) (put c rest)) e
