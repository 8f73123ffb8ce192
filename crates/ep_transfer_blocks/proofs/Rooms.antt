-- Where the leaves of a program's blocks lie.
use Rattle.std.proofs.Common.{◌≡◌, ℕ, ◌≤◌, true, List, [], length, ltb, get_or, map, slice_get}
use Rattle.std.proofs.Common.{Some, None, sym, ap, ◌∙◌, subst}
use Rattle.std.specs.Option.{option_map}
use Rattle.std.proofs.lemmas.Option.{slice_get-get_or, slice_get-map, slice_get_past}
use Rattle.std.proofs.lemmas.Bool.{ltb-true}
use Rattle.ep_int.specs.declared.types.Model.{Model}
use Rattle.ep_layout.specs.declared.types.Leaf.{Leaf}
use Rattle.ep_layout.specs.Table.{leaves, size}
use Rattle.ep_cells.specs.Kill.{AreLeavesIn}
use Rattle.ep_bitslice.specs.declared.cell.Side.{Side}
use Rattle.ep_cells.specs.Kill.{killed_cells}
use Rattle.ep_cells.specs.States.{Known}
use Rattle.ep_core.specs.declared.program.BlockInfo.{BlockInfo}
use Rattle.ep_core.specs.declared.program.CoreProgram.{CoreProgram}
use Rattle.ep_core.specs.ProgramView.{program_view}
use Rattle.ep_core.specs.View.{block_view}
use Rattle.ep_transfers.specs.Transfers.{killed_block}
use Rattle.ep_core.specs.Program.{Program, Block}
use Rattle.ep_core.specs.WellFormed.{is_well_formed}
use Rattle.ep_core.proofs.Operands.{sizes}
use Rattle.ep_int.specs.declared.types.Order.TheVariants.{Little}
use Rattle.ep_domain.specs.Domain.{Ops}
use Rattle.ep_transfers.proofs.Kills.{room}

pub block_room : {N : Type 0} (D : Ops N) (p : Program) → is_well_formed p ≡ true → (b : ℕ) (x : Block)
    → slice_get p.blocks b ≡ Some x → (m : Model) → m ≡ p.types.model → AreLeavesIn m 0 x.size (leaves p.types x.ty)
block_room D p formed b x at m e =
    subst (λ d. AreLeavesIn d 0 x.size (leaves p.types x.ty)) (sym e)
    (room D p (λ s. Little) (sizes p formed) b (Some x) at).leaves

-- what a look at a block finds
pub found : (items bs : List BlockInfo) (b : ℕ) (x : BlockInfo) → bs ≡ items → true ≡ ltb b (length bs)
    → x ≡ get_or bs b x → slice_get (map block_view items) b ≡ Some (block_view x)
found items bs b x e h is =
    ap (λ (l : List BlockInfo). slice_get (map block_view l) b) (sym e)
    ∙ slice_get-map block_view bs b
    ∙ ap (option_map block_view) (slice_get-get_or bs b x (ltb-true b (length bs) (sym h)) ∙ ap (λ (y : BlockInfo). Some y) (sym is))

pub none : (items bs : List BlockInfo) (b : ℕ) → bs ≡ items → length bs ≤ b
    → slice_get (map block_view items) b ≡ None
none items bs b e h =
    ap (λ (l : List BlockInfo). slice_get (map block_view l) b) (sym e)
    ∙ slice_get-map block_view bs b ∙ ap (option_map block_view) (slice_get_past bs b h)

module _ {N : Type 0} (D : Ops N) where
  -- a block of the program is killed
  pub there_killed : (p : CoreProgram) (s : Side) (b : ℕ) (x : BlockInfo) (k j : Known N) (ls : List Leaf)
      → slice_get (program_view p).blocks b ≡ Some (block_view x) → ls ≡ leaves p.types x.ty
      → j ≡ record k { cells = killed_cells k.model s b ls x.size k.cells }
      → j ≡ killed_block D (program_view p) s b (slice_get (program_view p).blocks b) k
  there_killed p s b x k j ls at e h =
      h ∙ ap (λ z. record k { cells = killed_cells k.model s b z x.size k.cells }) e
      ∙ ap (λ o. killed_block D (program_view p) s b o k) (sym at)

  pub lacking_killed : (p : CoreProgram) (s : Side) (b : ℕ) (k j : Known N)
      → slice_get (program_view p).blocks b ≡ None
      → j ≡ record k { cells = killed_cells k.model s b [] 0 k.cells }
      → j ≡ killed_block D (program_view p) s b (slice_get (program_view p).blocks b) k
  lacking_killed p s b k j at h = h ∙ ap (λ o. killed_block D (program_view p) s b o k) (sym at)

  pub kept_model : (p : CoreProgram) (s : Side) (b : ℕ) (k j : Known N)
      → j ≡ killed_block D (program_view p) s b (slice_get (program_view p).blocks b) k → k.model ≡ p.types.model
      → j.model ≡ p.types.model
  kept_model p s b k j h e = ap (λ (i : Known N). i.model) h ∙ e

  pub there_room : (p : CoreProgram) (b : ℕ) (x : BlockInfo) (m : Model) (ls : List Leaf)
      → slice_get (program_view p).blocks b ≡ Some (block_view x) → ls ≡ leaves p.types x.ty → m ≡ p.types.model
      → AreLeavesIn m 0 x.size ls
  there_room p b x m ls at e h =
      subst (AreLeavesIn m 0 x.size) (sym e)
      (block_room D (program_view p) p.well_formed b (block_view x) at m h)
