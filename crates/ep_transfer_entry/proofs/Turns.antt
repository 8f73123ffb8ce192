-- Undefined cells get their numbers one after another, and blocks their cells.
use Rattle.std.proofs.Common.{◌≡◌, ℕ, zero, suc, ◌+◌, ◌^◌, ◌<◌, ◌≤◌, ℤ, pos, true, ◌||◌, List, [], ◌∷◌, ◌++◌, length}
use Rattle.ep_shared_parts.proofs.Steps.{rest_at}
use Rattle.std.proofs.lemmas.List.{drop_more}
use Rattle.std.proofs.Common.{get_or, map, drop, slice_get, Option, Some, unwrap_or, refl, sym}
use Rattle.std.proofs.Common.{ap, ◌∙◌, subst, arith, append_assoc, append-nil}
use Rattle.std.specs.Option.{option_map}
use Rattle.std.specs.BTreeMap.{BTreeMap, get}
use Rattle.std.proofs.lemmas.List.{length-map}
use Rattle.std.proofs.lemmas.Option.{slice_get-get_or, slice_get-map}
use Rattle.ep_int.specs.declared.types.Model.{Model}
use Rattle.ep_layout.specs.declared.types.Leaf.{Leaf}
use Rattle.ep_layout.specs.Table as table
use Rattle.ep_bitslice.specs.declared.cell.Side.TheVariants.{Shared}
use Rattle.ep_domain.specs.Domain.{Ops}
use Rattle.ep_cells.specs.declared.cell.Cell.{Cell}
use Rattle.ep_cells.specs.Kill.{AreLeavesIn, entry_cells}
use Rattle.ep_cells.specs.States.{Each}
use Rattle.ep_core.specs.declared.program.BlockInfo.{BlockInfo}
use Rattle.ep_core.specs.declared.program.CoreProgram.{CoreProgram}
use Rattle.ep_core.specs.Program.{Block}
use Rattle.ep_core.specs.Runs.{is_result}
use Rattle.ep_core.specs.ProgramView.{program_view}
use Rattle.ep_core.specs.View.{block_view}
use Rattle.ep_transfers.specs.Ends.{first_from, main_result, first_of_block, first_of_blocks}
use Rattle.ep_transfer_entry.specs.First.{place_cmp, HasFirst, IsOfType, cell_with}
use Rattle.ep_transfer_entry.proofs.Blocks.{few_blocks}
use Rattle.ep_transfer_entry.proofs.Lookups.{first_is}
use Rattle.ep_transfer_entry.proofs.Begins.{number_at, begun, HasNumber, leaves_in, have_numbers, begun_from}

none_left : {X : Type 0} (xs : List X) (i : ℕ) → length xs ≤ i → drop i xs ≡ []
none_left [] zero h = refl
none_left [] (suc i) h = refl
none_left (x ∷ xs) zero h = absurd (omega arith)
none_left (x ∷ xs) (suc i) h = none_left xs i (omega arith)

-- what is put behind, before what is left
one_behind : {X : Type 0} (out more all rest ys : List X) (y : X) → more ≡ out ++ y ∷ [] → ys ≡ y ∷ rest
    → out ++ ys ≡ all → more ++ rest ≡ all
one_behind out more all rest ys y m e a =
    ap (λ z. z ++ rest) m ∙ append_assoc out (y ∷ []) rest ∙ ap (λ z. out ++ z) (sym e) ∙ a

module _ {N : Type 0} (D : Ops N) (p : CoreProgram) where
  number_is : (m : BTreeMap (ℕ × ℕ) ℤ) (v : ℤ) (b q : ℕ) → HasFirst p.init.items m
      → v ≡ unwrap_or (get place_cmp m (b, q)) (pos 0) → v ≡ number_at D (program_view p) b q
  number_is m v b q h e =
      e ∙ ap (λ (o : Option ℤ). unwrap_or o (pos 0)) (first_is D (program_view p) b q p.init.items m h)

  pub number_fits : (m : BTreeMap (ℕ × ℕ) ℤ) (v w : ℤ) (us : List (Cell N)) (i : ℕ) (u : Cell N)
      → HasFirst p.init.items m → v ≡ unwrap_or (get place_cmp m (u.block, u.offset)) (pos 0) → w ≡ v
      → i < length us → u ≡ get_or us i u → Each (HasNumber D (program_view p)) (drop i us) → IsOfType u.what w
  number_fits m v w us i u h e ew l is a =
      subst (IsOfType u.what) (sym (ew ∙ number_is m v u.block u.offset h e))
      (subst (Each (HasNumber D (program_view p))) (rest_at us i u l is) a).0

  pub numbers_left : (us : List (Cell N)) (i : ℕ) (u : Cell N) → i < length us → u ≡ get_or us i u
      → Each (HasNumber D (program_view p)) (drop i us) → Each (HasNumber D (program_view p)) (drop (i + 1) us)
  numbers_left us i u l is a = (subst (Each (HasNumber D (program_view p))) (rest_at us i u l is) a).1

  pub cell_turn : (m : BTreeMap (ℕ × ℕ) ℤ) (v w : ℤ) (us out more all : List (Cell N)) (i : ℕ) (u c : Cell N)
      → HasFirst p.init.items m → v ≡ unwrap_or (get place_cmp m (u.block, u.offset)) (pos 0) → w ≡ v
      → i < length us → u ≡ get_or us i u → c ≡ cell_with D w u.block u.offset u.what → more ≡ out ++ c ∷ []
      → out ++ map (begun D (program_view p)) (drop i us) ≡ all
      → more ++ map (begun D (program_view p)) (drop (i + 1) us) ≡ all
  cell_turn m v w us out more all i u c h e ew l is ec em a =
      let cell : c ≡ begun D (program_view p) u =
      ec ∙ ap (λ z. cell_with D z u.block u.offset u.what) (ew ∙ number_is m v u.block u.offset h e) in
      one_behind out more all (map (begun D (program_view p)) (drop (i + 1) us)) (map (begun D (program_view p)) (drop i us)) c em
      (ap (map (begun D (program_view p))) (rest_at us i u l is)
      ∙ ap (λ z. z ∷ map (begun D (program_view p)) (drop (i + 1) us)) (sym cell)) a

  -- ---- one block

  module _ (b : ℕ) (x : Block) (at : slice_get (program_view p).blocks b ≡ Some x)
      (begins : (x.global || is_result (main_result D (program_view p)) b) ≡ true) (d : Model) (ls : List Leaf)
      (model : d ≡ p.types.model) (leaves : ls ≡ table.leaves p.types x.ty) where
    pub block_leaves : AreLeavesIn d 0 x.size ls
    block_leaves =
        subst (λ z. AreLeavesIn z 0 x.size ls) (sym model)
        (subst (AreLeavesIn p.types.model 0 x.size) (sym leaves) (leaves_in D (program_view p) p.well_formed b x at begins))

    cells_are : (us : List (Cell N)) → us ≡ entry_cells d Shared b ls x.size
        → us ≡ entry_cells p.types.model Shared b (table.leaves p.types x.ty) x.size
    cells_are us e =
        e ∙ ap (λ z. entry_cells z Shared b ls x.size) model
        ∙ ap (λ z. entry_cells p.types.model Shared b z x.size) leaves

    pub block_numbers : (us : List (Cell N)) → us ≡ entry_cells d Shared b ls x.size
        → Each (HasNumber D (program_view p)) us
    block_numbers us e =
        subst (Each (HasNumber D (program_view p))) (sym (cells_are us e))
        (have_numbers D (program_view p) p.well_formed b x at begins 0 x.size)

    pub block_ends : (us out old : List (Cell N)) (i : ℕ) → us ≡ entry_cells d Shared b ls x.size → length us ≤ i
        → out ++ map (begun D (program_view p)) (drop i us) ≡ old ++ map (begun D (program_view p)) us
        → out ≡ old ++ first_from D (program_view p) b (table.leaves p.types x.ty) 0 x.size
    block_ends us out old i e h a =
        sym (append-nil out) ∙ ap (λ z. out ++ map (begun D (program_view p)) z) (sym (none_left us i h)) ∙ a
        ∙ ap (λ z. old ++ map (begun D (program_view p)) z) (cells_are us e)
        ∙ ap (λ z. old ++ z) (begun_from D (program_view p) p.well_formed b x at begins 0 x.size)

  -- ---- all blocks

  pub found : (bs : List BlockInfo) (i n : ℕ) (d : BlockInfo) → bs ≡ p.blocks.items → i < length bs → n ≡ i
      → slice_get (program_view p).blocks n ≡ Some (block_view (get_or bs i d))
  found bs i n d e h en =
      ap (slice_get (program_view p).blocks) en
      ∙ ap (λ (l : List BlockInfo). slice_get (map block_view l) i) (sym e)
      ∙ slice_get-map block_view bs i
      ∙ ap (option_map block_view) (slice_get-get_or bs i d h)

  pub few : (bs : List BlockInfo) (i n : ℕ) → bs ≡ p.blocks.items → i < length bs → n ≡ i → n + 1 < 2 ^ 32
  few bs i n e h en =
      let l = few_blocks (program_view p) p.well_formed in
      let m = length-map p.blocks.items block_view in
      let s = ap (λ (l : List BlockInfo). length l) e in
      omega (arith, l, m, s, h, en)

  pub begins_with : (bs : List BlockInfo) (out : List (Cell N)) → bs ≡ p.blocks.items → out ≡ []
      → out ++ first_of_blocks D (program_view p) 0 (map block_view bs)
      ≡ first_of_blocks D (program_view p) 0 (program_view p).blocks
  begins_with bs out e o =
      ap (λ z. z ++ first_of_blocks D (program_view p) 0 (map block_view bs)) o
      ∙ ap (λ (l : List BlockInfo). first_of_blocks D (program_view p) 0 (map block_view l)) e

  pub block_turn : (bs : List BlockInfo) (out more all : List (Cell N)) (i n : ℕ) (d : BlockInfo) → i < length bs
      → more ≡ out ++ first_of_block D (program_view p) n (block_view (get_or bs i d))
      → out ++ first_of_blocks D (program_view p) n (map block_view (drop i bs)) ≡ all
      → more ++ first_of_blocks D (program_view p) (n + 1) (map block_view (drop (i + 1) bs)) ≡ all
  block_turn bs out more all i n d h m a =
      let rest = first_of_blocks D (program_view p) (n + 1) (map block_view (drop (i + 1) bs)) in
      ap (λ z. z ++ rest) m ∙ append_assoc out (first_of_block D (program_view p) n (block_view (get_or bs i d))) rest
      ∙ ap (λ l. out ++ first_of_blocks D (program_view p) n (map block_view l)) (sym (drop_more bs i d h)) ∙ a

  pub blocks_end : (bs : List BlockInfo) (out all : List (Cell N)) (i n : ℕ) → length bs ≤ i
      → out ++ first_of_blocks D (program_view p) n (map block_view (drop i bs)) ≡ all → out ≡ all
  blocks_end bs out all i n h a =
      sym (append-nil out)
      ∙ ap (λ l. out ++ first_of_blocks D (program_view p) n (map block_view l)) (sym (none_left bs i h)) ∙ a
