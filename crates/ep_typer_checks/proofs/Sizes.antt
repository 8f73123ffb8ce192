-- The sizes of blocks, together.
use Rattle.std.proofs.Common.{◌≡◌, ℕ, ◌+◌, ◌<◌, ◌≤◌, List, length, get_or, map, drop, sym, ap, ◌∙◌}
use Rattle.ep_call_graph.proofs.Lists.{front_at}
use Rattle.std.specs.List.{sum_by}
use Rattle.std.proofs.lemmas.List.{drop_all}
use Rattle.std.proofs.lemmas.List.Sums.{sum_by-cons}
use Rattle.ep_core.specs.declared.program.BlockInfo.{BlockInfo}
use Rattle.ep_core.specs.Program.{Block}
use Rattle.ep_core.specs.View.{block_view}

abbrev pub total : List BlockInfo → ℕ
total bs = sum_by (λ (b : Block). b.size) (map block_view bs)

pub one_left : (i : ℕ) (bs : List BlockInfo) (b : BlockInfo) → i < length bs → b ≡ get_or bs i b
    → total (drop i bs) ≡ b.size + total (drop (i + 1) bs)
one_left i bs b lt is =
    ap total (front_at i bs b lt)
    ∙ sum_by-cons (λ (x : Block). x.size) (block_view (get_or bs i b)) (map block_view (drop (i + 1) bs))
    ∙ ap (λ (x : BlockInfo). x.size + total (drop (i + 1) bs)) (sym is)

pub none_left : (i : ℕ) (bs : List BlockInfo) → length bs ≤ i → total (drop i bs) ≡ 0
none_left i bs le = ap total (drop_all i bs le)
