-- What is kept of the statements of each function (this project's rule).
use Rattle.std.specs.Prelude.{ℕ, ◌+◌, ◌==◌, if◌then◌else◌, slice_index, max}
use Rattle.ep_elaboration.specs.Calls as rule
use Rattle.ep_call_graph.specs.declared.deep.ByCaller.{ByCaller}
use Rattle.ep_call_graph.specs.View.{listed, call_sites}

-- how deep the deepest of a function's statements stands
abbrev pub deepest_kept : (below : ℕ → ℕ) → ByCaller → ℕ → ℕ
deepest_kept below k f =
    max (slice_index k.deepest.items f) (rule.deepest below (call_sites (listed k.calling.items f)))

-- how deep a statement stands, where it is one of this function
abbrev pub depth_in : (below : ℕ → ℕ) → ℕ → rule.CallSite → ℕ
depth_in below f p = if p.caller == f then p.depth + rule.callee_depth below p.callee else 0
