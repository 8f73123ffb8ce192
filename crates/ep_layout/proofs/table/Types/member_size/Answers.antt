use Rattle.std.proofs.Common.{◌≤◌, ap, sym, arith, length, unwrap_or, Option, option_map}
use Rattle.ep_layout.specs.Layout.{Layout}
use Rattle.ep_layout.specs.Table.{layout_rules}
use Rattle.ep_layout.proofs.Recursion.{at_depth_past}
use Rattle.ep_layout.proofs.table.Types.member_size.Goals as goal

pub returns-then-ty-type_count : goal.returns-then-ty-type_count
returns-then-ty-type_count c =
    let t = c.args.self.now in
    let past : length t.types ≤ c.args.ty = omega (arith, c.type_count.ensures, c.if-ty-type_count.true) in
    sym (ap (λ (o : Option Layout). unwrap_or (option_map (λ (l : Layout). l.size) o) 0) (at_depth_past (layout_rules t.model) t _ c.args.ty past))
