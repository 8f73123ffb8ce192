use Rattle.ep_tame_values.proofs.Lines as lines
use Rattle.ep_tame_values.proofs.Points as points
use Rattle.ep_tame_values.proofs.value_laws.Goals as goal

pub returns : goal.returns
returns g c keeps products = let law = g.met.N.Num.laws in let D = g.N.Num.ops in record {
  block_lies = lines.block_lies D law keeps products;
  target_lies = lines.target_lies D law keeps products;
  member_lies = lines.member_lies D law keeps products;
  element_lies = lines.element_lies D law keeps products;
  on_row = lines.on_row D law keeps products;
  begin_points = points.begin_points D law keeps products;
  join_points = points.join_points D law keeps products;
  widen_points = points.widen_points D law keeps products;
  moved_points = points.moved_points D law keeps products;
  first_points = points.first_points D law keeps products;
  element_points = points.element_points D law keeps products;
}
