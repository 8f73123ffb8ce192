use Rattle.std.proofs.Common.{arith}
use Rattle.ep_bit_domain.specs.KnownBits.{pattern_of}
use Rattle.ep_bit_domain.proofs.Formed.{is_pattern_of}
use Rattle.ep_bits.proofs.Machine.{seen, shifted_fits, left_by_code}
use Rattle.ep_bits.proofs.results.left_by.Goals as goal

pub overflow_mul-x-inside : goal.overflow_mul-x-inside
overflow_mul-x-inside c = let a = seen c.x.inside in let l = shifted_fits a.zeros c.power-fill.result c.args.n
    (is_pattern_of a).zeros_below c.power-fill.ensures c.requires in omega arith

pub overflow_add-x-inside : goal.overflow_add-x-inside
overflow_add-x-inside c = let a = seen c.x.inside in let l = shifted_fits a.zeros c.power-fill.result c.args.n
    (is_pattern_of a).zeros_below c.power-fill.ensures c.requires in omega arith

pub overflow_mul-x-inside-2 : goal.overflow_mul-x-inside-2
overflow_mul-x-inside-2 c = let a = seen c.x.inside in let l = shifted_fits a.ones c.power-fill.result c.args.n
    (is_pattern_of a).ones_below c.power-fill.ensures c.requires in omega arith

pub returns : goal.returns
returns c =
    let a = seen c.x.inside in
    rw (← c.x.view_is) (left_by_code c.args.t
    (pattern_of a) c.args.n c.power-fill.result c.low_part.result c.low_part.ensures c.power-fill.ensures)
