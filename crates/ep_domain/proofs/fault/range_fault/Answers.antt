use Rattle.std.proofs.Common.{◌≡◌, rules, is_some, sym, subst, true, IfSome}
use Rattle.ep_range_laws.specs.Faults.{range_fault_of, ShowsRange}
use Rattle.ep_domain.proofs.FaultCode.{right_ends}
use Rattle.ep_range_laws.proofs.RangeFaults.{fault_is_found, fault_is_shown, range_is_exact}
use Rattle.ep_domain.proofs.fault.range_fault.Goals as goal

pub fault_between-requires-clause-right : goal.fault_between-requires-clause-right
fault_between-requires-clause-right c = right_ends c.args.op c.args.t c.args.y c.right_part.result c.requires.right c.right_part.ensures

pub returns-clause-some : goal.returns-clause-some
returns-clause-some c =
    let a = c.args in
    let e : c.fault_between.result ≡ range_fault_of a.op a.t a.x a.y = search rules in
    (λ h. fault_is_found a.op a.t a.x a.y c.requires.right (subst (λ o. is_some o ≡ true) e h), λ m. subst (λ o. is_some o ≡ true) (sym e) (fault_is_shown a.op a.t a.x a.y m))

pub returns-clause-shown : goal.returns-clause-shown
returns-clause-shown c =
    let a = c.args in
    let e : c.fault_between.result ≡ range_fault_of a.op a.t a.x a.y = search rules in
    subst (λ o. IfSome o (ShowsRange a.op a.t a.x a.y)) (sym e) (range_is_exact a.op a.t a.x a.y c.requires.right)
