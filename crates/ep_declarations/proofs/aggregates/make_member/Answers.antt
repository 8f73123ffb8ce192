use Rattle.std.proofs.Common.{◌≡◌, map}
use Rattle.ep_ast.specs.Declaration.{spec_of, member_field}
use Rattle.ep_ast.specs.DeclarationGrammar.{specs_line}
use Rattle.ep_declarations.proofs.MemberDepth.{member_fits, fields_deep, words_deep}
use Rattle.ep_declarations.proofs.aggregates.make_member.Goals as goal

pub returns-in-Fits-fields : goal.returns-in-Fits-fields
returns-in-Fits-fields c = λ ss fs p q. (
    let l : c.specs_line-line.result ≡ specs_line (map spec_of c.in-Fits.specs.items) = rw (← c.deref.ensures.value)
    c.specs_line-line.ensures in
    member_fits (map spec_of c.in-Fits.specs.items) ss (map member_field c.in-Fits-fields.fields.items) fs
    c.specs_line-line.result specs_line l (rw c.in-Fits.is at p) (rw c.in-Fits-fields.is at q))

pub returns-in-TooDeep-fields : goal.returns-in-TooDeep-fields
returns-in-TooDeep-fields c =
    λ ss fs p q.
    (let r = rw c.in-Fits.is at p in
    fields_deep ss fs c.in-TooDeep-fields.deep r.1 (rw c.in-TooDeep-fields.is at q))

pub returns-in-TooDeep : goal.returns-in-TooDeep
returns-in-TooDeep c = λ ss fs p q. words_deep ss fs c.in-TooDeep.deep (rw c.in-TooDeep.is at p)
