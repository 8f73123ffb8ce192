use Rattle.std.proofs.Common.{◌≡◌, ◌∙◌, sym, ap, subst, Some, None, position}
use Rattle.ep_layout.specs.declared.types.Ty.{Ty}
use Rattle.ep_layout.specs.declared.types.Ty.TheVariants.{Void}
use Rattle.ep_layout.specs.Table.{Table, number_of, type_stop, with_type}
use Rattle.ep_layout.specs.TableInvariant.{table_of}
use Rattle.ep_layout.specs.SameTypes.{is_same_type, same_types, same_itself}
use Rattle.ep_layout.proofs.Keeping.{fits_again}
use Rattle.ep_layout.proofs.Positions.{position_some, position_push}
use Rattle.ep_layout.proofs.table.Types.add.Goals as goal

pub returns-in-Some-clause-fits : goal.returns-in-Some-clause-fits
returns-in-Some-clause-fits c =
    let s = c.self.inside in
    let found = position_some (is_same_type c.args.ty) s.types c.in-Some.n Void (sym c.number_of.ensures.number ∙ c.in-Some.is) in
    let same = same_types c.args.ty found.0 found.2 in
    let fits = fits_again (table_of s) c.self.invariant.built c.in-Some.n found.0 found.1 in
    subst (λ (t : Table). type_stop t c.args.ty ≡ None) c.self.view_is (subst (λ (v : Ty). type_stop (table_of s) v ≡ None) (sym same) fits)

pub returns-in-Ok-clause-number : goal.returns-in-Ok-clause-number
returns-in-Ok-clause-number c =
    let s = c.self.inside in
    let none : position (is_same_type c.args.ty) s.types ≡ None = sym c.number_of.ensures.number ∙ c.in_default.is in
    let last = position_push (is_same_type c.args.ty) s.types c.args.ty none (same_itself c.args.ty) in
    ap (λ (t : Table). number_of t c.args.ty) c.in-Ok.ensures.ok ∙ sym (ap (λ (t : Table). number_of (with_type t c.args.ty) c.args.ty) c.self.view_is) ∙ last ∙ ap Some (sym c.count-n.ensures)
