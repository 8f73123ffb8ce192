use Rattle.std.proofs.Common.{◌≡◌, ◌<◌, ◌^◌, ◌∙◌, sym, ap, subst, length, ◌++◌, ◌∷◌, [], Option, None, IsTrue}
use Rattle.ep_layout.specs.declared.extent.Extent.{Extent}
use Rattle.ep_layout.specs.Table.{Table, names_known, number_of, type_stop}
use Rattle.ep_layout.specs.Extents.{kept_extent}
use Rattle.ep_layout.proofs.KeptGrowth.{kept_with_type}
use Rattle.ep_layout.proofs.Results.{on_ok, is_ok_there, chosen}
use Rattle.ep_layout.proofs.table.Types.push_type.Goals as goal

pub invariant_of-self-else-is_err-2 : goal.invariant_of-self-else-is_err-2
invariant_of-self-else-is_err-2 c =
    let s = c.self.inside in
    let ty = c.args.ty in
    let back = sym c.self.view_is in
    let here = subst (λ (t : Table). IsTrue (names_known t ty)) back c.requires.parts in
    let new = subst (λ (t : Table). number_of t ty ≡ None) back c.requires.new in
    let fits = subst (λ (t : Table). type_stop t ty ≡ None) back c.requires.fits in
    let few = subst (λ (t : Table). length t.types < 2 ^ 31) back c.requires.few in
    let types = on_ok c.push-2.result _ (sym c.is_err-2.ensures.value ∙ c.if-is_err-2.false) c.push-2.ensures.ok in
    let pushed = chosen _ _ _ _ (is_ok_there c.push.result (sym c.is_err.ensures.value ∙ c.if-is_err.false)) c.push.ensures.items in
    let kept = c.requires.kept ∙ ap (λ (t : Table). kept_extent t ty) back in
    let extents = pushed ∙ ap (λ (x : Option Extent). s.extents.items ++ x ∷ []) kept in
    kept_with_type s c.push-2.new.self c.push.new.self ty c.self.invariant here new fits few types extents
