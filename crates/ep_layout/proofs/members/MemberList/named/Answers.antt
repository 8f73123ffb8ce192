use Rattle.std.proofs.Common.{◌≡◌, ◌∙◌, sym, ap, refl, arith, Some, find, bytes_eq, option_map}
use Rattle.std.proofs.lemmas.Option.{slice_get_read}
use Rattle.ep_layout.specs.Places.{place_of}
use Rattle.ep_layout.specs.Table.{MemberRow}
use Rattle.ep_layout.specs.Views.{member_view}
use Rattle.ep_layout.proofs.Naming.{named_at, named_nowhere}
use Rattle.ep_layout.proofs.members.MemberList.named.Goals as goal

pub index-requires : goal.index-requires
index-requires c =
    let place : place_of c.args.name.now c.self.inside.members.items ≡ Some c.in-Some.place.now = sym (c.self.invariant c.args.name.now) ∙ sym c.in-Some.ensures.value in
    let found = named_at c.args.name.now c.self.inside.members.items c.in-Some.place.now place in
    omega (arith, found.0)

pub returns-in-None : goal.returns-in-None
returns-in-None c =
    let absent = named_nowhere c.args.name.now c.self.inside.members.items (sym (c.self.invariant c.args.name.now) ∙ sym c.in-None.ensures.value) in
    sym absent ∙ ap (find (λ (m : MemberRow). bytes_eq c.args.name.now m.name)) c.self.view_is

pub returns-in-Some : goal.returns-in-Some
returns-in-Some c =
    let place : place_of c.args.name.now c.self.inside.members.items ≡ Some c.in-Some.place.now = sym (c.self.invariant c.args.name.now) ∙ sym c.in-Some.ensures.value in
    let found = named_at c.args.name.now c.self.inside.members.items c.in-Some.place.now place in
    let member = slice_get_read c.self.inside.members.items _ c.in-Some.place.now c.index.result.now refl found.0 c.index.ensures in
    sym (found.1 ∙ ap (option_map member_view) member) ∙ ap (find (λ (m : MemberRow). bytes_eq c.args.name.now m.name)) c.self.view_is
