-- Names by which mentions go on are final.
use Rattle.std.proofs.Common.{◌≡◌, ℕ, Bool, true, false, ◌&&◌, nat_eq, cond, Option, Some, None, refl, sym, ◌∙◌, ap}
use Rattle.std.proofs.Common.{subst}
use Rattle.std.specs.Option.{option_map}
use Rattle.ep_bitslice.specs.declared.cell.Side.{Side}
use Rattle.ep_bitslice.specs.declared.cell.Side.TheVariants.{Left, Right, Shared}
use Rattle.ep_bitslice.specs.declared.cell.CellName.{CellName}
use Rattle.ep_cells.specs.declared.place.ByteRange.{ByteRange}
use Rattle.ep_cells.specs.Cells.{side_without, share_memory, touches, place_of_name}
use Rattle.ep_cells.specs.Weaken.{first_part}
use Rattle.ep_cells.specs.Reshare.{fate_by_side}
use Rattle.ep_cell_rows.specs.declared.change.Change.{Change}
use Rattle.ep_cell_rows.specs.declared.change.Change.TheVariants.{Write, WeakWrite, Kill, Reshare, Unshare}
use Rattle.ep_cell_rows.specs.Parts.{fate_of}
use Rattle.ep_cell_rows.proofs.Renaming.{IsSettled}

-- what is left of a side stays
rest_stays : (p q s : Side) → side_without p q ≡ Some s → side_without p s ≡ Some s
rest_stays Left Left s h = absurd (cc)
rest_stays Left Right s h = let e : Right ≡ s = cc in subst (λ (x : Side). side_without Left x ≡ Some x) e refl
rest_stays Left Shared s h = let e : Right ≡ s = cc in subst (λ (x : Side). side_without Left x ≡ Some x) e refl
rest_stays Right Left s h = let e : Left ≡ s = cc in subst (λ (x : Side). side_without Right x ≡ Some x) e refl
rest_stays Right Right s h = absurd (cc)
rest_stays Right Shared s h = let e : Left ≡ s = cc in subst (λ (x : Side). side_without Right x ≡ Some x) e refl
rest_stays Shared q s h = absurd (cc)

abbrev on : CellName → Option Side → Option CellName
on c o = option_map (λ s. record c { side = s }) o

by_rest : (p : Side) (c e : CellName) (o : Option Side) → side_without p c.side ≡ o → on c o ≡ Some e
    → (s : Side) × (e ≡ record c { side = s }) × (side_without p s ≡ Some s)
by_rest p c e None f h = absurd (cc)
by_rest p c e (Some s) f h = (s, let i : e ≡ record c { side = s } = cc in i, rest_stays p c.side s f)

-- f, which is on the sides that are left where a test of the place holds
rest_settled : (p : Side) (test : CellName → Bool) → ((c : CellName) (s : Side)
    → test (record c { side = s }) ≡ test c) → (c e : CellName) (b : Bool) → test c ≡ b
    → cond b (on c (side_without p c.side)) (Some c) ≡ Some e → cond (test e) (on e (side_without p e.side)) (Some e)
    ≡ Some e
rest_settled p test same c e true f h =
    let r = by_rest p c e (side_without p c.side) refl h in
    subst (λ x. cond (test x) (on x (side_without p x.side)) (Some x) ≡ Some x) (sym r.1)
    (ap (λ t. cond t (on c (side_without p r.0)) (Some (record c { side = r.0 }))) (same c r.0 ∙ f)
    ∙ ap (on c) r.2)
rest_settled p test same c e false f h =
    let i : c ≡ e = cc in
    subst (λ x. cond (test x) (on x (side_without p x.side)) (Some x) ≡ Some x) i
    (ap (λ t. cond t (on c (side_without p c.side)) (Some c)) f)

first_stays : (s : Side) → first_part (first_part s) ≡ first_part s
first_stays Left = refl
first_stays Right = refl
first_stays Shared = refl

abbrev weak : Side → CellName → Bool → Option CellName
weak p c t = cond t None (Some (record c { side = first_part c.side }))

weak_touched : (p : ByteRange) (c e : CellName) (t : Bool) → share_memory p.side (first_part c.side) ≡ t
    → touches p (place_of_name c) ≡ true → weak p.side c t ≡ Some e
    → cond (touches p (place_of_name e)) (weak p.side e (share_memory p.side (first_part e.side))) (Some e) ≡ Some e
weak_touched p c e true f g h = absurd (cc)
weak_touched p c e false f g h =
    let d = record c { side = first_part c.side } in
    let i : d ≡ e = cc in
    subst (λ x. cond (touches p (place_of_name x)) (weak p.side x (share_memory p.side (first_part x.side))) (Some x)
    ≡ Some x) i
    (ap (λ b. cond b (weak p.side d (share_memory p.side (first_part (first_part c.side)))) (Some d)) g
    ∙ ap (λ (s : Side). weak p.side d (share_memory p.side s)) (first_stays c.side)
    ∙ ap (weak p.side d) f
    ∙ ap (λ (s : Side). Some (record c { side = s })) (first_stays c.side))

weak_settled : (p : ByteRange) (c e : CellName) (b : Bool) → touches p (place_of_name c) ≡ b
    → cond b (weak p.side c (share_memory p.side (first_part c.side))) (Some c) ≡ Some e
    → cond (touches p (place_of_name e)) (weak p.side e (share_memory p.side (first_part e.side))) (Some e) ≡ Some e
weak_settled p c e true f h = weak_touched p c e (share_memory p.side (first_part c.side)) refl f h
weak_settled p c e false f h =
    let i : c ≡ e = cc in
    subst (λ x. cond (touches p (place_of_name x)) (weak p.side x (share_memory p.side (first_part x.side))) (Some x)
    ≡ Some x) i
    (ap (λ b. cond b (weak p.side c (share_memory p.side (first_part c.side))) (Some c)) f)

-- a name goes on as itself or as a Shared one
side_by : (maybe : Bool) (c e : CellName) (s : Side) → c.side ≡ s → fate_by_side maybe c s ≡ Some e
    → fate_by_side maybe e e.side ≡ Some e
side_by maybe c e Shared f h =
    let i : c ≡ e = cc in
    subst (λ x. fate_by_side maybe x x.side ≡ Some x) i (ap (fate_by_side maybe c) f)
side_by true c e Left f h = absurd (cc)
side_by true c e Right f h = absurd (cc)
side_by false c e Left f h = let i : record c { side = Shared } ≡ e = cc in subst (λ x. fate_by_side false x x.side ≡
    Some x) i refl
side_by false c e Right f h = let i : record c { side = Shared } ≡ e = cc in subst (λ x. fate_by_side false x x.side
    ≡ Some x) i refl

same_place : (maybe : Bool) (c e : CellName) (s : Side) → fate_by_side maybe c s ≡ Some e
    → (e.block ≡ c.block) × (e.offset ≡ c.offset)
same_place maybe c e Shared h = let i : c ≡ e = cc in (ap (λ x. x.block) (sym i), ap (λ x. x.offset) (sym i))
same_place true c e Left h = absurd (cc)
same_place true c e Right h = absurd (cc)
same_place false c e Left h = let i : record c { side = Shared } ≡ e = cc in (
  ap (λ x. x.block) (sym i),
  ap (λ x.
      x.offset) (sym i),
)
same_place false c e Right h = let i : record c { side = Shared } ≡ e = cc in (
  ap (λ x. x.block) (sym i),
  ap (λ x.
      x.offset) (sym i),
)

reshare_settled : (b q : ℕ) (maybe : Bool) (c e : CellName) (t : Bool)
    → (nat_eq c.block b && nat_eq c.offset q) ≡ t → cond t (fate_by_side maybe c c.side) (Some c) ≡ Some e
    → cond (nat_eq e.block b && nat_eq e.offset q) (fate_by_side maybe e e.side) (Some e) ≡ Some e
reshare_settled b q maybe c e true f h =
    let p = same_place maybe c e c.side h in
    let same : (nat_eq e.block b && nat_eq e.offset q) ≡ true =
    ap (λ (x : ℕ). nat_eq x b && nat_eq e.offset q) p.0 ∙ ap (λ (x : ℕ). nat_eq c.block b && nat_eq x q) p.1 ∙ f in
    ap (λ t. cond t (fate_by_side maybe e e.side) (Some e)) same ∙ side_by maybe c e c.side refl h
reshare_settled b q maybe c e false f h =
    let i : c ≡ e = cc in
    subst (λ x. cond (nat_eq x.block b && nat_eq x.offset q) (fate_by_side maybe x x.side) (Some x) ≡ Some x) i
    (ap (λ t. cond t (fate_by_side maybe c c.side) (Some c)) f)

unshare_settled : (p : ByteRange) (c e : CellName) (b : Bool) → touches p (place_of_name c) ≡ b
    → cond b (Some (record c { side = first_part c.side })) (Some c) ≡ Some e
    → cond (touches p (place_of_name e)) (Some (record e { side = first_part e.side })) (Some e) ≡ Some e
unshare_settled p c e true f h =
    let d = record c { side = first_part c.side } in
    let i : d ≡ e = cc in
    subst (λ x. cond (touches p (place_of_name x)) (Some (record x { side = first_part x.side })) (Some x) ≡ Some x) i
    (ap (λ b. cond b (Some (record d { side = first_part (first_part c.side) })) (Some d)) f
    ∙ ap (λ (s : Side). Some (record c { side = s })) (first_stays c.side))
unshare_settled p c e false f h =
    let i : c ≡ e = cc in
    subst (λ x. cond (touches p (place_of_name x)) (Some (record x { side = first_part x.side })) (Some x) ≡ Some x) i
    (ap (λ b. cond b (Some (record c { side = first_part c.side })) (Some c)) f)

pub settled : (ch : Change) → IsSettled (fate_of ch)
settled (Write p) = record {
  settled = λ c e h. rest_settled p.side (λ x. touches p (place_of_name x)) (λ x s. refl)
      c e (touches p (place_of_name c)) refl h;
}
settled (WeakWrite p) = record { settled = λ c e h. weak_settled p c e (touches p (place_of_name c)) refl h }
settled (Kill s b) = record {
  settled = λ c e h. rest_settled s (λ x. nat_eq x.block b) (λ x t. refl) c e (nat_eq
      c.block b) refl h;
}
settled (Reshare b q maybe) = record {
  settled = λ c e h. reshare_settled b q maybe c e (nat_eq c.block b && nat_eq
      c.offset q) refl h;
}
settled (Unshare p) = record {
  settled = λ c e h. unshare_settled p c e (touches p (place_of_name c)) refl h;
}
