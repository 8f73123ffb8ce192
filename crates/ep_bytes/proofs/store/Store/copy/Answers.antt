use Rattle.std.proofs.Common.{◌≡◌, ◌+◌, ◌≢◌, unsigned_abs, false, ◌&&◌, nat_eq, if◌then◌else◌, FitsSigned, rules, sym}
use Rattle.std.proofs.Common.{◌∙◌, ap, subst}
use Rattle.std.specs.Int.{w64}
use Rattle.std.proofs.lemmas.Int.{to_z-of_z}
use Rattle.std.proofs.lemmas.Bool.{ne_eqb, and_left, and_right}
use Rattle.ep_int.specs.Memory.{broken, copied}
use Rattle.ep_bytes.specs.Cells.{taken_from}
use Rattle.ep_bytes.specs.StoreView.{IsPlace, block_of, is_same, memory_in}
use Rattle.ep_bytes.proofs.Places.{replaced_place, taken_place, apart_within, apart_between}
use Rattle.ep_bytes.proofs.store.Store.copy.Goals as goal
use Rattle.ep_bytes.proofs.store.Store.copy.Goals.{else-same_place-via-then-same_place+then-to-from+else-target-source}
use Rattle.ep_bytes.proofs.store.Store.copy.Goals.{else-same_place-via-then-same_place+else-to-from}
use Rattle.ep_bytes.proofs.store.Store.copy.Goals.{else-same_place-via-else-same_place}
use Rattle.ep_bytes.proofs.store.Store.copy.Goals.{else-to-from-2-via-then-to-from-2+else-overlaps}
use Rattle.ep_bytes.proofs.store.Store.copy.Goals.{else-to-from-2-via-else-to-from-2}

pub copy-requires-clause-apart : goal.copy-requires-clause-apart
copy-requires-clause-apart c =
    let to = c.args.to in
    let from = c.args.from in
    let p = c.in_ok-target.target in
    let q = c.in_ok-source.source in
    let to_fits : FitsSigned w64 to.1 = search rules in
    let from_fits : FitsSigned w64 from.1 = search rules in
    let target = subst (λ z. IsPlace c.args.self.now to.0 z c.args.n p)
    (to_z-of_z w64 to.1 to_fits) c.in_ok-target.ensures.ok in
    let source = subst (λ z. IsPlace c.args.self.now from.0 z c.args.n q)
    (to_z-of_z w64 from.1 from_fits) c.in_ok-source.ensures.ok in
    elim c.else-to-from-2.branch [
      | else-to-from-2-via-then-to-from-2+else-overlaps w ↦
          apart_within c.args.self.now to.0 from.0 to.1 from.1 c.args.n p q w.if-to-from-2.true target source
          (sym w.overlaps.ensures ∙ w.if-overlaps.false)
      | else-to-from-2-via-else-to-from-2 w ↦
          apart_between c.self.view_is to.0 from.0 to.1 from.1 c.args.n p q w.if-to-from-2.false c.self.invariant
          c.requires.to c.requires.from
          target source
    ]

pub returns-clause-copied : goal.returns-clause-copied
returns-clause-copied c =
    let to = c.args.to in
    let from = c.args.from in
    let now = c.args.self.now in
    let n = c.args.n in
    let o = unsigned_abs to.1 in
    let r = unsigned_abs from.1 in
    let p = c.in_ok-target.target in
    let q = c.in_ok-source.source in
    let to_fits : FitsSigned w64 to.1 = search rules in
    let from_fits : FitsSigned w64 from.1 = search rules in
    let target = subst (λ z. IsPlace c.args.self.now to.0 z c.args.n p)
    (to_z-of_z w64 to.1 to_fits) c.in_ok-target.ensures.ok in
    let source = subst (λ z. IsPlace c.args.self.now from.0 z c.args.n q)
    (to_z-of_z w64 from.1 from_fits) c.in_ok-source.ensures.ok in
    let whole = c.block_at-size.ensures ∙ ap (λ xs. block_of xs to.0) c.deref.ensures.value in
    let other : is_same to from c.args.same_place ≡ false =
    elim c.else-same_place.branch [
      | else-same_place-via-then-same_place+then-to-from+else-target-source w ↦
          (let apart : o ≢ r = λ e. w.if-target-source.false (target.here ∙ e ∙ sym source.here) in
          and_right c.args.same_place (nat_eq to.0 from.0 && nat_eq o r)
          (and_right (nat_eq to.0 from.0) (nat_eq o r) (ne_eqb o r apart)))
      | else-same_place-via-then-same_place+else-to-from w ↦
          and_right c.args.same_place (nat_eq to.0 from.0 && nat_eq o r)
          (and_left (nat_eq to.0 from.0) (nat_eq o r) (ne_eqb to.0 from.0 w.if-to-from.false))
      | else-same_place-via-else-same_place w ↦
          and_left c.args.same_place (nat_eq to.0 from.0 && nat_eq o r) w.if-same_place.false
    ] in
    replaced_place c.self.view_is c.copy.new.self to.0 to.1 n p c.block_at-size.result
    (taken_from c.self.inside.model c.self.inside.cells q)
    (λ k. broken now.model (memory_in now) from.0 r n from.0 (r + k))
    c.self.invariant c.requires.to target whole c.copy.ensures
    (taken_place c.self.view_is from.0 from.1 n q source)
    ∙ sym (ap (λ t. if t then memory_in now else copied now.model (memory_in now) to.0 o from.0 r n) other)
