-- Lemmas that several crates cite.
use Rattle.std.proofs.Common.{◌≡◌, ℕ, zero, suc, slice_get, None, refl, ◌∙◌, arith, ◌<◌, false, [], length, get_or}
use Rattle.std.proofs.Common.{Some}
use Rattle.ep_layout.specs.Table.{TypeRules, Table, at_depth, Grows, AggregateRow, is_union}
use Rattle.std.proofs.lemmas.Option.{slice_get-get_or}

pub at_depth-none : {A : Type 0} (r : TypeRules A) (t : Table) (k n : ℕ) → slice_get t.types n ≡ None → at_depth r t k n ≡ None
unfolding at_depth
at_depth-none r t zero n e = refl
at_depth-none r t (suc k) n e = rw e refl

pub grows-trans : (t u v : Table) → Grows t u → Grows u v → Grows t v
grows-trans t u v g h = record {
  model = h.model ∙ g.model;
  types = λ n ty e. h.types n ty (g.types n ty e);
  aggregates = λ a r e.
      let p = g.aggregates a r e in
      let q = h.aggregates a p.0 p.1 in
      (q.0, q.1, q.2 ∙ p.2, λ ms m. q.3 ms (p.3 ms m));
  deeper = omega (arith, g.deeper, h.deeper);
}

pub is_union-stays : (t u : Table) → Grows t u → (a : ℕ) → a < length t.aggregates → is_union u a ≡ is_union t a
is_union-stays t u g a lt =
    let d : AggregateRow = record { tag = []; is_union = false; members = None } in
    let e : slice_get t.aggregates a ≡ Some (get_or t.aggregates a d) = slice_get-get_or t.aggregates a d lt in
    let p = g.aggregates a (get_or t.aggregates a d) e in
    rw (e, p.1) p.2
