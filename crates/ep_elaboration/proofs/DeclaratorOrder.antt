-- The functions of the definition against the rules: declarators, type words, structs and unions.
use Rattle.std.proofs.Common.{◌≡◌, [], ◌∷◌, ◌++◌, ℕ, Bool, List, Option, Some, None, Ok, Err, refl, subst, inl, inr}
use Rattle.std.specs.Prelude.{◌==◌, pos, length}
use Rattle.ep_ast.specs.Declaration.{Aggregate, Declarator, MemberField, Members, Specs, aggregate, bits, body, member}
use Rattle.ep_ast.specs.Declaration.{more_members, more_specs, no_members, no_specs, plain, whole}
use Rattle.ep_ast.specs.Expression.{Expr, TypeWord}
use Rattle.ep_ast.specs.Mark.{union_word}
use Rattle.ep_ast.specs.declared.refusals.Refusal.{Refusal}
use Rattle.ep_elaboration.specs.Aggregates.{Named, all_members, body_declared, closed, entries_declared}
use Rattle.ep_elaboration.specs.Aggregates.{entry_declared, field_declared, in_union, member_declared, opened}
use Rattle.ep_elaboration.specs.Aggregates.{specs_declared, with_field, with_member, words_declared}
use Rattle.ep_elaboration.specs.Declarators.{Object, bound, bounds, counted, declared_object, declared_type}
use Rattle.ep_elaboration.specs.Declarators.{object_bounds, object_declared}
use Rattle.ep_elaboration.specs.ProgramSteps.{type_declared, types_declared}
use Rattle.ep_elaboration.specs.DeclaratorRules.{MeansBody, MeansBound}
use Rattle.ep_elaboration.specs.DeclaratorOffences.{BodyOffends, BoundOffends, BoundsOffend}
use Rattle.ep_elaboration.specs.DeclaratorRules.{MeansBounds, MeansEntries, MeansEntry, MeansMemberName, MeansMembers}
use Rattle.ep_elaboration.specs.DeclaratorRules.{MeansWidth}
use Rattle.ep_elaboration.specs.DeclaratorRules.{MeansObject, MeansObjectBounds, MeansSpecs, MeansTypedef}
use Rattle.ep_elaboration.specs.DeclaratorRules.{MeansTypedefs, MeansWords}
use Rattle.ep_elaboration.specs.DeclaratorOffences.{EntriesOffend, EntryOffends, MemberNameOffends, WidthOffends}
use Rattle.ep_elaboration.specs.DeclaratorOffences.{MembersOffend, ObjectBoundsOffend, ObjectOffends, SpecsOffend}
use Rattle.ep_elaboration.specs.DeclaratorOffences.{TypedefOffends, TypedefsOffend, WordsOffend, bad_bound}
use Rattle.ep_elaboration.specs.DeclaratorOffences.{bad_member_name, bad_object, bad_size, bad_tag, bad_typedef}
use Rattle.ep_elaboration.specs.DeclaratorRules.{from_list, has_body}
use Rattle.ep_elaboration.specs.DeclaratorOffences.{bad_width, bad_words, in_bit_field, in_bound, in_bound_behind}
use Rattle.ep_elaboration.specs.DeclaratorOffences.{in_entries}
use Rattle.ep_elaboration.specs.DeclaratorOffences.{in_bounds, in_bounds_of_list, in_first_bound}
use Rattle.ep_elaboration.specs.DeclaratorOffences.{in_first_entry, in_first_typedef, in_later_bound, in_later_entry}
use Rattle.ep_elaboration.specs.DeclaratorOffences.{in_later_members, in_later_specs, in_member, in_width}
use Rattle.ep_elaboration.specs.DeclaratorOffences.{in_later_typedef, in_member_bounds}
use Rattle.ep_elaboration.specs.DeclaratorOffences.{in_member_specs, in_members, in_no_bounds, in_object_bounds}
use Rattle.ep_elaboration.specs.DeclaratorRules.{is_bit_field, is_body, is_bound, is_member}
use Rattle.ep_elaboration.specs.DeclaratorOffences.{in_spec_body, in_typedef_bounds, in_words}
use Rattle.ep_elaboration.specs.DeclaratorRules.{is_member_name, is_object, is_plain, is_typedef, is_width, is_words}
use Rattle.ep_elaboration.specs.DeclaratorRules.{listed_with_bound, listed_without_bounds}
use Rattle.ep_elaboration.specs.DeclaratorOffences.{missing_bound}
use Rattle.ep_elaboration.specs.DeclaratorRules.{more_bounds, more_entries, more_typedefs, no_bounds, no_entries}
use Rattle.ep_elaboration.specs.DeclaratorRules.{no_more_members, no_typedefs, one_member_more}
use Rattle.ep_elaboration.specs.DeclaratorRules.{one_word_more, without_list}
use Rattle.ep_elaboration.specs.DeclaratorOffences.{too_many_values}
use Rattle.ep_typing.specs.Constant.{count_in}
use Rattle.ep_typing.specs.Env.{Env}
use Rattle.ep_typing.specs.Names.{mentioned, mentioned_words, words_type}
use Rattle.ep_typing.specs.Operand.{value_of}
use Rattle.ep_typing.specs.Results.{at, needed, on_statement}
use Rattle.ep_typing.specs.Types.{with_stars}
use Rattle.ep_typing.specs.Typing.{typed}
use Rattle.ep_typing.specs.declared.types.CType.{CType}
use Rattle.ep_typing.specs.Offences.{refusal}
use Rattle.ep_typing.proofs.Order.{bind_ok, bind_err, at_ok, at_err, on_ok, on_err, means, meant, refused, first}
use Rattle.ep_typing.proofs.Order.{ok_is}

pub meant_bound : {G : Env} {l : ℕ} {b : Option Expr} {out : (ℕ × Env)} → MeansBound G l b out → bound G l b ≡ Ok out
unfolding bound
meant_bound (is_bound {G = G} {e = e} x n p0 p1) = rw (meant (mentioned G e) e x p0, p1) refl

pub means_bound : (G : Env) (l : ℕ) (b : Option Expr) (out : (ℕ × Env)) → bound G l b ≡ Ok out → MeansBound G l b out
unfolding bound
means_bound G l (Some e) out hyp =
    let q0 = bind_ok (on_statement l (typed (mentioned G e) e)) _ out hyp in
    let q1 = bind_ok (at l (counted (value_of (mentioned G e).types q0.0))) _ out q0.2 in
    subst (MeansBound G l (Some e)) (ok_is _ out q1.2) (is_bound q0.0 q1.0 (means (mentioned G e) e q0.0
    (on_ok l (typed (mentioned G e) e) q0.0 q0.1)) (at_ok l (counted (value_of (mentioned G e).types q0.0)) q1.0 q1.1))
means_bound G l None out hyp = absurd (let bad = hyp in cc)

pub offended_bound : {G : Env} {l : ℕ} {b : Option Expr} {r : Refusal} → BoundOffends G l b r → bound G l b ≡ Err r
unfolding bound
offended_bound (in_bound {G = G} {e = e} {r = r} broken) = rw (first (mentioned G e) e r broken) refl
offended_bound (bad_bound {G = G} {e = e} x p0 broken) = rw (meant (mentioned G e) e x p0, broken) refl
offended_bound missing_bound = refl

pub refused_bound : (G : Env) (l : ℕ) (b : Option Expr) (r : Refusal) → bound G l b ≡ Err r → BoundOffends G l b r
unfolding bound
refused_bound G l (Some e) r hyp = elim (bind_err (on_statement l (typed (mentioned G e) e)) _ r hyp) [
  | inl h0 ↦ let c = on_err l (typed (mentioned G e) e) r h0 in subst (BoundOffends G l (Some e)) c.2 (in_bound
      (refused (mentioned G e) e c.0 c.1))
  | inr w0 ↦ elim (bind_err (at l (counted (value_of (mentioned G e).types w0.0))) _ r w0.2) [
    | inl h1 ↦ let kind = at_err l (counted (value_of (mentioned G e).types w0.0)) r h1 in subst (BoundOffends G l
        (Some e)) kind.2 (bad_bound w0.0 (means (mentioned G e) e w0.0 (on_ok l (typed (mentioned G e) e) w0.0
        w0.1)) kind.1)
    | inr w1 ↦ absurd (let bad = w1.2 in cc)
  ]
]
refused_bound G l None r hyp =
    let same : refusal 17 l ≡ r = (let bad = hyp in cc) in
    subst (BoundOffends G l None) same (missing_bound)

pub meant_bounds : {G : Env} {l : ℕ} {bs : List (Option Expr)} {out : (List ℕ × Env)} → MeansBounds G l bs out
    → bounds G l bs ≡ Ok out
unfolding bounds
meant_bounds no_bounds = refl
meant_bounds (more_bounds x y p0 p1) = rw (meant_bound p0, meant_bounds p1) refl

pub means_bounds : (G : Env) (l : ℕ) (bs : List (Option Expr)) (out : (List ℕ × Env)) → bounds G l bs ≡ Ok out
    → MeansBounds G l bs out
unfolding bounds
means_bounds G l [] out hyp = subst (MeansBounds G l []) (ok_is _ out hyp) (no_bounds)
means_bounds G l (b ∷ bs) out hyp =
    let q0 = bind_ok (bound G l b) _ out hyp in
    let q1 = bind_ok (bounds q0.0.1 l bs) _ out q0.2 in
    subst (MeansBounds G l (b ∷ bs)) (ok_is _ out q1.2) (more_bounds q0.0 q1.0 (means_bound G l b q0.0 q0.1)
    (means_bounds q0.0.1 l bs q1.0 q1.1))

pub offended_bounds : {G : Env} {l : ℕ} {bs : List (Option Expr)} {r : Refusal} → BoundsOffend G l bs r
    → bounds G l bs ≡ Err r
unfolding bounds
offended_bounds (in_first_bound broken) = rw (offended_bound broken) refl
offended_bounds (in_later_bound x p0 broken) = rw (meant_bound p0, offended_bounds broken) refl

pub refused_bounds : (G : Env) (l : ℕ) (bs : List (Option Expr)) (r : Refusal) → bounds G l bs ≡ Err r
    → BoundsOffend G l bs r
unfolding bounds
refused_bounds G l [] r hyp = absurd (let bad = hyp in cc)
refused_bounds G l (b ∷ bs) r hyp = elim (bind_err (bound G l b) _ r hyp) [
  | inl h0 ↦ in_first_bound (refused_bound G l b r h0)
  | inr w0 ↦ elim (bind_err (bounds w0.0.1 l bs) _ r w0.2) [
    | inl h1 ↦ in_later_bound w0.0 (means_bound G l b w0.0 w0.1) (refused_bounds w0.0.1 l bs r h1)
    | inr w1 ↦ absurd (let bad = w1.2 in cc)
  ]
]

pub meant_object_bounds : {G : Env} {l : ℕ} {listed : Option ℕ} {bs : List (Option Expr)} {out : (List ℕ × Env)}
    → MeansObjectBounds G l listed bs out → object_bounds G l listed bs ≡ Ok out
unfolding object_bounds
meant_object_bounds (from_list c y p0 p1) = rw (p0, meant_bounds p1) refl
meant_object_bounds (without_list y p0) = rw (meant_bounds p0) refl
meant_object_bounds (listed_without_bounds y p0) = rw (meant_bounds p0) refl
meant_object_bounds (listed_with_bound y p0) = rw (meant_bounds p0) refl

pub means_object_bounds : (G : Env) (l : ℕ) (listed : Option ℕ) (bs : List (Option Expr)) (out : (List ℕ × Env))
    → object_bounds G l listed bs ≡ Ok out → MeansObjectBounds G l listed bs out
unfolding object_bounds
means_object_bounds G l (Some n) (None ∷ bs) out hyp =
    let q0 = bind_ok (at l (needed 17 (count_in (pos n)))) _ out hyp in
    let q1 = bind_ok (bounds G l bs) _ out q0.2 in
    subst (MeansObjectBounds G l (Some n) (None ∷ bs)) (ok_is _ out q1.2) (from_list q0.0 q1.0 (at_ok l (needed 17
    (count_in (pos n))) q0.0 q0.1) (means_bounds G l bs q1.0 q1.1))
means_object_bounds G l None bs out hyp = without_list out (means_bounds G l bs out hyp)
means_object_bounds G l (Some n) [] out hyp = listed_without_bounds out (means_bounds G l [] out hyp)
means_object_bounds G l (Some n) (Some e ∷ bs) out hyp =
    listed_with_bound out (means_bounds G l (Some e ∷ bs) out hyp)

pub offended_object_bounds : {G : Env} {l : ℕ} {listed : Option ℕ} {bs : List (Option Expr)} {r : Refusal}
    → ObjectBoundsOffend G l listed bs r → object_bounds G l listed bs ≡ Err r
unfolding object_bounds
offended_object_bounds (too_many_values broken) = rw broken refl
offended_object_bounds (in_bound_behind c p0 broken) = rw (p0, offended_bounds broken) refl
offended_object_bounds (in_bounds broken) = rw (offended_bounds broken) refl
offended_object_bounds (in_no_bounds broken) = rw (offended_bounds broken) refl
offended_object_bounds (in_bounds_of_list broken) = rw (offended_bounds broken) refl

pub refused_object_bounds : (G : Env) (l : ℕ) (listed : Option ℕ) (bs : List (Option Expr)) (r : Refusal)
    → object_bounds G l listed bs ≡ Err r → ObjectBoundsOffend G l listed bs r
unfolding object_bounds
refused_object_bounds G l (Some n) (None ∷ bs) r hyp = elim (bind_err (at l (needed 17 (count_in (pos n)))) _ r hyp) [
  | inl h0 ↦ let kind = at_err l (needed 17 (count_in (pos n))) r h0 in subst (ObjectBoundsOffend G l (Some n)
      (None ∷ bs)) kind.2 (too_many_values kind.1)
  | inr w0 ↦ elim (bind_err (bounds G l bs) _ r w0.2) [
    | inl h1 ↦ in_bound_behind w0.0 (at_ok l (needed 17 (count_in (pos n))) w0.0 w0.1) (refused_bounds G l bs r h1)
    | inr w1 ↦ absurd (let bad = w1.2 in cc)
  ]
]
refused_object_bounds G l None bs r hyp = in_bounds (refused_bounds G l bs r hyp)
refused_object_bounds G l (Some n) [] r hyp = in_no_bounds (refused_bounds G l [] r hyp)
refused_object_bounds G l (Some n) (Some e ∷ bs) r hyp = in_bounds_of_list (refused_bounds G l (Some e ∷ bs) r hyp)

pub meant_object_declared : {G : Env} {global : Bool} {listed : Option ℕ} {c : CType} {d : Declarator} {out :
    (Object × Env)} → MeansObject G global listed c d out → object_declared G global listed c d ≡ Ok out
unfolding object_declared
meant_object_declared (is_object ns o p0 p1) = rw (meant_object_bounds p0, p1) refl

pub means_object_declared : (G : Env) (global : Bool) (listed : Option ℕ) (c : CType) (d : Declarator) (out :
    (Object × Env)) → object_declared G global listed c d ≡ Ok out → MeansObject G global listed c d out
unfolding object_declared
means_object_declared G global listed c d out hyp =
    let q0 = bind_ok (object_bounds G d.line listed d.bounds) _ out hyp in
    is_object q0.0 out (means_object_bounds G d.line listed d.bounds q0.0 q0.1) (at_ok d.line
    (declared_object q0.0.1 global d.name (with_stars c (length d.stars)) q0.0.0) out q0.2)

pub offended_object_declared : {G : Env} {global : Bool} {listed : Option ℕ} {c : CType} {d : Declarator} {r :
    Refusal} → ObjectOffends G global listed c d r → object_declared G global listed c d ≡ Err r
unfolding object_declared
offended_object_declared (in_object_bounds broken) = rw (offended_object_bounds broken) refl
offended_object_declared (bad_object ns p0 broken) = rw (meant_object_bounds p0, broken) refl

pub refused_object_declared : (G : Env) (global : Bool) (listed : Option ℕ) (c : CType) (d : Declarator) (r : Refusal)
    → object_declared G global listed c d ≡ Err r → ObjectOffends G global listed c d r
unfolding object_declared
refused_object_declared G global listed c d r hyp = elim (bind_err (object_bounds G d.line listed d.bounds) _ r hyp) [
  | inl h0 ↦ in_object_bounds (refused_object_bounds G d.line listed d.bounds r h0)
  | inr w0 ↦ let kind = at_err d.line (declared_object w0.0.1 global d.name (with_stars c
      (length d.stars)) w0.0.0) r w0.2 in subst (ObjectOffends G global listed c d) kind.2 (bad_object w0.0
      (means_object_bounds G d.line listed d.bounds w0.0 w0.1) kind.1)
]

pub meant_type_declared : {G : Env} {c : CType} {d : Declarator} {out : Env} → MeansTypedef G c d out
    → type_declared G c d ≡ Ok out
unfolding type_declared
meant_type_declared (is_typedef ns H p0 p1) = rw (meant_bounds p0, p1) refl

pub means_type_declared : (G : Env) (c : CType) (d : Declarator) (out : Env) → type_declared G c d ≡ Ok out
    → MeansTypedef G c d out
unfolding type_declared
means_type_declared G c d out hyp =
    let q0 = bind_ok (bounds G d.line d.bounds) _ out hyp in
    is_typedef q0.0 out (means_bounds G d.line d.bounds q0.0 q0.1) (at_ok d.line (declared_type q0.0.1 d.name
    (with_stars c (length d.stars)) q0.0.0) out q0.2)

pub offended_type_declared : {G : Env} {c : CType} {d : Declarator} {r : Refusal} → TypedefOffends G c d r
    → type_declared G c d ≡ Err r
unfolding type_declared
offended_type_declared (in_typedef_bounds broken) = rw (offended_bounds broken) refl
offended_type_declared (bad_typedef ns p0 broken) = rw (meant_bounds p0, broken) refl

pub refused_type_declared : (G : Env) (c : CType) (d : Declarator) (r : Refusal) → type_declared G c d ≡ Err r
    → TypedefOffends G c d r
unfolding type_declared
refused_type_declared G c d r hyp = elim (bind_err (bounds G d.line d.bounds) _ r hyp) [
  | inl h0 ↦ in_typedef_bounds (refused_bounds G d.line d.bounds r h0)
  | inr w0 ↦ let kind = at_err d.line (declared_type w0.0.1 d.name (with_stars c
      (length d.stars)) w0.0.0) r w0.2 in subst (TypedefOffends G c d) kind.2 (bad_typedef w0.0
      (means_bounds G d.line d.bounds w0.0 w0.1) kind.1)
]

pub meant_types_declared : {G : Env} {c : CType} {ds : List Declarator} {out : Env} → MeansTypedefs G c ds out
    → types_declared G c ds ≡ Ok out
unfolding types_declared
meant_types_declared no_typedefs = refl
meant_types_declared (more_typedefs H K p0 p1) = rw (meant_type_declared p0, meant_types_declared p1) refl

pub means_types_declared : (G : Env) (c : CType) (ds : List Declarator) (out : Env) → types_declared G c ds ≡ Ok out
    → MeansTypedefs G c ds out
unfolding types_declared
means_types_declared G c [] out hyp = subst (MeansTypedefs G c []) (ok_is _ out hyp) (no_typedefs)
means_types_declared G c (d ∷ ds) out hyp =
    let q0 = bind_ok (type_declared G c d) _ out hyp in more_typedefs q0.0 out (means_type_declared G c d q0.0 q0.1)
    (means_types_declared q0.0 c ds out q0.2)

pub offended_types_declared : {G : Env} {c : CType} {ds : List Declarator} {r : Refusal} → TypedefsOffend G c ds r
    → types_declared G c ds ≡ Err r
unfolding types_declared
offended_types_declared (in_first_typedef broken) = rw (offended_type_declared broken) refl
offended_types_declared (in_later_typedef H p0 broken) =
    rw (meant_type_declared p0, offended_types_declared broken) refl

pub refused_types_declared : (G : Env) (c : CType) (ds : List Declarator) (r : Refusal)
    → types_declared G c ds ≡ Err r → TypedefsOffend G c ds r
unfolding types_declared
refused_types_declared G c [] r hyp = absurd (let bad = hyp in cc)
refused_types_declared G c (d ∷ ds) r hyp = elim (bind_err (type_declared G c d) _ r hyp) [
  | inl h0 ↦ in_first_typedef (refused_type_declared G c d r h0)
  | inr w0 ↦ in_later_typedef w0.0 (means_type_declared G c d w0.0 w0.1) (refused_types_declared w0.0 c ds r w0.2)
]

pub meant_member_declared : {G : Env} {ms : Named} {c : CType} {d : Declarator} {out : (Named × Env)}
    → MeansMemberName G ms c d out → member_declared G ms c d ≡ Ok out
unfolding member_declared
meant_member_declared (is_member_name ns x p0 p1) = rw (meant_bounds p0, p1) refl

pub means_member_declared : (G : Env) (ms : Named) (c : CType) (d : Declarator) (out : (Named × Env))
    → member_declared G ms c d ≡ Ok out → MeansMemberName G ms c d out
unfolding member_declared
means_member_declared G ms c d out hyp =
    let q0 = bind_ok (bounds G d.line d.bounds) _ out hyp in
    is_member_name q0.0 out (means_bounds G d.line d.bounds q0.0 q0.1) (at_ok d.line (with_member q0.0.1 ms d.name
    (with_stars c (length d.stars)) q0.0.0) out q0.2)

pub offended_member_declared : {G : Env} {ms : Named} {c : CType} {d : Declarator} {r : Refusal}
    → MemberNameOffends G ms c d r → member_declared G ms c d ≡ Err r
unfolding member_declared
offended_member_declared (in_member_bounds broken) = rw (offended_bounds broken) refl
offended_member_declared (bad_member_name ns p0 broken) = rw (meant_bounds p0, broken) refl

pub refused_member_declared : (G : Env) (ms : Named) (c : CType) (d : Declarator) (r : Refusal)
    → member_declared G ms c d ≡ Err r → MemberNameOffends G ms c d r
unfolding member_declared
refused_member_declared G ms c d r hyp = elim (bind_err (bounds G d.line d.bounds) _ r hyp) [
  | inl h0 ↦ in_member_bounds (refused_bounds G d.line d.bounds r h0)
  | inr w0 ↦ let kind = at_err d.line (with_member w0.0.1 ms d.name (with_stars c
      (length d.stars)) w0.0.0) r w0.2 in subst (MemberNameOffends G ms c d) kind.2 (bad_member_name w0.0
      (means_bounds G d.line d.bounds w0.0 w0.1) kind.1)
]

pub meant_field_declared : {G : Env} {round : List ℕ} {ms : Named} {c : CType} {l : ℕ} {n : Option (List ℕ)} {e : Expr}
    {out : (Named × Env)} → MeansWidth G round ms c l n e out → field_declared G round ms c l n e ≡ Ok out
unfolding field_declared
meant_field_declared (is_width {G = G} {e = e} x y p0 p1) = rw (meant (mentioned G e) e x p0, p1) refl

pub means_field_declared : (G : Env) (round : List ℕ) (ms : Named) (c : CType) (l : ℕ) (n : Option (List ℕ)) (e : Expr)
    (out : (Named × Env)) → field_declared G round ms c l n e ≡ Ok out → MeansWidth G round ms c l n e out
unfolding field_declared
means_field_declared G round ms c l n e out hyp =
    let q0 = bind_ok (on_statement l (typed (mentioned G e) e)) _ out hyp in
    is_width q0.0 out (means (mentioned G e) e q0.0 (on_ok l (typed (mentioned G e) e) q0.0 q0.1)) (at_ok l
    (with_field (mentioned G e) (in_union G round) ms c n (value_of (mentioned G e).types q0.0)) out q0.2)

pub offended_field_declared : {G : Env} {round : List ℕ} {ms : Named} {c : CType} {l : ℕ} {n : Option (List ℕ)}
    {e : Expr} {r : Refusal} → WidthOffends G round ms c l n e r → field_declared G round ms c l n e ≡ Err r
unfolding field_declared
offended_field_declared (in_width {G = G} {e = e} {r = r} broken) = rw (first (mentioned G e) e r broken) refl
offended_field_declared (bad_width {G = G} {e = e} x p0 broken) = rw (meant (mentioned G e) e x p0, broken) refl

pub refused_field_declared : (G : Env) (round : List ℕ) (ms : Named) (c : CType) (l : ℕ) (n : Option (List ℕ))
    (e : Expr) (r : Refusal) → field_declared G round ms c l n e ≡ Err r → WidthOffends G round ms c l n e r
unfolding field_declared
refused_field_declared G round ms c l n e r hyp =
    elim (bind_err (on_statement l (typed (mentioned G e) e)) _ r hyp) [
      | inl h0 ↦ let d = on_err l (typed (mentioned G e) e) r h0 in subst (WidthOffends G round ms c l n e) d.2
          (in_width (refused (mentioned G e) e d.0 d.1))
      | inr w0 ↦ let kind = at_err l (with_field (mentioned G e) (in_union G round) ms c n
          (value_of (mentioned G e).types w0.0)) r w0.2 in subst (WidthOffends G round ms c l n e) kind.2
          (bad_width w0.0 (means (mentioned G e) e w0.0 (on_ok l (typed (mentioned G e) e) w0.0 w0.1)) kind.1)
    ]

pub meant_entry_declared : {G : Env} {round : List ℕ} {ms : Named} {c : CType} {f : MemberField} {out : (Named × Env)}
    → MeansEntry G round ms c f out → entry_declared G round ms c f ≡ Ok out
unfolding entry_declared
meant_entry_declared (is_member x p0) = meant_member_declared p0
meant_entry_declared (is_bit_field x p0) = meant_field_declared p0

pub means_entry_declared : (G : Env) (round : List ℕ) (ms : Named) (c : CType) (f : MemberField) (out : (Named × Env))
    → entry_declared G round ms c f ≡ Ok out → MeansEntry G round ms c f out
unfolding entry_declared
means_entry_declared G round ms c (whole d) out hyp = is_member out (means_member_declared G ms c d out hyp)
means_entry_declared G round ms c (bits l n e) out hyp =
    is_bit_field out (means_field_declared G round ms c l n e out hyp)

pub offended_entry_declared : {G : Env} {round : List ℕ} {ms : Named} {c : CType} {f : MemberField} {r : Refusal}
    → EntryOffends G round ms c f r → entry_declared G round ms c f ≡ Err r
unfolding entry_declared
offended_entry_declared (in_member broken) = offended_member_declared broken
offended_entry_declared (in_bit_field broken) = offended_field_declared broken

pub refused_entry_declared : (G : Env) (round : List ℕ) (ms : Named) (c : CType) (f : MemberField) (r : Refusal)
    → entry_declared G round ms c f ≡ Err r → EntryOffends G round ms c f r
unfolding entry_declared
refused_entry_declared G round ms c (whole d) r hyp = in_member (refused_member_declared G ms c d r hyp)
refused_entry_declared G round ms c (bits l n e) r hyp =
    in_bit_field (refused_field_declared G round ms c l n e r hyp)

pub meant_entries_declared : {G : Env} {round : List ℕ} {ms : Named} {c : CType} {fs : List MemberField} {out :
    (Named × Env)} → MeansEntries G round ms c fs out → entries_declared G round ms c fs ≡ Ok out
unfolding entries_declared
meant_entries_declared no_entries = refl
meant_entries_declared (more_entries x y p0 p1) = rw (meant_entry_declared p0, meant_entries_declared p1) refl

pub means_entries_declared : (G : Env) (round : List ℕ) (ms : Named) (c : CType) (fs : List MemberField) (out :
    (Named × Env)) → entries_declared G round ms c fs ≡ Ok out → MeansEntries G round ms c fs out
unfolding entries_declared
means_entries_declared G round ms c [] out hyp = subst (MeansEntries G round ms c []) (ok_is _ out hyp) (no_entries)
means_entries_declared G round ms c (f ∷ fs) out hyp =
    let q0 = bind_ok (entry_declared G round ms c f) _ out hyp in more_entries q0.0 out
    (means_entry_declared G round ms c f q0.0 q0.1) (means_entries_declared q0.0.1 round q0.0.0 c fs out q0.2)

pub offended_entries_declared : {G : Env} {round : List ℕ} {ms : Named} {c : CType} {fs : List MemberField} {r :
    Refusal} → EntriesOffend G round ms c fs r → entries_declared G round ms c fs ≡ Err r
unfolding entries_declared
offended_entries_declared (in_first_entry broken) = rw (offended_entry_declared broken) refl
offended_entries_declared (in_later_entry x p0 broken) =
    rw (meant_entry_declared p0, offended_entries_declared broken) refl

pub refused_entries_declared : (G : Env) (round : List ℕ) (ms : Named) (c : CType) (fs : List MemberField)
    (r : Refusal) → entries_declared G round ms c fs ≡ Err r → EntriesOffend G round ms c fs r
unfolding entries_declared
refused_entries_declared G round ms c [] r hyp = absurd (let bad = hyp in cc)
refused_entries_declared G round ms c (f ∷ fs) r hyp = elim (bind_err (entry_declared G round ms c f) _ r hyp) [
  | inl h0 ↦ in_first_entry (refused_entry_declared G round ms c f r h0)
  | inr w0 ↦ in_later_entry w0.0 (means_entry_declared G round ms c f w0.0 w0.1)
      (refused_entries_declared w0.0.1 round w0.0.0 c fs r w0.2)
]

pub meant_words_declared : {G : Env} {ws : List TypeWord} {out : (CType × Env)} → MeansWords G ws out
    → words_declared G ws ≡ Ok out
unfolding words_declared
meant_words_declared (is_words c p0) = rw (p0) refl

pub means_words_declared : (G : Env) (ws : List TypeWord) (out : (CType × Env)) → words_declared G ws ≡ Ok out
    → MeansWords G ws out
unfolding words_declared
means_words_declared G ws out hyp =
    let q0 = bind_ok (words_type (mentioned_words G ws) ws) _ out hyp in
    subst (MeansWords G ws) (ok_is _ out q0.2) (is_words q0.0 q0.1)

pub offended_words_declared : {G : Env} {ws : List TypeWord} {r : Refusal} → WordsOffend G ws r
    → words_declared G ws ≡ Err r
unfolding words_declared
offended_words_declared (bad_words broken) = rw broken refl

pub refused_words_declared : (G : Env) (ws : List TypeWord) (r : Refusal) → words_declared G ws ≡ Err r
    → WordsOffend G ws r
unfolding words_declared
refused_words_declared G ws r hyp = elim (bind_err (words_type (mentioned_words G ws) ws) _ r hyp) [
  | inl h0 ↦ bad_words h0
  | inr w0 ↦ absurd (let bad = w0.2 in cc)
]

mutual
  unfolding specs_declared body_declared all_members

  pub meant_specs_declared : {G : Env} {round : List ℕ} {ws : List TypeWord} {ss : Specs} {out : (CType × Env)}
      → MeansSpecs G round ws ss out → specs_declared G round ws ss ≡ Ok out
  meant_specs_declared (is_plain c p0) = rw (meant_words_declared p0) refl
  meant_specs_declared (one_word_more c p0) = rw (meant_specs_declared p0) refl
  meant_specs_declared (has_body c p0) = rw (meant_body_declared p0) refl

  pub meant_body_declared : {G : Env} {round : List ℕ} {a : Aggregate} {out : (CType × Env)} → MeansBody G round a out
      → body_declared G round a ≡ Ok out
  meant_body_declared (is_body o x c p0 p1 p2) = rw (p0, meant_all_members p1, p2) refl

  pub meant_all_members : {G : Env} {round : List ℕ} {ms : Named} {ns : Members} {out : (Named × Env)}
      → MeansMembers G round ms ns out → all_members G round ms ns ≡ Ok out
  meant_all_members no_more_members = refl
  meant_all_members (one_member_more c x y p0 p1 p2) =
      rw (meant_specs_declared p0, meant_entries_declared p1, meant_all_members p2) refl

mutual
  unfolding specs_declared body_declared all_members

  pub means_specs_declared : (G : Env) (round : List ℕ) (ws : List TypeWord) (ss : Specs) (out : (CType × Env))
      → specs_declared G round ws ss ≡ Ok out → MeansSpecs G round ws ss out
  means_specs_declared G round ws no_specs out hyp = is_plain out (means_words_declared G ws out hyp)
  means_specs_declared G round ws (more_specs (plain w) ss) out hyp =
      one_word_more out (means_specs_declared G round (ws ++ w ∷ []) ss out hyp)
  means_specs_declared G round ws (more_specs (body a) ss) out hyp =
      has_body out (means_body_declared G round a out hyp)

  pub means_body_declared : (G : Env) (round : List ℕ) (a : Aggregate) (out : (CType × Env))
      → body_declared G round a ≡ Ok out → MeansBody G round a out
  means_body_declared G round (aggregate l w tag ms) out hyp =
      let q0 = bind_ok (at l (opened G round (w == union_word) tag)) _ out hyp in
      let q1 = bind_ok (all_members q0.0.1 (q0.0.0 ∷ round) [] ms) _ out q0.2 in
      is_body q0.0 q1.0 out (at_ok l (opened G round (w == union_word) tag) q0.0 q0.1) (means_all_members q0.0.1
      (q0.0.0 ∷ round) [] ms q1.0 q1.1) (at_ok l (closed q1.0.1 q0.0.0 (w == union_word) q1.0.0) out q1.2)

  pub means_all_members : (G : Env) (round : List ℕ) (ms : Named) (ns : Members) (out : (Named × Env))
      → all_members G round ms ns ≡ Ok out → MeansMembers G round ms ns out
  means_all_members G round ms no_members out hyp =
      subst (MeansMembers G round ms no_members) (ok_is _ out hyp) (no_more_members)
  means_all_members G round ms (more_members (member l ss fs) rest) out hyp =
      let q0 = bind_ok (specs_declared G round [] ss) _ out hyp in
      let q1 = bind_ok (entries_declared q0.0.1 round ms q0.0.0 fs) _ out q0.2 in one_member_more q0.0 q1.0 out
      (means_specs_declared G round [] ss q0.0 q0.1) (means_entries_declared q0.0.1 round ms q0.0.0 fs q1.0 q1.1)
      (means_all_members q1.0.1 round q1.0.0 rest out q1.2)

mutual
  unfolding specs_declared body_declared all_members

  pub offended_specs_declared : {G : Env} {round : List ℕ} {ws : List TypeWord} {ss : Specs} {r : Refusal}
      → SpecsOffend G round ws ss r → specs_declared G round ws ss ≡ Err r
  offended_specs_declared (in_words broken) = rw (offended_words_declared broken) refl
  offended_specs_declared (in_later_specs broken) = rw (offended_specs_declared broken) refl
  offended_specs_declared (in_spec_body broken) = rw (offended_body_declared broken) refl

  pub offended_body_declared : {G : Env} {round : List ℕ} {a : Aggregate} {r : Refusal} → BodyOffends G round a r
      → body_declared G round a ≡ Err r
  offended_body_declared (bad_tag broken) = rw broken refl
  offended_body_declared (in_members o p0 broken) = rw (p0, offended_all_members broken) refl
  offended_body_declared (bad_size o x p0 p1 broken) = rw (p0, meant_all_members p1, broken) refl

  pub offended_all_members : {G : Env} {round : List ℕ} {ms : Named} {ns : Members} {r : Refusal}
      → MembersOffend G round ms ns r → all_members G round ms ns ≡ Err r
  offended_all_members (in_member_specs broken) = rw (offended_specs_declared broken) refl
  offended_all_members (in_entries c p0 broken) =
      rw (meant_specs_declared p0, offended_entries_declared broken) refl
  offended_all_members (in_later_members c x p0 p1 broken) =
      rw (meant_specs_declared p0, meant_entries_declared p1, offended_all_members broken) refl

mutual
  unfolding specs_declared body_declared all_members

  pub refused_specs_declared : (G : Env) (round : List ℕ) (ws : List TypeWord) (ss : Specs) (r : Refusal)
      → specs_declared G round ws ss ≡ Err r → SpecsOffend G round ws ss r
  refused_specs_declared G round ws no_specs r hyp = in_words (refused_words_declared G ws r hyp)
  refused_specs_declared G round ws (more_specs (plain w) ss) r hyp =
      in_later_specs (refused_specs_declared G round (ws ++ w ∷ []) ss r hyp)
  refused_specs_declared G round ws (more_specs (body a) ss) r hyp =
      in_spec_body (refused_body_declared G round a r hyp)

  pub refused_body_declared : (G : Env) (round : List ℕ) (a : Aggregate) (r : Refusal)
      → body_declared G round a ≡ Err r → BodyOffends G round a r
  refused_body_declared G round (aggregate l w tag ms) r hyp =
      elim (bind_err (at l (opened G round (w == union_word) tag)) _ r hyp) [
        | inl h0 ↦ let kind = at_err l (opened G round (w == union_word) tag) r h0 in subst (BodyOffends G round
            (aggregate l w tag ms)) kind.2 (bad_tag kind.1)
        | inr w0 ↦ elim (bind_err (all_members w0.0.1 (w0.0.0 ∷ round) [] ms) _ r w0.2) [
          | inl h1 ↦ in_members w0.0 (at_ok l (opened G round (w == union_word) tag) w0.0 w0.1)
              (refused_all_members w0.0.1 (w0.0.0 ∷ round) [] ms r h1)
          | inr w1 ↦ let kind = at_err l (closed w1.0.1 w0.0.0 (w == union_word) w1.0.0) r w1.2 in subst
              (BodyOffends G round (aggregate l w tag ms)) kind.2
              (bad_size w0.0 w1.0 (at_ok l (opened G round (w == union_word) tag) w0.0 w0.1) (means_all_members w0.0.1
              (w0.0.0 ∷ round) [] ms w1.0 w1.1) kind.1)
        ]
      ]

  pub refused_all_members : (G : Env) (round : List ℕ) (ms : Named) (ns : Members) (r : Refusal)
      → all_members G round ms ns ≡ Err r → MembersOffend G round ms ns r
  refused_all_members G round ms no_members r hyp = absurd (let bad = hyp in cc)
  refused_all_members G round ms (more_members (member l ss fs) rest) r hyp =
      elim (bind_err (specs_declared G round [] ss) _ r hyp) [
        | inl h0 ↦ in_member_specs (refused_specs_declared G round [] ss r h0)
        | inr w0 ↦ elim (bind_err (entries_declared w0.0.1 round ms w0.0.0 fs) _ r w0.2) [
          | inl h1 ↦ in_entries w0.0 (means_specs_declared G round [] ss w0.0 w0.1)
              (refused_entries_declared w0.0.1 round ms w0.0.0 fs r h1)
          | inr w1 ↦ in_later_members w0.0 w1.0 (means_specs_declared G round [] ss w0.0 w0.1)
              (means_entries_declared w0.0.1 round ms w0.0.0 fs w1.0 w1.1)
              (refused_all_members w1.0.1 round w1.0.0 rest r w1.2)
        ]
      ]
