-- For what declarators, words and bodies are refused: the first offence in each, where what stands before it means
-- something. C11 6.7.
use Rattle.std.specs.Prelude.{◌≡◌, [], ◌∷◌, ◌++◌, ◌==◌, ℕ, Bool, List, Option, Some, None, Ok, Err, pos, length}
use Rattle.ep_ast.specs.Kind as kinds
use Rattle.ep_ast.specs.Declaration.{Aggregate, Declarator, MemberField, Members, Specs, aggregate, bits, body, member}
use Rattle.ep_ast.specs.Declaration.{more_members, more_specs, no_specs, plain, whole}
use Rattle.ep_ast.specs.Expression.{Expr, TypeWord}
use Rattle.ep_ast.specs.Mark.{union_word}
use Rattle.ep_ast.specs.declared.refusals.Refusal.{Refusal}
use Rattle.ep_elaboration.specs.Aggregates.{Named, closed, in_union, opened, with_field, with_member}
use Rattle.ep_elaboration.specs.Declarators.{counted, declared_object, declared_type}
use Rattle.ep_typing.specs.Constant.{count_in}
use Rattle.ep_typing.specs.Env.{Env}
use Rattle.ep_typing.specs.Names.{mentioned, mentioned_words, words_type}
use Rattle.ep_typing.specs.Operand.{Operand, value_of}
use Rattle.ep_typing.specs.Results.{at_statement, needed}
use Rattle.ep_typing.specs.Types.{with_stars}
use Rattle.ep_typing.specs.declared.types.CType.{CType}
use Rattle.ep_typing.specs.Rules.{Means}
use Rattle.ep_typing.specs.Offences.{Offends, refusal}
use Rattle.ep_elaboration.specs.DeclaratorRules.{MeansBound, MeansBounds, MeansObjectBounds, MeansTypedef}
use Rattle.ep_elaboration.specs.DeclaratorRules.{MeansEntry, MeansEntries, MeansSpecs, MeansMembers}

pub data BoundOffends : Env → ℕ → Option Expr → Refusal → Type 0 where
  in_bound : {G : Env} {l : ℕ} {e : Expr} {r : Refusal} → Offends (mentioned G e) e r
      → BoundOffends G l (Some e) (at_statement l r)
  bad_bound : {G : Env} {l : ℕ} {e : Expr} {kind : ℕ} (x : Operand) → Means (mentioned G e) e x
      → counted (value_of (mentioned G e).types x) ≡ Err kind → BoundOffends G l (Some e) (refusal kind l)
  missing_bound : {G : Env} {l : ℕ} → BoundOffends G l None (refusal kinds.array_bound l)

pub data BoundsOffend : Env → ℕ → List (Option Expr) → Refusal → Type 0 where
  in_first_bound : {G : Env} {l : ℕ} {b : Option Expr} {bs : List (Option Expr)} {r : Refusal} → BoundOffends G l b r
      → BoundsOffend G l (b ∷ bs) r
  in_later_bound : {G : Env} {l : ℕ} {b : Option Expr} {bs : List (Option Expr)} {r : Refusal} (x : ℕ × Env)
      → MeansBound G l b x → BoundsOffend x.1 l bs r → BoundsOffend G l (b ∷ bs) r

pub data ObjectBoundsOffend : Env → ℕ → Option ℕ → List (Option Expr) → Refusal → Type 0 where
  too_many_values : {G : Env} {l n : ℕ} {bs : List (Option Expr)} {kind : ℕ}
      → needed kinds.array_bound (count_in (pos n)) ≡ Err kind
      → ObjectBoundsOffend G l (Some n) (None ∷ bs) (refusal kind l)
  in_bound_behind : {G : Env} {l n : ℕ} {bs : List (Option Expr)} {r : Refusal} (c : ℕ)
      → needed kinds.array_bound (count_in (pos n)) ≡ Ok c → BoundsOffend G l bs r
      → ObjectBoundsOffend G l (Some n) (None ∷ bs) r
  in_bounds : {G : Env} {l : ℕ} {bs : List (Option Expr)} {r : Refusal} → BoundsOffend G l bs r
      → ObjectBoundsOffend G l None bs r
  in_no_bounds : {G : Env} {l n : ℕ} {r : Refusal} → BoundsOffend G l [] r → ObjectBoundsOffend G l (Some n) [] r
  in_bounds_of_list : {G : Env} {l n : ℕ} {e : Expr} {bs : List (Option Expr)} {r : Refusal}
      → BoundsOffend G l (Some e ∷ bs) r → ObjectBoundsOffend G l (Some n) (Some e ∷ bs) r

pub data ObjectOffends : Env → Bool → Option ℕ → CType → Declarator → Refusal → Type 0 where
  in_object_bounds : {G : Env} {global : Bool} {listed : Option ℕ} {c : CType} {d : Declarator} {r : Refusal}
      → ObjectBoundsOffend G d.line listed d.bounds r → ObjectOffends G global listed c d r
  bad_object : {G : Env} {global : Bool} {listed : Option ℕ} {c : CType} {d : Declarator} {kind : ℕ}
      (ns : List ℕ × Env)
      → MeansObjectBounds G d.line listed d.bounds ns
      → declared_object ns.1 global d.name (with_stars c (length d.stars)) ns.0 ≡ Err kind
      → ObjectOffends G global listed c d (refusal kind d.line)

pub data TypedefOffends : Env → CType → Declarator → Refusal → Type 0 where
  in_typedef_bounds : {G : Env} {c : CType} {d : Declarator} {r : Refusal} → BoundsOffend G d.line d.bounds r
      → TypedefOffends G c d r
  bad_typedef : {G : Env} {c : CType} {d : Declarator} {kind : ℕ} (ns : List ℕ × Env)
      → MeansBounds G d.line d.bounds ns → declared_type ns.1 d.name (with_stars c (length d.stars)) ns.0 ≡ Err kind
      → TypedefOffends G c d (refusal kind d.line)

pub data TypedefsOffend : Env → CType → List Declarator → Refusal → Type 0 where
  in_first_typedef : {G : Env} {c : CType} {d : Declarator} {ds : List Declarator} {r : Refusal}
      → TypedefOffends G c d r → TypedefsOffend G c (d ∷ ds) r
  in_later_typedef : {G : Env} {c : CType} {d : Declarator} {ds : List Declarator} {r : Refusal} (H : Env)
      → MeansTypedef G c d H → TypedefsOffend H c ds r → TypedefsOffend G c (d ∷ ds) r

pub data MemberNameOffends : Env → Named → CType → Declarator → Refusal → Type 0 where
  in_member_bounds : {G : Env} {ms : Named} {c : CType} {d : Declarator} {r : Refusal}
      → BoundsOffend G d.line d.bounds r → MemberNameOffends G ms c d r
  bad_member_name : {G : Env} {ms : Named} {c : CType} {d : Declarator} {kind : ℕ} (ns : List ℕ × Env)
      → MeansBounds G d.line d.bounds ns → with_member ns.1 ms d.name (with_stars c (length d.stars)) ns.0 ≡ Err kind
      → MemberNameOffends G ms c d (refusal kind d.line)

pub data WidthOffends : Env → List ℕ → Named → CType → ℕ → Option (List ℕ) → Expr → Refusal → Type 0 where
  in_width : {G : Env} {round : List ℕ} {ms : Named} {c : CType} {l : ℕ} {n : Option (List ℕ)} {e : Expr} {r : Refusal}
      → Offends (mentioned G e) e r → WidthOffends G round ms c l n e (at_statement l r)
  bad_width : {G : Env} {round : List ℕ} {ms : Named} {c : CType} {l : ℕ} {n : Option (List ℕ)} {e : Expr} {kind : ℕ}
      (x : Operand)
      → Means (mentioned G e) e x
      → with_field (mentioned G e) (in_union G round) ms c n (value_of (mentioned G e).types x) ≡ Err kind
      → WidthOffends G round ms c l n e (refusal kind l)

pub data EntryOffends : Env → List ℕ → Named → CType → MemberField → Refusal → Type 0 where
  in_member : {G : Env} {round : List ℕ} {ms : Named} {c : CType} {d : Declarator} {r : Refusal}
      → MemberNameOffends G ms c d r → EntryOffends G round ms c (whole d) r
  in_bit_field : {G : Env} {round : List ℕ} {ms : Named} {c : CType} {l : ℕ} {n : Option (List ℕ)} {e : Expr}
      {r : Refusal}
      → WidthOffends G round ms c l n e r → EntryOffends G round ms c (bits l n e) r

pub data EntriesOffend : Env → List ℕ → Named → CType → List MemberField → Refusal → Type 0 where
  in_first_entry : {G : Env} {round : List ℕ} {ms : Named} {c : CType} {f : MemberField} {fs : List MemberField}
      {r : Refusal}
      → EntryOffends G round ms c f r → EntriesOffend G round ms c (f ∷ fs) r
  in_later_entry : {G : Env} {round : List ℕ} {ms : Named} {c : CType} {f : MemberField} {fs : List MemberField}
      {r : Refusal} (x : Named × Env)
      → MeansEntry G round ms c f x → EntriesOffend x.1 round x.0 c fs r → EntriesOffend G round ms c (f ∷ fs) r

pub data WordsOffend : Env → List TypeWord → Refusal → Type 0 where
  bad_words : {G : Env} {ws : List TypeWord} {r : Refusal} → words_type (mentioned_words G ws) ws ≡ Err r
      → WordsOffend G ws r

mutual
  pub data SpecsOffend : Env → List ℕ → List TypeWord → Specs → Refusal → Type 0 where
    in_words : {G : Env} {round : List ℕ} {ws : List TypeWord} {r : Refusal} → WordsOffend G ws r
        → SpecsOffend G round ws no_specs r
    in_later_specs : {G : Env} {round : List ℕ} {ws : List TypeWord} {w : TypeWord} {ss : Specs} {r : Refusal}
        → SpecsOffend G round (ws ++ w ∷ []) ss r → SpecsOffend G round ws (more_specs (plain w) ss) r
    in_spec_body : {G : Env} {round : List ℕ} {ws : List TypeWord} {a : Aggregate} {ss : Specs} {r : Refusal}
        → BodyOffends G round a r → SpecsOffend G round ws (more_specs (body a) ss) r

  pub data BodyOffends : Env → List ℕ → Aggregate → Refusal → Type 0 where
    bad_tag : {G : Env} {round : List ℕ} {l w : ℕ} {tag : Option (List ℕ)} {ms : Members} {kind : ℕ}
        → opened G round (w == union_word) tag ≡ Err kind → BodyOffends G round (aggregate l w tag ms)
        (refusal kind l)
    in_members : {G : Env} {round : List ℕ} {l w : ℕ} {tag : Option (List ℕ)} {ms : Members} {r : Refusal}
        (o : ℕ × Env)
        → opened G round (w == union_word) tag ≡ Ok o → MembersOffend o.1 (o.0 ∷ round) [] ms r
        → BodyOffends G round (aggregate l w tag ms) r
    bad_size : {G : Env} {round : List ℕ} {l w : ℕ} {tag : Option (List ℕ)} {ms : Members} {kind : ℕ} (o : ℕ × Env)
        (x : Named × Env)
        → opened G round (w == union_word) tag ≡ Ok o → MeansMembers o.1 (o.0 ∷ round) [] ms x
        → closed x.1 o.0 (w == union_word) x.0 ≡ Err kind
        → BodyOffends G round (aggregate l w tag ms) (refusal kind l)

  pub data MembersOffend : Env → List ℕ → Named → Members → Refusal → Type 0 where
    in_member_specs : {G : Env} {round : List ℕ} {ms : Named} {l : ℕ} {ss : Specs} {fs : List MemberField} {rest :
        Members} {r : Refusal}
        → SpecsOffend G round [] ss r → MembersOffend G round ms (more_members (member l ss fs) rest) r
    in_entries : {G : Env} {round : List ℕ} {ms : Named} {l : ℕ} {ss : Specs} {fs : List MemberField} {rest :
        Members} {r : Refusal} (c : CType × Env)
        → MeansSpecs G round [] ss c → EntriesOffend c.1 round ms c.0 fs r
        → MembersOffend G round ms (more_members (member l ss fs) rest) r
    in_later_members : {G : Env} {round : List ℕ} {ms : Named} {l : ℕ} {ss : Specs} {fs : List MemberField} {rest :
        Members} {r : Refusal} (c : CType × Env) (x : Named × Env)
        → MeansSpecs G round [] ss c → MeansEntries c.1 round ms c.0 fs x → MembersOffend x.1 round x.0 rest r
        → MembersOffend G round ms (more_members (member l ss fs) rest) r
