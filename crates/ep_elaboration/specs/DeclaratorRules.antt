-- Declarators, type words, structs and unions, by rules without an order. C11 6.7.2 and 6.7.6.
use Rattle.std.specs.Prelude.{◌≡◌, [], ◌∷◌, ◌++◌, ◌==◌, ℕ, Bool, List, Option, Some, None, Ok, pos, length}
use Rattle.ep_ast.specs.Kind as kinds
use Rattle.ep_ast.specs.Declaration.{Aggregate, Declarator, MemberField, Members, Specs, aggregate, bits, body, member}
use Rattle.ep_ast.specs.Declaration.{more_members, more_specs, no_members, no_specs, plain, whole}
use Rattle.ep_ast.specs.Expression.{Expr, TypeWord}
use Rattle.ep_ast.specs.Mark.{union_word}
use Rattle.ep_elaboration.specs.Aggregates.{Named, closed, in_union, opened, with_field, with_member}
use Rattle.ep_elaboration.specs.Declarators.{Object, counted, declared_object, declared_type}
use Rattle.ep_typing.specs.Constant.{count_in}
use Rattle.ep_typing.specs.Env.{Env}
use Rattle.ep_typing.specs.Names.{mentioned, mentioned_words, with_type_of, words_type}
use Rattle.ep_typing.specs.Operand.{Operand, value_of}
use Rattle.ep_typing.specs.Results.{needed}
use Rattle.ep_typing.specs.Types.{with_stars}
use Rattle.ep_typing.specs.declared.types.CType.{CType}
use Rattle.ep_typing.specs.Rules.{Means}

-- a bound, on the line of the declared name (C11 6.7.6.2)
pub data MeansBound : Env → ℕ → Option Expr → (ℕ × Env) → Type 0 where
  is_bound : {G : Env} {l : ℕ} {e : Expr} (x : Operand) (n : ℕ) → Means (mentioned G e) e x
      → counted (value_of (mentioned G e).types x) ≡ Ok n → MeansBound G l (Some e) (n, mentioned G e)

-- bounds, from left to right
pub data MeansBounds : Env → ℕ → List (Option Expr) → (List ℕ × Env) → Type 0 where
  no_bounds : {G : Env} {l : ℕ} → MeansBounds G l [] ([], G)
  more_bounds : {G : Env} {l : ℕ} {b : Option Expr} {bs : List (Option Expr)} (x : ℕ × Env) (y : List ℕ × Env)
      → MeansBound G l b x → MeansBounds x.1 l bs y → MeansBounds G l (b ∷ bs) (x.0 ∷ y.0, y.1)

-- the bounds of an object, of which a list may give the first (C11 6.7.9p22)
pub data MeansObjectBounds : Env → ℕ → Option ℕ → List (Option Expr) → (List ℕ × Env) → Type 0 where
  from_list : {G : Env} {l n : ℕ} {bs : List (Option Expr)} (c : ℕ) (y : List ℕ × Env)
      → needed kinds.array_bound (count_in (pos n)) ≡ Ok c → MeansBounds G l bs y
      → MeansObjectBounds G l (Some n) (None ∷ bs) (c ∷ y.0, y.1)
  without_list : {G : Env} {l : ℕ} {bs : List (Option Expr)} (y : List ℕ × Env) → MeansBounds G l bs y
      → MeansObjectBounds G l None bs y
  listed_without_bounds : {G : Env} {l n : ℕ} (y : List ℕ × Env) → MeansBounds G l [] y
      → MeansObjectBounds G l (Some n) [] y
  listed_with_bound : {G : Env} {l n : ℕ} {e : Expr} {bs : List (Option Expr)} (y : List ℕ × Env)
      → MeansBounds G l (Some e ∷ bs) y → MeansObjectBounds G l (Some n) (Some e ∷ bs) y

-- an object by its declarator
pub data MeansObject : Env → Bool → Option ℕ → CType → Declarator → (Object × Env) → Type 0 where
  is_object : {G : Env} {global : Bool} {listed : Option ℕ} {c : CType} {d : Declarator} (ns : List ℕ × Env)
      (o : Object × Env)
      → MeansObjectBounds G d.line listed d.bounds ns
      → declared_object ns.1 global d.name (with_stars c (length d.stars)) ns.0 ≡ Ok o
      → MeansObject G global listed c d o

-- a typedef by its declarator (C11 6.7.8)
pub data MeansTypedef : Env → CType → Declarator → Env → Type 0 where
  is_typedef : {G : Env} {c : CType} {d : Declarator} (ns : List ℕ × Env) (H : Env) → MeansBounds G d.line d.bounds ns
      → declared_type ns.1 d.name (with_stars c (length d.stars)) ns.0 ≡ Ok H → MeansTypedef G c d H

-- typedefs, one after the other
pub data MeansTypedefs : Env → CType → List Declarator → Env → Type 0 where
  no_typedefs : {G : Env} {c : CType} → MeansTypedefs G c [] G
  more_typedefs : {G : Env} {c : CType} {d : Declarator} {ds : List Declarator} (H K : Env) → MeansTypedef G c d H
      → MeansTypedefs H c ds K → MeansTypedefs G c (d ∷ ds) K

-- a member by its declarator (C11 6.7.2.1)
pub data MeansMemberName : Env → Named → CType → Declarator → (Named × Env) → Type 0 where
  is_member_name : {G : Env} {ms : Named} {c : CType} {d : Declarator} (ns : List ℕ × Env) (x : Named × Env)
      → MeansBounds G d.line d.bounds ns → with_member ns.1 ms d.name (with_stars c (length d.stars)) ns.0 ≡ Ok x
      → MeansMemberName G ms c d x

-- a bit-field by its width, on the line of its name (C11 6.7.2.1p3 to p5)
pub data MeansWidth : Env → List ℕ → Named → CType → ℕ → Option (List ℕ) → Expr → (Named × Env) → Type 0 where
  is_width : {G : Env} {round : List ℕ} {ms : Named} {c : CType} {l : ℕ} {n : Option (List ℕ)} {e : Expr} (x : Operand)
      (y : Named × Env)
      → Means (mentioned G e) e x
      → with_field (mentioned G e) (in_union G round) ms c n (value_of (mentioned G e).types x) ≡ Ok y
      → MeansWidth G round ms c l n e y

-- a member or a bit-field
pub data MeansEntry : Env → List ℕ → Named → CType → MemberField → (Named × Env) → Type 0 where
  is_member : {G : Env} {round : List ℕ} {ms : Named} {c : CType} {d : Declarator} (x : Named × Env)
      → MeansMemberName G ms c d x → MeansEntry G round ms c (whole d) x
  is_bit_field : {G : Env} {round : List ℕ} {ms : Named} {c : CType} {l : ℕ} {n : Option (List ℕ)} {e : Expr}
      (x : Named × Env)
      → MeansWidth G round ms c l n e x → MeansEntry G round ms c (bits l n e) x

-- members and bit-fields of one type
pub data MeansEntries : Env → List ℕ → Named → CType → List MemberField → (Named × Env) → Type 0 where
  no_entries : {G : Env} {round : List ℕ} {ms : Named} {c : CType} → MeansEntries G round ms c [] (ms, G)
  more_entries : {G : Env} {round : List ℕ} {ms : Named} {c : CType} {f : MemberField} {fs : List MemberField}
      (x y : Named × Env)
      → MeansEntry G round ms c f x → MeansEntries x.1 round x.0 c fs y → MeansEntries G round ms c (f ∷ fs) y

-- type words without members, after the tags that they mention (C11 6.7.2)
pub data MeansWords : Env → List TypeWord → (CType × Env) → Type 0 where
  is_words : {G : Env} {ws : List TypeWord} (c : CType) → words_type (mentioned_words G ws) ws ≡ Ok c
      → MeansWords G ws (c, with_type_of (mentioned_words G ws) (Ok c))

mutual
  -- type words with or without a struct or union body; the bodies round it are not closed yet
  pub data MeansSpecs : Env → List ℕ → List TypeWord → Specs → (CType × Env) → Type 0 where
    is_plain : {G : Env} {round : List ℕ} {ws : List TypeWord} (c : CType × Env) → MeansWords G ws c
        → MeansSpecs G round ws no_specs c
    one_word_more : {G : Env} {round : List ℕ} {ws : List TypeWord} {w : TypeWord} {ss : Specs} (c : CType × Env)
        → MeansSpecs G round (ws ++ w ∷ []) ss c → MeansSpecs G round ws (more_specs (plain w) ss) c
    has_body : {G : Env} {round : List ℕ} {ws : List TypeWord} {a : Aggregate} {ss : Specs} (c : CType × Env)
        → MeansBody G round a c → MeansSpecs G round ws (more_specs (body a) ss) c

  -- a struct or union with its members (C11 6.7.2.1 and 6.7.2.3)
  pub data MeansBody : Env → List ℕ → Aggregate → (CType × Env) → Type 0 where
    is_body : {G : Env} {round : List ℕ} {l w : ℕ} {tag : Option (List ℕ)} {ms : Members} (o : ℕ × Env)
        (x : Named × Env) (c : CType × Env)
        → opened G round (w == union_word) tag ≡ Ok o → MeansMembers o.1 (o.0 ∷ round) [] ms x
        → closed x.1 o.0 (w == union_word) x.0 ≡ Ok c
        → MeansBody G round (aggregate l w tag ms) c

  -- members, one after the other
  pub data MeansMembers : Env → List ℕ → Named → Members → (Named × Env) → Type 0 where
    no_more_members : {G : Env} {round : List ℕ} {ms : Named} → MeansMembers G round ms no_members (ms, G)
    one_member_more : {G : Env} {round : List ℕ} {ms : Named} {l : ℕ} {ss : Specs} {fs : List MemberField} {rest :
        Members} (c : CType × Env) (x y : Named × Env)
        → MeansSpecs G round [] ss c → MeansEntries c.1 round ms c.0 fs x → MeansMembers x.1 round x.0 rest y
        → MeansMembers G round ms (more_members (member l ss fs) rest) y
