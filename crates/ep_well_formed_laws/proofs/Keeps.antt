-- What expressions, type words, bounds and bodies declare changes neither names nor blocks nor functions.
use Rattle.std.proofs.Common.{◌≡◌, ℕ, ◌==◌, Bool, ◌||◌, not, List, [], ◌∷◌, ◌++◌, length, Option, Some, None, is_some, Result}
use Rattle.std.proofs.Common.{Ok, Err, refl, ◌∙◌, subst}
use Rattle.ep_ast.specs.Expression as source
use Rattle.ep_ast.specs.Expression.{TypeWord, TypeName}
use Rattle.ep_ast.specs.Mark.{union_word}
use Rattle.ep_ast.specs.Declaration.{Aggregate, Declarator, MemberField, Members, Specs}
use Rattle.ep_ast.specs.declared.refusals.Refusal.{Refusal}
use Rattle.ep_layout.specs.declared.types.LayoutStop.{LayoutStop}
use Rattle.ep_layout.specs.Table.{Table, completed_with, declared, members_stop}
use Rattle.ep_typing.specs.declared.types.Base.TheVariants as bases
use Rattle.ep_typing.specs.declared.types.CType.{CType}
use Rattle.ep_typing.specs.Types.{c_type_number, int_of, size_of_type, whole, with_c_type, with_stars}
use Rattle.ep_typing.specs.Results.{needed}
use Rattle.ep_typing.specs.Env.{Env, entry, look_up_tag, with_tag}
use Rattle.ep_typing.specs.Operand.{value_of}
use Rattle.ep_typing.specs.Names.{mentioned, mentioned_all, mentioned_name, mentioned_tag, mentioned_word}
use Rattle.ep_typing.specs.Names.{mentioned_words, named_type, with_type_of}
use Rattle.ep_elaboration.specs.Declarators.{arrays_of, with_types}
use Rattle.ep_elaboration.specs.Aggregates.{Named, a_field, a_member, body_of, closed_with, has_body, in_union}
use Rattle.ep_elaboration.specs.Aggregates.{is_declared, is_field_type, is_taken_name, members_in, opened, tags_here}
use Rattle.ep_elaboration.specs.Aggregates.{width_in, with_field, with_fields, with_member}
use Rattle.ep_elaboration.specs.DeclaratorRules.{MeansBody, MeansBound, MeansBounds, MeansEntries, MeansEntry}
use Rattle.ep_elaboration.specs.DeclaratorRules.{MeansMemberName, MeansMembers, MeansObjectBounds, MeansSpecs}
use Rattle.ep_elaboration.specs.DeclaratorRules.{MeansWidth, MeansWords, from_list, has_body as is_bodied}
use Rattle.ep_elaboration.specs.DeclaratorRules.{is_bit_field, is_body, is_bound, is_member, is_member_name, is_plain}
use Rattle.ep_elaboration.specs.DeclaratorRules.{is_width, is_words, listed_with_bound, listed_without_bounds}
use Rattle.ep_elaboration.specs.DeclaratorRules.{more_bounds, more_entries, no_bounds, no_entries, no_more_members}
use Rattle.ep_elaboration.specs.DeclaratorRules.{one_member_more, one_word_more, without_list}
use Rattle.ep_well_formed_laws.proofs.Scopes.{HaveNames, names_on, names_tagged, same_names}
use Rattle.ep_well_formed_laws.proofs.Specs.{fine_is}
use Rattle.ep_well_formed_laws.proofs.Tests.{after, unless}

pub record Keeps (G H : Env) : Type 0 where
  pub names : HaveNames G.scopes H.scopes
  pub blocks : H.blocks ≡ G.blocks
  pub functions : H.functions ≡ G.functions

pub keeps_itself : (G : Env) → Keeps G G
keeps_itself G = record { names = same_names G.scopes; blocks = refl; functions = refl }

pub keeps_on : (G H I : Env) → Keeps G H → Keeps H I → Keeps G I
keeps_on G H I p q = record {
  names = names_on G.scopes H.scopes I.scopes p.names q.names;
  blocks = q.blocks ∙ p.blocks;
  functions = q.functions ∙ p.functions;
}

pub keeps_types : (G : Env) (t : Table) → Keeps G (record G { types = t })
keeps_types G t = record { names = same_names G.scopes; blocks = refl; functions = refl }

keeps_tag : (G : Env) (t : List ℕ) (u : Bool) → Keeps G (with_tag G t u)
keeps_tag G t u =
    record { names = names_tagged G.scopes t (length G.types.aggregates); blocks = refl; functions = refl }

-- ---- words

word_keeps : (G : Env) (w : TypeWord) → Keeps G (mentioned_word G w)
word_keeps G (source.word l c) = keeps_itself G
word_keeps G (source.typedef_name l t) = keeps_itself G
word_keeps G (source.tagged l c t) = by (look_up_tag t G.scopes)
  where
    by : (o : Option ℕ) → Keeps G (mentioned_tag G t (c == union_word) o)
    by None = keeps_tag G t (c == union_word)
    by (Some a) = keeps_itself G

words_keep : (G : Env) (ws : List TypeWord) → Keeps G (mentioned_words G ws)
words_keep G [] = keeps_itself G
words_keep G (w ∷ ws) =
    keeps_on G (mentioned_word G w) (mentioned_words (mentioned_word G w) ws) (word_keeps G w)
    (words_keep (mentioned_word G w) ws)

type_keeps : (G : Env) (r : Result CType Refusal) → Keeps G (with_type_of G r)
type_keeps G (Ok c) = keeps_types G (with_c_type G.types c)
type_keeps G (Err r) = keeps_itself G

name_keeps : (G : Env) (n : TypeName) → Keeps G (mentioned_name G n)
unfolding mentioned_name
name_keeps G n =
    let H = mentioned_words G n.words in
    keeps_on G H (with_type_of H (named_type H n)) (words_keep G n.words) (type_keeps H (named_type H n))

-- ---- expressions

keeps_two : (G H : Env) (a : source.Expr) → Keeps G H → Keeps H (mentioned H a) → Keeps G (mentioned H a)
keeps_two G H a p q = keeps_on G H (mentioned H a) p q

mutual
  unfolding mentioned mentioned_all

  pub expression_keeps : (e : source.Expr) (G : Env) → Keeps G (mentioned G e)
  expression_keeps (source.assign l m a b) G =
      keeps_two G (mentioned G a) b (expression_keeps a G) (expression_keeps b (mentioned G a))
  expression_keeps (source.conditional l a b c) G =
      keeps_two G (mentioned (mentioned G a) b) c
      (keeps_two G (mentioned G a) b (expression_keeps a G) (expression_keeps b (mentioned G a)))
      (expression_keeps c (mentioned (mentioned G a) b))
  expression_keeps (source.binary l m a b) G =
      keeps_two G (mentioned G a) b (expression_keeps a G) (expression_keeps b (mentioned G a))
  expression_keeps (source.cast l n a) G =
      keeps_two G (mentioned_name G n) a (name_keeps G n) (expression_keeps a (mentioned_name G n))
  expression_keeps (source.step l m a) G = expression_keeps a G
  expression_keeps (source.unary l m a) G = expression_keeps a G
  expression_keeps (source.sizeof_expr l a) G = expression_keeps a G
  expression_keeps (source.sizeof_type l n) G = name_keeps G n
  expression_keeps (source.index l a b) G =
      keeps_two G (mentioned G a) b (expression_keeps a G) (expression_keeps b (mentioned G a))
  expression_keeps (source.call l f es) G =
      keeps_on G (mentioned G f) (mentioned_all (mentioned G f) es) (expression_keeps f G)
      (expressions_keep es (mentioned G f))
  expression_keeps (source.member l a n) G = expression_keeps a G
  expression_keeps (source.arrow l a n) G = expression_keeps a G
  expression_keeps (source.post_increment l a) G = expression_keeps a G
  expression_keeps (source.post_decrement l a) G = expression_keeps a G
  expression_keeps (source.id l t) G = keeps_itself G
  expression_keeps (source.number l n) G = keeps_itself G

  expressions_keep : (es : source.Exprs) (G : Env) → Keeps G (mentioned_all G es)
  expressions_keep source.no_exprs G = keeps_itself G
  expressions_keep (source.more_exprs e es) G =
      keeps_on G (mentioned G e) (mentioned_all (mentioned G e) es) (expression_keeps e G)
      (expressions_keep es (mentioned G e))

-- ---- bounds and type words

pub bound_keeps : (G : Env) (l : ℕ) (b : Option source.Expr) (x : ℕ × Env) → MeansBound G l b x → Keeps G x.1
bound_keeps G l b x (is_bound {e = e} y n m q) = expression_keeps e G

pub bounds_keep : (G : Env) (l : ℕ) (bs : List (Option source.Expr)) (x : List ℕ × Env) → MeansBounds G l bs x
    → Keeps G x.1
bounds_keep G l bs x no_bounds = keeps_itself G
bounds_keep G l bs x (more_bounds {b = b} {bs = cs} y z m n) =
    keeps_on G y.1 z.1 (bound_keeps G l b y m) (bounds_keep y.1 l cs z n)

pub object_bounds_keep : (G : Env) (l : ℕ) (o : Option ℕ) (bs : List (Option source.Expr)) (x : List ℕ × Env)
    → MeansObjectBounds G l o bs x → Keeps G x.1
object_bounds_keep G l o bs x (from_list {bs = cs} c y q m) = bounds_keep G l cs y m
object_bounds_keep G l o bs x (without_list y m) = bounds_keep G l bs x m
object_bounds_keep G l o bs x (listed_without_bounds y m) = bounds_keep G l [] x m
object_bounds_keep G l o bs x (listed_with_bound {e = e} {bs = cs} y m) = bounds_keep G l (Some e ∷ cs) x m

pub means_words_keep : (G : Env) (ws : List TypeWord) (c : CType × Env) → MeansWords G ws c → Keeps G c.1
means_words_keep G ws c (is_words d e) =
    let H = mentioned_words G ws in keeps_on G H (with_type_of H (Ok d)) (words_keep G ws) (type_keeps H (Ok d))

-- ---- bodies

opened_keeps : (G : Env) (round : List ℕ) (u : Bool) (tag : Option (List ℕ)) (o : ℕ × Env) → opened G round u tag ≡ Ok o
    → Keeps G o.1
unfolding opened
opened_keeps G round u None o e =
    let same = fine_is {A = ℕ × Env} (length G.types.aggregates, record G { types = declared G.types [] u }) o e in
    subst (λ (x : ℕ × Env). Keeps G x.1) same (keeps_types G (declared G.types [] u))
opened_keeps G round u (Some t) o e = by (entry t (tags_here G.scopes)) e
  where
    by : (q : Option ℕ) → body_of G round u t q ≡ Ok o → Keeps G o.1
    by None f =
        let same = fine_is {A = ℕ × Env} (length G.types.aggregates, with_tag G t u) o f in
        subst (λ (x : ℕ × Env). Keeps G x.1) same (keeps_tag G t u)
    by (Some a) f =
        let r = unless (has_body G round u a) 31 (Ok (a, G)) o f in
        let same = fine_is {A = ℕ × Env} (a, G) o r.1 in
        subst (λ (x : ℕ × Env). Keeps G x.1) same (keeps_itself G)

member_keeps : (G : Env) (ms : Named) (c : CType) (d : Declarator) (x : Named × Env) → MeansMemberName G ms c d x
    → Keeps G x.1
unfolding with_member
member_keeps G ms c d x (is_member_name ns y m e) =
    let H = ns.1 in
    let a = unless (is_declared d.name ms) 31 _ x e in
    let r = after (arrays_of H.types (with_stars c (length d.stars)) ns.0) _ x a.1 in
    let z = after (needed 33 (size_of_type r.0.1 r.0.0)) _ x r.2 in
    let K = with_types H r.0.1 in
    let same = fine_is {A = Named × Env} (ms ++ a_member d.name (c_type_number r.0.1 r.0.0) ∷ [], K) x z.2 in
    keeps_on G H x.1 (bounds_keep G d.line d.bounds ns m)
    (subst (λ (y : Named × Env). Keeps H y.1) same (keeps_types H r.0.1))

width_keeps : (G : Env) (round : List ℕ) (ms : Named) (c : CType) (l : ℕ) (n : Option (List ℕ)) (e : source.Expr)
    (x : Named × Env) → MeansWidth G round ms c l n e x → Keeps G x.1
unfolding with_field
width_keeps G round ms c l n e x (is_width y z m q) =
    let H = mentioned G e in
    let a = unless (in_union G round || not (is_field_type c)) 9 _ x q in
    let w = after (needed 9 (width_in (int_of c) (is_some n) (value_of H.types y))) _ x a.1 in
    let b = unless (is_taken_name n ms) 31 _ x w.2 in
    let t = with_c_type H.types c in
    let same = fine_is {A = Named × Env} (ms ++ a_field n (c_type_number t c) (int_of c) w.0 ∷ [], with_types H t) x b.1 in
    keeps_on G H x.1 (expression_keeps e G) (subst (λ (y : Named × Env). Keeps H y.1) same (keeps_types H t))

entry_keeps : (G : Env) (round : List ℕ) (ms : Named) (c : CType) (f : MemberField) (x : Named × Env)
    → MeansEntry G round ms c f x → Keeps G x.1
entry_keeps G round ms c f x (is_member {d = d} y m) = member_keeps G ms c d x m
entry_keeps G round ms c f x (is_bit_field {l = l} {n = n} {e = e} y m) = width_keeps G round ms c l n e x m

entries_keep : (G : Env) (round : List ℕ) (ms : Named) (c : CType) (fs : List MemberField) (x : Named × Env)
    → MeansEntries G round ms c fs x → Keeps G x.1
entries_keep G round ms c fs x no_entries = keeps_itself G
entries_keep G round ms c fs x (more_entries {f = f} {fs = gs} y z m n) =
    keeps_on G y.1 x.1 (entry_keeps G round ms c f y m) (entries_keep y.1 round y.0 c gs x n)

closed_keeps : (G : Env) (a : ℕ) (es : Named) (ms : List (List ℕ × ℕ)) (s : Option LayoutStop) (c : CType × Env)
    → closed_with G a es ms s ≡ Ok c → Keeps G c.1
closed_keeps G a es [] s c e = absurd cc
closed_keeps G a es (m ∷ ms) (Some s) c e = absurd cc
closed_keeps G a es (m ∷ ms) None c e =
    let d = whole (bases.Aggregate a) in
    let t = with_c_type (completed_with G.types a (m ∷ ms)) d in
    let H : Env = record G { types = t; fields = with_fields G.fields a es } in
    let same = fine_is {A = CType × Env} (d, H) c e in
    subst (λ (x : CType × Env). Keeps G x.1) same
    (record { names = same_names G.scopes; blocks = refl; functions = refl })

mutual
  pub specs_keep : (G : Env) (round : List ℕ) (ws : List TypeWord) (ss : Specs) (c : CType × Env)
      → MeansSpecs G round ws ss c
      → Keeps G c.1
  specs_keep G round ws ss c (is_plain d m) = means_words_keep G ws c m
  specs_keep G round ws ss c (one_word_more {w = w} {ss = rest} d m) = specs_keep G round (ws ++ w ∷ []) rest c m
  specs_keep G round ws ss c (is_bodied {a = a} d m) = body_keeps G round a c m

  pub body_keeps : (G : Env) (round : List ℕ) (a : Aggregate) (c : CType × Env) → MeansBody G round a c → Keeps G c.1
  body_keeps G round a c (is_body {w = w} {tag = tag} {ms = ms} o x d p m q) =
      keeps_on G o.1 c.1 (opened_keeps G round (w == union_word) tag o p)
      (keeps_on o.1 x.1 c.1 (all_members_keep o.1 (o.0 ∷ round) [] ms x m)
      (closed_keeps x.1 o.0 x.0 (members_in x.0) (members_stop x.1.types (w == union_word) (members_in x.0)) c q))

  all_members_keep : (G : Env) (round : List ℕ) (ns : Named) (ms : Members) (x : Named × Env)
      → MeansMembers G round ns ms x
      → Keeps G x.1
  all_members_keep G round ns ms x no_more_members = keeps_itself G
  all_members_keep G round ns ms x (one_member_more {ss = ss} {fs = fs} {rest = rest} c y z m n r) =
      keeps_on G c.1 x.1 (specs_keep G round [] ss c m)
      (keeps_on c.1 y.1 x.1 (entries_keep c.1 round ns c.0 fs y n) (all_members_keep y.1 round y.0 rest x r))
