-- What stands at file scope, but functions: types, tags and globals.
use Rattle.std.proofs.Common.{◌≡◌, ℕ, zero, suc, ◌+◌, ◌<◌, ◌≤◌, nat_eq, nat_lt, Bool, true, false, true≢false, cond}
use Rattle.ep_layout.proofs.Basics.{grows-trans}
use Rattle.ep_well_formed_laws.proofs.Scopes.{entry_front}
use Rattle.ep_int.proofs.Basics.{append-assoc}
use Rattle.std.proofs.lemmas.Bool.{and_from, or_left}
use Rattle.std.proofs.Common.{not, ◌||◌, List, [], ◌∷◌, ◌++◌, length, length-append, slice_get, Option, Some, None}
use Rattle.std.proofs.Common.{refl, sym, ap, ◌∙◌, subst, arith}
use Rattle.std.specs.List.{list_all, list_any}
use Rattle.std.proofs.lemmas.Bool.Decides.{nat_tests}
use Rattle.std.proofs.lemmas.Bool.{and_parts}
use Rattle.ep_int.specs.Memory.{contains}
use Rattle.ep_ast.specs.Declaration.{Declaration, Declarator, Init, Typedef, to_specs}
use Rattle.ep_layout.specs.Layout.{Layout}
use Rattle.ep_layout.specs.Table.{Grows, Table, layout_of}
use Rattle.ep_layout.proofs.Options.{get_last, map_some}
use Rattle.ep_layout.proofs.Recursion.{kept_by_itself}
use Rattle.ep_core.specs.Program as core
use Rattle.ep_core.specs.Program.{Block}
use Rattle.ep_core.specs.Runs.{is_global}
use Rattle.ep_core.specs.WellFormed.{are_different_leaves, init_fits, is_same_leaf}
use Rattle.ep_core.proofs.Sorts.{never}
use Rattle.ep_typing.specs.declared.types.CType.{CType}
use Rattle.ep_typing.specs.Types.{c_type_number, with_stars}
use Rattle.ep_typing.specs.Env as env
use Rattle.ep_typing.specs.Env.{Env, Meaning, Scope, Signature, entry}
use Rattle.ep_elaboration.specs.Declarations.{Made}
use Rattle.ep_elaboration.specs.Declarators.{arrays_of, declared_type, is_taken, name_in, named_type_of, with_name}
use Rattle.ep_elaboration.specs.Declarators.{with_types}
use Rattle.ep_elaboration.specs.Given.{count_listed}
use Rattle.ep_elaboration.specs.Statements.{innermost}
use Rattle.ep_elaboration.specs.DeclaratorRules.{MeansTypedef, MeansTypedefs, is_typedef, more_typedefs}
use Rattle.ep_elaboration.specs.DeclaratorRules.{no_typedefs}
use Rattle.ep_elaboration.specs.GivenRules.{MeansDeclaration, MeansVariable, MeansVariables, is_declaration}
use Rattle.ep_elaboration.specs.GivenRules.{is_variable, more_variables, no_variables}
use Rattle.ep_well_formed_laws.specs.Numbers.{HasNumber}
use Rattle.ep_well_formed_laws.specs.Environments.{CanName, EachMeaning, EachName, HasScope}
use Rattle.ep_well_formed_laws.proofs.Additions.{c_number_is, has_number_stays}
use Rattle.ep_well_formed_laws.proofs.DefinedFunctions.{globals_later, names_both}
use Rattle.ep_well_formed_laws.proofs.Extents.{same_size}
use Rattle.ep_well_formed_laws.proofs.FirstValues.{first_mentions}
use Rattle.ep_well_formed_laws.proofs.Mentions.{Declares, declares_mentions, env_declares, known_base, same_rows_open}
use Rattle.ep_well_formed_laws.proofs.Mentions.{table_mentioned}
use Rattle.ep_well_formed_laws.proofs.Objects.{arrays_come, bounds_are, env_named, object_declared_is}
use Rattle.ep_well_formed_laws.proofs.Scopes.{each_same, meaning_more}
use Rattle.ep_well_formed_laws.proofs.Specs.{fine_is, specified}
use Rattle.ep_well_formed_laws.proofs.Steps.{follows_mentions, nothing_more}
use Rattle.ep_well_formed_laws.proofs.Tests.{after, unless}
use Rattle.ep_well_formed_laws.proofs.Arms.{AllNamed}
use Rattle.ep_well_formed_laws.proofs.Counts.{below}
use Rattle.ep_well_formed_laws.proofs.CallNames.{ScopesFit, scopes_fit_same}
use Rattle.ep_well_formed_laws.proofs.FirstInits.{ascending_different, ascending_fit, global_inits, init_stays, Ascends}
use Rattle.ep_well_formed_laws.proofs.FunctionNames.{AreNumbered, StayNamed, same_file_names, scopes_last}
use Rattle.ep_well_formed_laws.proofs.FunctionParts.{AtFile, one_scope}
use Rattle.ep_well_formed_laws.proofs.Leaves.{InBlock, has_leaf}
use Rattle.ep_well_formed_laws.proofs.WalkedValues.{first_keeps, object_comes}
use Rattle.ep_well_formed_laws.proofs.Walks.{AreLocal, NamesCome, come_on, none_come, scopes_fit_more}

-- ---- counts of global blocks

abbrev pub globals : List Block → ℕ → ℕ
globals bs c = cond (is_global (slice_get bs c)) 1 0

local_none : (bs : List Block) (c : ℕ) → AreLocal bs → globals bs c ≡ 0
local_none [] c h = refl
local_none (b ∷ bs) zero h = ap (λ (v : Bool). cond v 1 0) h.0
local_none (b ∷ bs) (suc c) h = local_none bs c h.1

pub globals_local : (bs more : List Block) (c : ℕ) → AreLocal more → globals (bs ++ more) c ≡ globals bs c
globals_local [] more c h = local_none more c h
globals_local (b ∷ bs) more zero h = refl
globals_local (b ∷ bs) more (suc c) h = globals_local bs more c h

globals_push : (bs : List Block) (x : Block) (c : ℕ) → x.global ≡ true
    → globals (bs ++ x ∷ []) c + below (length bs) c ≡ globals bs c + below (suc (length bs)) c
globals_push [] x zero h =
    let e : nat_lt 0 0 ≡ false = refl in let f : nat_lt 0 1 ≡ true = refl in rw h (omega arith)
globals_push [] x (suc c) h =
    let e : nat_lt (suc c) 0 ≡ false = grind (arith, nat_tests) in
    let f : nat_lt (suc c) 1 ≡ false = grind (arith, nat_tests) in rw (e, f) (omega arith)
globals_push (b ∷ bs) x zero h =
    let e : nat_lt 0 (suc (length bs)) ≡ true = grind (arith, nat_tests) in
    let f : nat_lt 0 (suc (suc (length bs))) ≡ true = grind (arith, nat_tests) in rw (e, f) refl
globals_push (b ∷ bs) x (suc c) h =
    let r = globals_push bs x c h in
    let e : below (suc (length bs)) (suc c) ≡ below (length bs) c = below_suc (length bs) c in
    let f : below (suc (suc (length bs))) (suc c) ≡ below (suc (length bs)) c = below_suc (suc (length bs)) c in
    omega (arith, r, e, f)
  where
    below_suc : (n c : ℕ) → below (suc n) (suc c) ≡ below n c
    below_suc n c = by (nat_lt c n) refl
      where
        by : (v : Bool) → nat_lt c n ≡ v → below (suc n) (suc c) ≡ cond v 1 0
        by true q = let e : nat_lt (suc c) (suc n) ≡ true = grind (arith, nat_tests) in rw e refl
        by false q = let e : nat_lt (suc c) (suc n) ≡ false = grind (arith, nat_tests) in rw e refl

-- ---- steps

pub record FileStep (G H : Env) : Type 0 where
  pub file : AtFile H
  pub grows : Grows G.types H.types
  pub functions : H.functions ≡ G.functions
  pub stays : StayNamed G H
  pub more : List Block
  pub blocks : H.blocks ≡ G.blocks ++ more
  pub counts : (c : ℕ) → globals H.blocks c + below (length G.blocks) c ≡ globals G.blocks c + below (length H.blocks) c

pub step_itself : (G : Env) → AtFile G → FileStep G G
step_itself G h = record {
  file = h;
  grows = kept_by_itself G.types;
  functions = refl;
  stays = λ t m e. e;
  more = [];
  blocks = nothing_more G.blocks;
  counts = λ c. refl;
}

pub step_on : (G H I : Env) → FileStep G H → FileStep H I → FileStep G I
step_on G H I p q = record {
  file = q.file;
  grows = grows-trans G.types H.types I.types p.grows q.grows;
  functions = q.functions ∙ p.functions;
  stays = λ t m e. q.stays t m (p.stays t m e);
  more = p.more ++ q.more;
  blocks = q.blocks ∙ ap (λ (bs : List Block). bs ++ q.more) p.blocks ∙ append-assoc G.blocks p.more q.more;
  counts = λ c. let e = p.counts c in let f = q.counts c in omega (arith, e, f);
}

pub step_named : (G H : Env) → FileStep G H → AllNamed G → AllNamed H
step_named G H s h k r e = s.stays r.name (env.function k)
    (h k r (subst (λ (fs : List Signature). slice_get fs k ≡ Some r) s.functions e))

pub declares_step : (G H : Env) → AtFile G → Declares G H → FileStep G H
declares_step G H h d =
    let one = one_scope G.scopes H.scopes h.scope d.names h.file in
    record {
      file = record {
        env = env_declares G H h.env d;
        covers = each_same (CanName H.blocks []) G.scopes H.scopes d.names
            (subst (λ (bs : List Block). EachMeaning (CanName bs []) G.scopes) (sym d.blocks) h.covers);
        scope = one.0;
        file = one.1;
        numbered = subst AreNumbered (sym d.functions) h.numbered;
        fit = subst (λ (fs : List Signature). ScopesFit fs H.scopes) (sym d.functions)
            (scopes_fit_same G.functions G.scopes H.scopes d.names h.fit);
      };
      grows = d.grows;
      functions = d.functions;
      stays = same_file_names G H d.names;
      more = [];
      blocks = d.blocks ∙ nothing_more G.blocks;
      counts = λ c.
          let e : globals H.blocks c ≡ globals G.blocks c = ap (λ (bs : List Block). globals bs c) d.blocks in
          let f : below (length H.blocks) c
          ≡ below (length G.blocks) c = ap (λ (bs : List Block). below (length bs) c) d.blocks in
          omega (arith, e, f);
    }

-- ---- typedefs

-- a name of a type more
type_named : (G : Env) (t : List ℕ) (c : CType) → AtFile G → HasNumber G.types c
    → FileStep G (with_name G t (env.type_name c))
type_named G t c h n = record {
  file = record {
    env = env_named G t (env.type_name c) h.env n tt;
    covers = named_can G.scopes h.covers;
    scope = _;
    file = ap (λ (ss : List Scope). name_in ss t (env.type_name c)) h.file;
    numbered = h.numbered;
    fit = scopes_last G.functions G.scopes t (env.type_name c) h.fit tt;
  };
  grows = kept_by_itself G.types;
  functions = refl;
  stays = stays_named;
  more = [];
  blocks = nothing_more G.blocks;
  counts = λ c. refl;
}
  where
    names_can : (xs : List (List ℕ × Meaning)) → EachName (CanName G.blocks []) xs
        → EachName (CanName G.blocks []) (xs ++ (t, env.type_name c) ∷ [])
    names_can [] k = (tt, tt)
    names_can (x ∷ xs) k = (k.0, names_can xs k.1)

    named_can : (ss : List Scope) → EachMeaning (CanName G.blocks []) ss
        → EachMeaning (CanName G.blocks []) (name_in ss t (env.type_name c))
    named_can [] k = tt
    named_can (s ∷ ss) k = (names_can s.names k.0, k.1)

    stays_named : StayNamed G (with_name G t (env.type_name c))
    stays_named u x e = by G.scopes e
      where
        by : (ss : List Scope) → entry u (innermost (record G { scopes = ss })).names ≡ Some x
            → entry u (innermost (record G { scopes = name_in ss t (env.type_name c) })).names ≡ Some x
        by [] k = absurd cc
        by (v ∷ vs) k = entry_front u v.names ((t, env.type_name c) ∷ []) x k

typedef_step : (G : Env) (c : CType) (d : Declarator) (H : Env) → AtFile G → HasNumber G.types c
    → MeansTypedef G c d H → FileStep G H
unfolding declared_type
typedef_step G c d H h n (is_typedef ns K m e) =
    let b = bounds_are G d.line d.bounds ns h.env.declared m in
    let I = ns.1 in
    let p = declares_step G I h (declares_mentions G I b.mentions) in
    let base = known_base I.types c
    (has_number_stays G.types I.types b.mentions.grows b.mentions.declared.table.built c n)
    b.mentions.declared.table in
    let a = unless (is_taken d.name I.scopes) 31 _ H e in
    let r = after (arrays_of I.types (with_stars c (length d.stars)) ns.0) (named_type_of I d.name) H a.1 in
    let t = arrays_come I.types (with_stars c (length d.stars)) ns.0 r.0 b.mentions.declared.table base b.lengths r.1 in
    let J = with_types I r.0.1 in
    let k = table_mentioned I r.0.1 b.mentions.declared t.grows t.table (same_rows_open I.types r.0.1 t.rows) in
    let q = declares_step I J p.file (declares_mentions I J k) in
    let same : with_name J d.name (env.type_name r.0.0)
    ≡ H = fine_is {A = Env} (with_name J d.name (env.type_name r.0.0)) H r.2 in
    step_on G I H p (step_on I J H q (subst (FileStep J) same (type_named J d.name r.0.0 q.file t.number)))

typedefs_step : (G : Env) (c : CType) (ds : List Declarator) (H : Env) → AtFile G → HasNumber G.types c
    → MeansTypedefs G c ds H → FileStep G H
typedefs_step G c ds H h n no_typedefs = step_itself G h
typedefs_step G c ds H h n (more_typedefs {d = d} {ds = es} I K m o) =
    let p = typedef_step G c d I h n m in
    step_on G I H p (typedefs_step I c es H p.file
    (has_number_stays G.types I.types p.grows p.file.env.declared.table.built c n) o)

pub typedef_item : (G : Env) (t : Typedef) (c : CType × Env) (H : Env) → AtFile G
    → (s : Declares G c.1) → HasNumber c.1.types c.0 → MeansTypedefs c.1 c.0 t.declarators H → FileStep G H
typedef_item G t c H h s n m =
    let p = declares_step G c.1 h s in step_on G c.1 H p (typedefs_step c.1 c.0 t.declarators H p.file n m)

-- ---- globals

-- first values of blocks from a number on, or below one
abbrev pub AllFrom : ℕ → List core.Init → Type 0
AllFrom n [] = Unit {0}
AllFrom n (i ∷ is) = (n ≤ i.block) × AllFrom n is

abbrev pub AllBelow : ℕ → List core.Init → Type 0
AllBelow n [] = Unit {0}
AllBelow n (i ∷ is) = (i.block < n) × AllBelow n is

pub inits_below : (t : Table) (bs : List Block) (is : List core.Init) → list_all (init_fits t bs) is ≡ true
    → AllBelow (length bs) is
inits_below t bs [] h = tt
inits_below t bs (i ∷ is) h =
    let p = and_parts (init_fits t bs i) (list_all (init_fits t bs) is) h in (there i p.0, inits_below t bs is p.1)
  where
    get_below : (xs : List Block) (n : ℕ) (x : Block) → slice_get xs n ≡ Some x → n < length xs
    get_below [] n x e = absurd cc
    get_below (y ∷ xs) zero x e = omega arith
    get_below (y ∷ xs) (suc n) x e = omega (arith, get_below xs n x e)

    there : (i : core.Init) → init_fits t bs i ≡ true → i.block < length bs
    there i e = by (slice_get bs i.block) refl
      where
        by : (o : Option Block) → slice_get bs i.block ≡ o → i.block < length bs
        by None q = never (rw q at e)
        by (Some b) q = get_below bs i.block b q

not_same : (n : ℕ) (i : core.Init) (is : List core.Init) → i.block < n → AllFrom n is
    → list_any (is_same_leaf i) is ≡ false
not_same n i [] l h = refl
not_same n i (j ∷ is) l h =
    let k = h.0 in
    let e : nat_eq i.block j.block ≡ false = grind (arith, nat_tests) in
    let r = not_same n i is l h.1 in rw (e, r) refl

any_none : (p : core.Init → Bool) (xs ys : List core.Init) → list_any p xs ≡ false → list_any p ys ≡ false
    → list_any p (xs ++ ys) ≡ false
any_none p [] ys h k = k
any_none p (x ∷ xs) ys h k = by (p x) refl h (λ e. any_none p xs ys e k)
  where
    by : (b : Bool) → p x ≡ b → (b || list_any p xs) ≡ false → (list_any p xs ≡ false → list_any p (xs ++ ys) ≡ false)
        → list_any p (x ∷ (xs ++ ys)) ≡ false
    by true q e f = absurd (true≢false e)
    by false q e f = rw q (f e)

pub different_both : (n : ℕ) (xs ys : List core.Init) → are_different_leaves xs ≡ true
    → are_different_leaves ys ≡ true → AllBelow n xs → AllFrom n ys
    → are_different_leaves (xs ++ ys) ≡ true
different_both n [] ys h k b f = k
different_both n (x ∷ xs) ys h k b f =
    let p = and_parts (not (list_any (is_same_leaf x) xs)) (are_different_leaves xs) h in
    and_from (not (list_any (is_same_leaf x) (xs ++ ys))) (are_different_leaves (xs ++ ys))
    (ap not (any_none (is_same_leaf x) xs ys (no_so (list_any (is_same_leaf x) xs) p.0) (not_same n x ys b.0 f)))
    (different_both n xs ys p.1 k b.1 f)
  where
    no_so : (v : Bool) → not v ≡ true → v ≡ false
    no_so true e = never e
    no_so false e = refl

pub inits_stay : (t u : Table) → Grows t u → (bs more : List Block) (is : List core.Init)
    → list_all (init_fits t bs) is ≡ true
    → list_all (init_fits u (bs ++ more)) is ≡ true
inits_stay t u g bs more [] h = refl
inits_stay t u g bs more (i ∷ is) h =
    let p = and_parts (init_fits t bs i) (list_all (init_fits t bs) is) h in
    and_from _ _ (init_stays t u g bs more i p.0) (inits_stay t u g bs more is p.1)

pub all_inits_both : (t : Table) (bs : List Block) (is js : List core.Init) → list_all (init_fits t bs) is ≡ true
    → list_all (init_fits t bs) js ≡ true
    → list_all (init_fits t bs) (is ++ js) ≡ true
all_inits_both t bs [] js h k = k
all_inits_both t bs (i ∷ is) js h k =
    let p = and_parts (init_fits t bs i) (list_all (init_fits t bs) is) h in and_from _ _ p.0
    (all_inits_both t bs is js p.1 k)

-- globals, with first values of their blocks
pub record GlobalsCome (G H : Env) (is : List core.Init) : Type 0 where
  pub step : FileStep G H
  pub fit : list_all (init_fits H.types H.blocks) is ≡ true
  pub different : are_different_leaves is ≡ true
  pub from : AllFrom (length G.blocks) is

pub globals_on : (G H I : Env) (is js : List core.Init) → GlobalsCome G H is → GlobalsCome H I js
    → GlobalsCome G I (is ++ js)
globals_on G H I is js p q =
    let below_all = inits_below H.types H.blocks is p.fit in
    let longer : length H.blocks ≡ length G.blocks + length p.step.more = ap length p.step.blocks
    ∙ length-append G.blocks p.step.more in
    record {
      step = step_on G H I p.step q.step;
      fit = all_inits_both I.types I.blocks is js
          (subst (λ (bs : List Block). list_all (init_fits I.types bs) is ≡ true) (sym q.step.blocks)
          (inits_stay H.types I.types q.step.grows H.blocks q.step.more is p.fit)) q.fit;
      different = different_both (length H.blocks) is js p.different q.different below_all q.from;
      from = from_both is js p.from (from_lower (length H.blocks) (length G.blocks) js (omega (arith, longer)) q.from);
    }
  where
    from_lower : (n m : ℕ) (xs : List core.Init) → m ≤ n → AllFrom n xs → AllFrom m xs
    from_lower n m [] l h = tt
    from_lower n m (x ∷ xs) l h = ((let k = h.0 in omega (arith, l, k)), from_lower n m xs l h.1)

    from_both : (xs ys : List core.Init) → AllFrom (length G.blocks) xs → AllFrom (length G.blocks) ys
        → AllFrom (length G.blocks) (xs ++ ys)
    from_both [] ys h k = k
    from_both (x ∷ xs) ys h k = (h.0, from_both xs ys h.1 k)

covers_come : (P : Meaning → Type 0) (xs : List (List ℕ × Meaning)) (ss us : List Scope) → NamesCome xs ss us
    → EachMeaning P ss → EachName P xs
    → EachMeaning P us
covers_come P xs [] [] n h k = tt
covers_come P xs [] (u ∷ us) n h k = absurd n
covers_come P xs (s ∷ ss) [] n h k = absurd n
covers_come P xs (s ∷ ss) (u ∷ us) n h k =
    (subst (EachName P) n.0 (names_both P s.names xs h.0 k), each_same P ss us n.1 h.1)

one_come : (xs : List (List ℕ × Meaning)) (ss us : List Scope) (s : Scope) → NamesCome xs ss us → ss ≡ s ∷ []
    → (u : Scope) × (us ≡ u ∷ [])
one_come xs [] us s n e = absurd cc
one_come xs (t ∷ []) [] s n e = absurd n
one_come xs (t ∷ []) (u ∷ []) s n e = (u, refl)
one_come xs (t ∷ []) (u ∷ v ∷ us) s n e = absurd n.1
one_come xs (t ∷ r ∷ ss) us s n e = absurd cc

come_stays : (xs : List (List ℕ × Meaning)) (G H : Env) → NamesCome xs G.scopes H.scopes → StayNamed G H
come_stays xs G H n t m e = by G.scopes H.scopes n e
  where
    by : (ss us : List Scope) → NamesCome xs ss us → entry t (innermost (record G { scopes = ss })).names ≡ Some m
        → entry t (innermost (record H { scopes = us })).names ≡ Some m
    by [] [] k q = absurd cc
    by [] (u ∷ us) k q = absurd k
    by (s ∷ ss) [] k q = absurd k
    by (s ∷ ss) (u ∷ us) k q = subst (λ (ns : List (List ℕ × Meaning)). entry t ns ≡ Some m) k.0
        (entry_front t s.names xs m q)

global_comes : (G : Env) (c : Bool) (t : CType) (i : Init) (m : Made × Env) → AtFile G → HasNumber G.types t
    → MeansVariable G true c t i m
    → GlobalsCome G m.1 m.0.values
global_comes G c t i m h n (is_variable o g p q) =
    let scope : HasScope G = (h.scope, [], h.file) in
    let d = object_declared_is G true (count_listed i.value) t i.declarator o h.env n p in
    let x = object_comes G true (count_listed i.value) t i.declarator o scope p in
    let H = o.1 in
    let K = g.1 in
    let mention = first_mentions H true c i.declarator.line o.0 i.value g d.follows.env.declared q in
    let k = first_keeps H true c i.declarator.line o.0 i.value g q in
    let f = follows_mentions H K d.follows.env mention in
    let own : List (List ℕ × Meaning) = (x.name, env.variable (length G.blocks) o.0.ty) ∷ [] in
    let names : NamesCome own G.scopes K.scopes = come_on own [] G.scopes H.scopes K.scopes x.names
    (none_come H.scopes K.scopes k.names) in
    let blocks : K.blocks ≡ G.blocks ++ x.block ∷ [] = k.blocks ∙ x.blocks in
    let functions : K.functions ≡ G.functions = k.functions ∙ x.functions in
    let here : slice_get (G.blocks ++ x.block ∷ []) (length G.blocks) ≡ Some x.block = get_last G.blocks x.block in
    let one = one_come own G.scopes K.scopes h.scope names h.file in
    let table = d.follows.env.declared.table in
    let number : c_type_number H.types o.0.ty ≡ d.number.0 = c_number_is H.types o.0.ty d.number.0 d.number.1 in
    let z = map_some (λ (l : Layout). l.size) (layout_of H.types d.number.0) d.size
    (sym (same_size H.types table.built o.0.ty d.number.0 d.number.1) ∙ d.sized) in
    let inside : InBlock H.types H.blocks o.0 z.0 = record {
      number = d.number.0;
      has = d.number.1;
      laid = z.1;
      block = x.block;
      here = subst (λ (bs : List Block). slice_get bs o.0.block ≡ Some x.block) (sym x.blocks)
          (subst (λ (j : ℕ). slice_get (G.blocks ++ x.block ∷ []) j ≡ Some x.block) (sym x.number) here);
      is_global = x.is_global;
      whole = z.0;
      whole_laid = subst (λ (j : ℕ). layout_of H.types j ≡ Some z.0) (sym (x.typed ∙ number)) z.1;
      leaves = λ j w e.
          let b = x.begins in
          let same : j ≡ o.0.offset + j = omega (arith, b) in subst (λ (a : ℕ). has_leaf z.0.leaves a w ≡ true) same e;
    } in
    let asc = global_inits H H.blocks c i.declarator.line o.0 i.value g z.0 d.follows.env.declared inside q in
    let number_is = x.number in
    record {
      step = record {
        file = record {
          env = f.env;
          covers = covers_come (CanName K.blocks []) own G.scopes K.scopes names
              (subst (λ (bs : List Block). EachMeaning (CanName bs []) G.scopes) (sym blocks)
              (meaning_more (CanName G.blocks []) (CanName (G.blocks ++ x.block ∷ []) [])
              (globals_later G.blocks (x.block ∷ []) [])
              G.scopes h.covers)) (
                subst (λ (bs : List Block). (is_global (slice_get bs (length G.blocks)) || contains
                    (length G.blocks) []) ≡ true) (sym blocks)
                    (or_left (is_global (slice_get (G.blocks ++ x.block ∷ []) (length G.blocks)))
                    (contains (length G.blocks) [])
                    (ap is_global here ∙ x.is_global)),
                tt,
              );
          scope = one.0;
          file = one.1;
          numbered = subst AreNumbered (sym functions) h.numbered;
          fit = subst (λ (fs : List Signature). ScopesFit fs K.scopes) (sym functions)
              (scopes_fit_more G.functions own G.scopes K.scopes names (tt, tt) h.fit);
        };
        grows = grows-trans G.types H.types K.types d.follows.grows mention.grows;
        functions = functions;
        stays = come_stays own G K names;
        more = x.block ∷ [];
        blocks = blocks;
        counts = λ j.
            let e = globals_push G.blocks x.block j x.is_global in
            let a : globals K.blocks j ≡ globals (G.blocks ++ x.block ∷ []) j = ap
            (λ (bs : List Block). globals bs j) blocks in
            let s : length K.blocks ≡ suc (length G.blocks) = ap length blocks
            ∙ length-append G.blocks (x.block ∷ []) ∙ omega arith in
            let b : below (length K.blocks) j
            ≡ below (suc (length G.blocks)) j = ap (λ (v : ℕ). below v j) s in omega (arith, e, a, b);
      };
      fit = subst (λ (bs : List Block). list_all (init_fits K.types bs) g.0.values ≡ true) (sym k.blocks)
          (ascending_fit K.types H.blocks o.0.block o.0.offset (o.0.offset + z.0.size) g.0.values asc);
      different = ascending_different K.types H.blocks o.0.block o.0.offset (o.0.offset + z.0.size) g.0.values asc;
      from = all_from K.types H.blocks o.0.block o.0.offset (o.0.offset + z.0.size) g.0.values
          (omega (arith, number_is)) asc;
    }
  where
    all_from : (t : Table) (bs : List Block) (b lo hi : ℕ) (is : List core.Init) → length G.blocks ≤ b
        → Ascends t bs b lo hi is
        → AllFrom (length G.blocks) is
    all_from t bs b lo hi [] l a = tt
    all_from t bs b lo hi (i ∷ is) l a =
        ((let e = a.0 in omega (arith, l, e)), all_from t bs b (suc i.offset) hi is l a.3)

globals_come : (G : Env) (c : Bool) (t : CType) (is : List Init) (m : Made × Env) → AtFile G → HasNumber G.types t
    → MeansVariables G true c t is m
    → GlobalsCome G m.1 m.0.values
globals_come G c t is m h n no_variables = record { step = step_itself G h; fit = refl; different = refl; from = tt }
globals_come G c t is m h n (more_variables {i = i} {vs = vs} a b p q) =
    let x = global_comes G c t i a h n p in
    globals_on G a.1 b.1 a.0.values b.0.values x
    (globals_come a.1 c t vs b x.step.file
    (has_number_stays G.types a.1.types x.step.grows x.step.file.env.declared.table.built t n) q)

pub global_item : (G : Env) (d : Declaration) (m : Made × Env) → AtFile G → MeansDeclaration G true true d m
    → GlobalsCome G m.1 m.0.values
global_item G d m h (is_declaration t n p q) =
    let s = specified G [] [] (to_specs d.specs) t h.env.declared p in
    let a = declares_step G t.1 h s.declares in
    let b = globals_come t.1 true t.0 d.inits m a.file s.number q in
    globals_on G t.1 m.1 [] m.0.values (record { step = a; fit = refl; different = refl; from = tt }) b
