-- What the items of a text keep.
use Rattle.std.proofs.Common.{◌≡◌, ℕ, ◌+◌, ◌<◌, ◌≤◌, nat_eq, nat_lt, true, false, cond, List, [], ◌∷◌, ◌++◌, length}
use Rattle.ep_int.proofs.Basics.{append-assoc}
use Rattle.std.proofs.Common.{length-append, slice_get, Option, Some, None, refl, sym, ap, ◌∙◌, subst, inl, inr}
use Rattle.std.proofs.Common.{arith}
use Rattle.std.specs.List.{list_all}
use Rattle.std.proofs.lemmas.Bool.Decides.{nat_tests}
use Rattle.ep_int.specs.declared.types.Model.{Model}
use Rattle.ep_ast.specs.Declaration.{Head, to_specs}
use Rattle.ep_ast.specs.Statement.{Function, Item, to_parts}
use Rattle.ep_layout.specs.Table.{Grows}
use Rattle.ep_layout.specs.Table.IsBuilt.{start as built_start}
use Rattle.ep_core.specs.Program as core
use Rattle.ep_core.specs.Program.{Block}
use Rattle.ep_core.specs.WellFormed.{are_different_leaves, init_fits, own_blocks}
use Rattle.ep_typing.specs.Env.{Env, Signature, no_names}
use Rattle.ep_elaboration.specs.Calls.{Placed, conditionals, in_arm, in_function, in_functions, in_item, in_items}
use Rattle.ep_elaboration.specs.Calls.{stands_in_parts}
use Rattle.ep_elaboration.specs.Functions.{Defined, numbers_of, signature_of}
use Rattle.ep_elaboration.specs.Programs.{Sofar, begun, functions_in, with_defined, with_env}
use Rattle.ep_elaboration.specs.Statements.{left, outer}
use Rattle.ep_elaboration.specs.FunctionRules.{MeansPrototype, is_prototype}
use Rattle.ep_elaboration.specs.ProgramRules.{MeansItem, MeansItems, item_arms, item_completes, item_declares}
use Rattle.ep_elaboration.specs.ProgramRules.{item_defines, item_prototype, item_typedefs, more_items, no_items}
use Rattle.ep_well_formed_laws.specs.Environments.{CanName, EachMeaning}
use Rattle.ep_well_formed_laws.proofs.DefinedFunctions.{behind_head, function_comes}
use Rattle.ep_well_formed_laws.proofs.Heads.{head_comes}
use Rattle.ep_well_formed_laws.proofs.Scopes.{HaveNames, each_same}
use Rattle.ep_well_formed_laws.proofs.Specs.{body_specified, specified}
use Rattle.ep_well_formed_laws.proofs.Steps.{nothing_more}
use Rattle.ep_well_formed_laws.proofs.Arms.{Advances, AllNamed, arms_walk, definition_advances, definition_named}
use Rattle.ep_well_formed_laws.proofs.Arms.{definition_numbers, each_fits_later, named_on}
use Rattle.ep_well_formed_laws.proofs.Counts.{below, count, count_both}
use Rattle.ep_well_formed_laws.proofs.CallNames.{CallsTo, EachCall, ScopesFit, each_call, scopes_fit_same}
use Rattle.ep_well_formed_laws.proofs.DefinedFits.{DefinedFits, defined_stays}
use Rattle.ep_well_formed_laws.proofs.ProgramDefinitions.{definition_walks}
use Rattle.ep_well_formed_laws.proofs.FileSteps.{FileStep, GlobalsCome, all_inits_both, declares_step, different_both}
use Rattle.ep_well_formed_laws.proofs.FileSteps.{global_item, globals, globals_local, inits_below, inits_stay, step_named}
use Rattle.ep_well_formed_laws.proofs.FileSteps.{typedef_item}
use Rattle.ep_well_formed_laws.proofs.FunctionNames.{AreNumbered, declared_as, same_file_names}
use Rattle.ep_well_formed_laws.proofs.FunctionParts.{AtFile, one_scope}
use Rattle.ep_well_formed_laws.proofs.TextCalls.{BodyCalls, CalledIn, EachDefined, NumbersFit, all_own, called_back}
use Rattle.ep_well_formed_laws.proofs.TextCalls.{called_front, called_later, called_of, each_both, each_defined}
use Rattle.ep_well_formed_laws.proofs.TextCalls.{numbers_both, own_both}

-- ---- prototypes

record PrototypeWalks (G H : Env) : Type 0 where
  file : AtFile H
  grows : Grows G.types H.types
  blocks : H.blocks ≡ G.blocks
  late : List Signature
  functions : H.functions ≡ G.functions ++ late
  named : AllNamed G → AllNamed H

prototype_walks : (G : Env) (ds : List ℕ) (h : Head) (H : Env) → AtFile G → MeansPrototype G ds h H → PrototypeWalks G H
prototype_walks G ds h H f (is_prototype x n m e) =
    let R = x.1 in
    let L = left R in
    let k = head_comes G (length G.blocks) h x f.env.declared m in
    let o : outer R.scopes ≡ k.scopes = ap outer k.is in
    let names : HaveNames G.scopes L.scopes = subst (HaveNames G.scopes) (sym o) k.outer in
    let one = one_scope G.scopes L.scopes f.scope names f.file in
    let l = behind_head G R (length G.blocks) x.0 f.env k in
    let fc = function_comes L ds false (signature_of h x.0) n l (record { params = k.passed; result = k.result }) e in
    let fit = subst (λ (fs : List Signature). ScopesFit fs L.scopes) (sym k.functions)
    (scopes_fit_same G.functions G.scopes L.scopes names f.fit) in
    let d = declared_as L ds false (signature_of h x.0) n (one.0, [], one.1)
    (subst AreNumbered (sym k.functions) f.numbered) fit e in
    let v = d.file one.0 one.1 in
    record {
      file = record {
        env = fc.env;
        covers = fc.names (subst (EachMeaning (CanName R.blocks [])) (sym o)
            (each_same (CanName R.blocks []) G.scopes k.scopes k.outer
            (subst (λ (ys : List Block). EachMeaning (CanName ys []) G.scopes) (sym k.blocks) f.covers)));
        scope = v.0;
        file = v.1;
        numbered = d.numbered;
        fit = d.fit;
      };
      grows = subst (Grows G.types) (sym fc.types) k.grows;
      blocks = fc.blocks ∙ k.blocks;
      late = d.more;
      functions = d.functions ∙ ap (λ (fs : List Signature). fs ++ d.more) k.functions;
      named = λ all. named_on G n.1 h.name n.0 d.is all
          (λ j r q. elim (d.names j r q) [
            | inl old ↦ inl (subst (λ (fs : List Signature). slice_get fs j ≡ Some r) k.functions old)
            | inr w ↦ inr w
          ])
          (λ t y q. d.stays t y (same_file_names G L names t y q)) d.named d.numbered d.here (sym d.name);
    }

-- ---- what is kept

pub record Holds (s : Sofar) (ps : List Placed) : Type 0 where
  pub file : AtFile s.env
  pub all_named : AllNamed s.env
  pub fits : EachDefined (DefinedFits s.env.types s.env.blocks s.env.functions) s.defined
  pub numbers : NumbersFit (numbers_of s.defined) (length s.env.functions)
  pub lists : (c : ℕ) → count c (all_own s.defined) + globals s.env.blocks c ≡ below (length s.env.blocks) c
  pub calls : EachDefined (BodyCalls s.env.functions ps) s.defined
  pub inits : list_all (init_fits s.env.types s.env.blocks) s.values ≡ true
  pub different : are_different_leaves s.values ≡ true

-- functions go on while blocks and functions come
module _ (G H : Env) (grows : Grows G.types H.types) (h : AtFile H) (more : List Block)
    (blocks : H.blocks ≡ G.blocks ++ more)
    (late : List Signature) (functions : H.functions ≡ G.functions ++ late) where
  kept_fits : (ds : List Defined) → EachDefined (DefinedFits G.types G.blocks G.functions) ds
      → EachDefined (DefinedFits H.types H.blocks H.functions) ds
  kept_fits ds k = each_defined (DefinedFits G.types G.blocks G.functions) (DefinedFits H.types H.blocks H.functions)
      (λ d q. subst (λ (fs : List Signature). DefinedFits H.types H.blocks fs d) (sym functions)
      (subst (λ (bs : List Block). DefinedFits H.types bs (G.functions ++ late) d) (sym blocks)
      (defined_stays G.types H.types grows h.env.declared.table.built G.blocks more G.functions late d q))) ds k

  kept_inits : (is : List core.Init) → list_all (init_fits G.types G.blocks) is ≡ true
      → list_all (init_fits H.types H.blocks) is ≡ true
  kept_inits is k = subst (λ (bs : List Block). list_all (init_fits H.types bs) is ≡ true) (sym blocks)
      (inits_stay G.types H.types grows G.blocks more is k)

  kept_numbers : (ns : List ℕ) → NumbersFit ns (length G.functions) → NumbersFit ns (length H.functions)
  kept_numbers ns n = record {
    once = n.once;
    small = λ k l.
        let s : k < length G.functions = n.small k l in
        let e : length H.functions ≡ length G.functions + length late = ap length functions
        ∙ length-append G.functions late in
        omega (arith, s, e);
  }

  kept_calls : (ps qs : List Placed) (ds : List Defined) → EachDefined (BodyCalls G.functions ps) ds
      → EachDefined (BodyCalls H.functions (ps ++ qs)) ds
  kept_calls ps qs ds k = each_defined (BodyCalls G.functions ps) (BodyCalls H.functions (ps ++ qs))
      (λ d q. each_call (λ j. CalledIn G.functions d.function.name j ps)
      (λ j. CalledIn H.functions d.function.name j (ps ++ qs))
      (λ j c. called_front H.functions d.function.name j ps qs
      (subst (λ (fs : List Signature). CalledIn fs d.function.name j ps) (sym functions)
      (called_later G.functions late d.function.name j ps c))) d.function.body q) ds k

-- no functions come
holds_step : (s : Sofar) (H : Env) (is : List core.Init) (ps qs : List Placed) → Holds s ps → GlobalsCome s.env H is
    → Holds (record s { env = H; values = s.values ++ is }) (ps ++ qs)
holds_step s H is ps qs h g =
    let p = g.step in
    let functions : H.functions ≡ s.env.functions ++ [] = p.functions ∙ nothing_more s.env.functions in
    let kept = kept_inits s.env H p.grows p.file p.more p.blocks [] functions s.values h.inits in
    record {
      file = p.file;
      all_named = step_named s.env H p h.all_named;
      fits = kept_fits s.env H p.grows p.file p.more p.blocks [] functions s.defined h.fits;
      numbers = kept_numbers s.env H p.grows p.file p.more p.blocks [] functions (numbers_of s.defined) h.numbers;
      lists = λ c. let e = h.lists c in let f = p.counts c in omega (arith, e, f);
      calls = kept_calls s.env H p.grows p.file p.more p.blocks [] functions ps qs s.defined h.calls;
      inits = all_inits_both H.types H.blocks s.values is kept g.fit;
      different = different_both (length s.env.blocks) s.values is h.different g.different
          (inits_below s.env.types s.env.blocks s.values h.inits) g.from;
    }

no_more_inits : (is : List core.Init) → is ++ [] ≡ is
no_more_inits is = sym (nothing_more is)

holds_env : (s : Sofar) (H : Env) (ps qs : List Placed) → Holds s ps → FileStep s.env H
    → Holds (with_env s H) (ps ++ qs)
holds_env s H ps qs h p =
    let k = holds_step s H [] ps qs h (record { step = p; fit = refl; different = refl; from = tt }) in
    subst (λ (is : List core.Init). Holds (record s { env = H; values = is }) (ps ++ qs)) (no_more_inits s.values) k

-- functions come with their blocks
holds_defined : (s : Sofar) (H : Env) (ds : List Defined) (ps qs : List Placed) → Holds s ps → AtFile H
    → Advances s.env H → AllNamed H
    → EachDefined (DefinedFits H.types H.blocks H.functions) ds
    → ((c : ℕ) → count c (all_own ds) + below (length s.env.blocks) c ≡ below (length H.blocks) c)
    → EachDefined (BodyCalls H.functions qs) ds
    → ((k : ℕ) → count k (numbers_of ds) + count k (numbers_of s.defined) ≤ 1)
    → ((k : ℕ) → 1 ≤ count k (numbers_of ds) + count k (numbers_of s.defined) → k < length H.functions)
    → Holds (with_defined s (ds, H)) (ps ++ qs)
holds_defined s H ds ps qs h file a named fits lists calls once small = record {
  file = file;
  all_named = named;
  fits = each_both (DefinedFits H.types H.blocks H.functions) s.defined ds
      (each_fits_later s.env H a file.env.declared.table.built s.defined h.fits) fits;
  numbers = record {
    once = λ k. let e = numbers_both k s.defined ds in let l = once k in omega (arith, e, l);
    small = λ k l. let e = numbers_both k s.defined ds in small k (omega (arith, e, l));
  };
  lists = λ c.
      let e = h.lists c in
      let f = lists c in
      let g = own_both c s.defined ds in
      let i : globals H.blocks c ≡ globals s.env.blocks c =
      ap (λ (bs : List Block). globals bs c) a.blocks.is ∙ globals_local s.env.blocks a.blocks.more c a.blocks.local in
      omega (arith, e, f, g, i);
  calls = each_both (BodyCalls H.functions (ps ++ qs)) s.defined ds
      (kept_calls s.env H a.grows file a.blocks.more a.blocks.is a.late a.functions ps qs s.defined h.calls)
      (each_defined (BodyCalls H.functions qs) (BodyCalls H.functions (ps ++ qs))
      (λ d q. each_call (λ j. CalledIn H.functions d.function.name j qs)
      (λ j. CalledIn H.functions d.function.name j (ps ++ qs))
      (λ j c. called_back H.functions d.function.name j ps qs c) d.function.body q) ds calls);
  inits = kept_inits s.env H a.grows file a.blocks.more a.blocks.is a.late a.functions s.values h.inits;
  different = h.different;
}

-- ---- items

item_holds : (s u : Sofar) (i : Item) (ps : List Placed) → Holds s ps → MeansItem s i u → Holds u (ps ++ in_item i)
item_holds s u i ps h (item_typedefs {t = t} c H m n) =
    let k = specified s.env [] [] (to_specs t.specs) c h.file.env.declared m in
    holds_env s H ps (in_item i) h (typedef_item s.env t c H h.file k.declares k.number n)
item_holds s u i ps h (item_defines {f = f} d m) =
    let G = s.env in
    let ds = numbers_of s.defined in
    let w = definition_walks G ds 0 f d h.file m in
    let H = d.1 in
    let n = definition_numbers G ds 0 f H d.0 h.all_named h.numbers w in
    let calls : BodyCalls H.functions (in_function 0 f) d.0 =
    subst (λ (t : List ℕ). EachCall (λ k. CalledIn H.functions t k (in_function 0 f)) d.0.function.body) (sym w.name)
    (each_call (λ k. CallsTo H.functions k (stands_in_parts 0 (to_parts f.body.parts)))
    (λ k. CalledIn H.functions f.head.name k (in_function 0 f))
    (λ k c. called_of H.functions f.head.name k (stands_in_parts 0 (to_parts f.body.parts)) c) d.0.function.body
    w.calls) in
    holds_defined s H (d.0 ∷ []) ps (in_item i) h w.file (definition_advances G ds 0 f H d.0 w)
    (definition_named G ds 0 f H d.0 h.all_named w) (w.fits, tt)
    (λ c. let e = w.lists c in let g = count_both c (own_blocks d.0.function) [] in omega (arith, e, g))
    (calls, tt)
    (λ k. let l : cond (nat_eq k d.0.number) 1 0 + count k ds ≤ 1 = n.once k in omega (arith, l))
    (λ k l. n.small k (let z : 1 ≤ (cond (nat_eq k d.0.number) 1 0 + 0) + count k ds = l in omega (arith, z)))
item_holds s u i ps h (item_prototype {h = d} H m) =
    let w = prototype_walks s.env (numbers_of s.defined) d H h.file m in
    let blocks : H.blocks ≡ s.env.blocks ++ [] = w.blocks ∙ nothing_more s.env.blocks in
    record {
      file = w.file;
      all_named = w.named h.all_named;
      fits = kept_fits s.env H w.grows w.file [] blocks w.late w.functions s.defined h.fits;
      numbers = kept_numbers s.env H w.grows w.file [] blocks w.late w.functions (numbers_of s.defined) h.numbers;
      lists = λ c.
          let e = h.lists c in
          let f : globals H.blocks c ≡ globals s.env.blocks c = ap (λ (bs : List Block). globals bs c) w.blocks in
          let g : below (length H.blocks) c
          ≡ below (length s.env.blocks) c = ap (λ (bs : List Block). below (length bs) c) w.blocks in
          omega (arith, e, f, g);
      calls = kept_calls s.env H w.grows w.file [] blocks w.late w.functions ps (in_item i) s.defined h.calls;
      inits = kept_inits s.env H w.grows w.file [] blocks w.late w.functions s.values h.inits;
      different = h.different;
    }
item_holds s u i ps h (item_declares {d = d} m k) = holds_step s m.1 m.0.values ps (in_item i) h
    (global_item s.env d m h.file k)
item_holds s u i ps h (item_completes {a = a} c m) =
    let k = body_specified s.env [] a c h.file.env.declared m in
    holds_env s c.1 ps (in_item i) h (declares_step s.env c.1 h.file k.declares)
item_holds s u i ps h (item_arms {l = l} {o = o} {fs = fs} {gs = gs} d m) =
    let ds = numbers_of s.defined in
    let w = arms_walk s.env ds l o fs (functions_in gs) d h.file h.all_named h.numbers m in
    let qs = conditionals fs ++ (in_functions 1 fs ++ in_functions 1 (functions_in gs)) in
    let same : qs ≡ conditionals fs
    ++ (in_functions 1 fs ++ in_arm gs) = ap
    (λ (xs : List Placed). conditionals fs ++ (in_functions 1 fs ++ xs)) (arm_is gs) in
    subst (λ (xs : List Placed). Holds (with_defined s d) (ps ++ xs)) same
    (holds_defined s d.1 d.0 ps qs h w.file w.advances w.all_named w.fits w.lists w.calls w.once w.small)
  where
    arm_is : (gs : Option (List Function)) → in_functions 1 (functions_in gs) ≡ in_arm gs
    arm_is None = refl
    arm_is (Some xs) = refl

items_hold : (s v : Sofar) (is : List Item) (ps : List Placed) → Holds s ps → MeansItems s is v
    → Holds v (ps ++ in_items is)
items_hold s v is ps h no_items = subst (Holds s) (nothing_more ps) h
items_hold s v is ps h (more_items {i = i} {is = js} u w m n) =
    subst (Holds v) (append-assoc ps (in_item i) (in_items js))
    (items_hold u v js (ps ++ in_item i) (item_holds s u i ps h m) n)

begins : (m : Model) → Holds (begun m) []
begins m = record {
  file = record {
    env = record {
      declared = record {
        table = record {
          built = built_start m;
          arrays = λ n e k q. absurd cc;
          bodies = λ a g ms q r. absurd cc;
        };
        fields = tt;
        names = (tt, tt);
        tags = (tt, tt);
        functions = λ n s q. absurd cc;
      };
      places = (tt, tt);
      blocks = λ b x q. absurd cc;
    };
    covers = (tt, tt);
    scope = no_names;
    file = refl;
    numbered = record { unique = λ k r q. absurd cc; mains = λ k r q. absurd cc };
    fit = (tt, tt);
  };
  all_named = λ k r q. absurd cc;
  fits = tt;
  numbers = record { once = λ k. omega arith; small = λ k l. absurd (omega (arith, l)) };
  lists = λ c. none_below c;
  calls = tt;
  inits = refl;
  different = refl;
}
  where
    none_below : (c : ℕ) → 0 + 0 ≡ below 0 c
    none_below c = let e : nat_lt c 0 ≡ false = grind (arith, nat_tests) in rw e (omega arith)

-- behind the whole text
pub text_holds : (m : Model) (is : List Item) (s : Sofar) → MeansItems (begun m) is s → Holds s (in_items is)
text_holds m is s h = items_hold (begun m) s is [] (begins m) h
