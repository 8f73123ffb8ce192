-- Functions by byte order.
use Rattle.std.proofs.Common.{◌≡◌, ℕ, zero, suc, ◌+◌, ◌<◌, ◌≤◌, nat_eq, Bool, true, false, true≢false, cond, ◌&&◌}
use Rattle.ep_layout.proofs.Basics.{grows-trans}
use Rattle.ep_int.proofs.Basics.{append-assoc, slice_get-append, bytes_eq-equal}
use Rattle.std.proofs.Common.{◌||◌, List, [], ◌∷◌, ◌++◌, length, length-append, map, slice_get, option_to_list}
use Rattle.std.proofs.Common.{Option, Some, None, bytes_eq, refl, sym, ap, ◌∙◌, subst, ◌⊎◌, inl, inr, arith}
use Rattle.std.proofs.lemmas.Bool.Decides.{nat_tests}
use Rattle.std.proofs.lemmas.Bool.{and_parts}
use Rattle.ep_int.specs.Memory.{contains}
use Rattle.ep_ast.specs.declared.orders.NamedOrder.{NamedOrder}
use Rattle.ep_ast.specs.Statement.{Function, to_parts}
use Rattle.ep_layout.specs.Table.{Grows, IsBuilt}
use Rattle.ep_layout.proofs.Options.{same_some}
use Rattle.ep_layout.proofs.Recursion.{kept_by_itself}
use Rattle.ep_core.specs.Program as core
use Rattle.ep_core.specs.Program.{Block}
use Rattle.ep_core.specs.Exec.{first_of}
use Rattle.ep_core.specs.WellFormed.{own_blocks, scoped}
use Rattle.ep_typing.specs.Env as env
use Rattle.ep_typing.specs.Env.{Env, Meaning, Scope, Signature, entry}
use Rattle.ep_elaboration.specs.Calls.{Placed, conditionals, in_function, in_functions, stands_in_parts}
use Rattle.ep_elaboration.specs.Functions.{Body, Defined, all_joined}
use Rattle.ep_elaboration.specs.Functions.{file_names, have_same_names, joined, number_of_function, numbers_of}
use Rattle.ep_elaboration.specs.Functions.{params_of}
use Rattle.ep_elaboration.specs.FunctionRules.{ArmsAgree, MeansArms, MeansDefinitions, MeansOthers, is_arms}
use Rattle.ep_elaboration.specs.FunctionRules.{more_arms, more_definitions, no_arms, more_others, no_definitions, no_others}
use Rattle.ep_well_formed_laws.specs.Environments.{CanName, EachMeaning, IsPlaced}
use Rattle.ep_well_formed_laws.proofs.Additions.{type_number_stays}
use Rattle.ep_well_formed_laws.proofs.DefinedFunctions.{globals_later}
use Rattle.ep_well_formed_laws.proofs.Mentions.{with_table}
use Rattle.ep_well_formed_laws.proofs.Scopes.{meaning_more}
use Rattle.ep_well_formed_laws.proofs.Steps.{nothing_more}
use Rattle.ep_well_formed_laws.proofs.Counts.{below, contains_counted, count, count_both, counted_contains}
use Rattle.ep_well_formed_laws.proofs.CallNames.{CallsTo, EachCall, ScopesFit, each_call}
use Rattle.ep_well_formed_laws.proofs.DefinedFits.{BodyFits, DefinedFits, body_stays, defined_stays}
use Rattle.ep_well_formed_laws.proofs.ProgramDefinitions.{DefinitionWalks, definition_walks}
use Rattle.ep_well_formed_laws.proofs.FunctionNames.{AreNumbered, StayNamed, number_is, scopes_front}
use Rattle.ep_well_formed_laws.proofs.FunctionParts.{AllIn, AtFile}
use Rattle.ep_well_formed_laws.proofs.Others.{other_walks}
use Rattle.ep_well_formed_laws.proofs.TextCalls.{BodyCalls, CalledIn, EachDefined, NumbersFit, all_own, called_back}
use Rattle.ep_well_formed_laws.proofs.TextCalls.{called_front, called_of, calls_later, each_defined}
use Rattle.ep_well_formed_laws.proofs.Walks.{LocalCome, blocks_on, no_block}

-- ---- environments that go on

pub record Advances (G H : Env) : Type 0 where
  pub grows : Grows G.types H.types
  pub blocks : LocalCome G.blocks H.blocks
  pub late : List Signature
  pub functions : H.functions ≡ G.functions ++ late

pub advances_itself : (G : Env) → Advances G G
advances_itself G = record {
  grows = kept_by_itself G.types;
  blocks = no_block G.blocks;
  late = [];
  functions =
      nothing_more G.functions;
}

pub advances_on : (G H I : Env) → Advances G H → Advances H I → Advances G I
advances_on G H I p q = record {
  grows = grows-trans G.types H.types I.types p.grows q.grows;
  blocks = blocks_on G.blocks H.blocks I.blocks p.blocks q.blocks;
  late = p.late ++ q.late;
  functions = q.functions ∙ ap (λ (fs : List Signature). fs ++ q.late) p.functions
      ∙ append-assoc G.functions p.late q.late;
}

-- all functions can be named at file scope
abbrev pub AllNamed : Env → Type 0
AllNamed G = (k : ℕ) (r : Signature) → slice_get G.functions k ≡ Some r
    → entry r.name (file_names G) ≡ Some (env.function k)

pub none_unnamed : (G : Env) → AllNamed G → (t : List ℕ) → entry t (file_names G) ≡ None
    → number_of_function G.functions t ≡ None
none_unnamed G h t e = by (number_of_function G.functions t) refl
  where
    by : (o : Option ℕ) → number_of_function G.functions t ≡ o → o ≡ None
    by None q = refl
    by (Some k) q =
        let r = number_is G.functions t k q in
        absurd (let z : None ≡ Some (env.function k) = sym e ∙ ap (λ (n : List ℕ). entry n (file_names G)) r.2
        ∙ h k r.0 r.1 in cc)

-- what is kept of a function, later
module _ (G H : Env) (a : Advances G H) (built : IsBuilt H.types) where
  pub fits_later : (d : Defined) → DefinedFits G.types G.blocks G.functions d
      → DefinedFits H.types H.blocks H.functions d
  fits_later d h =
      subst (λ (fs : List Signature). DefinedFits H.types H.blocks fs d) (sym a.functions)
      (subst (λ (bs : List Block). DefinedFits H.types bs (G.functions ++ a.late) d) (sym a.blocks.is)
      (defined_stays G.types H.types a.grows built G.blocks a.blocks.more G.functions a.late d h))

  pub body_later : (d : Defined) (locals : List ℕ) (ss : core.Stmts) → DefinedFits G.types G.blocks G.functions d
      → BodyFits G.types G.blocks G.functions d.function locals ss
      → BodyFits H.types H.blocks H.functions d.function locals ss
  body_later d locals ss k h =
      subst (λ (fs : List Signature). BodyFits H.types H.blocks fs d.function locals ss) (sym a.functions)
      (subst (λ (bs : List Block). BodyFits H.types bs (G.functions ++ a.late) d.function locals ss) (sym a.blocks.is)
      (body_stays G.types H.types a.grows built G.blocks a.blocks.more G.functions a.late d.function locals ss
      k.result_holds h))

  pub stands_later : (k : ℕ) (f : Function) → CallsTo G.functions k (stands_in_parts 1 (to_parts f.body.parts))
      → CallsTo H.functions k (stands_in_parts 1 (to_parts f.body.parts))
  stands_later k f h =
      subst (λ (fs : List Signature). CallsTo fs k (stands_in_parts 1 (to_parts f.body.parts))) (sym a.functions)
      (calls_later G.functions a.late k (stands_in_parts 1 (to_parts f.body.parts)) h)

  pub each_fits_later : (ds : List Defined) → EachDefined (DefinedFits G.types G.blocks G.functions) ds
      → EachDefined (DefinedFits H.types H.blocks H.functions) ds
  each_fits_later ds h = each_defined (DefinedFits G.types G.blocks G.functions)
      (DefinedFits H.types H.blocks H.functions) fits_later ds h

-- ---- names of functions of the text

abbrev pub AmongNames : List ℕ → List Function → Type 0
AmongNames t [] = ⊥
AmongNames t (f ∷ fs) = (t ≡ f.head.name) ⊎ AmongNames t fs

-- functions that were defined by these
abbrev pub NamesAre : List Function → List Defined → Type 0
NamesAre [] [] = Unit {0}
NamesAre [] (d ∷ ds) = ⊥
NamesAre (f ∷ fs) [] = ⊥
NamesAre (f ∷ fs) (d ∷ ds) = (d.function.name ≡ f.head.name) × NamesAre fs ds

-- what their bodies call stands in the text
abbrev pub ArmCalls : List Signature → List Function → List core.Stmts → Type 0
ArmCalls sigs [] ss = Unit {0}
ArmCalls sigs (f ∷ fs) [] = Unit {0}
ArmCalls sigs (f ∷ fs) (s ∷ ss) =
    EachCall (λ k. CallsTo sigs k (stands_in_parts 1 (to_parts f.body.parts))) s × ArmCalls sigs fs ss

abbrev pub bodies_of : List Defined → List core.Stmts
bodies_of ds = map (λ (d : Defined). d.function.body) ds

abbrev pub stmts_of : List Body → List core.Stmts
stmts_of bs = map (λ (b : Body). b.stmts) bs

-- ---- a function more that is named

pub named_on : (G H : Env) (t : List ℕ) (n : ℕ) (s : Signature) → AllNamed G
    → ((k : ℕ) (r : Signature) → slice_get H.functions k ≡ Some r → (slice_get G.functions k ≡ Some r) ⊎ (r.name ≡ t))
    → StayNamed G H → entry t (file_names H) ≡ Some (env.function n) → AreNumbered H.functions
    → slice_get H.functions n ≡ Some s
    → s.name ≡ t → AllNamed H
named_on G H t n s h names stays named numbered here name k r q = elim (names k r q) [
  | inl old ↦ stays r.name (env.function k) (h k r old)
  | inr e ↦
      let a : number_of_function H.functions t ≡ Some k = ap (number_of_function H.functions) (sym e)
      ∙ numbered.unique k r q in
      let b : number_of_function H.functions t ≡ Some n = ap (number_of_function H.functions) (sym name)
      ∙ numbered.unique n s here in
      let same : n ≡ k = same_some n k (number_of_function H.functions t) b a in
      ap (λ (x : List ℕ). entry x (file_names H)) e ∙ named ∙ ap (λ (j : ℕ). Some (env.function j)) same
]

-- ---- the first arm

pub record ArmWalks (G H : Env) (ds : List ℕ) (fs : List Function) (xs : List Defined) : Type 0 where
  pub file : AtFile H
  pub advances : Advances G H
  pub names : (k : ℕ) (r : Signature) → slice_get H.functions k ≡ Some r
      → (slice_get G.functions k ≡ Some r) ⊎ AmongNames r.name fs
  pub all_named : AllNamed H
  pub fits : EachDefined (DefinedFits H.types H.blocks H.functions) xs
  pub are : NamesAre fs xs
  pub lists : (c : ℕ) → count c (all_own xs) + below (length G.blocks) c ≡ below (length H.blocks) c
  pub calls : ArmCalls H.functions fs (bodies_of xs)
  pub once : (k : ℕ) → count k (numbers_of xs) + count k ds ≤ 1
  pub small : (k : ℕ) → 1 ≤ count k (numbers_of xs) + count k ds → k < length H.functions

pub definition_named : (G : Env) (ds : List ℕ) (round : ℕ) (f : Function) (H : Env) (d : Defined) → AllNamed G
    → DefinitionWalks G H ds round f d → AllNamed H
definition_named G ds round f H d h w =
    named_on G H f.head.name d.number w.fits.signature h w.names w.stays w.named w.file.numbered w.fits.is
    (sym w.fits.name ∙ w.name)

pub definition_advances : (G : Env) (ds : List ℕ) (round : ℕ) (f : Function) (H : Env) (d : Defined)
    → DefinitionWalks G H ds round f d → Advances G H
definition_advances G ds round f H d w =
    record { grows = w.grows; blocks = w.blocks; late = w.late; functions = w.functions }

pub not_there : (k : ℕ) (xs : List ℕ) → contains k xs ≡ false → count k xs ≡ 0
not_there k [] e = refl
not_there k (x ∷ xs) e = by (nat_eq k x) refl e (not_there k xs)
  where
    by : (b : Bool) → nat_eq k x ≡ b → (b || contains k xs) ≡ false → (contains k xs ≡ false → count k xs ≡ 0)
        → cond b 1 0 + count k xs ≡ 0
    by true q r g = absurd (true≢false r)
    by false q r g = let y : count k xs ≡ 0 = g r in omega (arith, y)

-- the number of a definition is new
pub definition_numbers : (G : Env) (ds : List ℕ) (round : ℕ) (f : Function) (H : Env) (d : Defined) → AllNamed G
    → NumbersFit ds (length G.functions) → DefinitionWalks G H ds round f d
    → NumbersFit (d.number ∷ ds) (length H.functions)
definition_numbers G ds round f H d h n w =
    let absent = w.fresh (none_unnamed G h f.head.name) (λ k c. n.small k (contains_counted k ds c)) in
    let zero_times : count d.number ds ≡ 0 = not_there d.number ds absent in
    let longer : length H.functions ≡ length G.functions + length w.late = ap length w.functions
    ∙ length-append G.functions w.late in
    record {
      once = λ k. once k (nat_eq k d.number) refl zero_times (n.once k);
      small = λ k l. small k (nat_eq k d.number) refl l longer;
    }
  where
    once : (k : ℕ) (b : Bool) → nat_eq k d.number ≡ b → count d.number ds ≡ 0 → count k ds ≤ 1
        → cond b 1 0 + count k ds ≤ 1
    once k true q z l =
        let e : k ≡ d.number = grind (arith, nat_tests) in
        let y : count k ds ≡ 0 = ap (λ (j : ℕ). count j ds) e ∙ z in omega (arith, y)
    once k false q z l = omega (arith, l)

    small : (k : ℕ) (b : Bool) → nat_eq k d.number ≡ b → 1 ≤ cond b 1 0 + count k ds
        → length H.functions ≡ length G.functions + length w.late → k < length H.functions
    small k true q l e =
        let f : k ≡ d.number = grind (arith, nat_tests) in
        subst (λ (j : ℕ). j < length H.functions) (sym f) (there H.functions d.number w.fits.signature w.fits.is)
      where
        there : (xs : List Signature) (i : ℕ) (x : Signature) → slice_get xs i ≡ Some x → i < length xs
        there [] i x p = absurd cc
        there (y ∷ xs) zero x p = omega arith
        there (y ∷ xs) (suc i) x p = omega (arith, there xs i x p)
    small k false q l e = let s : k < length G.functions = n.small k (omega (arith, l)) in omega (arith, s, e)

arm_calls_later : (sigs late : List Signature) (fs : List Function) (ss : List core.Stmts) → ArmCalls sigs fs ss
    → ArmCalls (sigs ++ late) fs ss
arm_calls_later sigs late [] ss h = tt
arm_calls_later sigs late (f ∷ fs) [] h = tt
arm_calls_later sigs late (f ∷ fs) (s ∷ ss) h = (
  each_call (λ k. CallsTo sigs k (stands_in_parts 1 (to_parts f.body.parts)))
      (λ k. CallsTo (sigs ++ late) k (stands_in_parts 1 (to_parts f.body.parts)))
      (λ k c. calls_later sigs late k (stands_in_parts 1 (to_parts f.body.parts)) c) s h.0,
  arm_calls_later sigs late fs ss h.1,
)

calls_advance : (G H : Env) (fs : List Function) (ss : List core.Stmts) → Advances G H → ArmCalls G.functions fs ss
    → ArmCalls H.functions fs ss
calls_advance G H fs ss a h =
    subst (λ (sigs : List Signature). ArmCalls sigs fs ss) (sym a.functions)
    (arm_calls_later G.functions a.late fs ss h)

pub arm_walks : (G : Env) (ds : List ℕ) (fs : List Function) (y : List Defined × Env) → AtFile G → AllNamed G
    → NumbersFit ds (length G.functions) → MeansDefinitions G ds fs y → ArmWalks G y.1 ds fs y.0
arm_walks G ds fs y h named n no_definitions = record {
  file = h;
  advances = advances_itself G;
  names = λ k r e. inl e;
  all_named = named;
  fits = tt;
  are = tt;
  lists = λ c. omega arith;
  calls = tt;
  once = λ k. let l : count k ds ≤ 1 = n.once k in omega (arith, l);
  small = λ k l. n.small k (omega (arith, l));
}
arm_walks G ds fs y h named n (more_definitions {f = f} {fs = gs} x z m o) =
    let w = definition_walks G ds 1 f x h m in
    let M = x.1 in
    let d = x.0 in
    let a = definition_advances G ds 1 f M d w in
    let r = arm_walks M (d.number ∷ ds) gs z w.file (definition_named G ds 1 f M d named w)
    (definition_numbers G ds 1 f M d named n w) o in
    let H = z.1 in
    let built = r.file.env.declared.table.built in
    record {
      file = r.file;
      advances = advances_on G M H a r.advances;
      names = λ k s e. elim (r.names k s e) [
        | inl q ↦ elim (w.names k s q) [ inl old ↦ inl old | inr t ↦ inr (inl t) ]
        | inr t ↦ inr (inr t)
      ];
      all_named = r.all_named;
      fits = (fits_later M H r.advances built d w.fits, r.fits);
      are = (w.name, r.are);
      lists = λ c.
          let e = w.lists c in
          let f = r.lists c in
          let g = count_both c (own_blocks d.function) (all_own z.0) in omega (arith, e, f, g);
      calls = (
        each_call (λ k. CallsTo M.functions k (stands_in_parts 1 (to_parts f.body.parts)))
            (λ k. CallsTo H.functions k (stands_in_parts 1 (to_parts f.body.parts)))
            (λ k c. stands_later M H r.advances built k f c) d.function.body w.calls,
        r.calls,
      );
      once = λ k. let l : count k (numbers_of z.0) + (cond (nat_eq k d.number) 1 0 + count k ds)
          ≤ 1 = r.once k in omega (arith, l);
      small = λ k l. r.small k (omega (arith, l));
    }

-- ---- the second arm

abbrev pub BodiesFit : Env → List Defined → List Body → Type 0
BodiesFit G [] bs = Unit {0}
BodiesFit G (d ∷ ds) [] = Unit {0}
BodiesFit G (d ∷ ds) (b ∷ bs) = BodyFits G.types G.blocks G.functions d.function b.locals b.stmts × BodiesFit G ds bs

abbrev pub bodies_own : List Body → List ℕ
bodies_own [] = []
bodies_own (b ∷ bs) = (b.locals ++ scoped b.stmts) ++ bodies_own bs

pub record OthersWalk (G H : Env) (gs : List Function) (xs : List Defined) (bs : List Body) : Type 0 where
  pub file : AtFile H
  pub advances : Advances G H
  pub names : (k : ℕ) (r : Signature) → slice_get H.functions k ≡ Some r
      → (slice_get G.functions k ≡ Some r) ⊎ AmongNames r.name gs
  pub stays : StayNamed G H
  pub named : (k : ℕ) (r : Signature) → slice_get H.functions k ≡ Some r → AmongNames r.name gs
      → entry r.name (file_names H) ≡ Some (env.function k)
  pub bodies : BodiesFit H xs bs
  pub lists : (c : ℕ) → count c (bodies_own bs) + below (length G.blocks) c ≡ below (length H.blocks) c
  pub calls : ArmCalls H.functions gs (stmts_of bs)
  pub sizes : length bs ≡ length gs

pub others_walk : (G : Env) (ds : List ℕ) (gs : List Function) (xs : List Defined) (y : List Body × Env) → AtFile G
    → EachDefined (DefinedFits G.types G.blocks G.functions) xs → NamesAre gs xs → MeansOthers G ds xs gs y
    → OthersWalk G y.1 gs xs y.0
others_walk G ds gs [] y h fit are no_others = record {
  file = h;
  advances = advances_itself G;
  names = λ k r e. inl e;
  stays = λ t m e. e;
  named = λ k r e a. absurd a;
  bodies = tt;
  lists = λ c. omega arith;
  calls = tt;
  sizes = refl;
}
others_walk G ds gs (d ∷ xs) y h fit are no_others = absurd are
others_walk G ds gs [] y h fit are (more_others {f = g} x z m o) = absurd are
others_walk G ds gs (d ∷ xs) y h fit are (more_others {f = g} {fs = hs} x z m o) =
    let w = other_walks G ds 1 g d x h fit.0 are.0 m in
    let M = x.1 in
    let a : Advances G M = record { grows = w.grows; blocks = w.blocks; late = w.late; functions = w.functions } in
    let fits = each_fits_later G M a w.file.env.declared.table.built (d ∷ xs) fit in
    let r = others_walk M (x.0.number ∷ ds) hs xs z w.file fits.1 are.1 o in
    let H = z.1 in
    let built = r.file.env.declared.table.built in
    let fit_last = fits_later M H r.advances built d fits.0 in
    record {
      file = r.file;
      advances = advances_on G M H a r.advances;
      names = λ k s e. elim (r.names k s e) [
        | inl q ↦ elim (w.names k s q) [ inl old ↦ inl old | inr t ↦ inr (inl t) ]
        | inr t ↦ inr (inr t)
      ];
      stays = λ t q e. r.stays t q (w.stays t q e);
      named = λ k s e among. elim among [
        | inl t ↦
            let b : number_of_function H.functions g.head.name ≡ Some k =
            ap (number_of_function H.functions) (sym t) ∙ r.file.numbered.unique k s e in
            let c : number_of_function H.functions g.head.name ≡ Some d.number =
            ap (number_of_function H.functions) (sym are.0 ∙ fit_last.name)
            ∙ r.file.numbered.unique d.number fit_last.signature fit_last.is in
            let same : d.number ≡ k = same_some d.number k (number_of_function H.functions g.head.name) c b in
            ap (λ (n : List ℕ). entry n (file_names H)) t ∙ r.stays g.head.name (env.function d.number) w.named
            ∙ ap (λ (j : ℕ). Some (env.function j)) same
        | inr t ↦ r.named k s e t
      ];
      bodies = (body_later M H r.advances built d x.0.body.locals x.0.body.stmts fits.0 w.fits, r.bodies);
      lists = λ c.
          let e = w.lists c in
          let f = r.lists c in
          let i = count_both c (x.0.body.locals ++ scoped x.0.body.stmts) (bodies_own z.0) in
          let j = count_both c x.0.body.locals (scoped x.0.body.stmts) in omega (arith, e, f, i, j);
      calls = (
        each_call (λ k. CallsTo M.functions k (stands_in_parts 1 (to_parts g.body.parts)))
            (λ k. CallsTo H.functions k (stands_in_parts 1 (to_parts g.body.parts)))
            (λ k c. stands_later M H r.advances built k g c) x.0.body.stmts w.calls,
        r.calls,
      );
      sizes = (let e = r.sizes in omega (arith, e));
    }

-- ---- between the arms

-- the first arm's names are gone
between_arms : (G H : Env) → AtFile G → AtFile H → Advances G H → AtFile (record H { scopes = G.scopes })
between_arms G H h k a =
    let table = k.env.declared.table in
    let d = with_table G H.types h.env.declared a.grows table in
    let placed = meaning_more (IsPlaced G.types G.blocks G.functions)
    (IsPlaced H.types (G.blocks ++ a.blocks.more) (G.functions ++ a.late))
    (later table.built) G.scopes h.env.places in
    record {
      env = record {
        declared = record {
          table = table;
          fields = k.env.declared.fields;
          names = d.names;
          tags = d.tags;
          functions = k.env.declared.functions;
        };
        places = subst (λ (bs : List Block). EachMeaning (IsPlaced H.types bs H.functions) G.scopes) (sym a.blocks.is)
            (subst (λ (fs : List Signature). EachMeaning (IsPlaced H.types (G.blocks ++ a.blocks.more) fs) G.scopes)
            (sym a.functions) placed);
        blocks = k.env.blocks;
      };
      covers = subst (λ (bs : List Block). EachMeaning (CanName bs []) G.scopes) (sym a.blocks.is)
          (meaning_more (CanName G.blocks []) (CanName (G.blocks ++ a.blocks.more) [])
          (globals_later G.blocks a.blocks.more []) G.scopes h.covers);
      scope = h.scope;
      file = h.file;
      numbered = k.numbered;
      fit = subst (λ (fs : List Signature). ScopesFit fs G.scopes) (sym a.functions)
          (scopes_front G.functions a.late G.scopes h.fit);
    }
  where
    later : IsBuilt H.types → (m : Meaning) → IsPlaced G.types G.blocks G.functions m
        → IsPlaced H.types (G.blocks ++ a.blocks.more) (G.functions ++ a.late) m
    later built (env.variable b c) p =
        (p.0, slice_get-append G.blocks a.blocks.more b p.0 p.1, type_number_stays G.types H.types a.grows built c p.0.ty p.2)
    later built (env.function n) p = (p.0, slice_get-append G.functions a.late n p.0 p.1)
    later built (env.type_name c) p = tt

-- ---- both arms

-- arms that define the same functions
abbrev AreAlike : List Function → List Function → Type 0
AreAlike [] [] = Unit {0}
AreAlike [] (g ∷ gs) = ⊥
AreAlike (f ∷ fs) [] = ⊥
AreAlike (f ∷ fs) (g ∷ gs) = (f.head.name ≡ g.head.name) × AreAlike fs gs

alike : (G : Env) (ds : List ℕ) (fs gs : List Function) → ArmsAgree G ds fs gs → AreAlike fs gs
alike G ds fs gs no_arms = tt
alike G ds fs gs (more_arms {f = f} {g = g} {fs = ts} {gs = us} h m) =
    let r = and_parts (bytes_eq f.head.name g.head.name)
    (have_same_names (params_of f.head.params) (params_of g.head.params)) h.names in
    (bytes_eq-equal f.head.name g.head.name r.0, alike G ds ts us m)

other_names : (fs gs : List Function) (xs : List Defined) → AreAlike fs gs → NamesAre fs xs → NamesAre gs xs
other_names [] [] xs a n = n
other_names [] (g ∷ gs) xs a n = absurd a
other_names (f ∷ fs) [] xs a n = absurd a
other_names (f ∷ fs) (g ∷ gs) [] a n = absurd n
other_names (f ∷ fs) (g ∷ gs) (x ∷ xs) a n = (n.0 ∙ a.0, other_names fs gs xs a.1 n.1)

among_alike : (t : List ℕ) (fs gs : List Function) → AreAlike fs gs → AmongNames t fs → AmongNames t gs
among_alike t [] gs a n = absurd n
among_alike t (f ∷ fs) [] a n = absurd a
among_alike t (f ∷ fs) (g ∷ gs) a (inl e) = inl (e ∙ a.0)
among_alike t (f ∷ fs) (g ∷ gs) a (inr n) = inr (among_alike t fs gs a.1 n)

-- as many functions as bodies
abbrev SameSizes : List Function → List Defined → List Body → Type 0
SameSizes [] [] [] = Unit {0}
SameSizes (f ∷ fs) (d ∷ ds) (b ∷ bs) = SameSizes fs ds bs
SameSizes fs ds bs = ⊥

same_sizes : (fs gs : List Function) (xs : List Defined) (bs : List Body) → AreAlike fs gs → NamesAre fs xs
    → length bs ≡ length gs
    → SameSizes fs xs bs
same_sizes [] [] [] [] a n e = tt
same_sizes [] [] [] (b ∷ bs) a n e = absurd (omega (arith, e))
same_sizes [] [] (x ∷ xs) bs a n e = absurd n
same_sizes [] (g ∷ gs) xs bs a n e = absurd a
same_sizes (f ∷ fs) [] xs bs a n e = absurd a
same_sizes (f ∷ fs) (g ∷ gs) [] bs a n e = absurd n
same_sizes (f ∷ fs) (g ∷ gs) (x ∷ xs) [] a n e = absurd (omega (arith, e))
same_sizes (f ∷ fs) (g ∷ gs) (x ∷ xs) (b ∷ bs) a n e = same_sizes fs gs xs bs a.1 n.1 (omega (arith, e))

-- ---- one function of both

one_joined : (G : Env) (l : ℕ) (o : NamedOrder) (k : ℕ) (d : Defined) (b : Body)
    → DefinedFits G.types G.blocks G.functions d
    → BodyFits G.types G.blocks G.functions d.function b.locals b.stmts
    → DefinedFits G.types G.blocks G.functions (joined l o k d b)
one_joined G l o k d b h j = record {
  signature = h.signature;
  is = h.is;
  name = h.name;
  params = h.params;
  result = h.result;
  params_at = h.params_at;
  result_at_first = h.result_at_first;
  params_hold = h.params_hold;
  result_holds = h.result_holds;
  body = λ seen all. (
    (
      (
        h.body (d.function.locals ++ seen) (wider (first_of d.function.params) d.function.locals seen all),
        tt,
      ),
      (
        j (b.locals ++ seen) (wider (first_of d.function.params) b.locals seen all),
        tt,
      ),
    ),
    tt,
  );
}
  where
    wider : (ps ls seen : List ℕ) → AllIn (ps ++ []) seen → AllIn (ps ++ ls) (ls ++ seen)
    wider ps ls seen all c e =
        let m : 1 ≤ count c (ps ++ ls) = contains_counted c (ps ++ ls) e in
        let f = count_both c ps ls in
        let g = count_both c ls seen in
        let i = count_both c ps [] in
        by (contains c ps) refl f m g i
      where
        by : (v : Bool) → contains c ps ≡ v → count c (ps ++ ls) ≡ count c ps + count c ls → 1 ≤ count c (ps ++ ls)
            → count c (ls ++ seen) ≡ count c ls + count c seen → count c (ps ++ []) ≡ count c ps + count c []
            → contains c (ls ++ seen) ≡ true
        by true q f m g i =
            let x : 1 ≤ count c ps = contains_counted c ps q in
            let y : contains c seen ≡ true = all c (counted_contains c (ps ++ []) (omega (arith, x, i))) in
            let z : 1 ≤ count c seen = contains_counted c seen y in counted_contains c (ls ++ seen)
            (omega (arith, z, g))
        by false q f m g i =
            let x : count c ps ≡ 0 = not_there c ps q in counted_contains c (ls ++ seen) (omega (arith, x, f, m, g))

all_joined_fit : (G : Env) (l : ℕ) (o : NamedOrder) (fs : List Function) (xs : List Defined) (bs : List Body)
    → EachDefined (DefinedFits G.types G.blocks G.functions) xs → BodiesFit G xs bs
    → EachDefined (DefinedFits G.types G.blocks G.functions) (all_joined l o fs xs bs)
all_joined_fit G l o [] xs bs h k = tt
all_joined_fit G l o (f ∷ fs) [] bs h k = tt
all_joined_fit G l o (f ∷ fs) (x ∷ xs) [] h k = tt
all_joined_fit G l o (f ∷ fs) (x ∷ xs) (b ∷ bs) h k =
    (one_joined G l o f.body.line x b h.0 k.0, all_joined_fit G l o fs xs bs h.1 k.1)

joined_numbers : (l : ℕ) (o : NamedOrder) (fs : List Function) (xs : List Defined) (bs : List Body) → SameSizes fs xs bs
    → numbers_of (all_joined l o fs xs bs) ≡ numbers_of xs
joined_numbers l o [] [] [] s = refl
joined_numbers l o [] [] (b ∷ bs) s = absurd s
joined_numbers l o [] (x ∷ xs) bs s = absurd s
joined_numbers l o (f ∷ fs) [] bs s = absurd s
joined_numbers l o (f ∷ fs) (x ∷ xs) [] s = absurd s
joined_numbers l o (f ∷ fs) (x ∷ xs) (b ∷ bs) s = ap (λ (ns : List ℕ). x.number ∷ ns) (joined_numbers l o fs xs bs s)

joined_own : (c l : ℕ) (o : NamedOrder) (fs : List Function) (xs : List Defined) (bs : List Body) → SameSizes fs xs bs
    → count c (all_own (all_joined l o fs xs bs)) ≡ count c (all_own xs) + count c (bodies_own bs)
joined_own c l o [] [] [] s = omega arith
joined_own c l o [] [] (b ∷ bs) s = absurd s
joined_own c l o [] (x ∷ xs) bs s = absurd s
joined_own c l o (f ∷ fs) [] bs s = absurd s
joined_own c l o (f ∷ fs) (x ∷ xs) [] s = absurd s
joined_own c l o (f ∷ fs) (x ∷ xs) (b ∷ bs) s =
    let ps = first_of x.function.params in
    let rs = first_of (option_to_list x.function.result) in
    let ls = x.function.locals in
    let ss = scoped x.function.body in
    let ms = b.locals in
    let us = scoped b.stmts in
    let e0 = joined_own c l o fs xs bs s in
    let e1 = count_both c (own_blocks (joined l o f.body.line x b).function) (all_own (all_joined l o fs xs bs)) in
    let e2 = count_both c (own_blocks x.function) (all_own xs) in
    let e3 = count_both c (ms ++ us) (bodies_own bs) in
    let e4 = count_both c ms us in
    let e5 = count_both c (ps ++ ls) (rs ++ ss) in
    let e6 = count_both c ps ls in
    let e7 = count_both c rs ss in
    let one : List ℕ = (ls ++ ss) ++ [] in
    let two : List ℕ = (ms ++ us) ++ [] in
    let f1 = count_both c (ps ++ []) (rs ++ ((one ++ two) ++ [])) in
    let f2 = count_both c ps [] in
    let f3 = count_both c rs ((one ++ two) ++ []) in
    let f4 = count_both c (one ++ two) [] in
    let f5 = count_both c one two in
    let f6 = count_both c (ls ++ ss) [] in
    let f7 = count_both c ls ss in
    let f8 = count_both c (ms ++ us) [] in
    omega (arith, e0, e1, e2, e3, e4, e5, e6, e7, f1, f2, f3, f4, f5, f6, f7, f8)

-- ---- what arms call stands in the text

in_functions_here : (sigs : List Signature) (k : ℕ) (f : Function) (fs : List Function)
    → CallsTo sigs k (stands_in_parts 1 (to_parts f.body.parts)) → CalledIn sigs f.head.name k (in_functions 1 (f ∷ fs))
in_functions_here sigs k f fs h =
    called_front sigs f.head.name k (in_function 1 f) (in_functions 1 fs)
    (called_of sigs f.head.name k (stands_in_parts 1 (to_parts f.body.parts)) h)

in_functions_later : (sigs : List Signature) (t : List ℕ) (k : ℕ) (f : Function) (fs : List Function)
    → CalledIn sigs t k (in_functions 1 fs) → CalledIn sigs t k (in_functions 1 (f ∷ fs))
in_functions_later sigs t k f fs h = called_back sigs t k (in_function 1 f) (in_functions 1 fs) h

joined_calls : (sigs : List Signature) (l : ℕ) (o : NamedOrder) (fs gs : List Function) (xs : List Defined)
    (bs : List Body) (ps : List Placed)
    → AreAlike fs gs → NamesAre fs xs → ArmCalls sigs fs (bodies_of xs) → ArmCalls sigs gs (stmts_of bs)
    → ((t : List ℕ) (k : ℕ) → CalledIn sigs t k (in_functions 1 fs) → CalledIn sigs t k ps)
    → ((t : List ℕ) (k : ℕ) → CalledIn sigs t k (in_functions 1 gs) → CalledIn sigs t k ps)
    → EachDefined (BodyCalls sigs ps) (all_joined l o fs xs bs)
joined_calls sigs l o [] gs xs bs ps a n c e p q = tt
joined_calls sigs l o (f ∷ fs) gs [] bs ps a n c e p q = tt
joined_calls sigs l o (f ∷ fs) gs (x ∷ xs) [] ps a n c e p q = tt
joined_calls sigs l o (f ∷ fs) [] (x ∷ xs) (b ∷ bs) ps a n c e p q = absurd a
joined_calls sigs l o (f ∷ fs) (g ∷ gs) (x ∷ xs) (b ∷ bs) ps a n c e p q =
    let own : (k : ℕ) → CallsTo sigs k (stands_in_parts 1 (to_parts f.body.parts))
    → CalledIn sigs x.function.name k ps =
    λ k h. subst (λ (t : List ℕ). CalledIn sigs t k ps) (sym n.0) (p f.head.name k (in_functions_here sigs k f fs h)) in
    let other : (k : ℕ) → CallsTo sigs k (stands_in_parts 1 (to_parts g.body.parts))
    → CalledIn sigs x.function.name k ps =
    λ k h. subst (λ (t : List ℕ). CalledIn sigs t k ps) (sym (n.0 ∙ a.0))
    (q g.head.name k (in_functions_here sigs k g gs h)) in (
      (
        (
          (
            each_call (λ k. CallsTo sigs k (stands_in_parts 1 (to_parts f.body.parts)))
                (λ k. CalledIn sigs x.function.name k ps) own
                x.function.body c.0,
            tt,
          ),
          (
            each_call (λ k. CallsTo sigs k (stands_in_parts 1 (to_parts g.body.parts)))
                (λ k. CalledIn sigs x.function.name k ps) other
                b.stmts e.0,
            tt,
          ),
        ),
        tt,
      ),
      joined_calls sigs l o fs gs xs bs ps a.1 n.1 c.1 e.1 (λ t k h. p t k (in_functions_later sigs t k f fs h))
          (λ t k h. q t k (in_functions_later sigs t k g gs h)),
    )

-- ---- functions by byte order

pub record ArmsWalk (G H : Env) (ds : List ℕ) (fs gs : List Function) (xs : List Defined) : Type 0 where
  pub file : AtFile H
  pub advances : Advances G H
  pub all_named : AllNamed H
  pub fits : EachDefined (DefinedFits H.types H.blocks H.functions) xs
  pub lists : (c : ℕ) → count c (all_own xs) + below (length G.blocks) c ≡ below (length H.blocks) c
  pub calls : EachDefined (BodyCalls H.functions (conditionals fs ++ (in_functions 1 fs ++ in_functions 1 gs))) xs
  pub once : (k : ℕ) → count k (numbers_of xs) + count k ds ≤ 1
  pub small : (k : ℕ) → 1 ≤ count k (numbers_of xs) + count k ds → k < length H.functions

pub arms_walk : (G : Env) (ds : List ℕ) (l : ℕ) (o : NamedOrder) (fs gs : List Function) (y : List Defined × Env)
    → AtFile G
    → AllNamed G → NumbersFit ds (length G.functions) → MeansArms G ds l o fs gs y → ArmsWalk G y.1 ds fs gs y.0
arms_walk G ds l o fs gs y h named n (is_arms a b e m k) =
    let like = alike G ds fs gs e in
    let w = arm_walks G ds fs a h named n m in
    let M = a.1 in
    let I : Env = record M { scopes = G.scopes } in
    let at = between_arms G M h w.file w.advances in
    let v = others_walk I ds gs a.0 b at w.fits (other_names fs gs a.0 like w.are) k in
    let H = b.1 in
    let built = v.file.env.declared.table.built in
    let later : Advances M H = record {
      grows = v.advances.grows;
      blocks = v.advances.blocks;
      late = v.advances.late;
      functions =
          v.advances.functions;
    } in
    let sizes = same_sizes fs gs a.0 b.0 like w.are v.sizes in
    let numbers = joined_numbers l o fs a.0 b.0 sizes in
    let ps = conditionals fs ++ (in_functions 1 fs ++ in_functions 1 gs) in
    let longer : length H.functions ≡ length M.functions + length v.advances.late =
    ap length v.advances.functions ∙ length-append M.functions v.advances.late in
    record {
      file = v.file;
      advances = advances_on G M H w.advances later;
      all_named = λ j r q. elim (v.names j r q) [
        | inr t ↦ v.named j r q t
        | inl p ↦ elim (w.names j r p) [
          | inl old ↦ v.stays r.name (env.function j) (named j r old)
          | inr t ↦ v.named j r q (among_alike r.name fs gs like t)
        ]
      ];
      fits = all_joined_fit H l o fs a.0 b.0 (each_fits_later M H later built a.0 w.fits) v.bodies;
      lists = λ c.
          let f1 = w.lists c in
          let f2 = v.lists c in
          let f3 = joined_own c l o fs a.0 b.0 sizes in omega (arith, f1, f2, f3);
      calls = joined_calls H.functions l o fs gs a.0 b.0 ps like w.are
          (calls_advance M H fs (bodies_of a.0) later w.calls) v.calls
          (λ t j c. called_back H.functions t j (conditionals fs) (in_functions 1 fs ++ in_functions 1 gs)
          (called_front H.functions t j (in_functions 1 fs) (in_functions 1 gs) c))
          (λ t j c. called_back H.functions t j (conditionals fs) (in_functions 1 fs ++ in_functions 1 gs)
          (called_back H.functions t j (in_functions 1 fs) (in_functions 1 gs) c));
      once = λ j. subst (λ (ns : List ℕ). count j ns + count j ds ≤ 1) (sym numbers) (w.once j);
      small = λ j q.
          let s : j < length M.functions = w.small j (subst (λ (ns : List ℕ). 1 ≤ count j ns + count j ds) numbers q) in
          omega (arith, s, longer);
    }
