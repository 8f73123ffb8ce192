-- How environments, blocks and calls follow one another inside of a function.
use Rattle.std.proofs.Common.{◌≡◌, ℕ, ◌+◌, false, List, [], ◌∷◌, ◌++◌, length, refl, sym, ap, ◌∙◌, subst, arith}
use Rattle.ep_int.proofs.Basics.{append-assoc}
use Rattle.ep_core.specs.Program as core
use Rattle.ep_core.specs.Program.{Block}
use Rattle.ep_core.specs.WellFormed.{scoped, scoped_in}
use Rattle.ep_typing.specs.Env as env
use Rattle.ep_typing.specs.Env.{Env, Meaning, Scope, Signature, no_names}
use Rattle.ep_elaboration.specs.Calls.{Stand}
use Rattle.ep_elaboration.specs.Declarations.{Line}
use Rattle.ep_elaboration.specs.Statements.{block_of, blocks_behind, blocks_of, entered, innermost, left, one_line}
use Rattle.ep_elaboration.specs.Statements.{outer, to_core}
use Rattle.ep_well_formed_laws.proofs.Scopes.{HaveNames, names_on}
use Rattle.ep_well_formed_laws.proofs.Steps.{nothing_more, same_left}
use Rattle.ep_well_formed_laws.proofs.Counts.{below, count, count_both}
use Rattle.ep_well_formed_laws.proofs.CallNames.{CallsTo, EachCall, NameFits, NamesFit, ScopesFit, calls_back}
use Rattle.ep_well_formed_laws.proofs.CallNames.{calls_front, each_call, scopes_fit_same}
use Rattle.ep_well_formed_laws.proofs.Keeps.{Keeps}

-- ---- blocks that come

abbrev pub AreLocal : List Block → Type 0
AreLocal [] = Unit {0}
AreLocal (b ∷ bs) = (b.global ≡ false) × AreLocal bs

pub local_both : (xs ys : List Block) → AreLocal xs → AreLocal ys → AreLocal (xs ++ ys)
local_both [] ys h k = k
local_both (x ∷ xs) ys h k = (h.0, local_both xs ys h.1 k)

-- blocks that are none of the file
pub record LocalCome (bs cs : List Block) : Type 0 where
  pub more : List Block
  pub is : cs ≡ bs ++ more
  pub local : AreLocal more

pub no_block : (bs : List Block) → LocalCome bs bs
no_block bs = record { more = []; is = nothing_more bs; local = tt }

pub same_blocks : (bs cs : List Block) → cs ≡ bs → LocalCome bs cs
same_blocks bs cs e = record { more = []; is = e ∙ nothing_more bs; local = tt }

pub blocks_on : (bs cs ds : List Block) → LocalCome bs cs → LocalCome cs ds → LocalCome bs ds
blocks_on bs cs ds p q = record {
  more = p.more ++ q.more;
  is = q.is ∙ ap (λ (xs : List Block). xs ++ q.more) p.is ∙ append-assoc bs p.more q.more;
  local = local_both p.more q.more p.local q.local;
}

-- ---- names that come

abbrev pub IsVariable : Meaning → Type 0
IsVariable (env.variable b c) = Unit {0}
IsVariable (env.function n) = ⊥
IsVariable (env.type_name c) = ⊥

abbrev pub AreVariables : List (List ℕ × Meaning) → Type 0
AreVariables [] = Unit {0}
AreVariables (x ∷ xs) = IsVariable x.1 × AreVariables xs

pub variables_both : (xs ys : List (List ℕ × Meaning)) → AreVariables xs → AreVariables ys → AreVariables (xs ++ ys)
variables_both [] ys h k = k
variables_both (x ∷ xs) ys h k = (h.0, variables_both xs ys h.1 k)

-- names come to the innermost scope
abbrev pub NamesCome : List (List ℕ × Meaning) → List Scope → List Scope → Type 0
NamesCome xs [] [] = xs ≡ []
NamesCome xs [] (u ∷ us) = ⊥
NamesCome xs (s ∷ ss) [] = ⊥
NamesCome xs (s ∷ ss) (u ∷ us) = (s.names ++ xs ≡ u.names) × HaveNames ss us

pub none_come : (ss us : List Scope) → HaveNames ss us → NamesCome [] ss us
none_come [] [] h = refl
none_come [] (u ∷ us) h = absurd h
none_come (s ∷ ss) [] h = absurd h
none_come (s ∷ ss) (u ∷ us) h = (sym (nothing_more s.names) ∙ h.0, h.1)

pub come_on : (xs ys : List (List ℕ × Meaning)) (ss us vs : List Scope) → NamesCome xs ss us → NamesCome ys us vs
    → NamesCome (xs ++ ys) ss vs
come_on xs ys [] [] [] h k = rw h k
come_on xs ys [] [] (v ∷ vs) h k = absurd k
come_on xs ys [] (u ∷ us) vs h k = absurd h
come_on xs ys (s ∷ ss) [] vs h k = absurd h
come_on xs ys (s ∷ ss) (u ∷ us) [] h k = absurd k
come_on xs ys (s ∷ ss) (u ∷ us) (v ∷ vs) h k = (
  sym (append-assoc s.names xs ys) ∙ ap (λ (ns : List (List ℕ × Meaning)). ns ++ ys) h.0 ∙ k.0,
  names_on ss us vs h.1 k.1,
)

variables_fit : (fs : List Signature) (xs : List (List ℕ × Meaning)) → AreVariables xs → NamesFit fs xs
variables_fit fs [] h = tt
variables_fit fs (x ∷ xs) h = (here x.0 x.1 h.0, variables_fit fs xs h.1)
  where
    here : (t : List ℕ) (m : Meaning) → IsVariable m → NameFits fs t m
    here t (env.variable b c) k = tt
    here t (env.function n) k = absurd k
    here t (env.type_name c) k = absurd k

names_both_fit : (fs : List Signature) (xs ys : List (List ℕ × Meaning)) → NamesFit fs xs → NamesFit fs ys
    → NamesFit fs (xs ++ ys)
names_both_fit fs [] ys h k = k
names_both_fit fs (x ∷ xs) ys h k = (h.0, names_both_fit fs xs ys h.1 k)

pub scopes_fit_more : (fs : List Signature) (xs : List (List ℕ × Meaning)) (ss us : List Scope) → NamesCome xs ss us
    → AreVariables xs → ScopesFit fs ss → ScopesFit fs us
scopes_fit_more fs xs [] [] n v h = h
scopes_fit_more fs xs [] (u ∷ us) n v h = absurd n
scopes_fit_more fs xs (s ∷ ss) [] n v h = absurd n
scopes_fit_more fs xs (s ∷ ss) (u ∷ us) n v h = (
  subst (NamesFit fs) n.0 (names_both_fit fs s.names xs h.0 (variables_fit fs xs v)),
  scopes_fit_same fs ss us
      n.1 h.1,
)

-- ---- counts

pub count_names : (b : ℕ) (xs ys : List (List ℕ × Meaning))
    → count b (blocks_of (xs ++ ys)) ≡ count b (blocks_of xs) + count b (blocks_of ys)
count_names b [] ys = omega arith
count_names b (x ∷ xs) ys =
    let e = count_names b xs ys in
    let f = count_both b (block_of x.1) (blocks_of (xs ++ ys)) in
    let g = count_both b (block_of x.1) (blocks_of xs) in omega (arith, e, f, g)

pub count_lines : (b : ℕ) (ls ms : List Line)
    → count b (scoped (to_core (ls ++ ms))) ≡ count b (scoped (to_core ls)) + count b (scoped (to_core ms))
count_lines b [] ms = omega arith
count_lines b (l ∷ ls) ms =
    let e = count_lines b ls ms in
    let f = count_both b (scoped_in l.1) (scoped (to_core (ls ++ ms))) in
    let g = count_both b (scoped_in l.1) (scoped (to_core ls)) in omega (arith, e, f, g)

pub count_one : (b l : ℕ) (w : core.What) → count b (scoped (to_core (one_line l w))) ≡ count b (scoped_in w)
count_one b l w = let e = count_both b (scoped_in w) [] in omega (arith, e)

-- ---- calls

pub calls_both : (P : ℕ → Type 0) (ls ms : List Line) → EachCall P (to_core ls) → EachCall P (to_core ms)
    → EachCall P (to_core (ls ++ ms))
calls_both P [] ms h k = k
calls_both P (l ∷ ls) ms h k = (h.0, calls_both P ls ms h.1 k)

pub calls_first : (P : ℕ → Type 0) (ls ms : List Line) → EachCall P (to_core (ls ++ ms)) → EachCall P (to_core ls)
calls_first P [] ms h = tt
calls_first P (l ∷ ls) ms h = (h.0, calls_first P ls ms h.1)

pub calls_second : (P : ℕ → Type 0) (ls ms : List Line) → EachCall P (to_core (ls ++ ms)) → EachCall P (to_core ms)
calls_second P [] ms h = h
calls_second P (l ∷ ls) ms h = calls_second P ls ms h.1

-- ---- walks

-- From one environment to another lines come, with blocks of names and of scopes, each once, and with calls of what
-- stands in the text.
pub record Walk (fs : List Signature) (G H : Env) (ls : List Line) (st : List Stand) : Type 0 where
  pub own : List (List ℕ × Meaning)
  pub names : NamesCome own G.scopes H.scopes
  pub variables : AreVariables own
  pub blocks : LocalCome G.blocks H.blocks
  pub functions : H.functions ≡ G.functions
  pub lists : (b : ℕ) → count b (blocks_of own) + count b (scoped (to_core ls)) + below (length G.blocks) b
      ≡ below (length H.blocks) b
  pub calls : ScopesFit fs G.scopes → EachCall (λ k. CallsTo fs k st) (to_core ls)

-- and no names come
pub record Still (fs : List Signature) (G H : Env) (ls : List Line) (st : List Stand) : Type 0 where
  pub names : HaveNames G.scopes H.scopes
  pub blocks : LocalCome G.blocks H.blocks
  pub functions : H.functions ≡ G.functions
  pub lists : (b : ℕ) → count b (scoped (to_core ls)) + below (length G.blocks) b ≡ below (length H.blocks) b
  pub calls : ScopesFit fs G.scopes → EachCall (λ k. CallsTo fs k st) (to_core ls)

module _ (fs : List Signature) where
  pub walk_of : (G H : Env) (ls : List Line) (st : List Stand) → Still fs G H ls st → Walk fs G H ls st
  walk_of G H ls st s = record {
    own = [];
    names = none_come G.scopes H.scopes s.names;
    variables = tt;
    blocks = s.blocks;
    functions = s.functions;
    lists = λ b. let e = s.lists b in omega (arith, e);
    calls = s.calls;
  }

  pub still_keeps : (G H : Env) (st : List Stand) → Keeps G H → Still fs G H [] st
  still_keeps G H st k = record {
    names = k.names;
    blocks = same_blocks G.blocks H.blocks k.blocks;
    functions = k.functions;
    lists = λ b. let e : length H.blocks ≡ length G.blocks = ap length k.blocks in rw e (omega arith);
    calls = λ h. tt;
  }

  pub still_on : (G H I : Env) (ls ms : List Line) (st su : List Stand) → Still fs G H ls st → Still fs H I ms su
      → Still fs G I (ls ++ ms) (st ++ su)
  still_on G H I ls ms st su p q = record {
    names = names_on G.scopes H.scopes I.scopes p.names q.names;
    blocks = blocks_on G.blocks H.blocks I.blocks p.blocks q.blocks;
    functions = q.functions ∙ p.functions;
    lists = λ b.
        let e = p.lists b in let f = q.lists b in let g = count_lines b ls ms in omega (arith, e, f, g);
    calls = λ h. calls_both (λ k. CallsTo fs k (st ++ su)) ls ms
        (each_call (λ k. CallsTo fs k st) (λ k. CallsTo fs k (st ++ su)) (λ k c. calls_front fs k st su c)
        (to_core ls) (p.calls h))
        (each_call (λ k. CallsTo fs k su) (λ k. CallsTo fs k (st ++ su)) (λ k c. calls_back fs k st su c) (to_core ms)
        (q.calls (scopes_fit_same fs G.scopes H.scopes p.names h)));
  }

  pub walk_on : (G H I : Env) (ls ms : List Line) (st su : List Stand) → Walk fs G H ls st → Walk fs H I ms su
      → Walk fs G I (ls ++ ms) (st ++ su)
  walk_on G H I ls ms st su p q = record {
    own = p.own ++ q.own;
    names = come_on p.own q.own G.scopes H.scopes I.scopes p.names q.names;
    variables = variables_both p.own q.own p.variables q.variables;
    blocks = blocks_on G.blocks H.blocks I.blocks p.blocks q.blocks;
    functions = q.functions ∙ p.functions;
    lists = λ b.
        let e = p.lists b in let f = q.lists b in let g = count_lines b ls ms in
        let k = count_names b p.own q.own in omega (arith, e, f, g, k);
    calls = λ h. calls_both (λ k. CallsTo fs k (st ++ su)) ls ms
        (each_call (λ k. CallsTo fs k st) (λ k. CallsTo fs k (st ++ su)) (λ k c. calls_front fs k st su c)
        (to_core ls) (p.calls h))
        (each_call (λ k. CallsTo fs k su) (λ k. CallsTo fs k (st ++ su)) (λ k c. calls_back fs k st su c) (to_core ms)
        (q.calls (scopes_fit_more fs p.own G.scopes H.scopes p.names p.variables h)));
  }

  -- the same blocks and calls in other lines
  pub still_as : (G H : Env) (ls ms : List Line) (st su : List Stand) → Still fs G H ls st
      → ((b : ℕ) → count b (scoped (to_core ms)) ≡ count b (scoped (to_core ls)))
      → (EachCall (λ k. CallsTo fs k st) (to_core ls) → EachCall (λ k. CallsTo fs k su) (to_core ms))
      → Still fs G H ms su
  still_as G H ls ms st su s f c = record {
    names = s.names;
    blocks = s.blocks;
    functions = s.functions;
    lists = λ b. let e = s.lists b in let g = f b in omega (arith, e, g);
    calls = λ h. c (s.calls h);
  }

  -- out of a scope without names
  pub still_left : (G H : Env) (ls : List Line) (st : List Stand) → Still fs (entered G) H ls st
      → Still fs G (left H) ls st
  still_left G H ls st s = record {
    names = same_left no_names G.scopes H.scopes s.names;
    blocks = s.blocks;
    functions = s.functions;
    lists = s.lists;
    calls = λ h. s.calls (tt, h);
  }

  -- a scope of the core with its names' blocks
  pub closed : (G H : Env) (l : ℕ) (ls : List Line) (st : List Stand) → Walk fs (entered G) H ls st
      → Still fs G (left H) (one_line l (core.scope (blocks_behind 0 H) (to_core ls))) st
  closed G H l ls st w = by H.scopes refl w.names
    where
      by : (us : List Scope) → H.scopes ≡ us → NamesCome w.own (no_names ∷ G.scopes) us
          → Still fs G (left H) (one_line l (core.scope (blocks_behind 0 H) (to_core ls))) st
      by [] e n = absurd n
      by (u ∷ us) e n =
          let own : blocks_behind 0 H ≡ blocks_of w.own =
          ap (λ (ss : List Scope). blocks_of (innermost (record H { scopes = ss })).names) e ∙ ap blocks_of (sym n.0) in
          record {
            names = subst (HaveNames G.scopes) (sym (ap outer e)) n.1;
            blocks = w.blocks;
            functions = w.functions;
            lists = λ b.
                let f = w.lists b in
                let g : count b (blocks_behind 0 H) ≡ count b (blocks_of w.own) = ap (count b) own in
                let k = count_one b l (core.scope (blocks_behind 0 H) (to_core ls)) in
                let m = count_both b (blocks_behind 0 H) (scoped (to_core ls)) in omega (arith, f, g, k, m);
            calls = λ h. (w.calls (tt, h), tt);
          }
