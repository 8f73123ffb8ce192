-- How environments follow one another inside of a function: the table grows, blocks come, names come to the scopes.
use Rattle.std.proofs.Common.{◌≡◌, ℕ, ◌<◌, Bool, true, List, [], ◌∷◌, ◌++◌, length, slice_get, Option}
use Rattle.ep_layout.proofs.Basics.{grows-trans}
use Rattle.ep_int.proofs.Basics.{append-assoc, slice_get-append, contains-left, contains-right}
use Rattle.std.proofs.lemmas.Bool.{or_cases}
use Rattle.std.proofs.lemmas.Bool.{or_left, or_right}
use Rattle.std.proofs.Common.{Some, refl, sym, ap, ◌∙◌, subst, inl, inr, arith, nat_eq}
use Rattle.std.proofs.lemmas.Bool.Decides.{nat_tests}
use Rattle.ep_int.specs.Memory.{contains}
use Rattle.ep_layout.specs.Table.{Grows, Table}
use Rattle.ep_layout.proofs.Recursion.{kept_by_itself}
use Rattle.ep_core.specs.Program as core
use Rattle.ep_core.specs.Program.{Block}
use Rattle.ep_core.specs.Runs.{is_global}
use Rattle.ep_typing.specs.Env.{Env, Meaning, Scope, Signature, function, no_names, type_name, variable}
use Rattle.ep_elaboration.specs.Statements.{block_of, blocks_of, entered, innermost, left, outer}
use Rattle.ep_well_formed_laws.specs.Environments.{CanName, Covers, EachMeaning, EachName, EachTag, IsEnv, IsPlaced}
use Rattle.ep_well_formed_laws.specs.Environments.{IsTyped}
use Rattle.ep_well_formed_laws.specs.Statements.{StmtsFit, WhatFits}
use Rattle.ep_well_formed_laws.proofs.Scopes.{HaveNames, name_more, names_on}
use Rattle.ep_well_formed_laws.proofs.Mentions.{Declares, Mentions, env_declares, env_mentioned}
use Rattle.ep_well_formed_laws.proofs.StatementGrowth.{stmts_stay, what_stays}

-- ---- blocks that come

pub nothing_more : {X : Type 0} (xs : List X) → xs ≡ xs ++ []
nothing_more [] = refl
nothing_more (x ∷ xs) = ap (λ ys. x ∷ ys) (nothing_more xs)

pub record Follows (G H : Env) : Type 0 where
  pub env : IsEnv H
  pub grows : Grows G.types H.types
  pub more : List Block
  pub blocks : H.blocks ≡ G.blocks ++ more
  pub functions : H.functions ≡ G.functions

pub follows_itself : (G : Env) → IsEnv G → Follows G G
follows_itself G h = record {
  env = h;
  grows = kept_by_itself G.types;
  more = [];
  blocks = nothing_more G.blocks;
  functions = refl;
}

pub follows_on : (G H I : Env) → Follows G H → Follows H I → Follows G I
follows_on G H I f g = record {
  env = g.env;
  grows = grows-trans G.types H.types I.types f.grows g.grows;
  more = f.more ++ g.more;
  blocks = g.blocks ∙ ap (λ (bs : List Block). bs ++ g.more) f.blocks ∙ append-assoc G.blocks f.more g.more;
  functions = g.functions ∙ f.functions;
}

pub follows_declares : (G H : Env) → IsEnv G → Declares G H → Follows G H
follows_declares G H h m = record {
  env = env_declares G H h m;
  grows = m.grows;
  more = [];
  blocks = m.blocks ∙ nothing_more G.blocks;
  functions = m.functions;
}

pub follows_mentions : (G H : Env) → IsEnv G → Mentions G H → Follows G H
follows_mentions G H h m = record {
  env = env_mentioned G H h m;
  grows = m.grows;
  more = [];
  blocks = m.blocks ∙ nothing_more G.blocks;
  functions = m.functions;
}

-- ---- names that come

-- names come to the innermost scope alone
abbrev pub NamesGrow : List Scope → List Scope → Type 0
NamesGrow [] [] = Unit {0}
NamesGrow [] (u ∷ us) = ⊥
NamesGrow (s ∷ ss) [] = ⊥
NamesGrow (s ∷ ss) (u ∷ us) = ((xs : List (List ℕ × Meaning)) × (s.names ++ xs ≡ u.names)) × HaveNames ss us

pub names_stay : (ss us : List Scope) → HaveNames ss us → NamesGrow ss us
names_stay [] [] h = tt
names_stay [] (u ∷ us) h = absurd h
names_stay (s ∷ ss) [] h = absurd h
names_stay (s ∷ ss) (u ∷ us) h = (([], sym (nothing_more s.names) ∙ h.0), h.1)

pub names_grow_on : (ss us vs : List Scope) → NamesGrow ss us → NamesGrow us vs → NamesGrow ss vs
names_grow_on [] [] vs h k = k
names_grow_on [] (u ∷ us) vs h k = absurd h
names_grow_on (s ∷ ss) [] vs h k = absurd h
names_grow_on (s ∷ ss) (u ∷ us) [] h k = absurd k
names_grow_on (s ∷ ss) (u ∷ us) (v ∷ vs) h k = (
  (h.0.0 ++ k.0.0, sym (append-assoc s.names h.0.0 k.0.0) ∙ ap (λ xs. xs ++ k.0.0) h.0.1 ∙ k.0.1),
  names_on ss us vs h.1 k.1,
)

-- ---- what can be named

name_front : (P : Meaning → Type 0) (xs ys : List (List ℕ × Meaning)) → EachName P (xs ++ ys) → EachName P xs
name_front P [] ys h = tt
name_front P (x ∷ xs) ys h = (h.0, name_front P xs ys h.1)

module _ (t : Table) (bs more : List Block) (fs : List Signature) (seen : List ℕ) where
  nameable_before : (m : Meaning) → IsPlaced t bs fs m → CanName (bs ++ more) seen m → CanName bs seen m
  nameable_before (variable b c) p h =
      elim (or_cases (is_global (slice_get (bs ++ more) b)) (contains b seen) h) [
        | inl g ↦ or_left _ _ (global_before b p.0 p.1 g)
        | inr g ↦ or_right _ _ g
      ]
    where
      global_before : (b : ℕ) (x : Block) → slice_get bs b ≡ Some x → is_global (slice_get (bs ++ more) b) ≡ true
          → is_global (slice_get bs b) ≡ true
      global_before b x q g =
          let later : is_global (Some x) ≡ true = rw (slice_get-append bs more b x q) at g in rw q later
  nameable_before (function n) p h = tt
  nameable_before (type_name c) p h = tt

  names_before : (xs : List (List ℕ × Meaning)) → EachName (IsPlaced t bs fs) xs → EachName (CanName (bs ++ more) seen) xs
      → EachName (CanName bs seen) xs
  names_before [] p h = tt
  names_before (x ∷ xs) p h = (nameable_before x.1 p.0 h.0, names_before xs p.1 h.1)

  same_before : (ss us : List Scope) → HaveNames ss us → EachMeaning (IsPlaced t bs fs) ss
      → EachMeaning (CanName (bs ++ more) seen) us → EachMeaning (CanName bs seen) ss
  same_before [] us n p h = tt
  same_before (s ∷ ss) [] n p h = absurd n
  same_before (s ∷ ss) (u ∷ us) n p h =
      (names_before s.names p.0 (subst (EachName (CanName (bs ++ more) seen)) (sym n.0) h.0), same_before ss us n.1 p.1 h.1)

  scopes_before : (ss us : List Scope) → NamesGrow ss us → EachMeaning (IsPlaced t bs fs) ss
      → EachMeaning (CanName (bs ++ more) seen) us → EachMeaning (CanName bs seen) ss
  scopes_before [] us n p h = tt
  scopes_before (s ∷ ss) [] n p h = absurd n
  scopes_before (s ∷ ss) (u ∷ us) n p h =
      let k = name_front (CanName (bs ++ more) seen) s.names n.0.0
      (subst (EachName (CanName (bs ++ more) seen)) (sym n.0.1) h.0) in
      (names_before s.names p.0 k, same_before ss us n.1 p.1 h.1)

-- what can be named later could be named before
pub covers_before : (seen : List ℕ) (G H : Env) → IsEnv G → Follows G H → NamesGrow G.scopes H.scopes → Covers seen H
    → Covers seen G
covers_before seen G H h f n c =
    scopes_before G.types G.blocks f.more G.functions seen G.scopes H.scopes n h.places
    (subst (λ (bs : List Block). EachMeaning (CanName bs seen) H.scopes) f.blocks c)

-- ---- statements on the way

module _ (G H : Env) (f : Follows G H) (result : Option ℕ) where
  kept_functions : (n : ℕ) (s : Signature) → slice_get G.functions n ≡ Some s → slice_get H.functions n ≡ Some s
  kept_functions n s e = subst (λ (fs : List Signature). slice_get fs n ≡ Some s) (sym f.functions) e

  pub stmts_later : (ss : core.Stmts) (seen : List ℕ) (i : Bool) → StmtsFit G.types G.blocks G.functions result ss seen i
      → StmtsFit H.types H.blocks H.functions result ss seen i
  stmts_later ss seen i k =
      subst (λ (bs : List Block). StmtsFit H.types bs H.functions result ss seen i) (sym f.blocks)
      (stmts_stay G.types H.types f.grows f.env.declared.table.built G.blocks f.more G.functions H.functions kept_functions
      result ss seen i k)

  pub what_later : (w : core.What) (seen : List ℕ) (i : Bool) → WhatFits G.types G.blocks G.functions result w seen i
      → WhatFits H.types H.blocks H.functions result w seen i
  what_later w seen i k =
      subst (λ (bs : List Block). WhatFits H.types bs H.functions result w seen i) (sym f.blocks)
      (what_stays G.types H.types f.grows f.env.declared.table.built G.blocks f.more G.functions H.functions kept_functions
      result w seen i k)

-- ---- scopes

pub more_seen : (bs : List Block) (own seen : List ℕ) (m : Meaning) → CanName bs seen m → CanName bs (own ++ seen) m
more_seen bs own seen (variable b c) h = elim (or_cases (is_global (slice_get bs b)) (contains b seen) h) [
  | inl g ↦ or_left _ _ g
  | inr g ↦ or_right _ _ (contains-right b own seen g)
]
more_seen bs own seen (function n) h = tt
more_seen bs own seen (type_name c) h = tt

pub own_names : (bs : List Block) (xs : List (List ℕ × Meaning)) (before seen : List ℕ)
    → EachName (CanName bs ((before ++ blocks_of xs) ++ seen)) xs
own_names bs [] before seen = tt
own_names bs (x ∷ xs) before seen = (
  here x.1,
  subst (λ (own : List ℕ). EachName (CanName bs (own ++ seen)) xs) (append-assoc before (block_of x.1) (blocks_of xs))
      (own_names bs xs (before ++ block_of x.1) seen),
)
  where
    own : List ℕ
    own = before ++ (block_of x.1 ++ blocks_of xs)

    here : (m : Meaning) → CanName bs ((before ++ (block_of m ++ blocks_of xs)) ++ seen) m
    here (variable b c) = or_right _ _ (contains-left b (before ++ (b ∷ blocks_of xs)) seen
        (contains-right b before (b ∷ blocks_of xs) (or_left (nat_eq b b) _ (grind (arith, nat_tests)))))
    here (function n) = tt
    here (type_name c) = tt

meaning_seen : (bs : List Block) (own seen : List ℕ) (ss : List Scope) → EachMeaning (CanName bs seen) ss
    → EachMeaning (CanName bs (own ++ seen)) ss
meaning_seen bs own seen [] h = tt
meaning_seen bs own seen (s ∷ ss) h =
    (name_more (CanName bs seen) (CanName bs (own ++ seen)) (more_seen bs own seen) s.names h.0, meaning_seen bs own seen ss h.1)

-- in a scope, what can be named outside and the scope's own blocks can be named
pub covers_inside : (seen : List ℕ) (H : Env) → Covers seen (left H) → Covers (blocks_of (innermost H).names ++ seen) H
covers_inside seen H c = by H.scopes c
  where
    by : (ss : List Scope) → EachMeaning (CanName H.blocks seen) (outer ss)
        → EachMeaning (CanName H.blocks (blocks_of (innermost (record H { scopes = ss })).names ++ seen)) ss
    by [] k = tt
    by (s ∷ ss) k = (own_names H.blocks s.names [] seen, meaning_seen H.blocks (blocks_of s.names) seen ss k)

-- all that is in scope, which all that is in scope can be named by
abbrev pub all_blocks : List Scope → List ℕ
all_blocks [] = []
all_blocks (s ∷ ss) = blocks_of s.names ++ all_blocks ss

pub covers_all : (bs : List Block) (ss : List Scope) → EachMeaning (CanName bs (all_blocks ss)) ss
covers_all bs [] = tt
covers_all bs (s ∷ ss) =
    (own_names bs s.names [] (all_blocks ss), meaning_seen bs (blocks_of s.names) (all_blocks ss) ss (covers_all bs ss))

-- a scope without names
pub covers_empty : (seen : List ℕ) (H : Env) (ss : List Scope) → HaveNames (no_names ∷ ss) H.scopes → Covers seen (left H)
    → Covers seen H
covers_empty seen H ss n c = by H.scopes n c
  where
    by : (us : List Scope) → HaveNames (no_names ∷ ss) us → EachMeaning (CanName H.blocks seen) (outer us)
        → EachMeaning (CanName H.blocks seen) us
    by [] k m = absurd k
    by (u ∷ us) k m = (subst (EachName (CanName H.blocks seen)) k.0 tt, m)

pub env_entered : (G : Env) → IsEnv G → IsEnv (entered G)
env_entered G h = record {
  declared = record {
    table = h.declared.table;
    fields = h.declared.fields;
    names = (tt, h.declared.names);
    tags = (tt, h.declared.tags);
    functions = h.declared.functions;
  };
  places = (tt, h.places);
  blocks = h.blocks;
}

pub env_left : (G : Env) → IsEnv G → IsEnv (left G)
env_left G h = by G.scopes h.declared.names h.declared.tags h.places
  where
    by : (ss : List Scope) → EachMeaning (IsTyped G.types) ss → EachTag (λ a. a < length G.types.aggregates) ss
        → EachMeaning (IsPlaced G.types G.blocks G.functions) ss → IsEnv (record G { scopes = outer ss })
    by [] n t p = record {
      declared = record {
        table = h.declared.table;
        fields = h.declared.fields;
        names = tt;
        tags = tt;
        functions = h.declared.functions;
      };
      places = tt;
      blocks = h.blocks;
    }
    by (s ∷ ss) n t p = record {
      declared = record {
        table = h.declared.table;
        fields = h.declared.fields;
        names = n.1;
        tags = t.1;
        functions = h.declared.functions;
      };
      places = p.1;
      blocks = h.blocks;
    }

pub follows_entered : (G H : Env) → IsEnv G → Follows (entered G) H → Follows G H
follows_entered G H h f = record { env = f.env; grows = f.grows; more = f.more; blocks = f.blocks; functions = f.functions }

pub follows_left : (G H : Env) → Follows G H → Follows G (left H)
follows_left G H f =
    record { env = env_left H f.env; grows = f.grows; more = f.more; blocks = f.blocks; functions = f.functions }

pub names_left : (s : Scope) (ss us : List Scope) → NamesGrow (s ∷ ss) us → HaveNames ss (outer us)
names_left s ss [] n = absurd n
names_left s ss (u ∷ us) n = n.1

pub same_left : (s : Scope) (ss us : List Scope) → HaveNames (s ∷ ss) us → HaveNames ss (outer us)
same_left s ss [] n = absurd n
same_left s ss (u ∷ us) n = n.1
