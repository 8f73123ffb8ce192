-- Bounds, arrays and objects that are declared.
use Rattle.std.proofs.Common.{◌≡◌, ℕ, ◌<◌, nat_le, nat_eq, Bool, true, false, ◌&&◌, ◌||◌, cond, List, [], ◌∷◌, ◌++◌}
use Rattle.ep_layout.proofs.Basics.{grows-trans}
use Rattle.ep_int.proofs.Basics.{slice_get-append}
use Rattle.std.proofs.lemmas.Bool.{and_from, or_left}
use Rattle.std.proofs.Common.{length, slice_get, Option, Some, None, option_and_then, unwrap_or, Result, Ok, Err}
use Rattle.std.proofs.Common.{refl, sym, ap, ◌∙◌, subst, ◌⊎◌, inl, inr, arith, ℤ, pos, negsuc}
use Rattle.std.proofs.lemmas.Bool.Decides.{nat_tests}
use Rattle.std.proofs.lemmas.Bool.{and_parts}
use Rattle.ep_int.specs.Memory.{contains}
use Rattle.ep_ast.specs.Expression as source
use Rattle.ep_ast.specs.Declaration.{Declarator}
use Rattle.ep_layout.specs.declared.types.Ty.TheVariants as rows
use Rattle.ep_layout.specs.declared.types.LayoutStop.{LayoutStop}
use Rattle.ep_layout.specs.Table.{Grows, Table, size, type_added, type_stop}
use Rattle.ep_layout.proofs.Options.{get_push, get_last}
use Rattle.ep_layout.proofs.Recursion.{kept_by_itself}
use Rattle.ep_core.specs.Program.{Block}
use Rattle.ep_core.specs.Runs.{is_global}
use Rattle.ep_core.specs.WellFormed.{block_fits, block_has, is_length, is_number}
use Rattle.ep_typing.specs.declared.types.Base.TheVariants as bases
use Rattle.ep_typing.specs.declared.types.CType.{CType}
use Rattle.ep_typing.specs.Results.{needed}
use Rattle.ep_typing.specs.Types.{c_type_number, known_number, size_of_type, whole, with_c_type, with_stars}
use Rattle.ep_typing.specs.Env.{Env, Meaning, Scope, Signature, function, type_name, variable}
use Rattle.ep_typing.specs.Constant.{constant_of, count_in, count_of}
use Rattle.ep_typing.specs.Operand.{Value}
use Rattle.ep_elaboration.specs.Declarators.{Object, array_of, arrays_of, counted, declared_object, is_taken, made}
use Rattle.ep_elaboration.specs.Declarators.{name_in, object_of, sized_object, with_block, with_name, with_types}
use Rattle.ep_elaboration.specs.DeclaratorRules.{MeansBound, MeansBounds, MeansObject, MeansObjectBounds}
use Rattle.ep_elaboration.specs.DeclaratorRules.{from_list, is_bound, is_object, listed_with_bound}
use Rattle.ep_elaboration.specs.DeclaratorRules.{listed_without_bounds, more_bounds, no_bounds, without_list}
use Rattle.ep_well_formed_laws.specs.Numbers.{HasNumber, IsTable, array_number, may_be, type_number}
use Rattle.ep_well_formed_laws.specs.Environments.{CanName, Covers, EachMeaning, EachName, EachTag, HasScope}
use Rattle.ep_well_formed_laws.specs.Environments.{IsDeclared, IsEnv, IsPlaced, IsTyped}
use Rattle.ep_well_formed_laws.specs.Operands.{PlaceFits}
use Rattle.ep_well_formed_laws.proofs.Tables.{row_at}
use Rattle.ep_well_formed_laws.proofs.Extents.{same_size, size_is_length}
use Rattle.ep_well_formed_laws.proofs.Additions.{IsKnownBase, added, c_number_is, type_comes}
use Rattle.ep_well_formed_laws.proofs.Additions.{type_number_stays}
use Rattle.ep_well_formed_laws.proofs.Scopes.{meaning_more, name_push, same_names}
use Rattle.ep_well_formed_laws.proofs.Mentions.{Mentions, expression_mentioned, known_base, mentions_none}
use Rattle.ep_well_formed_laws.proofs.Mentions.{mentions_on, same_rows_open, table_mentioned, env_mentioned}
use Rattle.ep_well_formed_laws.proofs.Steps.{Follows, NamesGrow, follows_mentions, follows_on, names_grow_on}
use Rattle.ep_well_formed_laws.proofs.Steps.{names_stay}
use Rattle.ep_well_formed_laws.proofs.Tests.{after, needed_is, unless}
use Rattle.ep_well_formed_laws.proofs.Values.{number_below, same_number, self_may_be}

-- ---- bounds

abbrev pub AreLengths : List ℕ → Type 0
AreLengths [] = Unit {0}
AreLengths (n ∷ ns) = (is_length n ≡ true) × AreLengths ns

pub count_in_is : (z : ℤ) (n : ℕ) → count_in z ≡ Some n → is_length n ≡ true
count_in_is (pos k) n e = by_test (nat_le 1 k && nat_le k 65536) refl e
  where
    by_test : (b : Bool) → (nat_le 1 k && nat_le k 65536) ≡ b → cond b (Some k) None ≡ Some n → is_length n ≡ true
    by_test true q r = let same : k ≡ n = cc in subst (λ (j : ℕ). is_length j ≡ true) same q
    by_test false q r = absurd cc
count_in_is (negsuc k) n e = absurd cc

pub count_is : (v : Value) (n : ℕ) → count_of v ≡ Some n → is_length n ≡ true
unfolding count_of
count_is v n h = by (constant_of v) h
  where
    by : (o : Option ℤ) → option_and_then count_in o ≡ Some n → is_length n ≡ true
    by None e = absurd cc
    by (Some z) e = count_in_is z n e

counted_is : (r : Result Value ℕ) (n : ℕ) → counted r ≡ Ok n → is_length n ≡ true
counted_is (Ok v) n e = count_is v n (needed_is 17 (count_of v) n e)
counted_is (Err k) n e = absurd cc

-- what comes by bounds are mentions, and the bounds are lengths
pub record HasBounds (G H : Env) (ns : List ℕ) : Type 0 where
  pub mentions : Mentions G H
  pub lengths : AreLengths ns

pub bound_is : (G : Env) (l : ℕ) (b : Option source.Expr) (x : ℕ × Env) → IsDeclared G → MeansBound G l b x
    → Mentions G x.1 × (is_length x.0 ≡ true)
bound_is G l b x h (is_bound {e = e} y n m q) = ((expression_mentioned G e h).mentions, counted_is _ n q)

pub bounds_are : (G : Env) (l : ℕ) (bs : List (Option source.Expr)) (x : List ℕ × Env) → IsDeclared G
    → MeansBounds G l bs x → HasBounds G x.1 x.0
bounds_are G l bs x h no_bounds = record { mentions = mentions_none G h; lengths = tt }
bounds_are G l bs x h (more_bounds {b = b} {bs = cs} y z m k) =
    let p = bound_is G l b y h m in
    let q = bounds_are y.1 l cs z p.0.declared k in
    record { mentions = mentions_on G y.1 z.1 p.0 q.mentions; lengths = (p.1, q.lengths) }

pub object_bounds_are : (G : Env) (l : ℕ) (o : Option ℕ) (bs : List (Option source.Expr)) (x : List ℕ × Env) → IsDeclared G
    → MeansObjectBounds G l o bs x → HasBounds G x.1 x.0
object_bounds_are G l o bs x h (from_list {n = n} {bs = cs} c y q m) =
    let p = bounds_are G l cs y h m in
    record { mentions = p.mentions; lengths = (count_in_is (pos n) c (needed_is 17 _ c q), p.lengths) }
object_bounds_are G l o bs x h (without_list y m) = bounds_are G l bs x h m
object_bounds_are G l o bs x h (listed_without_bounds y m) = bounds_are G l [] x h m
object_bounds_are G l o bs x h (listed_with_bound {e = e} {bs = cs} y m) = bounds_are G l (Some e ∷ cs) x h m

-- ---- arrays

-- a type that comes into a table
pub record TypeComes (t u : Table) (c : CType) : Type 0 where
  pub table : IsTable u
  pub grows : Grows t u
  pub number : HasNumber u c
  pub rows : u.aggregates ≡ t.aggregates

array_row_number : (t : Table) (k e n : ℕ) → slice_get t.types k ≡ Some (rows.Array e n)
    → type_number t (whole (bases.Array k)) ≡ Some k
array_row_number t k e n h = ap (array_number k) h

abbrev paired : CType → Table → Result (CType × Table) ℕ
paired c u = Ok (c, u)

abbrev a_pair : CType → Table → CType × Table
a_pair c u = (c, u)

paired_is : (c : CType) (u : Table) (r : CType × Table) → paired c u ≡ Ok r → a_pair c u ≡ r
paired_is c u r e = cc

made_is : (t : Table) (c : CType) (e n : ℕ) (o : Option LayoutStop) (r : CType × Table) → IsTable t → e < length t.types
    → is_length n ≡ true → type_stop t (rows.Array e n) ≡ o → made t (rows.Array e n) o ≡ Ok r → TypeComes t r.1 r.0
made_is t c e n (Some s) r h l k q m = absurd cc
made_is t c e n None r h l k q m =
    let a = added t (rows.Array e n) h (grind (arith, nat_tests)) q (λ d j p. (let same : n ≡ j = cc in
    subst (λ (i : ℕ). is_length i ≡ true) same k)) in
    let u = type_added t (rows.Array e n) in
    let i : known_number u (rows.Array e n) ≡ a.number = ap (λ (o : Option ℕ). unwrap_or o 0) a.has in
    let row = row_at u (rows.Array e n) a.number a.has in
    let is : type_number u (whole (bases.Array (known_number u (rows.Array e n)))) ≡ Some (known_number u (rows.Array e n)) =
    array_row_number u (known_number u (rows.Array e n)) e n
    (subst (λ (j : ℕ). slice_get u.types j ≡ Some (rows.Array e n)) (sym i) row) in
    comes r (whole (bases.Array (known_number u (rows.Array e n)))) u m a.table a.grows (known_number u (rows.Array e n), is) a.rows
  where
    comes : (r : CType × Table) (c : CType) (u : Table) → paired c u ≡ Ok r → IsTable u → Grows t u → HasNumber u c
        → u.aggregates ≡ t.aggregates → TypeComes t r.1 r.0
    comes r c u e h g k i =
        let same = paired_is c u r e in
        subst (λ (x : CType × Table). TypeComes t x.1 x.0) same (record { table = h; grows = g; number = k; rows = i })

pub arrays_come : (t : Table) (c : CType) (ns : List ℕ) (r : CType × Table) → IsTable t → IsKnownBase t c.base → AreLengths ns
    → arrays_of t c ns ≡ Ok r → TypeComes t r.1 r.0
unfolding arrays_of array_of
arrays_come t c [] r h k l e =
    let p = type_comes t c h k in
    let same = paired_is c (with_c_type t c) r e in
    subst (λ (x : CType × Table). TypeComes t x.1 x.0) same
    (record { table = p.table; grows = p.grows; number = (_, p.has); rows = p.rows })
arrays_come t c (n ∷ ns) r h k l e =
    let p = after (arrays_of t c ns) _ r e in
    let q = arrays_come t c ns p.0 h k l.1 p.1 in
    let u = with_c_type p.0.1 p.0.0 in
    let s = type_comes p.0.1 p.0.0 q.table (known_base p.0.1 p.0.0 q.number q.table) in
    let m = made_is u p.0.0 (c_type_number u p.0.0) n (type_stop u (rows.Array (c_type_number u p.0.0) n)) r s.table
    (number_below u p.0.0 _ s.has) l.0 refl p.2 in
    record {
      table = m.table;
      grows = grows-trans t p.0.1 r.1 q.grows (grows-trans p.0.1 u r.1 s.grows m.grows);
      number = m.number;
      rows = m.rows ∙ s.rows ∙ q.rows;
    }

-- ---- objects

pub name_comes : (P : Meaning → Type 0) (ss : List Scope) (n : List ℕ) (m : Meaning) → EachMeaning P ss → P m
    → EachMeaning P (name_in ss n m)
name_comes P [] n m h k = tt
name_comes P (s ∷ ss) n m h k = (name_push P s.names n m h.0 k, h.1)

pub names_same_or_more : (ss : List Scope) (n : List ℕ) (m : Meaning) → NamesGrow ss (name_in ss n m)
names_same_or_more [] n m = tt
names_same_or_more (s ∷ ss) n m = (((n, m) ∷ [], refl), same_names ss)

pub tags_named : (P : ℕ → Type 0) (ss : List Scope) (n : List ℕ) (m : Meaning) → EachTag P ss → EachTag P (name_in ss n m)
tags_named P [] n m h = tt
tags_named P (s ∷ ss) n m h = h

-- an environment with one name more
pub env_named : (G : Env) (n : List ℕ) (m : Meaning) → IsEnv G → IsTyped G.types m → IsPlaced G.types G.blocks G.functions m
    → IsEnv (with_name G n m)
env_named G n m h k p = record {
  declared = record {
    table = h.declared.table;
    fields = h.declared.fields;
    names = name_comes (IsTyped G.types) G.scopes n m h.declared.names k;
    tags = tags_named (λ a. a < length G.types.aggregates) G.scopes n m h.declared.tags;
    functions = h.declared.functions;
  };
  places = name_comes (IsPlaced G.types G.blocks G.functions) G.scopes n m h.places p;
  blocks = h.blocks;
}

pub placed_front : (t : Table) (bs more : List Block) (fs : List Signature) (m : Meaning) → IsPlaced t bs fs m
    → IsPlaced t (bs ++ more) fs m
placed_front t bs more fs (variable b c) h = (h.0, slice_get-append bs more b h.0 h.1, h.2)
placed_front t bs more fs (function n) h = h
placed_front t bs more fs (type_name c) h = tt

-- and with one block more
pub env_with_block : (G : Env) (x : Block) → IsEnv G → block_fits G.types x ≡ true → IsEnv (with_block G x)
env_with_block G x h k = record {
  declared = record {
    table = h.declared.table;
    fields = h.declared.fields;
    names = h.declared.names;
    tags = h.declared.tags;
    functions = h.declared.functions;
  };
  places = meaning_more (IsPlaced G.types G.blocks G.functions) (IsPlaced G.types (G.blocks ++ x ∷ []) G.functions)
      (placed_front G.types G.blocks (x ∷ []) G.functions) G.scopes h.places;
  blocks = λ b y e. elim (get_push G.blocks x y b e) [
    | inl old ↦ h.blocks b y old
    | inr p ↦ subst (λ (z : Block). block_fits G.types z ≡ true) p.1 k
  ];
}

pub block_of_type : (t : Table) (c : CType) (n : ℕ) (global : Bool) → IsTable t → HasNumber t c → size_of_type t c ≡ Some n
    → block_fits t (record { size = n; ty = c_type_number t c; global = global }) ≡ true
block_of_type t c n global h k e =
    let z : size t k.0 ≡ Some n = sym (same_size t h.built c k.0 k.1) ∙ e in
    let i = c_number_is t c k.0 k.1 in
    let l = size_is_length t h k.0 n z in
    and_from _ _ (subst (λ (j : ℕ). is_number (size t j) n ≡ true) (sym i) (rw z (self_may_be n))) (and_parts _ _ l).0

-- an object that was declared, and the environment behind it
pub record IsObject (G H : Env) (global : Bool) (x : Object) : Type 0 where
  pub follows : Follows G H
  pub names : NamesGrow G.scopes H.scopes
  pub number : HasNumber H.types x.ty
  pub size : ℕ
  pub sized : size_of_type H.types x.ty ≡ Some size
  pub fits : (seen : List ℕ) → Covers seen H → HasScope G ⊎ (global ≡ true) → PlaceFits H.types H.blocks seen x.place x.ty

last_name : (P : Meaning → Type 0) (xs : List (List ℕ × Meaning)) (n : List ℕ) (m : Meaning)
    → EachName P (xs ++ (n, m) ∷ []) → P m
last_name P [] n m h = h.0
last_name P (x ∷ xs) n m h = last_name P xs n m h.1

name_there : (P : Meaning → Type 0) (ss : List Scope) (n : List ℕ) (m : Meaning) → (s : Scope) × (us : List Scope) × (ss ≡ s ∷ us)
    → EachMeaning P (name_in ss n m) → P m
name_there P [] n m k h = absurd (let bad = k.2 in cc)
name_there P (s ∷ ss) n m k h = last_name P s.names n m h.0

object_is : (G : Env) (global : Bool) (n : List ℕ) (c : CType) (size : ℕ) → IsEnv G → HasNumber G.types c
    → size_of_type G.types c ≡ Some size → IsObject G (object_of G global n c size).1 global (object_of G global n c size).0
object_is G global n c z h k e =
    let x : Block = record { size = z; ty = c_type_number G.types c; global = global } in
    let b : ℕ = length G.blocks in
    let I = with_block G x in
    let i = env_with_block G x h (block_of_type G.types c z global h.declared.table k e) in
    let here : slice_get I.blocks b ≡ Some x = get_last G.blocks x in
    let number : type_number G.types c ≡ Some x.ty = k.1 ∙ ap (λ (j : ℕ). Some j) (sym (c_number_is G.types c k.0 k.1)) in
    let m = variable b c in
    record {
      follows = record {
        env = env_named I n m i k (x, here, number);
        grows = kept_by_itself G.types;
        more = x ∷ [];
        blocks = refl;
        functions = refl;
      };
      names = names_same_or_more G.scopes n m;
      number = k;
      size = z;
      sized = e;
      fits = λ seen covers scope.
          let can : (is_global (slice_get I.blocks b) || contains b seen) ≡ true = can_name seen x b I here covers scope in
          record {
            made = inr k;
            has = λ ty q.
                let same : x.ty ≡ ty = same_number x.ty ty (subst (λ (o : Option ℕ). may_be o ty ≡ true) number q) in
                let test : nat_eq x.ty ty ≡ true = subst (λ (j : ℕ). nat_eq x.ty j ≡ true) same (self_may_be x.ty) in
                and_from (is_global (slice_get I.blocks b) || contains b seen)
                (block_has I.types I.blocks seen (slice_get I.blocks b) ty) can (rw here test);
          };
    }
  where
    can_name : (seen : List ℕ) (x : Block) (b : ℕ) (I : Env) → slice_get (G.blocks ++ x ∷ []) b ≡ Some x
        → EachMeaning (CanName (G.blocks ++ x ∷ []) seen) (name_in G.scopes n (variable b c)) → HasScope G ⊎ (x.global ≡ true)
        → (is_global (slice_get (G.blocks ++ x ∷ []) b) || contains b seen) ≡ true
    can_name seen x b I here covers (inl s) = name_there (CanName (G.blocks ++ x ∷ []) seen) G.scopes n (variable b c) s covers
    can_name seen x b I here covers (inr g) =
        or_left (is_global (slice_get (G.blocks ++ x ∷ []) b)) (contains b seen) (rw here g)

-- the object of a declarator
pub declared_is : (G : Env) (global : Bool) (n : List ℕ) (c : CType) (ns : List ℕ) (o : Object × Env) → IsEnv G
    → IsKnownBase G.types c.base → AreLengths ns → declared_object G global n c ns ≡ Ok o → IsObject G o.1 global o.0
unfolding declared_object sized_object
declared_is G global n c ns o h k l e =
    let a = unless (is_taken n G.scopes) 31 _ o e in
    let r = after (arrays_of G.types c ns) _ o a.1 in
    let t = arrays_come G.types c ns r.0 h.declared.table k l r.1 in
    let z = after (needed 33 (size_of_type r.0.1 r.0.0)) _ o r.2 in
    let H = with_types G r.0.1 in
    let m = table_mentioned G r.0.1 h.declared t.grows t.table (same_rows_open G.types r.0.1 t.rows) in
    let same : object_of H global n r.0.0 z.0 ≡ o = (let q = z.2 in cc) in
    let x = object_is H global n r.0.0 z.0 (env_mentioned G H h m) t.number (needed_is 33 _ z.0 z.1) in
    subst (λ (y : Object × Env). IsObject G y.1 global y.0) same (record {
      follows = follows_on G H _ (follows_mentions G H h m) x.follows;
      names = x.names;
      number = x.number;
      size = x.size;
      sized = x.sized;
      fits = x.fits;
    })

known_later : (t u : Table) → Grows t u → IsTable u → (c : CType) → HasNumber t c → HasNumber u c
known_later t u g h c k = (k.0, type_number_stays t u g h.built c k.0 k.1)

pub scope_stays : (G H : Env) → NamesGrow G.scopes H.scopes → HasScope G → HasScope H
scope_stays G H n h = by G.scopes H.scopes n h.2
  where
    by : (ss us : List Scope) → NamesGrow ss us → ss ≡ h.0 ∷ h.1 → (s : Scope) × (vs : List Scope) × (us ≡ s ∷ vs)
    by [] us n e = absurd cc
    by (s ∷ ss) [] n e = absurd n
    by (s ∷ ss) (u ∷ us) n e = (u, us, refl)

-- an object by its declarator, with the type of the words before it
pub object_declared_is : (G : Env) (global : Bool) (listed : Option ℕ) (c : CType) (d : Declarator) (o : Object × Env) → IsEnv G
    → HasNumber G.types c → MeansObject G global listed c d o → IsObject G o.1 global o.0
object_declared_is G global listed c d o h k (is_object ns x m e) =
    let b = object_bounds_are G d.line listed d.bounds ns h.declared m in
    let H = ns.1 in
    let i = env_mentioned G H h b.mentions in
    let base = known_base H.types c (known_later G.types H.types b.mentions.grows i.declared.table c k) i.declared.table in
    let y = declared_is H global d.name (with_stars c (length d.stars)) ns.0 o i base b.lengths e in
    record {
      follows = follows_on G H o.1 (follows_mentions G H h b.mentions) y.follows;
      names = names_grow_on G.scopes H.scopes o.1.scopes (names_stay G.scopes H.scopes b.mentions.names) y.names;
      number = y.number;
      size = y.size;
      sized = y.sized;
      fits = λ seen covers s. y.fits seen covers (later G H b.mentions s);
    }
  where
    later : (G H : Env) → Mentions G H → HasScope G ⊎ (global ≡ true) → HasScope H ⊎ (global ≡ true)
    later G H m (inl s) = inl (scope_stays G H (names_stay G.scopes H.scopes m.names) s)
    later G H m (inr g) = inr g
