-- Type words and the bodies of structs and unions leave an environment in which all that is named is there.
use Rattle.std.proofs.Common.{◌≡◌, ℕ, ◌<◌, ◌≤◌, ◌==◌, nat_eq, nat_le, Bool, true, false, true≢false, cond, ◌&&◌, ◌||◌, not}
use Rattle.ep_core.proofs.Tables.{more_types, more_aggregates}
use Rattle.ep_int.proofs.Basics.{nat_eq-self}
use Rattle.std.proofs.lemmas.Bool.{not-false}
use Rattle.std.proofs.lemmas.Option.{slice_get_within}
use Rattle.std.proofs.lemmas.Bool.{and_from, leb-true, or_cases, or_left, or_parts, or_right}
use Rattle.std.proofs.Common.{List, [], ◌∷◌, ◌++◌, length, length-append, slice_get, Option, Some, None, option_map}
use Rattle.std.proofs.Common.{if◌then◌else◌, is_some, option_and_then, unwrap_or, Result, Ok, Err, refl, sym, ap, ◌∙◌}
use Rattle.std.proofs.Common.{subst, inl, inr, arith, ℤ, pos, negsuc}
use Rattle.std.specs.List.{list_all, list_any}
use Rattle.std.proofs.lemmas.Bool.Decides.{nat_tests}
use Rattle.std.proofs.lemmas.Bool.{and_parts}
use Rattle.ep_int.specs.declared.types.IntType.{IntType}
use Rattle.ep_int.specs.Memory.{contains}
use Rattle.ep_int.specs.Types.{bits_of}
use Rattle.ep_ast.specs.Expression as source
use Rattle.ep_ast.specs.Expression.{TypeWord}
use Rattle.ep_ast.specs.Declaration.{Aggregate, Declarator, MemberField, Members, Specs}
use Rattle.ep_ast.specs.Mark.{union_word}
use Rattle.ep_layout.specs.declared.types.Ty.TheVariants as rows
use Rattle.ep_layout.specs.declared.types.LayoutStop.{LayoutStop}
use Rattle.ep_layout.specs.SameTypes.{is_same_sign}
use Rattle.ep_layout.specs.Table.{AggregateRow, Grows, MemberRow, Table, completed_with, declared, is_completed}
use Rattle.ep_layout.specs.Table.{is_type, is_union, laid_out, members_stop}
use Rattle.ep_layout.specs.Table.IsBuilt.{members_more}
use Rattle.ep_layout.proofs.Options.{get_front, get_last, get_set, get_set_other}
use Rattle.ep_layout.proofs.Laid.{completed_is, grows_with_members, with_members}
use Rattle.ep_layout.proofs.Recursion.{kept_by_itself}
use Rattle.ep_core.specs.WellFormed.{is_length}
use Rattle.ep_core.proofs.Sorts.{never}
use Rattle.ep_bitfield.specs.Bits.{is_unit_type}
use Rattle.ep_typing.specs.declared.types.Base.{Base}
use Rattle.ep_typing.specs.declared.types.Base.TheVariants as bases
use Rattle.ep_typing.specs.declared.types.CType.{CType}
use Rattle.ep_typing.specs.Results.{needed}
use Rattle.ep_typing.specs.Types.{c_type_number, int_of, is_int_base, is_integer, size_of_type, whole, with_c_type}
use Rattle.ep_typing.specs.Types.{with_stars}
use Rattle.ep_typing.specs.Constant.{constant_of}
use Rattle.ep_typing.specs.Env.{Env, Scope, entry, tag_in, with_tag}
use Rattle.ep_typing.specs.Fields.{with_fields_of}
use Rattle.ep_typing.specs.Names.{mentioned, mentioned_words}
use Rattle.ep_typing.specs.Operand.{Value, value_of}
use Rattle.ep_elaboration.specs.Declarators.{arrays_of, with_types}
use Rattle.ep_elaboration.specs.Aggregates.{Entry, Named, a_field, a_member, body_of, closed, closed_with, fields_in}
use Rattle.ep_elaboration.specs.Aggregates.{has_body, in_union, is_declared, is_field_entry, is_field_type}
use Rattle.ep_elaboration.specs.Aggregates.{is_taken_name, members_in, opened, tags_here, width_from, width_in}
use Rattle.ep_elaboration.specs.Aggregates.{with_field, with_fields, with_member}
use Rattle.ep_elaboration.specs.DeclaratorRules.{MeansBody, MeansEntries, MeansEntry, MeansMemberName, MeansMembers}
use Rattle.ep_elaboration.specs.DeclaratorRules.{MeansSpecs, MeansWidth, MeansWords, has_body as is_bodied}
use Rattle.ep_elaboration.specs.DeclaratorRules.{is_bit_field, is_body, is_member, is_member_name, is_plain}
use Rattle.ep_elaboration.specs.DeclaratorRules.{is_width, is_words, more_entries, no_entries, no_more_members}
use Rattle.ep_elaboration.specs.DeclaratorRules.{one_member_more, one_word_more}
use Rattle.ep_well_formed_laws.specs.Numbers.{HasNumber, IsTable}
use Rattle.ep_well_formed_laws.specs.Environments.{AreFields, EachTag, IsDeclared, IsTyped}
use Rattle.ep_well_formed_laws.proofs.Additions.{IsKnownBase, c_number_is, type_number_stays}
use Rattle.ep_well_formed_laws.proofs.FieldsFit.{fields_stay, new_fields}
use Rattle.ep_well_formed_laws.proofs.FieldUnits.{AreKnown, IsEntryOf, closed_fields, members_known}
use Rattle.ep_well_formed_laws.proofs.Objects.{AreLengths, arrays_come, bounds_are}
use Rattle.ep_well_formed_laws.proofs.Scopes.{each_same, names_tagged, same_names, tag_entry_is, tag_push}
use Rattle.ep_well_formed_laws.proofs.Mentions.{Declares, IsOpen, declares_mentions, declares_on, expression_mentioned}
use Rattle.ep_well_formed_laws.proofs.Mentions.{known_base, mentions_on, same_rows_open}
use Rattle.ep_well_formed_laws.proofs.Mentions.{table_declared, table_mentioned, type_mentioned, with_table}
use Rattle.ep_well_formed_laws.proofs.Mentions.{words_known, words_mentioned, below_aggregate}
use Rattle.ep_well_formed_laws.proofs.Parts.{integer_row, of_base}
use Rattle.ep_well_formed_laws.proofs.Tests.{after, needed_is, unless}
use Rattle.ep_well_formed_laws.proofs.Values.{number_below}

abbrev pub fine : {A : Type 0} → A → Result A ℕ
fine x = Ok x

pub fine_is : {A : Type 0} (x y : A) → fine x ≡ fine y → x ≡ y
fine_is x y e = cc

same_row : (g h : AggregateRow) → Some g ≡ Some h → g ≡ h
same_row g h e = cc

-- aggregates whose bodies stand round this stay open
abbrev pub StayRound : List ℕ → Env → Env → Type 0
StayRound round G H = (a : ℕ) → contains a round ≡ true → IsOpen G.types a → IsOpen H.types a

pub record IsSpecified (G H : Env) (round : List ℕ) (c : CType) : Type 0 where
  pub declares : Declares G H
  pub number : HasNumber H.types c
  pub round_stays : StayRound round G H

pub words_specified : (G : Env) (round : List ℕ) (ws : List TypeWord) (c : CType × Env) → IsDeclared G → MeansWords G ws c
    → IsSpecified G c.1 round c.0
words_specified G round ws c h (is_words d e) =
    let K = mentioned_words G ws in
    let m = (words_mentioned G ws h).0 in
    let t = type_mentioned K d m.declared (words_known K ws d m.declared e) in
    let n = mentions_on G K (record K { types = with_c_type K.types d }) m t.0 in
    record { declares = declares_mentions G _ n; number = t.1; round_stays = λ a k o. n.open_stay a o }

-- ---- tags

-- a tag that comes to the innermost scope, where it may hide another
tag_declares : (G : Env) (t : List ℕ) (u : Bool) → IsDeclared G → Declares G (with_tag G t u)
tag_declares G t u h =
    let m = table_declared G t u h in
    let a = length G.types.aggregates in
    let l : a < length (declared G.types t u).aggregates =
    omega (arith, length-append G.types.aggregates ((record { tag = t; is_union = u; members = None }) ∷ [])) in
    record {
      declared = record {
        table = m.declared.table;
        fields = m.declared.fields;
        names = each_same (IsTyped (declared G.types t u)) G.scopes (tag_in G.scopes t a) (names_tagged G.scopes t a)
            m.declared.names;
        tags = tag_push (λ k. k < length (declared G.types t u).aggregates) G.scopes t a m.declared.tags l;
        functions = m.declared.functions;
      };
      grows = m.grows;
      names = names_tagged G.scopes t a;
      blocks = refl;
      functions = refl;
    }

-- the aggregate of a body is open, and none of those round it
record IsOpened (G H : Env) (round : List ℕ) (u : Bool) (a : ℕ) : Type 0 where
  declares : Declares G H
  row : AggregateRow
  here : slice_get H.types.aggregates a ≡ Some row
  unset : row.members ≡ None
  union : row.is_union ≡ u
  round_stays : StayRound round G H
  other : (b : ℕ) → contains b round ≡ true → IsOpen G.types b → b ≡ a → ⊥

opened_new : (G H : Env) (t : List ℕ) (u : Bool) (round : List ℕ) → Declares G H → H.types ≡ declared G.types t u
    → IsOpened G H round u (length G.types.aggregates)
opened_new G H t u round d e = record {
  declares = d;
  row = record { tag = t; is_union = u; members = None };
  here = ap (λ (x : Table). slice_get x.aggregates (length G.types.aggregates)) e
      ∙ get_last G.types.aggregates (record { tag = t; is_union = u; members = None });
  unset = refl;
  union = refl;
  round_stays = λ a k o. later a o;
  other = λ b k o same. absurd (omega (arith, same, slice_get_within G.types.aggregates b o.0 o.1));
}
  where
    later : (a : ℕ) → IsOpen G.types a → IsOpen H.types a
    later a o = subst (λ (x : Table). IsOpen x a) (sym e)
        (o.0, get_front G.types.aggregates (record { tag = t; is_union = u; members = None }) o.0 a o.1, o.2)

same_sign : (a b : Bool) → is_same_sign a b ≡ true → a ≡ b
same_sign true true h = refl
same_sign true false h = never h
same_sign false true h = never h
same_sign false false h = refl

opened_before : (G : Env) (round : List ℕ) (u : Bool) (a : ℕ) → IsDeclared G → a < length G.types.aggregates
    → has_body G round u a ≡ false → IsOpened G G round u a
opened_before G round u a h l e =
    let p = or_parts (contains a round || is_completed G.types a) (not (is_same_sign (is_union G.types a) u)) e in
    let q = or_parts (contains a round) (is_completed G.types a) p.0 in
    let r = below_aggregate G.types.aggregates a l in
    let s = same_sign (is_union G.types a) u (not-false _ p.1) in
    record {
      declares = record { declared = h; grows = kept_by_itself G.types; names = same_names G.scopes; blocks = refl; functions = refl };
      row = r.0;
      here = r.1;
      unset = by_members r.0 r.1 r.0.members refl q.1;
      union = sym (ap (λ (o : Option AggregateRow). unwrap_or (option_map (λ (g : AggregateRow). g.is_union) o) false) r.1) ∙ s;
      round_stays = λ b k o. o;
      other = λ b k o same. both_ways b k same q.0;
    }
  where
    by_members : (g : AggregateRow) → slice_get G.types.aggregates a ≡ Some g → (o : Option (List MemberRow)) → g.members ≡ o
        → is_completed G.types a ≡ false → g.members ≡ None
    by_members g q None m k = m
    by_members g q (Some ms) m k =
        let done : is_completed G.types a ≡ true = rw (q, m) refl in absurd (true≢false (sym done ∙ k))

    both_ways : (b : ℕ) → contains b round ≡ true → b ≡ a → contains a round ≡ false → ⊥
    both_ways b k same n = absurd (true≢false (sym (subst (λ (j : ℕ). contains j round ≡ true) same k) ∙ n))

opened_is : (G : Env) (round : List ℕ) (u : Bool) (tag : Option (List ℕ)) (o : ℕ × Env) → IsDeclared G
    → opened G round u tag ≡ Ok o → IsOpened G o.1 round u o.0
unfolding opened
opened_is G round u None o h e =
    let H : Env = record G { types = declared G.types [] u } in
    let same = fine_is {A = ℕ × Env} (length G.types.aggregates, H) o e in
    subst (λ (x : ℕ × Env). IsOpened G x.1 round u x.0) same
    (opened_new G H [] u round (declares_mentions G H (table_declared G [] u h)) refl)
opened_is G round u (Some t) o h e = by (entry t (tags_here G.scopes)) refl e
  where
    tag_below : (ss : List Scope) (a : ℕ) → EachTag (λ k. k < length G.types.aggregates) ss → entry t (tags_here ss) ≡ Some a
        → a < length G.types.aggregates
    tag_below [] a k q = absurd cc
    tag_below (s ∷ ss) a k q = tag_entry_is (λ k. k < length G.types.aggregates) t s.tags a k.0 q

    by : (x : Option ℕ) → entry t (tags_here G.scopes) ≡ x → body_of G round u t x ≡ Ok o → IsOpened G o.1 round u o.0
    by None q m =
        let same = fine_is {A = ℕ × Env} (length G.types.aggregates, with_tag G t u) o m in
        subst (λ (x : ℕ × Env). IsOpened G x.1 round u x.0) same
        (opened_new G (with_tag G t u) t u round (tag_declares G t u h) refl)
    by (Some a) q m =
        let r = unless (has_body G round u a) 31 _ o m in
        let same = fine_is {A = ℕ × Env} (a, G) o r.1 in
        subst (λ (x : ℕ × Env). IsOpened G x.1 round u x.0) same
        (opened_before G round u a h (tag_below G.scopes a h.tags q) r.0)

-- ---- members

entry_more : (t u : Table) → Grows t u → (e : Entry) → IsEntryOf t e → IsEntryOf u e
entry_more t u g (a_member n ty) h =
    let l = more_types t u g in grind (arith, nat_tests)
entry_more t u g (a_field n ty i w) h = (g.types ty (rows.Int i) h.0, h.1, h.2)

known_more : (t u : Table) → Grows t u → (es : Named) → AreKnown t es → AreKnown u es
known_more t u g [] h = tt
known_more t u g (e ∷ es) h = (entry_more t u g e h.0, known_more t u g es h.1)

known_push : (t : Table) (es : Named) (e : Entry) → AreKnown t es → IsEntryOf t e → AreKnown t (es ++ e ∷ [])
known_push t [] e h k = (k, tt)
known_push t (x ∷ es) e h k = (h.0, known_push t es e h.1 k)

record AreMembers (G H : Env) (round : List ℕ) (ms : Named) : Type 0 where
  declares : Declares G H
  known : AreKnown H.types ms
  round_stays : StayRound round G H

members_on : (G H I : Env) (round : List ℕ) (ms : Named) → Declares G H → StayRound round G H → AreMembers H I round ms
    → AreMembers G I round ms
members_on G H I round ms d r m = record {
  declares = declares_on G H I d m.declares;
  known = m.known;
  round_stays = λ a k o. m.round_stays a k (r a k o);
}

type_below : (t : Table) (n : ℕ) → n < length t.types → is_type t n ≡ true
type_below t n l = grind (arith, nat_tests)

with_member_is : (G : Env) (round : List ℕ) (ms : Named) (n : List ℕ) (c : CType) (ns : List ℕ) (x : Named × Env) → IsDeclared G
    → IsKnownBase G.types c.base → AreLengths ns → AreKnown G.types ms → with_member G ms n c ns ≡ Ok x
    → AreMembers G x.1 round x.0
unfolding with_member
with_member_is G round ms n c ns x h k l known e =
    let a = unless (is_declared n ms) 31 _ x e in
    let r = after (arrays_of G.types c ns) _ x a.1 in
    let t = arrays_come G.types c ns r.0 h.table k l r.1 in
    let z = after (needed 33 (size_of_type r.0.1 r.0.0)) _ x r.2 in
    let H = with_types G r.0.1 in
    let m = table_mentioned G r.0.1 h t.grows t.table (same_rows_open G.types r.0.1 t.rows) in
    let new = a_member n (c_type_number r.0.1 r.0.0) in
    let same = fine_is {A = Named × Env} (ms ++ new ∷ [], H) x z.2 in
    let i = c_number_is r.0.1 r.0.0 t.number.0 t.number.1 in
    let l : c_type_number r.0.1 r.0.0 < length r.0.1.types =
    subst (λ (j : ℕ). j < length r.0.1.types) (sym i) (number_below r.0.1 r.0.0 t.number.0 t.number.1) in
    subst (λ (y : Named × Env). AreMembers G y.1 round y.0) same (record {
      declares = declares_mentions G H m;
      known = known_push r.0.1 ms new (known_more G.types r.0.1 t.grows ms known)
          (type_below r.0.1 (c_type_number r.0.1 r.0.0) l);
      round_stays = λ a k o. m.open_stay a o;
    })

member_name_is : (G : Env) (round : List ℕ) (ms : Named) (c : CType) (d : Declarator) (x : Named × Env) → IsDeclared G
    → HasNumber G.types c → AreKnown G.types ms → MeansMemberName G ms c d x → AreMembers G x.1 round x.0
member_name_is G round ms c d x h k known (is_member_name ns y m e) =
    let b = bounds_are G d.line d.bounds ns h m in
    let H = ns.1 in
    let i = b.mentions.declared in
    let number : HasNumber H.types c = (k.0, type_number_stays G.types H.types b.mentions.grows i.table.built c k.0 k.1) in
    let w = with_member_is H round ms d.name (with_stars c (length d.stars)) ns.0 x i (known_base H.types c number i.table)
    b.lengths (known_more G.types H.types b.mentions.grows ms known) e in
    members_on G H x.1 round x.0 (declares_mentions G H b.mentions) (λ a q o. b.mentions.open_stay a o) w

-- ---- bit-fields

-- a width is within its type, and of a bit-field with a name it isn't 0
abbrev IsWidth : IntType → Bool → ℕ → Type 0
IsWidth t named n = (nat_le n (bits_of t) ≡ true) × (named ≡ true → 1 ≤ n)

some_width : (n : ℕ) (named : Bool) → (nat_le 1 n || not named) ≡ true → named ≡ true → 1 ≤ n
some_width n true h p = elim (or_cases (nat_le 1 n) false h) [ inl a ↦ leb-true 1 n a | inr a ↦ never a ]
some_width n false h p = never p

width_from_is : (t : IntType) (named : Bool) (z : ℤ) (n : ℕ) → width_from t named z ≡ Some n → IsWidth t named n
width_from_is t named (pos m) n e =
    by (nat_le m (bits_of t) && (nat_le 1 m || not named)) refl e
  where
    by : (b : Bool) → (nat_le m (bits_of t) && (nat_le 1 m || not named)) ≡ b → cond b (Some m) None ≡ Some n
        → IsWidth t named n
    by true q r =
        let same : m ≡ n = cc in
        let s = and_parts (nat_le m (bits_of t)) (nat_le 1 m || not named) q in
        subst (IsWidth t named) same (s.0, some_width m named s.1)
    by false q r = absurd cc
width_from_is t named (negsuc m) n e = absurd cc

width_in_is : (t : IntType) (named : Bool) (v : Result Value ℕ) (n : ℕ) → width_in t named v ≡ Some n → IsWidth t named n
width_in_is t named (Ok v) n e = by (constant_of v) e
  where
    by : (o : Option ℤ) → option_and_then (width_from t named) o ≡ Some n → IsWidth t named n
    by None q = absurd cc
    by (Some z) q = width_from_is t named z n q
width_in_is t named (Err k) n e = absurd cc

integer_known : (t : Table) (c : CType) → is_integer c ≡ true → IsKnownBase t c.base
integer_known t c h = by c.base (of_base c (is_int_base c.base) h).1
  where
    by : (b : Base) → is_int_base b ≡ true → IsKnownBase t b
    by bases.Void p = tt
    by (bases.Int i) p = tt
    by (bases.Array n) p = never p
    by (bases.Aggregate a) p = never p

with_field_is : (G : Env) (round : List ℕ) (u : Bool) (ms : Named) (c : CType) (n : Option (List ℕ)) (v : Result Value ℕ)
    (x : Named × Env) → IsDeclared G → AreKnown G.types ms → with_field G u ms c n v ≡ Ok x
    → AreMembers G x.1 round x.0
unfolding with_field
with_field_is G round u ms c n v x h known e =
    let a = unless (u || not (is_field_type c)) 9 _ x e in
    let w = after (needed 9 (width_in (int_of c) (is_some n) v)) _ x a.1 in
    let b = unless (is_taken_name n ms) 31 _ x w.2 in
    let q = not-false (is_field_type c) (or_parts u (not (is_field_type c)) a.0).1 in
    let p = and_parts (is_integer c) (is_unit_type (int_of c)) q in
    let width = width_in_is (int_of c) (is_some n) v w.0 (needed_is 9 _ w.0 w.1) in
    let t = with_c_type G.types c in
    let r = type_mentioned G c h (integer_known G.types c p.0) in
    let H = with_types G t in
    let new = a_field n (c_type_number t c) (int_of c) w.0 in
    let same = fine_is {A = Named × Env} (ms ++ new ∷ [], H) x b.1 in
    let row = subst (λ (j : ℕ). slice_get t.types j ≡ Some (rows.Int (int_of c))) (sym (c_number_is t c r.1.0 r.1.1))
    (integer_row t c r.1.0 p.0 r.1.1) in
    subst (λ (y : Named × Env). AreMembers G y.1 round y.0) same (record {
      declares = declares_mentions G H r.0;
      known = known_push t ms new (known_more G.types t r.0.grows ms known)
          (row, and_from (is_unit_type (int_of c)) (nat_le w.0 (bits_of (int_of c))) p.1 width.0, width.1);
      round_stays = λ j k o. r.0.open_stay j o;
    })

width_is : (G : Env) (round : List ℕ) (ms : Named) (c : CType) (l : ℕ) (n : Option (List ℕ)) (e : source.Expr)
    (x : Named × Env) → IsDeclared G → AreKnown G.types ms → MeansWidth G round ms c l n e x
    → AreMembers G x.1 round x.0
width_is G round ms c l n e x h known (is_width y z m q) =
    let b = (expression_mentioned G e h).mentions in
    let H = mentioned G e in
    let w = with_field_is H round (in_union G round) ms c n (value_of H.types y) x b.declared
    (known_more G.types H.types b.grows ms known) q in
    members_on G H x.1 round x.0 (declares_mentions G H b) (λ a k o. b.open_stay a o) w

entry_is : (G : Env) (round : List ℕ) (ms : Named) (c : CType) (f : MemberField) (x : Named × Env) → IsDeclared G
    → HasNumber G.types c → AreKnown G.types ms → MeansEntry G round ms c f x → AreMembers G x.1 round x.0
entry_is G round ms c f x h k known (is_member {d = d} y m) = member_name_is G round ms c d x h k known m
entry_is G round ms c f x h k known (is_bit_field {l = l} {n = n} {e = e} y m) =
    width_is G round ms c l n e x h known m

entries_are : (G : Env) (round : List ℕ) (ms : Named) (c : CType) (fs : List MemberField) (x : Named × Env)
    → IsDeclared G → HasNumber G.types c → AreKnown G.types ms → MeansEntries G round ms c fs x
    → AreMembers G x.1 round x.0
entries_are G round ms c fs x h k known no_entries = record {
  declares = record { declared = h; grows = kept_by_itself G.types; names = same_names G.scopes; blocks = refl; functions = refl };
  known = known;
  round_stays = λ a q o. o;
}
entries_are G round ms c fs x h k known (more_entries {f = f} {fs = gs} y z m n) =
    let a = entry_is G round ms c f y h k known m in
    let H = y.1 in
    let number : HasNumber H.types c =
    (k.0, type_number_stays G.types H.types a.declares.grows a.declares.declared.table.built c k.0 k.1) in
    members_on G H z.1 round z.0 a.declares a.round_stays
    (entries_are H round y.0 c gs z a.declares.declared number a.known n)

-- ---- bodies

-- a table with a body that was closed
closed_table : (t : Table) (a : ℕ) (g : AggregateRow) (m : List ℕ × ℕ) (ms : List (List ℕ × ℕ)) → IsTable t
    → slice_get t.aggregates a ≡ Some g → g.members ≡ None
    → list_all (λ (x : List ℕ × ℕ). is_type t x.1) (m ∷ ms) ≡ true
    → members_stop t g.is_union (m ∷ ms) ≡ None → IsTable (completed_with t a (m ∷ ms))
closed_table t a g m ms h here none known fits = record {
  built = members_more t a g (m ∷ ms) h.built here none known fits;
  arrays = subst (λ (u : Table). (n e k : ℕ) → slice_get u.types n ≡ Some (rows.Array e k) → is_length k ≡ true)
      (sym (completed_is t a g (m ∷ ms) here)) h.arrays;
  bodies = subst (λ (u : Table). (b : ℕ) (r : AggregateRow) (xs : List MemberRow) → slice_get u.aggregates b ≡ Some r
      → r.members ≡ Some xs → (x : MemberRow) × (rest : List MemberRow) × (xs ≡ x ∷ rest))
      (sym (completed_is t a g (m ∷ ms) here)) bodies;
}
  where
    some_row : (u : Bool) → (x : MemberRow) × (rest : List MemberRow) × (laid_out t u (m ∷ ms) ≡ x ∷ rest)
    some_row true = (_, _, refl)
    some_row false = (_, _, refl)

    bodies : (b : ℕ) (r : AggregateRow) (xs : List MemberRow)
        → slice_get (with_members t a g (laid_out t g.is_union (m ∷ ms))).aggregates b ≡ Some r → r.members ≡ Some xs
        → (x : MemberRow) × (rest : List MemberRow) × (xs ≡ x ∷ rest)
    bodies b r xs q p = elim (get_set t.aggregates a b (record g { members = Some (laid_out t g.is_union (m ∷ ms)) }) r q) [
      | inl new ↦
          let s = some_row g.is_union in
          let same : Some (laid_out t g.is_union (m ∷ ms)) ≡ Some xs = ap (λ (x : AggregateRow). x.members) new.1 ∙ p in
          let e : laid_out t g.is_union (m ∷ ms) ≡ xs = cc in
          (s.0, s.1, sym e ∙ s.2)
      | inr old ↦ h.bodies b r xs old p
    ]

closed_grows : (t : Table) (a : ℕ) (g : AggregateRow) (ms : List (List ℕ × ℕ)) → slice_get t.aggregates a ≡ Some g
    → g.members ≡ None
    → Grows t (completed_with t a ms)
closed_grows t a g ms here none =
    subst (Grows t) (sym (completed_is t a g ms here)) (grows_with_members t a g (laid_out t g.is_union ms) here none)

closed_open : (t : Table) (a : ℕ) (g : AggregateRow) (ms : List (List ℕ × ℕ)) → slice_get t.aggregates a ≡ Some g
    → (b : ℕ)
    → (b ≡ a → ⊥) → IsOpen t b → IsOpen (completed_with t a ms) b
closed_open t a g ms here b other o =
    subst (λ (u : Table). IsOpen u b) (sym (completed_is t a g ms here))
    (elim (get_set_other t.aggregates a b (record g { members = Some (laid_out t g.is_union ms) }) o.0 o.1) [
      | inl same ↦ absurd (other same)
      | inr p ↦ (o.0, p, o.2)
    ])

record IsClosed (G H : Env) (a : ℕ) (c : CType) : Type 0 where
  declares : Declares G H
  number : HasNumber H.types c
  others : (b : ℕ) → (b ≡ a → ⊥) → IsOpen G.types b → IsOpen H.types b

-- the bit-fields of a body come to those that are there
closed_fields_are : (G : Env) (a : ℕ) (g : AggregateRow) (es : Named) → IsDeclared G
    → slice_get G.types.aggregates a ≡ Some g → g.members ≡ None → AreKnown G.types es
    → AreFields (completed_with G.types a (members_in es)) (with_fields G.fields a es)
closed_fields_are G a g es h here none known =
    let t = completed_with G.types a (members_in es) in
    let old = fields_stay G.types t (closed_grows G.types a g (members_in es) here none) G.fields h.fields in
    by (list_any is_field_entry es) old
    (new_fields t G.fields a (fields_in es) old (closed_fields G.types a g es here known))
  where
    by : (b : Bool) → AreFields (completed_with G.types a (members_in es)) G.fields
        → AreFields (completed_with G.types a (members_in es)) (with_fields_of G.fields a (fields_in es))
        → AreFields (completed_with G.types a (members_in es))
        (if b then with_fields_of G.fields a (fields_in es) else G.fields)
    by true p q = q
    by false p q = p

closed_by : (G : Env) (a : ℕ) (u : Bool) (es : Named) (ms : List (List ℕ × ℕ)) (o : Option LayoutStop) (c : CType × Env)
    → IsDeclared G → (g : AggregateRow) → slice_get G.types.aggregates a ≡ Some g → g.members ≡ None
    → g.is_union ≡ u → list_all (λ (x : List ℕ × ℕ). is_type G.types x.1) ms ≡ true
    → AreFields (completed_with G.types a ms) (with_fields G.fields a es) → members_stop G.types u ms ≡ o
    → closed_with G a es ms o ≡ Ok c → IsClosed G c.1 a c.0
closed_by G a u es [] o c h g here none union known fields fits e = absurd cc
closed_by G a u es (m ∷ ms) (Some s) c h g here none union known fields fits e = absurd cc
closed_by G a u es (m ∷ ms) None c h g here none union known fields fits e =
    let t = completed_with G.types a (m ∷ ms) in
    let H : Env = record G { types = t; fields = with_fields G.fields a es } in
    let grows = closed_grows G.types a g (m ∷ ms) here none in
    let stop = subst (λ (b : Bool). members_stop G.types b (m ∷ ms) ≡ None) (sym union) fits in
    let old = with_table G t h grows (closed_table G.types a g m ms h.table here none known stop) in
    let d : IsDeclared H =
    record { table = old.table; fields = fields; names = old.names; tags = old.tags; functions = old.functions } in
    let l : a < length t.aggregates = omega (arith, slice_get_within G.types.aggregates a g here, more_aggregates G.types t grows) in
    let k = type_mentioned H (whole (bases.Aggregate a)) d l in
    let same = fine_is {A = CType × Env} (whole (bases.Aggregate a), record H { types = with_c_type t (whole (bases.Aggregate a)) }) c e in
    subst (λ (x : CType × Env). IsClosed G x.1 a x.0) same (record {
      declares = declares_on G H _
          (record { declared = d; grows = grows; names = same_names G.scopes; blocks = refl; functions = refl })
          (declares_mentions H _ k.0);
      number = k.1;
      others = λ b other p. k.0.open_stay b (closed_open G.types a g (m ∷ ms) here b other p);
    })

closed_is : (G : Env) (a : ℕ) (u : Bool) (es : Named) (c : CType × Env) → IsDeclared G → (g : AggregateRow)
    → slice_get G.types.aggregates a ≡ Some g → g.members ≡ None → g.is_union ≡ u → AreKnown G.types es
    → closed G a u es ≡ Ok c → IsClosed G c.1 a c.0
closed_is G a u es c h g here none union known e =
    closed_by G a u es (members_in es) (members_stop G.types u (members_in es)) c h g here none union
    (members_known G.types es known) (closed_fields_are G a g es h here none known) refl e

mutual
  pub specified : (G : Env) (round : List ℕ) (ws : List TypeWord) (ss : Specs) (c : CType × Env) → IsDeclared G
      → MeansSpecs G round ws ss c → IsSpecified G c.1 round c.0
  specified G round ws ss c h (is_plain d m) = words_specified G round ws c h m
  specified G round ws ss c h (one_word_more {w = w} {ss = rest} d m) = specified G round (ws ++ w ∷ []) rest c h m
  specified G round ws ss c h (is_bodied {a = a} d m) = body_specified G round a c h m

  pub body_specified : (G : Env) (round : List ℕ) (a : Aggregate) (c : CType × Env) → IsDeclared G → MeansBody G round a c
      → IsSpecified G c.1 round c.0
  body_specified G round a c h (is_body {l = l} {w = w} {tag = tag} {ms = ms} o x d p m q) =
      let u = w == union_word in
      let k = opened_is G round u tag o h p in
      let n = members_specified o.1 (o.0 ∷ round) [] ms x k.declares.declared tt m in
      let open_now = n.round_stays o.0 (or_left (nat_eq o.0 o.0) _ (nat_eq-self o.0)) (k.row, k.here, k.unset) in
      let grown = n.declares.grows.aggregates o.0 k.row k.here in
      let union : open_now.0.is_union ≡ u =
      ap (λ (g : AggregateRow). g.is_union) (same_row open_now.0 grown.0 (sym open_now.1 ∙ grown.1)) ∙ grown.2 ∙ k.union in
      let z = closed_is x.1 o.0 u x.0 c n.declares.declared open_now.0 open_now.1 open_now.2 union n.known q in
      record {
        declares = declares_on G o.1 c.1 k.declares (declares_on o.1 x.1 c.1 n.declares z.declares);
        number = z.number;
        round_stays = λ b e i.
            z.others b (k.other b e i) (n.round_stays b (or_right (nat_eq b o.0) _ e) (k.round_stays b e i));
      }

  members_specified : (G : Env) (round : List ℕ) (ns : Named) (ms : Members) (x : Named × Env) → IsDeclared G
      → AreKnown G.types ns → MeansMembers G round ns ms x → AreMembers G x.1 round x.0
  members_specified G round ns ms x h k no_more_members = record {
    declares = record { declared = h; grows = kept_by_itself G.types; names = same_names G.scopes; blocks = refl; functions = refl };
    known = k;
    round_stays = λ a q o. o;
  }
  members_specified G round ns ms x h k (one_member_more {ss = ss} {fs = fs} {rest = rest} c y z m n r) =
      let s = specified G round [] ss c h m in
      let a = entries_are c.1 round ns c.0 fs y s.declares.declared s.number
      (known_more G.types c.1.types s.declares.grows ns k) n in
      let b = members_specified y.1 round y.0 rest x a.declares.declared a.known r in
      members_on G c.1 x.1 round x.0 s.declares s.round_stays (members_on c.1 y.1 x.1 round x.0 a.declares a.round_stays b)
