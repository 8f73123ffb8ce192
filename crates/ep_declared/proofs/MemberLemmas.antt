-- Members one after another.
use Rattle.std.proofs.Common.{◌≡◌, ℕ, suc, ◌+◌, ◌<◌, ◌≤◌, nat_lt, true, false, List, [], ◌∷◌, ◌++◌}
use Rattle.ep_typing.proofs.Order.{at_ok}
use Rattle.std.proofs.lemmas.Bool.{and_from}
use Rattle.std.proofs.Common.{length, map, drop, drop-cons, get_or, Result, Ok, refl}
use Rattle.std.proofs.Common.{sym, ap, ◌∙◌, arith}
use Rattle.std.specs.List.{list_all}
use Rattle.std.proofs.lemmas.Bool.{and_parts}
use Rattle.std.proofs.lemmas.Bool.Decides.{nat_tests}
use Rattle.std.proofs.lemmas.List.{drop_all}
use Rattle.ep_ast.specs.declared.declarations.DeclaratorTree.{DeclaratorTree}
use Rattle.ep_ast.specs.declared.refusals.Refusal.{Refusal}
use Rattle.ep_ast.specs.declared.refusals.Halt.{Halt}
use Rattle.ep_ast.specs.declared.refusals.Halt.TheVariants as halts
use Rattle.ep_ast.specs.declared.declarations.MemberFieldTree.{MemberFieldTree}
use Rattle.ep_ast.specs.Declaration.{declarator, member_field}
use Rattle.ep_layout.specs.Table.{Table, is_type}
use Rattle.ep_typing.specs.declared.types.CType.{CType}
use Rattle.ep_typing.specs.Env.{Env}
use Rattle.ep_typing.specs.Results.{◌>>=◌, at}
use Rattle.ep_elaboration.specs.Aggregates.{Entry, Named, entries_declared, entry_declared, is_declared, sized_member}
use Rattle.ep_elaboration.specs.Aggregates.{with_member}
use Rattle.ep_elaboration.specs.Declarators.{arrays_of}
use Rattle.ep_elaboration.specs.ProgramSteps.{type_declared, types_declared}
use Rattle.ep_operands.specs.Refinement.{Stops}
use Rattle.ep_declared.specs.Entries.{type_of}
use Rattle.ep_declared.specs.Open.{AreTypes}

-- ---- types of members

later : (m n k : ℕ) → m ≤ n → nat_lt k m ≡ true → nat_lt k n ≡ true
later m n k le h = grind (arith, nat_tests)

pub types_stay : (t u : Table) → length t.types ≤ length u.types → (es : Named) → AreTypes t es → AreTypes u es
types_stay t u le [] h = refl
types_stay t u le (e ∷ es) h =
    let p = and_parts _ _ h in
    and_from (is_type u (type_of e)) (list_all (λ n. is_type u (type_of n)) es)
    (later (length t.types) (length u.types) (type_of e) le p.0) (types_stay t u le es p.1)

pub type_put : (u : Table) (es : Named) (e : Entry) → AreTypes u es → type_of e < length u.types
    → AreTypes u (es ++ e ∷ [])
type_put u [] e h lt = and_from (is_type u (type_of e)) true (grind (arith, nat_tests)) refl
type_put u (n ∷ es) e h lt =
    let p = and_parts _ _ h in
    and_from (is_type u (type_of n)) (list_all (λ k. is_type u (type_of k)) (es ++ e ∷ [])) p.0 (type_put u es e p.1 lt)

-- ---- one member

module _ (l : ℕ) (G : Env) (ms : Named) (t : List ℕ) (c d : CType) (ns : List ℕ) (u : Table)
    (free : is_declared t ms ≡ false) (gives : at l (arrays_of G.types c ns) ≡ Ok (d, u)) where
  pub then_member : at l (with_member G ms t c ns) ≡ at l (sized_member (record G { types = u }) ms t (d, u))
  unfolding with_member
  then_member = rw (free, at_ok l (arrays_of G.types c ns) (d, u) gives) refl

  pub sized_stops : (e : Halt) → Stops (at l (sized_member (record G { types = u }) ms t (d, u))) e
      → Stops (at l (with_member G ms t c ns)) e
  sized_stops halts.Memory h = tt
  sized_stops (halts.Refused r) h = then_member ∙ h

-- ---- declarators one after another

front : (i : ℕ) (ds : List DeclaratorTree) (d : DeclaratorTree) → i < length ds → d ≡ get_or ds i d → drop i ds
    ≡ d ∷ drop (i + 1) ds
front i ds d lt e =
    let more : suc i ≡ i + 1 = omega arith in
    drop-cons ds i d lt ∙ ap (λ (y : DeclaratorTree). y ∷ drop (suc i) ds) (sym e) ∙ ap (λ (n : ℕ). d ∷ drop n ds) more

abbrev pub env_in : Env → Result Env Refusal
env_in G = Ok G

abbrev pub named_in : Named → Env → Result (Named × Env) Refusal
named_in ms G = Ok (ms, G)

module _ (c : CType) (i : ℕ) (ds : List DeclaratorTree) (d : DeclaratorTree) (lt : i < length ds)
    (is : d ≡ get_or ds i d) (G : Env) where
  module _ (all : Result Env Refusal) (h : types_declared G c (map declarator (drop i ds)) ≡ all) where
    first_type : types_declared G c (declarator d ∷ map declarator (drop (i + 1) ds)) ≡ all
    first_type = sym (ap (λ (es : List DeclaratorTree). types_declared G c (map declarator es)) (front i ds d lt is))
        ∙ h

    pub type_stops : (e : Halt) → Stops (type_declared G c (declarator d)) e → Stops all e
    unfolding types_declared
    type_stops halts.Memory k = tt
    type_stops (halts.Refused r) k = sym first_type ∙ rw k refl

    pub type_went : (H : Env) → type_declared G c (declarator d) ≡ Ok H
        → types_declared H c (map declarator (drop (i + 1) ds)) ≡ all
    unfolding types_declared
    type_went H k =
        sym (ap (λ (r : Result Env Refusal). r >>= (λ K. types_declared K c (map declarator (drop (i + 1) ds)))) k)
        ∙ first_type

pub all_types : (c : CType) (i : ℕ) (ds : List DeclaratorTree) (G : Env) (all : Result Env Refusal) → length ds ≤ i
    → types_declared G c (map declarator (drop i ds)) ≡ all → all ≡ env_in G
unfolding types_declared
all_types c i ds G all le h = sym h ∙ ap (λ (es : List DeclaratorTree). types_declared G c (map declarator es))
    (drop_all i ds le)

-- ---- what members declare, one after another

entry_front : (i : ℕ) (fs : List MemberFieldTree) (f : MemberFieldTree) → i < length fs → f ≡ get_or fs i f
    → drop i fs ≡ f ∷ drop (i + 1) fs
entry_front i fs f lt e =
    let more : suc i ≡ i + 1 = omega arith in
    drop-cons fs i f lt ∙ ap (λ (y : MemberFieldTree). y ∷ drop (suc i) fs) (sym e)
    ∙ ap (λ (n : ℕ). f ∷ drop n fs) more

module _ (c : CType) (us : List ℕ) (i : ℕ) (fs : List MemberFieldTree) (f : MemberFieldTree) (lt : i < length fs)
    (is : f ≡ get_or fs i f) (G : Env) (ms : Named) (all : Result (Named × Env) Refusal)
    (h : entries_declared G us ms c (map member_field (drop i fs)) ≡ all) where
  first_entry : entries_declared G us ms c (member_field f ∷ map member_field (drop (i + 1) fs)) ≡ all
  first_entry =
      sym (ap (λ (es : List MemberFieldTree). entries_declared G us ms c (map member_field es)) (entry_front i fs f lt is))
      ∙ h

  pub entry_stops : (e : Halt) → Stops (entry_declared G us ms c (member_field f)) e → Stops all e
  unfolding entries_declared
  entry_stops halts.Memory k = tt
  entry_stops (halts.Refused r) k = sym first_entry ∙ rw k refl

  pub entry_went : (ns : Named) (H : Env) → entry_declared G us ms c (member_field f) ≡ Ok (ns, H)
      → entries_declared H us ns c (map member_field (drop (i + 1) fs)) ≡ all
  unfolding entries_declared
  entry_went ns H k =
      sym (ap (λ (r : Result (Named × Env) Refusal). r >>= (λ p. entries_declared p.1 us p.0 c (map member_field (drop (i
      + 1) fs)))) k)
      ∙ first_entry

pub all_entries : (c : CType) (us : List ℕ) (i : ℕ) (fs : List MemberFieldTree) (G : Env) (ms : Named)
    (all : Result (Named × Env) Refusal) → length fs ≤ i
    → entries_declared G us ms c (map member_field (drop i fs)) ≡ all → all ≡ named_in ms G
unfolding entries_declared
all_entries c us i fs G ms all le h =
    sym h ∙ ap (λ (es : List MemberFieldTree). entries_declared G us ms c (map member_field es)) (drop_all i fs le)
